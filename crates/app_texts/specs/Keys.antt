-- The keys of a configuration that have a meaning, after the actor runtime configuration of Dapr's documentation.
use Rattle.std.specs.Prelude.{ℕ, List, codes}
use Rattle.app_texts.specs.declared.config_key.ConfigKey.{ConfigKey}
use Rattle.app_texts.specs.declared.config_key.ConfigKey.TheVariants.{Entities, ActorIdleTimeout, DrainOngoingCallTimeout, DrainRebalancedActors, Reentrancy, Enabled, MaxStackDepth, EntitiesConfig}

-- a key as it stands in a configuration
abbrev pub key_name : ConfigKey → List ℕ
key_name Entities = codes "entities"
key_name ActorIdleTimeout = codes "actorIdleTimeout"
key_name DrainOngoingCallTimeout = codes "drainOngoingCallTimeout"
key_name DrainRebalancedActors = codes "drainRebalancedActors"
key_name Reentrancy = codes "reentrancy"
key_name Enabled = codes "enabled"
key_name MaxStackDepth = codes "maxStackDepth"
key_name EntitiesConfig = codes "entitiesConfig"
