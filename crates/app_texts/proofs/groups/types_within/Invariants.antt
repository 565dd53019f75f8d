use Rattle.std.proofs.Common.{◌≡◌}
use Rattle.app_texts.specs.declared.config_key.ConfigKey.TheVariants.{Entities}
use Rattle.app_texts.specs.Groups.{type_reading, list_reading}
use Rattle.app_texts.proofs.Listed.{read_from}
use Rattle.app_texts.proofs.groups.types_within.Given as goal

abbrev pub invariant-loop-index : goal.invariant-loop-index
invariant-loop-index l = read_from type_reading l.types.items l.index l.value ≡ list_reading Entities type_reading l.value
