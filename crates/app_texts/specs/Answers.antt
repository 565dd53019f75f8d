-- What a function has read, compared with what a reading gives. Memory may run out at any time. Own.
use Rattle.std.specs.Prelude.{◌≡◌, Result, Ok, Err}
use Rattle.app_texts.specs.declared.config.AppConfig.{AppConfig}
use Rattle.app_texts.specs.declared.config_key.ConfigKey.{ConfigKey}
use Rattle.app_texts.specs.declared.config_error.ConfigError.{ConfigError}
use Rattle.app_texts.specs.declared.config_error.ConfigError.TheVariants.{BadKey, OutOfMemory}
use Rattle.app_texts.specs.declared.config_error.KeyFault.{KeyFault}
use Rattle.app_texts.specs.declared.config_error.KeyFault.TheVariants.{Form, Memory}
use Rattle.app_texts.specs.Keys.{key_name}

abbrev pub Fails : {A : Type 0} → Result A ConfigKey → KeyFault → Type 0
Fails read Memory = Unit {0}
Fails read (Form key) = read ≡ Err key

abbrev pub Gives : {A B : Type 0} → (A → B) → Result B ConfigKey → Result A KeyFault → Type 0
Gives view read (Ok x) = read ≡ Ok (view x)
Gives view read (Err fault) = Fails read fault

-- the same of a whole configuration, whose faults name their key
abbrev pub GivesConfig : Result AppConfig ConfigError → Result AppConfig ConfigError → Type 0
GivesConfig read (Err OutOfMemory) = Unit {0}
GivesConfig read answer = read ≡ answer

-- the error of a fault
abbrev pub Names : KeyFault → ConfigError → Type 0
Names fault OutOfMemory = Unit {0}
Names Memory error = ⊥
Names (Form key) error = error ≡ BadKey (key_name key)
