-- What a configuration is answered.
use Rattle.std.proofs.Common.{◌≡◌, ◌∙◌, refl, ap, sym, subst, ℕ, nat_le, Bool, true, false, if◌then◌else◌, List, [], length, Option, Some, None, Result, Ok, Err}
use Rattle.schedule_text.specs.Reading.{◌>>=◌}
use Rattle.json_text.specs.Reading.{reading, Reads, HasNoReading}
use Rattle.json_text.specs.Values.{JsonValue, is_object}
use Rattle.app_texts.specs.declared.config.AppConfig.{AppConfig}
use Rattle.app_texts.specs.declared.config_key.ConfigKey.{ConfigKey}
use Rattle.app_texts.specs.declared.config_error.ConfigError.{ConfigError}
use Rattle.app_texts.specs.declared.config_error.ConfigError.TheVariants.{NotJson, BadKey, TooManyTypes, OutOfMemory}
use Rattle.app_texts.specs.declared.config_error.KeyFault.{KeyFault}
use Rattle.app_texts.specs.declared.config_error.KeyFault.TheVariants.{Form, Memory}
use Rattle.app_texts.specs.TypeGroups.{TypeGroup}
use Rattle.app_texts.specs.Answers.{Fails, GivesConfig, Names}
use Rattle.app_texts.specs.Config.{named, hosting, first_ones, groups_reading, config_reading, ConfigOf}

-- the fault of a reading, under its key's name
pub named_fault : {A : Type 0} (r : Result A ConfigKey) (next : A → Result AppConfig ConfigError) (fault : KeyFault) (e : ConfigError) → Fails r fault → Names fault e → GivesConfig (named r >>= next) (Err e)
named_fault r next Memory OutOfMemory f n = tt
named_fault r next Memory NotJson f n = absurd n
named_fault r next Memory (BadKey name) f n = absurd n
named_fault r next Memory (TooManyTypes count) f n = absurd n
named_fault r next (Form key) OutOfMemory f n = tt
named_fault r next (Form key) NotJson f n = absurd (let no : ⊥ = cc in no)
named_fault r next (Form key) (BadKey name) f n = ap (λ x. named x >>= next) f ∙ ap (λ x. Err x) (sym n)
named_fault r next (Form key) (TooManyTypes count) f n = absurd (let no : ⊥ = cc in no)

-- what follows a whole reading is an answer of its own
hosts : (c : AppConfig) (n : ℕ) (few : Bool) → (if few then Ok c else Err (TooManyTypes n)) ≡ Err NotJson → ⊥
hosts c n true e = cc
hosts c n false e = cc

no_object : (whole : Bool) (r : Result (TypeGroup × List TypeGroup) ConfigKey) → (if whole then (named r >>= λ read. hosting read.0.treatment read.1 (first_ones [] read.0.types)) else Err NotJson) ≡ Err NotJson → whole ≡ false
no_object false r e = refl
no_object true (Ok read) e = absurd (hosts _ _ (nat_le (length (first_ones [] read.0.types)) 32) e)
no_object true (Err key) e = absurd (let no : ⊥ = cc in no)

none_is_object : (v : JsonValue) → config_reading v ≡ Err NotJson → is_object v ≡ false
unfolding config_reading
none_is_object v e = no_object (is_object v) (groups_reading v) e

one_value : (body : List ℕ) (v w : JsonValue) → Reads body v → Reads body w → v ≡ w
one_value body v w a b = let both : Some v ≡ Some w = sym a.1 ∙ b.1 in cc

pub answer_of : (body : List ℕ) (v : JsonValue) (answer : Result AppConfig ConfigError) → Reads body v → GivesConfig (config_reading v) answer → ConfigOf body answer
answer_of body v (Ok config) reads e = (v, reads, e)
answer_of body v (Err NotJson) reads e = λ w others. subst (λ (x : JsonValue). is_object x ≡ false) (one_value body v w reads others) (none_is_object v e)
answer_of body v (Err OutOfMemory) reads e = tt
answer_of body v (Err (BadKey name)) reads e = (v, reads, e)
answer_of body v (Err (TooManyTypes n)) reads e = (v, reads, e)

pub without_value : (body : List ℕ) → HasNoReading body → ConfigOf body (Err NotJson)
without_value body none = λ w reads. absurd (let no : ⊥ = (let nothing : reading body ≡ None = none reads.0 in let something : reading body ≡ Some w = reads.1 in cc) in no)
