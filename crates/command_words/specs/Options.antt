-- The options after a command's name: `--NAME VALUE` or `--NAME=VALUE`, or `--NAME` for a flag, in any order, each at
-- most once. Own; the spelling is that of GNU's long options.
use Rattle.std.specs.Prelude.{ℕ, ◌==◌, ◌||◌, ◌++◌, Bool, true, false, not, if◌then◌else◌, List, [], ◌∷◌, map, codes, find, Option, None, Some, option_map, option_and_then}
use Rattle.std.specs.List.{list_all, list_any, before_first, after_first}
use Rattle.std.specs.Str.{bytes_eq}

abbrev pub Text : Type 0
Text = List ℕ

-- an option has a value, and the command needs it or not; or it is a flag, which has none and isn't needed
pub data Kind : Type 0 where
  Needed : Kind
  Optional : Kind
  Flag : Kind

abbrev pub is_needed : Kind → Bool
is_needed Needed = true
is_needed Optional = false
is_needed Flag = false

-- the options of a command, by name and kind
abbrev pub Options : Type 0
Options = List (Text × Kind)

-- the options that words give, by name and value; the value of a flag is `true`
abbrev pub Given : Type 0
Given = List (Text × Text)

-- what follows a first byte
abbrev pub behind : ℕ → Text → Option Text
behind byte [] = None
behind byte (b ∷ bs) = if b == byte then Some bs else None

-- the name up to the first `=`, and the value after it, if there is one
abbrev pub name_and_value : Text → Text × Option Text
name_and_value text = (
  before_first (λ b. b == 61) text,
  if list_any (λ b. b == 61) text then Some (after_first (λ b. b == 61) text) else None,
)

-- `--` alone names nothing
abbrev pub named_by : Text → Option (Text × Option Text)
named_by [] = None
named_by (b ∷ bs) = Some (name_and_value (b ∷ bs))

-- what a word of two hyphens names, and the value in it
abbrev pub option_word : Text → Option (Text × Option Text)
option_word word = option_and_then named_by (option_and_then (behind 45) (behind 45 word))

-- the first byte is a hyphen
abbrev pub begins_with_hyphen : Text → Bool
begins_with_hyphen [] = false
begins_with_hyphen (b ∷ bs) = b == 45

-- the kind of the option of this name
abbrev pub kind_of : Options → Text → Option Kind
kind_of options name = option_map (λ o. o.1) (find (λ o. bytes_eq o.0 name) options)

abbrev pub is_among : List Text → Text → Bool
is_among names name = list_any (λ n. bytes_eq n name) names

-- what one word is: a word that isn't allowed there, an option whose value is the next word, or an option's value
pub data Meaning : Type 0 where
  Refused : Meaning
  Names : Text → Meaning
  Gives : Text → Text → Meaning

abbrev pub value_or_next : Text → Option Text → Meaning
value_or_next name None = Names name
value_or_next name (Some value) = Gives name value

abbrev pub flag_alone : Text → Option Text → Meaning
flag_alone name None = Gives name (codes "true")
flag_alone name (Some value) = Refused

-- a name with perhaps a value, if it is that of an option of this kind
abbrev pub kind_meaning : Text → Option Text → Option Kind → Meaning
kind_meaning name value None = Refused
kind_meaning name value (Some Needed) = value_or_next name value
kind_meaning name value (Some Optional) = value_or_next name value
kind_meaning name value (Some Flag) = flag_alone name value

-- an option of the command that wasn't given before
abbrev pub option_meaning : Options → List Text → Option (Text × Option Text) → Meaning
option_meaning options names None = Refused
option_meaning options names (Some p) = if is_among names p.0 then Refused else kind_meaning p.0 p.1 (kind_of options p.0)

-- a word after the options of these names, one of which may still need its value
abbrev pub meaning_of : Options → List Text → Option Text → Text → Meaning
meaning_of options names None word = option_meaning options names (option_word word)
meaning_of options names (Some name) word = if begins_with_hyphen word then Refused else Gives name word

abbrev pub names_of : Given → List Text
names_of given = map (λ g. g.0) given

-- what the words give, after what was given before them; the last option has its value
unfoldable pub read_from : Options → Given → Option Text → List Text → Option Given
read_from options given None [] = Some given
read_from options given (Some name) [] = None
read_from options given awaited (word ∷ rest) =
    elim (meaning_of options (names_of given) awaited word) [
      | Refused ↦ None
      | Names name ↦ read_from options given (Some name) rest
      | Gives name value ↦ read_from options (given ++ (name, value) ∷ []) None rest
    ]

-- each option that the command needs is given
abbrev pub has_needed : Options → List Text → Bool
has_needed options names = list_all (λ o. not (is_needed o.1) || is_among names o.0) options

abbrev pub complete : Options → Given → Option Given
complete options given = if has_needed options (names_of given) then Some given else None

-- what the words give, if all of them are options of the command and those that it needs are there
abbrev pub options_given : Options → List Text → Option Given
options_given options words = option_and_then (complete options) (read_from options [] None words)
