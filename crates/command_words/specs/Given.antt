-- What clap's matches hold of the words.
use Rattle.std.specs.Prelude.{◌≡◌, ◌&&◌, Bool, true, false, not, if◌then◌else◌, List, codes, Option, Some}
use Rattle.clap.specs.Values.{bool_text}
use Rattle.std.specs.List.{list_any}
use Rattle.std.specs.Str.{bytes_eq}
use Rattle.clap.specs.Matches.{found_of, first_value, one_text}
use Rattle.clap.specs.declared.parser.matches.ArgMatches.{ArgMatches}
use Rattle.command_words.specs.Options.{Text, Options, Kind, Needed, Optional, Flag, Given, names_of, kind_of, is_among, options_given}
use Rattle.command_words.specs.Reading.{value_of}

abbrev pub is_flag : Kind → Bool
is_flag Needed = false
is_flag Optional = false
is_flag Flag = true

abbrev pub has_flag : Options → Text → Bool
has_flag options name = list_any (λ o. is_flag o.1 && bytes_eq o.0 name) options

-- clap holds `false` for a flag that isn't given
abbrev pub held_value : Options → Given → Text → Option Text
held_value options given name = if has_flag options name && not (is_among (names_of given) name) then Some (codes "false") else value_of name given

-- the matches have the values of these options, and a flag reads as whether it is given
abbrev pub Holds : Options → Given → ArgMatches → Type 0
Holds options given m =
    ((name : Text) → first_value (found_of m) name ≡ held_value options given name)
    × ((name : Text) → kind_of options name ≡ Some Flag → one_text (found_of m) name ≡ Some (bool_text (is_among (names_of given) name)))

-- the words give options, and the matches have their values
abbrev pub HoldsGiven : Options → List Text → ArgMatches → Type 0
HoldsGiven options words m = (given : Given) × (options_given options words ≡ Some given) × Holds options given m
