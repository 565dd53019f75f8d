-- Words that have the form of options pass clap, and clap's matches are what the words give.
use Rattle.std.proofs.Common.{◌≡◌, Bool, true, false, ◌&&◌, List, [], Option, None, Some, is_some, refl, ap, ◌∙◌}
use Rattle.std.specs.Prelude.{if◌then◌else◌, option_and_then}
use Rattle.clap.specs.Walk.{Text, rows_after, rows_of, first_of, one_of}
use Rattle.clap.specs.Simple.{App, built, names_of as sub_names, matches_of, HasMatchesOf}
use Rattle.clap.specs.Matches.{found_of}
use Rattle.clap.specs.declared.parser.matches.ArgMatches.{ArgMatches}
use Rattle.clap.proofs.WalkLemmas.{first_value-rows, one_text-rows}
use Rattle.command_words.specs.Given.{HoldsGiven}
use Rattle.clap.specs.Takes.{takes, built_takes}
use Rattle.command_words.specs.Options.{Options, Given, read_from, names_of, has_needed, complete, options_given}
use Rattle.command_words.specs.Commands.{option_app}
use Rattle.command_words.proofs.Walks.{between, held}
use Rattle.command_words.proofs.Rules.{built-option_app, simple, defaults_pass, all_free}
use Rattle.command_words.proofs.Rows.{rows_for, needed}
use Rattle.command_words.proofs.Defaults.{ended, first_of-ended, is_given-ended, one_of-ended}
use Rattle.command_words.proofs.Steps.{walks}

pub passes : (command : Text) (options : Options) (words : List Text) (given : Given) → read_from options [] None words ≡ Some given → has_needed options (names_of given) ≡ true
    → takes (option_app command options) words ≡ true
passes command options words given reads has =
    let walk = walks command options words [] None (between [] None) given ([], None, refl, refl, refl) reads in
    let stand = walk.1 in
    ap (λ b. b && built_takes (built (option_app command options)) (held [] None) words) (simple command options)
    ∙ ap (λ (a : App). built_takes a (held [] None) words) (built-option_app command options)
    ∙ rw (stand.2, walk.0, stand.3, stand.4, defaults_pass options, all_free options, needed given (ended options (rows_for given)) (is_given-ended options given) options, has) refl

pub matches : (command : Text) (options : Options) (words : List Text) (given : Given) → read_from options [] None words ≡ Some given
    → matches_of (option_app command options) words ≡ ended options (rows_for given)
matches command options words given reads =
    let walk = walks command options words [] None (between [] None) given ([], None, refl, refl, refl) reads in
    let stand = walk.1 in
    ap (λ (a : App). rows_after a.top.rules (sub_names a) words) (built-option_app command options)
    ∙ rw (stand.2, stand.3) refl

-- words of the form, by what they give
record Reads (options : Options) (words : List Text) : Type 0 where
  pub given : Given
  pub reads : read_from options [] None words ≡ Some given
  pub has : has_needed options (names_of given) ≡ true
  pub whole : options_given options words ≡ Some given

reads_of : (options : Options) (words : List Text) → is_some (options_given options words) ≡ true → Reads options words
reads_of options words is = go (read_from options [] None words) refl is
  where
    ends : (given : Given) → read_from options [] None words ≡ Some given → (b : Bool) → has_needed options (names_of given) ≡ b → is_some (if b then Some given else None) ≡ true → Reads options words
    ends given e false h is = cc
    ends given e true h is = record { given = given; reads = e; has = h; whole = rw (e, h) refl }

    go : (o : Option Given) → read_from options [] None words ≡ o → is_some (option_and_then (complete options) o) ≡ true → Reads options words
    go None e is = cc
    go (Some given) e is = ends given e (has_needed options (names_of given)) refl is

-- clap takes words of the form
pub form_passes : (command : Text) (options : Options) (words : List Text) → is_some (options_given options words) ≡ true → takes (option_app command options) words ≡ true
form_passes command options words is = let r = reads_of options words is in passes command options words r.given r.reads r.has

-- and its matches hold what they give
pub form_holds : (command : Text) (options : Options) (words : List Text) (m : ArgMatches) → is_some (options_given options words) ≡ true
    → HasMatchesOf (option_app command options) words m → HoldsGiven options words m
form_holds command options words m is has =
    let r = reads_of options words is in
    let rows : rows_of (found_of m) ≡ ended options (rows_for r.given) = (has (simple command options)).0 ∙ matches command options words r.given r.reads in (
      r.given,
      r.whole,
      (
        λ name. first_value-rows (found_of m) name ∙ ap (first_of name) rows ∙ first_of-ended options r.given name,
        λ name flag. one_text-rows (found_of m) name ∙ ap (one_of name) rows ∙ one_of-ended options words r.given name r.reads flag,
      ),
    )
