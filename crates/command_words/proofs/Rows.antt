-- What clap holds for the options given.
use Rattle.std.proofs.Common.{◌≡◌, Bool, true, false, ◌&&◌, ◌||◌, not, ◌++◌, List, [], ◌∷◌, map, None, Some, codes, append-nil, refl, ap, ◌∙◌}
use Rattle.std.specs.List.{list_all}
use Rattle.std.specs.Str.{bytes_eq}
use Rattle.clap.specs.Walk.{Row, Rule, at_row, has_row, first_of, one_of, more_values, with_values, used, without}
use Rattle.clap.specs.Takes.{is_given, use_passes}
use Rattle.clap.specs.Values.{reading_of}
use Rattle.clap.specs.declared.parser.matches.ValueSource.TheVariants.{CommandLine}
use Rattle.clap.specs.declared.builder.value_parser.ValueParser.TheVariants as vp
use Rattle.command_words.specs.Options.{Text, Options, Kind, Needed, Optional, Flag, Given, names_of, is_among, is_needed, has_needed}
use Rattle.command_words.specs.Given.{is_flag}
use Rattle.command_words.specs.Reading.{value_of}
use Rattle.command_words.proofs.Rules.{built_rule, built_rules}

-- the row of an option that is given once
abbrev pub row_for : Text × Text → Row
row_for g = record { id = g.0; values = g.1 ∷ []; count = None; source = Some CommandLine; reading = reading_of vp.String }

abbrev pub rows_for : Given → List Row
rows_for given = map row_for given

pub rows_for-push : (given : Given) (name value : Text) → rows_for (given ++ (name, value) ∷ []) ≡ rows_for given ++ row_for (name, value) ∷ []
rows_for-push [] name value = refl
rows_for-push (g ∷ given) name value = ap (λ rs. row_for g ∷ rs) (rows_for-push given name value)

pub has_row-rows_for : (given : Given) (name : Text) → has_row name (rows_for given) ≡ is_among (names_of given) name
has_row-rows_for [] name = refl
has_row-rows_for (g ∷ given) name = ap (λ b. bytes_eq g.0 name || b) (has_row-rows_for given name)

-- a row that isn't there is added at the end
pub at_row-absent : (id : Text) (change : Row → List Row) (missing rows : List Row) → has_row id rows ≡ false → at_row id change missing rows ≡ rows ++ missing
at_row-absent id change missing [] none = refl
at_row-absent id change missing (r ∷ rows) none = go (bytes_eq r.id id) refl (at_row-absent id change missing rows)
  where
    go : (b : Bool) → bytes_eq r.id id ≡ b → (has_row id rows ≡ false → at_row id change missing rows ≡ rows ++ missing) → at_row id change missing (r ∷ rows) ≡ r ∷ rows ++ missing
    go true e more = let bad : true ≡ false = rw e at none in cc
    go false e more = rw e (ap (λ rs. r ∷ rs) (more (rw e at none)))

-- a value for an option that has none yet
set_absent : (name value : Text) (rows : List Row) → has_row name rows ≡ false → with_values name (reading_of vp.String) CommandLine (value ∷ []) (without name rows) ≡ rows ++ row_for (name, value) ∷ []
set_absent name value rows none =
    let gone : without name rows ≡ rows = at_row-absent name (λ _. []) [] rows none ∙ append-nil rows in
    rw gone (at_row-absent name (more_values CommandLine (value ∷ [])) (row_for (name, value) ∷ []) rows none)

pub used-absent : (name : Text) (kind : Kind) (value : Text) (rows : List Row) → is_flag kind ≡ false → has_row name rows ≡ false
    → used (built_rule (name, kind)) (value ∷ []) rows ≡ rows ++ row_for (name, value) ∷ []
used-absent name Needed value rows valued none = set_absent name value rows none
used-absent name Optional value rows valued none = set_absent name value rows none
used-absent name Flag value rows valued none = cc

pub use_passes-absent : (name : Text) (kind : Kind) (value : Text) (rows : List Row) → is_flag kind ≡ false → has_row name rows ≡ false
    → use_passes false (built_rule (name, kind)) (value ∷ []) rows ≡ true
use_passes-absent name Needed value rows valued none = rw none refl
use_passes-absent name Optional value rows valued none = rw none refl
use_passes-absent name Flag value rows valued none = cc

pub used-flag : (name : Text) (rows : List Row) → has_row name rows ≡ false → used (built_rule (name, Flag)) [] rows ≡ rows ++ row_for (name, codes "true") ∷ []
used-flag name rows none = set_absent name (codes "true") rows none

pub use_passes-flag : (name : Text) (rows : List Row) → has_row name rows ≡ false → use_passes false (built_rule (name, Flag)) [] rows ≡ true
use_passes-flag name rows none = rw none refl

pub is_given-rows_for : (given : Given) (name : Text) → is_given name (rows_for given) ≡ is_among (names_of given) name
is_given-rows_for [] name = refl
is_given-rows_for (g ∷ given) name = go (bytes_eq g.0 name) refl (is_given-rows_for given name)
  where
    go : (b : Bool) → bytes_eq g.0 name ≡ b → is_given name (rows_for given) ≡ is_among (names_of given) name → is_given name (rows_for (g ∷ given)) ≡ is_among (names_of (g ∷ given)) name
    go true e more = rw e refl
    go false e more = rw e more

pub one_of-rows_for : (given : Given) (name : Text) → one_of name (rows_for given) ≡ value_of name given
one_of-rows_for [] name = refl
one_of-rows_for (g ∷ given) name = go (bytes_eq g.0 name) refl (one_of-rows_for given name)
  where
    go : (b : Bool) → bytes_eq g.0 name ≡ b → one_of name (rows_for given) ≡ value_of name given → one_of name (rows_for (g ∷ given)) ≡ value_of name (g ∷ given)
    go true e more = rw e refl
    go false e more = rw e more

pub first_of-rows_for : (given : Given) (name : Text) → first_of name (rows_for given) ≡ value_of name given
first_of-rows_for [] name = refl
first_of-rows_for (g ∷ given) name = go (bytes_eq g.0 name) refl (first_of-rows_for given name)
  where
    go : (b : Bool) → bytes_eq g.0 name ≡ b → first_of name (rows_for given) ≡ value_of name given → first_of name (rows_for (g ∷ given)) ≡ value_of name (g ∷ given)
    go true e more = rw e refl
    go false e more = rw e more

-- the needed options are those that clap requires
pub needed : (given : Given) (rows : List Row) → ((name : Text) → is_given name rows ≡ is_among (names_of given) name) → (options : Options)
    → list_all (λ (a : Rule). not a.required || is_given a.id rows) (built_rules options) ≡ has_needed options (names_of given)
needed given rows same [] = refl
needed given rows same (o ∷ options) = ap (λ b. (not (is_needed o.1) || b) && list_all (λ a. not a.required || is_given a.id rows) (built_rules options)) (same o.0)
    ∙ ap (λ b. (not (is_needed o.1) || is_among (names_of given) o.0) && b) (needed given rows same options)
