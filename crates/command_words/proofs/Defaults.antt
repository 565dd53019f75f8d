-- What clap holds at the end: the options given, and `false` for each flag that isn't given.
use Rattle.std.proofs.Common.{◌≡◌, Bool, true, false, ◌&&◌, ◌||◌, not, ◌++◌, List, [], ◌∷◌, Option, None, Some, codes, refl, ap, sym, subst, ◌∙◌}
use Rattle.std.specs.Prelude.{find, fold, if◌then◌else◌, option_and_then, slice_get}
use Rattle.std.specs.Option.{option_or, option_map_or}
use Rattle.std.specs.Str.{bytes_eq}
use Rattle.std.proofs.lemmas.List.Folds.{find-append, list_any-append}
use Rattle.std.proofs.lemmas.Slice.Eq.{bytes_eq-Decides}
use Rattle.clap.specs.Facts.{explicit_source}
use Rattle.clap.specs.Walk.{Row, has_row, first_of, one_of, row_text, more_values, with_default}
use Rattle.clap.specs.Takes.{is_given}
use Rattle.clap.specs.Values.{reading_of, bool_text}
use Rattle.clap.specs.declared.parser.matches.ValueSource.TheVariants.{DefaultValue}
use Rattle.clap.specs.declared.builder.value_parser.ValueParser.TheVariants as vp
use Rattle.command_words.specs.Options.{Text, Options, Kind, Needed, Optional, Flag, Given, names_of, kind_of, is_among, read_from}
use Rattle.command_words.specs.Given.{is_flag, has_flag, held_value}
use Rattle.command_words.specs.Reading.{value_of}
use Rattle.command_words.proofs.Rules.{built_rule, built_rules, some_same}
use Rattle.command_words.proofs.Flags.{flags_true, value_of-flag}
use Rattle.command_words.proofs.Rows.{rows_for, at_row-absent, has_row-rows_for, is_given-rows_for, first_of-rows_for, one_of-rows_for}

-- the row of a flag that isn't given
abbrev default_row : Text → Row
default_row name = record { id = name; values = codes "false" ∷ []; count = None; source = Some DefaultValue; reading = reading_of vp.Bool }

abbrev find_row : Text → List Row → Option Row
find_row name rows = find (λ r. bytes_eq r.id name) rows

abbrev pub ended : Options → List Row → List Row
ended options rows = fold with_default rows (built_rules options)

abbrev ended_row : Options → Text → List Row → Option Row
ended_row options name rows = if has_flag options name && not (has_row name rows) then Some (default_row name) else find_row name rows

find_row-absent : (name : Text) (rows : List Row) → has_row name rows ≡ false → find_row name rows ≡ None
find_row-absent name [] none = refl
find_row-absent name (r ∷ rows) none = go (bytes_eq r.id name) refl (find_row-absent name rows)
  where
    go : (b : Bool) → bytes_eq r.id name ≡ b → (has_row name rows ≡ false → find_row name rows ≡ None) → find_row name (r ∷ rows) ≡ None
    go true e more = let bad : true ≡ false = rw e at none in cc
    go false e more = rw e (more (rw e at none))

or-false : (b : Bool) → (b || false) ≡ b
or-false true = refl
or-false false = refl

option_or-None : {A : Type 0} (o : Option A) → option_or o None ≡ o
option_or-None None = refl
option_or-None (Some x) = refl

default_valued : (name : Text) (kind : Kind) (rows : List Row) → is_flag kind ≡ false → with_default rows (built_rule (name, kind)) ≡ rows
default_valued name kind rows valued = go kind valued (has_row name rows) refl
  where
    go : (k : Kind) → is_flag k ≡ false → (b : Bool) → has_row name rows ≡ b → with_default rows (built_rule (name, k)) ≡ rows
    go Needed v true e = rw e refl
    go Needed v false e = rw e refl
    go Optional v true e = rw e refl
    go Optional v false e = rw e refl
    go Flag v b e = cc

default_present : (name : Text) (rows : List Row) → has_row name rows ≡ true → with_default rows (built_rule (name, Flag)) ≡ rows
default_present name rows has = rw has refl

default_absent : (name : Text) (rows : List Row) → has_row name rows ≡ false → with_default rows (built_rule (name, Flag)) ≡ rows ++ default_row name ∷ []
default_absent name rows none = rw none (at_row-absent name (more_values DefaultValue (codes "false" ∷ [])) (default_row name ∷ []) rows none)

-- a flag of this very name that isn't given
step_same : (options : Options) (name : Text) (rows : List Row) → has_row name rows ≡ false → ended_row options name (rows ++ default_row name ∷ []) ≡ Some (default_row name)
step_same options name rows none =
    let self : bytes_eq name name ≡ true = (bytes_eq-Decides name name).1 refl in
    let has : has_row name (rows ++ default_row name ∷ []) ≡ true = list_any-append (λ r. bytes_eq r.id name) rows (default_row name ∷ []) ∙ rw (none, self) refl in
    let finds : find_row name (rows ++ default_row name ∷ []) ≡ Some (default_row name) =
    find-append (λ r. bytes_eq r.id name) rows (default_row name ∷ []) ∙ rw (find_row-absent name rows none, self) refl in
    rw (has, finds) (go (has_flag options name))
  where
    go : (b : Bool) → (if b && false then Some (default_row name) else Some (default_row name)) ≡ Some (default_row name)
    go true = refl
    go false = refl

-- a flag of another name that isn't given
step_other : (options : Options) (id name : Text) (rows : List Row) → bytes_eq id name ≡ false → ended_row options name (rows ++ default_row id ∷ []) ≡ ended_row options name rows
step_other options id name rows other =
    let has : has_row name (rows ++ default_row id ∷ []) ≡ has_row name rows = list_any-append (λ r. bytes_eq r.id name) rows (default_row id ∷ []) ∙ rw other (or-false (has_row name rows)) in
    let finds : find_row name (rows ++ default_row id ∷ []) ≡ find_row name rows =
    find-append (λ r. bytes_eq r.id name) rows (default_row id ∷ []) ∙ rw other (option_or-None (find_row name rows)) in
    rw (has, finds) refl

step_flag : (options : Options) (id name : Text) (rows : List Row) → ended_row options name (with_default rows (built_rule (id, Flag))) ≡ ended_row ((id, Flag) ∷ options) name rows
step_flag options id name rows = go (has_row id rows) refl (bytes_eq id name) refl
  where
    go : (h : Bool) → has_row id rows ≡ h → (b : Bool) → bytes_eq id name ≡ b → ended_row options name (with_default rows (built_rule (id, Flag))) ≡ ended_row ((id, Flag) ∷ options) name rows
    go true has true e =
        let same : id ≡ name = (bytes_eq-Decides id name).0 e in
        let here : has_row name rows ≡ true = subst (λ n. has_row n rows ≡ true) same has in
        rw (default_present id rows has, e, here) (any (has_flag options name))
      where
        any : (b : Bool) → (if b && false then Some (default_row name) else find_row name rows) ≡ find_row name rows
        any true = refl
        any false = refl
    go true has false e = rw (default_present id rows has, e) refl
    go false none true e =
        let same : id ≡ name = (bytes_eq-Decides id name).0 e in
        let here : has_row name rows ≡ false = subst (λ n. has_row n rows ≡ false) same none in
        ap (ended_row options name) (default_absent id rows none ∙ ap (λ n. rows ++ default_row n ∷ []) same)
        ∙ step_same options name rows here ∙ sym (rw (e, here) refl)
    go false none false e = ap (ended_row options name) (default_absent id rows none) ∙ step_other options id name rows e ∙ sym (rw e refl)

step : (options : Options) (id : Text) (kind : Kind) (name : Text) (rows : List Row) → ended_row options name (with_default rows (built_rule (id, kind))) ≡ ended_row ((id, kind) ∷ options) name rows
step options id Needed name rows = ap (ended_row options name) (default_valued id Needed rows refl)
step options id Optional name rows = ap (ended_row options name) (default_valued id Optional rows refl)
step options id Flag name rows = step_flag options id name rows

find_row-ended : (options : Options) (name : Text) (rows : List Row) → find_row name (ended options rows) ≡ ended_row options name rows
find_row-ended [] name rows = refl
find_row-ended (o ∷ options) name rows = find_row-ended options name (with_default rows (built_rule o)) ∙ step options o.0 o.1 name rows

pub first_of-ended : (options : Options) (given : Given) (name : Text) → first_of name (ended options (rows_for given)) ≡ held_value options given name
first_of-ended options given name =
    ap (option_and_then (λ (r : Row). slice_get r.values 0)) (find_row-ended options name (rows_for given))
    ∙ rw (has_row-rows_for given name) (go (has_flag options name && not (is_among (names_of given) name)))
  where
    go : (b : Bool) → option_and_then (λ (r : Row). slice_get r.values 0) (if b then Some (default_row name) else find_row name (rows_for given))
        ≡ (if b then Some (codes "false") else value_of name given)
    go true = refl
    go false = first_of-rows_for given name

abbrev is_explicit : Option Row → Bool
is_explicit o = option_map_or (λ (r : Row). explicit_source r.source) o false

pub is_given-ended : (options : Options) (given : Given) (name : Text) → is_given name (ended options (rows_for given)) ≡ is_among (names_of given) name
is_given-ended options given name =
    ap is_explicit (find_row-ended options name (rows_for given)) ∙ rw (has_row-rows_for given name) (go (has_flag options name) (is_among (names_of given) name) refl)
  where
    go : (f a : Bool) → is_among (names_of given) name ≡ a → is_explicit (if f && not a then Some (default_row name) else find_row name (rows_for given)) ≡ a
    go true true e = is_given-rows_for given name ∙ e
    go true false e = refl
    go false a e = is_given-rows_for given name ∙ e

has_flag-kind : (options : Options) (name : Text) → kind_of options name ≡ Some Flag → has_flag options name ≡ true
has_flag-kind [] name flag = cc
has_flag-kind (o ∷ options) name flag = go (bytes_eq o.0 name) refl o.1 refl (has_flag-kind options name)
  where
    go : (b : Bool) → bytes_eq o.0 name ≡ b → (k : Kind) → o.1 ≡ k → (kind_of options name ≡ Some Flag → has_flag options name ≡ true) → has_flag (o ∷ options) name ≡ true
    go true e k kind more =
        let is : Some o.1 ≡ Some Flag = rw e at flag in
        rw (some_same is, e) refl
    go false e Needed kind more = rw kind (more (rw e at flag))
    go false e Optional kind more = rw kind (more (rw e at flag))
    go false e Flag kind more = rw (kind, e) (more (rw e at flag))

-- a flag reads as whether it is given
pub one_of-ended : (options : Options) (words : List Text) (given : Given) (name : Text) → read_from options [] None words ≡ Some given → kind_of options name ≡ Some Flag
    → one_of name (ended options (rows_for given)) ≡ Some (bool_text (is_among (names_of given) name))
one_of-ended options words given name reads flag =
    ap (option_and_then row_text) (find_row-ended options name (rows_for given))
    ∙ rw (has_row-rows_for given name, has_flag-kind options name flag) (go (is_among (names_of given) name) refl)
  where
    go : (a : Bool) → is_among (names_of given) name ≡ a → option_and_then row_text (if true && not a then Some (default_row name) else find_row name (rows_for given)) ≡ Some (bool_text a)
    go true e = one_of-rows_for given name ∙ value_of-flag options given name (flags_true options words [] None given tt tt reads) flag e
    go false e = refl
