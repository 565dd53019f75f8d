-- What clap builds from a command with options.
use Rattle.std.proofs.Common.{◌≡◌, ℕ, ◌+◌, ◌<◌, length, take, get_or, Bool, true, false, ◌&&◌, not, ◌++◌, List, [], ◌∷◌, map, Some, is_some, refl, ap, ap₂, sym, ◌∙◌}
use Rattle.std.specs.Prelude.{count_by, unwrap_or}
use Rattle.std.specs.List.{list_all, list_any}
use Rattle.std.specs.Str.{bytes_eq}
use Rattle.std.proofs.lemmas.Slice.Eq.{bytes_eq-Decides}
use Rattle.clap.specs.Walk.{Rule, arg_by_long, arg_by_id, takes_values, most_values, is_early_multiple}
use Rattle.std.proofs.lemmas.List.{take_more}
use Rattle.clap.specs.Simple.{App, with_rule, Shape, new_shape, built, filled_from, is_simple, is_buildable, is_ready, is_ready_leaf, is_in_order, default_of, missing_of, values_of, parser_for}
use Rattle.clap.specs.Takes.{default_passes}
use Rattle.command_words.specs.Options.{Text, Options, Kind, Needed, Optional, Flag, kind_of}
use Rattle.command_words.specs.Commands.{action_for, option_rule, option_app}
use Rattle.command_words.specs.Given.{is_flag}
use Rattle.command_words.proofs.Forms.{map-push}

-- an option with what clap fills in
abbrev pub built_rule : Text × Kind → Rule
built_rule o = record (option_rule o) {
  range = Some (record { start_inclusive = values_of (action_for o.1); end_inclusive = values_of (action_for o.1) });
  defaults = default_of (action_for o.1);
  missing = missing_of (action_for o.1);
  parser = Some (parser_for (action_for o.1));
}

abbrev pub built_rules : Options → List Rule
built_rules options = map built_rule options

abbrev pub built_shape : Text → Options → Shape
built_shape name options = record (new_shape name) {
  rules = built_rules options;
  no_binary_name = true;
  disable_help_flag = true;
  disable_help_subcommand = true;
  is_built = true;
}

abbrev pub built_app : Text → Options → App
built_app name options = record { top = built_shape name options; subs = [] }

filled-rules : (i : ℕ) (options : Options) → filled_from i (map option_rule options) ≡ built_rules options
filled-rules i [] = refl
filled-rules i (o ∷ options) = ap (λ rs. built_rule o ∷ rs) (filled-rules i options)

pub built-option_app : (name : Text) (options : Options) → built (option_app name options) ≡ built_app name options
built-option_app name options = ap (λ rs. record { top = record (built_shape name options) { rules = rs }; subs = [] }) (filled-rules 1 options)

pub all-map : {A B : Type 0} (f : A → B) (p : B → Bool) → ((x : A) → p (f x) ≡ true) → (xs : List A) → list_all p (map f xs) ≡ true
all-map f p h [] = refl
all-map f p h (x ∷ xs) = rw (h x) (all-map f p h xs)

none-map : {A B : Type 0} (f : A → B) (p : B → Bool) → ((x : A) → p (f x) ≡ false) → (xs : List A) → list_any p (map f xs) ≡ false
none-map f p h [] = refl
none-map f p h (x ∷ xs) = rw (h x) (none-map f p h xs)

in_order : (options : Options) → is_in_order (built_rules options) ≡ true
in_order options = ap not (none-map built_rule (is_early_multiple (count_by (λ a. is_some a.index) (built_rules options))) (λ o. refl) options)

pub simple : (name : Text) (options : Options) → is_simple (option_app name options) ≡ true
simple name options =
    ap (λ (b : App). is_buildable (option_app name options) && (is_ready b.top && list_all is_ready_leaf b.subs)) (built-option_app name options)
    ∙ rw (all-map option_rule (λ a. a.is_simple) (λ o. refl) options, all-map built_rule (λ a. a.is_simple) (λ o. refl) options, in_order options) refl

default_passes-kind : (name : Text) (kind : Kind) → default_passes (built_rule (name, kind)) ≡ true
default_passes-kind name Needed = refl
default_passes-kind name Optional = refl
default_passes-kind name Flag = refl

pub defaults_pass : (options : Options) → list_all default_passes (built_rules options) ≡ true
defaults_pass options = all-map built_rule default_passes (λ o. default_passes-kind o.0 o.1) options

pub all_free : (options : Options) → list_all (λ (a : Rule). a.is_free) (built_rules options) ≡ true
all_free options = all-map built_rule (λ a. a.is_free) (λ o. refl) options

pub valued_takes : (name : Text) (kind : Kind) → is_flag kind ≡ false → takes_values (built_rule (name, kind)) ≡ true
valued_takes name Needed valued = refl
valued_takes name Optional valued = refl
valued_takes name Flag valued = cc

pub valued_most : (name : Text) (kind : Kind) → is_flag kind ≡ false → most_values (built_rule (name, kind)) ≡ 1
valued_most name Needed valued = refl
valued_most name Optional valued = refl
valued_most name Flag valued = cc

pub some_same : {A : Type 0} {x y : A} → Some x ≡ Some y → x ≡ y
some_same {x = x} e = ap (λ o. unwrap_or o x) e

-- a known option is found by its name, which is its id
pub record Found (options : Options) (name : Text) (kind : Kind) : Type 0 where
  pub by_long : arg_by_long (built_rules options) name ≡ Some (built_rule (name, kind))
  pub by_id : arg_by_id (built_rules options) name ≡ Some (built_rule (name, kind))

pub kind_of-Found : (options : Options) (name : Text) (kind : Kind) → kind_of options name ≡ Some kind → Found options name kind
kind_of-Found [] name kind known = cc
kind_of-Found (o ∷ options) name kind known = go (bytes_eq o.0 name) refl (kind_of-Found options name kind)
  where
    go : (b : Bool) → bytes_eq o.0 name ≡ b → (kind_of options name ≡ Some kind → Found options name kind) → Found (o ∷ options) name kind
    go true e more =
        let same : o.0 ≡ name = (bytes_eq-Decides o.0 name).0 e in
        let is : Some o.1 ≡ Some kind = rw e at known in
        let here : Some (built_rule (o.0, o.1)) ≡ Some (built_rule (name, kind)) = ap₂ (λ n k. Some (built_rule (n, k))) same (some_same is) in
        record { by_long = rw e here; by_id = rw e here }
    go false e more =
        let rest = more (rw e at known) in
        record { by_long = rw e rest.by_long; by_id = rw e rest.by_id }

-- one more option
pub option_app-more : {A : Type 0} (name : Text) (f : A → Text × Kind) (xs : List A) (i : ℕ) (d : A) → i < length xs
    → with_rule (option_app name (map f (take i xs))) (option_rule (f (get_or xs i d))) ≡ option_app name (map f (take (i + 1) xs))
option_app-more name f xs i d lt =
    let longer : map option_rule (map f (take (i + 1) xs)) ≡ map option_rule (map f (take i xs)) ++ option_rule (f (get_or xs i d)) ∷ [] =
    rw (take_more xs i d lt, map-push, map-push) refl in
    ap (λ rs. record { top = record (option_app name []).top { rules = rs }; subs = [] }) (sym longer)
