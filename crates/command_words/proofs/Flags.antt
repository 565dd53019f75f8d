-- The value of a flag that is given is `true`.
use Rattle.std.proofs.Common.{◌≡◌, Bool, true, false, ◌++◌, List, [], ◌∷◌, Option, None, Some, codes, refl, ap, sym, subst, ◌∙◌}
use Rattle.std.specs.Prelude.{if◌then◌else◌}
use Rattle.std.specs.Str.{bytes_eq}
use Rattle.std.proofs.lemmas.Slice.Eq.{bytes_eq-Decides}
use Rattle.command_words.specs.Options.{Text, Options, Kind, Needed, Optional, Flag, Given, Meaning, Refused, Names, Gives, names_of, kind_of, is_among, option_word, begins_with_hyphen, value_or_next, flag_alone, kind_meaning, option_meaning, meaning_of, read_from}
use Rattle.command_words.specs.Reading.{value_of}
use Rattle.command_words.proofs.Forms.{after, read_from-word}
use Rattle.command_words.proofs.Rules.{some_same}

-- a flag of this name has this value
abbrev IsTrueFlag : Options → Text → Text → Type 0
IsTrueFlag options name value = kind_of options name ≡ Some Flag → value ≡ codes "true"

abbrev FlagsTrue : Options → Given → Type 0
FlagsTrue options [] = Unit {0}
FlagsTrue options (g ∷ given) = IsTrueFlag options g.0 g.1 × FlagsTrue options given

-- what waits for a value is no flag
abbrev IsNoFlag : Options → Option Text → Type 0
IsNoFlag options None = Unit {0}
IsNoFlag options (Some name) = kind_of options name ≡ Some Flag → ⊥

abbrev Keeps : Options → Meaning → Type 0
Keeps options Refused = Unit {0}
Keeps options (Names name) = IsNoFlag options (Some name)
Keeps options (Gives name value) = IsTrueFlag options name value

push : (options : Options) (given : Given) (name value : Text) → FlagsTrue options given → IsTrueFlag options name value → FlagsTrue options (given ++ (name, value) ∷ [])
push options [] name value all new = (new, tt)
push options (g ∷ given) name value all new = (all.0, push options given name value all.1 new)

valued_keeps : (options : Options) (name : Text) (value : Option Text) → (kind_of options name ≡ Some Flag → ⊥) → Keeps options (value_or_next name value)
valued_keeps options name None plain = plain
valued_keeps options name (Some value) plain = λ is. absurd (plain is)

flag_keeps : (options : Options) (name : Text) (value : Option Text) → Keeps options (flag_alone name value)
flag_keeps options name None = λ is. refl
flag_keeps options name (Some value) = tt

kind_keeps : (options : Options) (name : Text) (value : Option Text) (k : Option Kind) → kind_of options name ≡ k → Keeps options (kind_meaning name value k)
kind_keeps options name value None e = tt
kind_keeps options name value (Some Needed) e = valued_keeps options name value (λ is. let bad : Some Needed ≡ Some Flag = sym e ∙ is in cc)
kind_keeps options name value (Some Optional) e = valued_keeps options name value (λ is. let bad : Some Optional ≡ Some Flag = sym e ∙ is in cc)
kind_keeps options name value (Some Flag) e = flag_keeps options name value

option_keeps : (options : Options) (names : List Text) (o : Option (Text × Option Text)) → Keeps options (option_meaning options names o)
option_keeps options names None = tt
option_keeps options names (Some n) = go (is_among names n.0)
  where
    go : (b : Bool) → Keeps options (if b then Refused else kind_meaning n.0 n.1 (kind_of options n.0))
    go true = tt
    go false = kind_keeps options n.0 n.1 (kind_of options n.0) refl

meaning_keeps : (options : Options) (names : List Text) (awaited : Option Text) (word : Text) → IsNoFlag options awaited → Keeps options (meaning_of options names awaited word)
meaning_keeps options names None word plain = option_keeps options names (option_word word)
meaning_keeps options names (Some name) word plain = go (begins_with_hyphen word)
  where
    go : (b : Bool) → Keeps options (if b then Refused else Gives name word)
    go true = tt
    go false = λ is. absurd (plain is)

pub flags_true : (options : Options) (rest : List Text) (given : Given) (awaited : Option Text) (final : Given)
    → FlagsTrue options given → IsNoFlag options awaited → read_from options given awaited rest ≡ Some final → FlagsTrue options final
unfolding read_from
flags_true options [] given None final all plain reads = subst (FlagsTrue options) (some_same reads) all
flags_true options [] given (Some name) final all plain reads = cc
flags_true options (word ∷ rest) given awaited final all plain reads =
    go (meaning_of options (names_of given) awaited word) (meaning_keeps options (names_of given) awaited word plain) (sym (read_from-word options given awaited word rest) ∙ reads)
    (λ next awaits. flags_true options rest next awaits final)
  where
    go : (m : Meaning) → Keeps options m → after options given rest m ≡ Some final
        → ((next : Given) (awaits : Option Text) → FlagsTrue options next → IsNoFlag options awaits → read_from options next awaits rest ≡ Some final → FlagsTrue options final)
        → FlagsTrue options final
    go Refused keeps is more = cc
    go (Names name) keeps is more = more given (Some name) all keeps is
    go (Gives name value) keeps is more = more (given ++ (name, value) ∷ []) None (push options given name value all keeps) tt is

pub value_of-flag : (options : Options) (given : Given) (name : Text) → FlagsTrue options given → kind_of options name ≡ Some Flag → is_among (names_of given) name ≡ true → value_of name given ≡ Some (codes "true")
value_of-flag options [] name all flag among = cc
value_of-flag options (g ∷ given) name all flag among = go (bytes_eq g.0 name) refl (value_of-flag options given name all.1 flag)
  where
    go : (b : Bool) → bytes_eq g.0 name ≡ b → (is_among (names_of given) name ≡ true → value_of name given ≡ Some (codes "true")) → value_of name (g ∷ given) ≡ Some (codes "true")
    go true e more =
        let same : g.0 ≡ name = (bytes_eq-Decides g.0 name).0 e in
        rw e (ap (λ v. Some v) (all.0 (ap (kind_of options) same ∙ flag)))
    go false e more = rw e (more (rw e at among))
