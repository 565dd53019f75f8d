-- How the walk over the words relates to what they give.
use Rattle.std.proofs.Common.{◌≡◌, ℕ, ◌+◌, ◌<◌, ◌≤◌, length, drop, get_or, subst, true, false, ◌++◌, List, [], ◌∷◌, map, Option, None, Some, is_some, refl, ap, sym, ◌∙◌}
use Rattle.std.specs.Borrow.{Bor}
use Rattle.std.specs.Prelude.{option_map, option_and_then, if◌then◌else◌}
use Rattle.std.proofs.lemmas.List.{at_drop_more, at_drop_all}
use Rattle.command_words.specs.Options.{Text, Options, Given, Meaning, Refused, Names, Gives, meaning_of, names_of, read_from, has_needed, complete, options_given}

-- after the options of these names, the rest gives what all the words give
abbrev pub StandsAt : Options → List Text → List Text → Option Text → List Text → Type 0
StandsAt options words names awaited rest = (given : Given) × (names_of given ≡ names) × (read_from options [] None words ≡ read_from options given awaited rest)

-- the rest of a word's meaning
abbrev pub after : Options → Given → List Text → Meaning → Option Given
after options given rest Refused = None
after options given rest (Names name) = read_from options given (Some name) rest
after options given rest (Gives name value) = read_from options (given ++ (name, value) ∷ []) None rest

pub read_from-word : (options : Options) (given : Given) (awaited : Option Text) (word : Text) (rest : List Text)
    → read_from options given awaited (word ∷ rest) ≡ after options given rest (meaning_of options (names_of given) awaited word)
unfolding read_from
read_from-word options given None word rest = refl
read_from-word options given (Some name) word rest = refl

names_of-push : (given : Given) (name value : Text) → names_of (given ++ (name, value) ∷ []) ≡ names_of given ++ name ∷ []
names_of-push [] name value = refl
names_of-push (g ∷ given) name value = ap (λ ns. g.0 ∷ ns) (names_of-push given name value)

step : (options : Options) (words names : List Text) (awaited : Option Text) (word : Text) (rest : List Text) (s : StandsAt options words names awaited (word ∷ rest)) (m : Meaning)
    → m ≡ meaning_of options names awaited word → read_from options [] None words ≡ after options s.0 rest m
step options words names awaited word rest s m is =
    s.2 ∙ read_from-word options s.0 awaited word rest ∙ ap (λ ns. after options s.0 rest (meaning_of options ns awaited word)) s.1 ∙ ap (after options s.0 rest) (sym is)

pub StandsAt-Refused : (options : Options) (words names : List Text) (awaited : Option Text) (word : Text) (rest : List Text) → StandsAt options words names awaited (word ∷ rest)
    → Refused ≡ meaning_of options names awaited word → read_from options [] None words ≡ None
StandsAt-Refused options words names awaited word rest s is = step options words names awaited word rest s Refused is

pub StandsAt-Names : (options : Options) (words names : List Text) (awaited : Option Text) (word : Text) (rest : List Text) (name : Text) → StandsAt options words names awaited (word ∷ rest)
    → Names name ≡ meaning_of options names awaited word → StandsAt options words names (Some name) rest
StandsAt-Names options words names awaited word rest name s is = (s.0, s.1, step options words names awaited word rest s (Names name) is)

pub StandsAt-Gives : (options : Options) (words names : List Text) (awaited : Option Text) (word : Text) (rest : List Text) (name value : Text) → StandsAt options words names awaited (word ∷ rest)
    → Gives name value ≡ meaning_of options names awaited word → StandsAt options words (names ++ name ∷ []) None rest
StandsAt-Gives options words names awaited word rest name value s is =
    (s.0 ++ (name, value) ∷ [], names_of-push s.0 name value ∙ ap (λ ns. ns ++ name ∷ []) s.1, step options words names awaited word rest s (Gives name value) is)

pub StandsAt-item : {A : Type 0} (f : A → Text) (xs : List A) (i : ℕ) (d : A) (options : Options) (words names : List Text) (awaited : Option Text) → i < length xs
    → StandsAt options words names awaited (map f (drop i xs)) → StandsAt options words names awaited (f (get_or xs i d) ∷ map f (drop (i + 1) xs))
StandsAt-item f xs i d options words names awaited lt s = subst (λ r. StandsAt options words names awaited (map f r)) (at_drop_more (λ r. r) xs i d lt) s

pub StandsAt-all : {A : Type 0} (f : A → Text) (xs : List A) (i : ℕ) (options : Options) (words names : List Text) (awaited : Option Text) → length xs ≤ i
    → StandsAt options words names awaited (map f (drop i xs)) → StandsAt options words names awaited []
StandsAt-all f xs i options words names awaited le s = subst (λ r. StandsAt options words names awaited (map f r)) (at_drop_all (λ r. r) xs i le) s

pub options_given-None : (options : Options) (words : List Text) → read_from options [] None words ≡ None → is_some (options_given options words) ≡ false
options_given-None options words none = rw none refl

is_some-complete : (options : Options) (given : Given) → is_some (complete options given) ≡ has_needed options (names_of given)
is_some-complete options given = elim (has_needed options (names_of given)) as (λ b. is_some (if b then Some given else None) ≡ b) [ true ↦ refl | false ↦ refl ]

pub StandsAt-end : (options : Options) (words names : List Text) → StandsAt options words names None [] → is_some (options_given options words) ≡ has_needed options names
unfolding read_from
StandsAt-end options words names s =
    ap (λ o. is_some (option_and_then (complete options) o)) s.2 ∙ is_some-complete options s.0 ∙ ap (has_needed options) s.1

pub StandsAt-wants : (options : Options) (words names : List Text) (name : Text) → StandsAt options words names (Some name) [] → is_some (options_given options words) ≡ false
unfolding read_from
StandsAt-wants options words names name s = ap (λ o. is_some (option_and_then (complete options) o)) s.2

pub StandsAt-ends : (options : Options) (words names : List Text) (awaited : Option (Bor Text)) → is_some awaited ≡ false → StandsAt options words names (option_map (λ n. n.now) awaited) []
    → is_some (options_given options words) ≡ has_needed options names
StandsAt-ends options words names None none s = StandsAt-end options words names s
StandsAt-ends options words names (Some name) none s = cc

pub StandsAt-lacks : (options : Options) (words names : List Text) (awaited : Option (Bor Text)) → (is_some awaited ≡ false → ⊥) → StandsAt options words names (option_map (λ n. n.now) awaited) []
    → is_some (options_given options words) ≡ false
StandsAt-lacks options words names None some s = absurd (some refl)
StandsAt-lacks options words names (Some name) some s = StandsAt-wants options words names name.now s

pub map-push : {A B : Type 0} (f : A → B) (xs : List A) (x : A) → map f (xs ++ x ∷ []) ≡ map f xs ++ f x ∷ []
map-push f [] x = refl
map-push f (y ∷ xs) x = ap (λ ys. f y ∷ ys) (map-push f xs x)
