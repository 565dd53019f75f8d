-- Two places compare as equal exactly if they are of the same key and name.
use Rattle.std.proofs.Common.{◌≡◌, ℕ, ◌==◌, Bool, true, false, List, [], ◌∷◌, Some, None, Option, arith, refl, sym, ap, ◌∙◌}
use Rattle.std.specs.declared.cmp.Ordering.{Ordering}
use Rattle.std.specs.declared.cmp.Ordering.TheVariants.{Less, Equal, Greater}
use Rattle.std.specs.Ordering.{nat_cmp, is_eq, ordering_then}
use Rattle.std.specs.Cmp.Lexicographic.{slice_cmp}
use Rattle.std.proofs.lemmas.Bool.Decides.{nat_tests}
use Rattle.std.proofs.lemmas.Cmp.{tied_itself}
use Rattle.actor_names.specs.declared.actor_key.ActorKey.{ActorKey}
use Rattle.timer_book.specs.declared.entry.TimerEntry.{TimerEntry}
use Rattle.timer_book.specs.Entries.{timer_place, entry_place, place_cmp, is_at, entry_at}
use Rattle.timer_book.proofs.Places.{total}
use Rattle.lists_and_limits.proofs.Maps.{eq-is}

numbers_same : (x y : ℕ) → nat_cmp x y ≡ Equal → x ≡ y
numbers_same x y is = grind (arith, nat_tests)

both_equal : (first rest : Ordering) → ordering_then first rest ≡ Equal → (first ≡ Equal) × (rest ≡ Equal)
both_equal Less rest is = cc
both_equal Equal rest is = (refl, is)
both_equal Greater rest is = cc

pair_same : {X : Type 0} (x y : X) (xs ys : List X) → x ≡ y → xs ≡ ys → x ∷ xs ≡ y ∷ ys
pair_same x y xs ys first rest = rw (first, rest) refl

lists_same : {X : Type 0} (R : X → X → Ordering) → ((x y : X) → R x y ≡ Equal → x ≡ y) → (xs ys : List X) → slice_cmp R xs ys ≡ Equal → xs ≡ ys
lists_same R each [] [] is = refl
lists_same R each [] (y ∷ ys) is = cc
lists_same R each (x ∷ xs) [] is = cc
lists_same R each (x ∷ xs) (y ∷ ys) is =
    let parts = both_equal (R x y) (slice_cmp R xs ys) is in
    pair_same x y xs ys (each x y parts.0) (lists_same R each xs ys parts.1)

places_same : (a b : List (List ℕ)) → place_cmp a b ≡ Equal → a ≡ b
places_same a b is = lists_same (slice_cmp nat_cmp) (lists_same nat_cmp numbers_same) a b is

abbrev key_of : List ℕ → List ℕ → List ℕ → ActorKey
key_of space kind id = record { space = space; kind = kind; id = id }

keys_same : (a b : ActorKey) → a.space ≡ b.space → a.kind ≡ b.kind → a.id ≡ b.id → a ≡ b
keys_same a b space kind id = ap (λ (s : List ℕ). key_of s a.kind a.id) space ∙ ap (λ (k : List ℕ). key_of b.space k a.id) kind ∙ ap (λ (i : List ℕ). key_of b.space b.kind i) id

-- what a place of four parts is made of
parts_same : (a b c d e f g h : List ℕ) → a ∷ b ∷ c ∷ d ∷ [] ≡ e ∷ f ∷ g ∷ h ∷ [] → (a ≡ e) × (b ≡ f) × (c ≡ g) × (d ≡ h)
parts_same a b c d e f g h is = (cc, cc, cc, cc)

pub place-of : (key other : ActorKey) (name another : List ℕ) → place_cmp (timer_place key name) (timer_place other another) ≡ Equal → (key ≡ other) × (name ≡ another)
place-of key other name another is =
    let same = parts_same key.space key.kind key.id name other.space other.kind other.id another (places_same (timer_place key name) (timer_place other another) is) in
    (keys_same key other same.0 same.1 same.2, same.3)

pub place-same : (key other : ActorKey) (name another : List ℕ) → (key ≡ other) × (name ≡ another) → place_cmp (timer_place key name) (timer_place other another) ≡ Equal
place-same key other name another same = rw (same.0, same.1) (tied_itself total (timer_place other another))

some_same : (x e : TimerEntry) → Some x ≡ Some e → x ≡ e
some_same x e is = cc

-- the timer found under a key and a name has that key and that name
pub entry_at-is : (key : ActorKey) (name : List ℕ) (xs : List TimerEntry) (e : TimerEntry) → entry_at (timer_place key name) xs ≡ Some e → (e.key ≡ key) × (e.name ≡ name)
entry_at-is key name [] e found = cc
entry_at-is key name (x ∷ xs) e found = go (is_at (timer_place key name) x) refl found (entry_at-is key name xs e)
  where
    go : (here : Bool) → is_at (timer_place key name) x ≡ here → entry_at (timer_place key name) (x ∷ xs) ≡ Some e → (entry_at (timer_place key name) xs ≡ Some e → (e.key ≡ key) × (e.name ≡ name)) → (e.key ≡ key) × (e.name ≡ name)
    go true here found rest =
        let same = some_same x e (rw here at found) in
        let of = place-of x.key key x.name name (eq-is (place_cmp (entry_place x) (timer_place key name)) here) in
        (ap (λ (t : TimerEntry). t.key) (sym same) ∙ of.0, ap (λ (t : TimerEntry). t.name) (sym same) ∙ of.1)
    go false here found rest = rest (rw here at found)
