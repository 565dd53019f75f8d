-- The first row of a list that is cut in two, of those whose call is done.
use Rattle.std.proofs.Common.{◌≡◌, ℕ, Bool, true, false, nat_le, if◌then◌else◌, List, [], ◌∷◌, ◌++◌, Option, Some, None, refl, sym, ap, ◌∙◌, arith}
use Rattle.std.proofs.lemmas.Bool.Decides.{nat_tests}
use Rattle.call_book.specs.declared.row.Row.{Row}
use Rattle.call_book.specs.Entries.{is_done}
use Rattle.call_book.specs.Turns.{is_first, sooner, turn_in, first_in, done_row, first_row, first_turn}

-- the turn of the first row is the first turn
turn_first : (a b : Option Row) → turn_in (first_in a b) ≡ sooner (turn_in a) (turn_in b)
turn_first None b = refl
turn_first (Some a) None = refl
turn_first (Some a) (Some b) = go (nat_le a.turn b.turn)
  where
    go : (t : Bool) → turn_in (if t then Some a else Some b) ≡ (if t then Some a.turn else Some b.turn)
    go true = refl
    go false = refl

assoc : (a b c : Option Row) → first_in (first_in a b) c ≡ first_in a (first_in b c)
assoc None b c = refl
assoc (Some a) None c = refl
assoc (Some a) (Some b) None = go (nat_le a.turn b.turn)
  where
    go : (t : Bool) → first_in (if t then Some a else Some b) None ≡ (if t then Some a else Some b)
    go true = refl
    go false = refl
assoc (Some a) (Some b) (Some c) = grind (arith, nat_tests)

pub first_append : (l r : List Row) → first_row (l ++ r) ≡ first_in (first_row l) (first_row r)
first_append [] r = refl
first_append (x ∷ l) r = rw (first_append l r) (sym (assoc (done_row x) (first_row l) (first_row r)))

pub first_turn_fork : (l : List Row) (x : Row) (r : List Row) → first_turn (l ++ x ∷ r) ≡ sooner (first_turn l) (sooner (turn_in (done_row x)) (first_turn r))
first_turn_fork l x r =
    ap turn_in (first_append l (x ∷ r))
    ∙ turn_first (first_row l) (first_row (x ∷ r))
    ∙ ap (λ m. sooner (first_turn l) m) (turn_first (done_row x) (first_row r))

-- ---- which side has the first one

pick : (a b : Option Row) (t : Bool) → is_first (turn_in a) (turn_in b) ≡ t → first_in a b ≡ (if t then a else b)
pick a b t h = rw h refl

done_is : (x : Row) (m : Option ℕ) → is_first (turn_in (done_row x)) m ≡ true → done_row x ≡ Some x
done_is x m h = go (is_done x.entry.stage) h
  where
    go : (b : Bool) → is_first (turn_in (if b then Some x else None)) m ≡ true → (if b then Some x else None) ≡ Some x
    go true h = refl
    go false h = absurd (cc)

module _ (l : List Row) (x : Row) (r : List Row) where
  rest_is : turn_in (first_row (x ∷ r)) ≡ sooner (turn_in (done_row x)) (first_turn r)
  rest_is = turn_first (done_row x) (first_row r)

  pub first_left : is_first (first_turn l) (sooner (turn_in (done_row x)) (first_turn r)) ≡ true → first_row (l ++ x ∷ r) ≡ first_row l
  first_left h = first_append l (x ∷ r) ∙ pick (first_row l) (first_row (x ∷ r)) true (rw rest_is h)

  pub first_not_left : is_first (first_turn l) (sooner (turn_in (done_row x)) (first_turn r)) ≡ false → first_row (l ++ x ∷ r) ≡ first_row (x ∷ r)
  first_not_left h = first_append l (x ∷ r) ∙ pick (first_row l) (first_row (x ∷ r)) false (rw rest_is h)

  pub first_here : is_first (first_turn l) (sooner (turn_in (done_row x)) (first_turn r)) ≡ false → is_first (turn_in (done_row x)) (first_turn r) ≡ true → first_row (l ++ x ∷ r) ≡ Some x
  first_here h k = first_not_left h ∙ pick (done_row x) (first_row r) true k ∙ done_is x (first_turn r) k

  pub first_right : is_first (first_turn l) (sooner (turn_in (done_row x)) (first_turn r)) ≡ false → is_first (turn_in (done_row x)) (first_turn r) ≡ false → first_row (l ++ x ∷ r) ≡ first_row r
  first_right h k = first_not_left h ∙ pick (done_row x) (first_row r) false k
