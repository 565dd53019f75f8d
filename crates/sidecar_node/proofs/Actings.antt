-- What calls did at a node's gates adds up.
use Rattle.std.proofs.Common.{◌≡◌, ◌≢◌, ◌∙◌, ℕ, Bool, true, false, List, [], ◌∷◌, ◌++◌, Some, refl, sym, ap, subst, eq-eqb, ne_eqb}
use Rattle.std.specs.Prelude.{◌==◌, if◌then◌else◌}
use Rattle.std.specs.List.{slice_get, slice_set}
use Rattle.sidecar_node.specs.declared.node.Seats.{Seats}
use Rattle.sidecar_node.specs.Rows.{Along}
use Rattle.sidecar_node.specs.Entries.{PartEntry, BookEntry, CallsEntry, NodeEntry, OnPart, OnBook, OnCalls, part_entries, book_entries, calls_entries, at_part, Makes}
use Rattle.sidecar_node.specs.Nodes.{PartSeat, BookSeat, CallsSeat, part_seats, book_seats, calls_seat, Acts, ActsAt}
use Rattle.sidecar_node.proofs.Places.{along_self, along_put, along_then}
use Rattle.sidecar_node.proofs.Makings.{makes_none, makes_then}

if_append : {A : Type 0} (b : Bool) (x : A) (xs ys : List A) → (if b then x ∷ (xs ++ ys) else xs ++ ys) ≡ (if b then x ∷ xs else xs) ++ ys
if_append true x xs ys = refl
if_append false x xs ys = refl

pub part_entries-append : (k : ℕ) (es fs : List NodeEntry) → part_entries k (es ++ fs) ≡ part_entries k es ++ part_entries k fs
part_entries-append k [] fs = refl
part_entries-append k (OnPart part e ∷ es) fs = ap (λ (xs : List PartEntry). if part == k then e ∷ xs else xs) (part_entries-append k es fs) ∙ if_append (part == k) e (part_entries k es) (part_entries k fs)
part_entries-append k (OnBook book e ∷ es) fs = part_entries-append k es fs
part_entries-append k (OnCalls e ∷ es) fs = part_entries-append k es fs

pub book_entries-append : (k : ℕ) (es fs : List NodeEntry) → book_entries k (es ++ fs) ≡ book_entries k es ++ book_entries k fs
book_entries-append k [] fs = refl
book_entries-append k (OnPart part e ∷ es) fs = book_entries-append k es fs
book_entries-append k (OnBook book e ∷ es) fs = ap (λ (xs : List BookEntry). if book == k then e ∷ xs else xs) (book_entries-append k es fs) ∙ if_append (book == k) e (book_entries k es) (book_entries k fs)
book_entries-append k (OnCalls e ∷ es) fs = book_entries-append k es fs

pub calls_entries-append : (es fs : List NodeEntry) → calls_entries (es ++ fs) ≡ calls_entries es ++ calls_entries fs
calls_entries-append [] fs = refl
calls_entries-append (OnPart part e ∷ es) fs = calls_entries-append es fs
calls_entries-append (OnBook book e ∷ es) fs = calls_entries-append es fs
calls_entries-append (OnCalls e ∷ es) fs = ap (λ (xs : List CallsEntry). e ∷ xs) (calls_entries-append es fs)

part_entries_same : (k : ℕ) (es : List PartEntry) → part_entries k (at_part k es) ≡ es
part_entries_same k [] = refl
part_entries_same k (e ∷ es) = ap (λ (b : Bool). if b then e ∷ part_entries k (at_part k es) else part_entries k (at_part k es)) (eq-eqb k k refl) ∙ ap (λ (xs : List PartEntry). e ∷ xs) (part_entries_same k es)

part_entries_other : (j k : ℕ) (es : List PartEntry) → j ≢ k → part_entries j (at_part k es) ≡ []
part_entries_other j k [] h = refl
part_entries_other j k (e ∷ es) h = ap (λ (b : Bool). if b then e ∷ part_entries j (at_part k es) else part_entries j (at_part k es)) (ne_eqb k j (λ e. h (sym e))) ∙ part_entries_other j k es h

book_entries_none : (j k : ℕ) (es : List PartEntry) → book_entries j (at_part k es) ≡ []
book_entries_none j k [] = refl
book_entries_none j k (e ∷ es) = book_entries_none j k es

calls_entries_none : (k : ℕ) (es : List PartEntry) → calls_entries (at_part k es) ≡ []
calls_entries_none k [] = refl
calls_entries_none k (e ∷ es) = calls_entries_none k es

-- the seat of the book of forwarded calls stayed
pub calls_stay : (es : List NodeEntry) (s t : Seats) → calls_entries es ≡ [] → calls_seat t ≡ calls_seat s → Makes (calls_entries es) (calls_seat s) (calls_seat t)
calls_stay es s t none same =
    subst (λ (xs : List CallsEntry). Makes xs (calls_seat s) (calls_seat t)) (sym none) (subst (λ (x : CallsSeat). Makes [] (calls_seat s) x) (sym same) (makes_none (calls_seat s)))

-- the seats of the books stayed
abbrev pub OthersStay : Seats → Seats → Type 0
OthersStay s t = (book_seats t ≡ book_seats s) × (calls_seat t ≡ calls_seat s)

pub at_part-append : (k : ℕ) (es fs : List PartEntry) → at_part k (es ++ fs) ≡ at_part k es ++ at_part k fs
at_part-append k [] fs = refl
at_part-append k (e ∷ es) fs = ap (λ (xs : List NodeEntry). OnPart k e ∷ xs) (at_part-append k es fs)

-- ---- no entry, and one call after the other

pub acts_none : (s : Seats) → Acts [] s s
acts_none s = record {
  parts = along_self (λ k (a b : PartSeat). Makes (part_entries k []) a b) (part_seats s) (λ k a. makes_none a);
  books = along_self (λ k (a b : BookSeat). Makes (book_entries k []) a b) (book_seats s) (λ k a. makes_none a);
  calls = makes_none (calls_seat s);
}

pub acts_then : (es fs : List NodeEntry) (s t u : Seats) → Acts es s t → Acts fs t u → Acts (es ++ fs) s u
acts_then es fs s t u p q = record {
  parts = along_then (λ k (a b : PartSeat). Makes (part_entries k es) a b) (λ k (a b : PartSeat). Makes (part_entries k fs) a b) (λ k (a b : PartSeat). Makes (part_entries k (es ++ fs)) a b) (part_seats s) (part_seats t) (part_seats u) p.parts q.parts
      (λ k a b c m n. subst (λ (xs : List PartEntry). Makes xs a c) (sym (part_entries-append k es fs)) (makes_then a b c (part_entries k es) (part_entries k fs) m n));
  books = along_then (λ k (a b : BookSeat). Makes (book_entries k es) a b) (λ k (a b : BookSeat). Makes (book_entries k fs) a b) (λ k (a b : BookSeat). Makes (book_entries k (es ++ fs)) a b) (book_seats s) (book_seats t) (book_seats u) p.books q.books
      (λ k a b c m n. subst (λ (xs : List BookEntry). Makes xs a c) (sym (book_entries-append k es fs)) (makes_then a b c (book_entries k es) (book_entries k fs) m n));
  calls = subst (λ (xs : List CallsEntry). Makes xs (calls_seat s) (calls_seat u)) (sym (calls_entries-append es fs)) (makes_then (calls_seat s) (calls_seat t) (calls_seat u) (calls_entries es) (calls_entries fs) p.calls q.calls);
}

-- ---- on one part

-- the seat of one part made these entries, and the others stayed
pub acts_on : (k : ℕ) (es : List PartEntry) (s t : Seats) (a b : PartSeat) → slice_get (part_seats s) k ≡ Some a → part_seats t ≡ slice_set (part_seats s) k b → OthersStay s t → Makes es a b → ActsAt k es s t
acts_on k es s t a b was is others m = record {
  parts = subst (λ (xs : List PartSeat). Along (λ j (x y : PartSeat). Makes (part_entries j (at_part k es)) x y) (part_seats s) xs) (sym is)
      (along_put (λ j (x y : PartSeat). Makes (part_entries j (at_part k es)) x y) (part_seats s) k a b was
      (subst (λ (xs : List PartEntry). Makes xs a b) (sym (part_entries_same k es)) m)
      (λ j x other. subst (λ (xs : List PartEntry). Makes xs x x) (sym (part_entries_other j k es other)) (makes_none x)));
  books = subst (λ (xs : List BookSeat). Along (λ j (x y : BookSeat). Makes (book_entries j (at_part k es)) x y) (book_seats s) xs) (sym others.0)
      (along_self (λ j (x y : BookSeat). Makes (book_entries j (at_part k es)) x y) (book_seats s)
      (λ j x. subst (λ (xs : List BookEntry). Makes xs x x) (sym (book_entries_none j k es)) (makes_none x)));
  calls = calls_stay (at_part k es) s t (calls_entries_none k es) others.1;
}

pub acts_at_then : (k : ℕ) (es fs : List PartEntry) (s t u : Seats) → ActsAt k es s t → ActsAt k fs t u → ActsAt k (es ++ fs) s u
acts_at_then k es fs s t u p q = subst (λ (xs : List NodeEntry). Acts xs s u) (sym (at_part-append k es fs)) (acts_then (at_part k es) (at_part k fs) s t u p q)
