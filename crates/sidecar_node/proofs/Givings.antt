-- One step on a part, on a book of timers or on the book of forwarded calls, and one event on each part.
use Rattle.std.proofs.Common.{◌≡◌, ◌≢◌, ◌∙◌, ℕ, ◌+◌, ◌^◌, List, [], ◌∷◌, ◌++◌, length, Option, Some, Ok, Err, refl, sym, ap, subst, arith, append_assoc, append-nil, length-append, inl, inr, ne_eqb, eq-eqb, Bool}
use Rattle.std.specs.Prelude.{◌==◌, if◌then◌else◌, IsSomeAnd, Result}
use Rattle.std.specs.List.{slice_get, slice_set}
use Rattle.std.proofs.lemmas.Option.{slice_get_within}
use Rattle.step_gate.specs.declared.gate.Spent.{Spent}
use Rattle.step_gate.specs.Gates.{IsSeatOf, seen_of}
use Rattle.part_model.specs.declared.event.PartEvent.{PartEvent}
use Rattle.part_model.specs.Machine.{PartAllows}
use Rattle.timer_book.specs.declared.event.TimerEvent.{TimerEvent}
use Rattle.timer_book.specs.declared.event.TimerReply.{TimerReply}
use Rattle.timer_book.specs.Machine.{TimerMoves}
use Rattle.call_book.specs.declared.event.BookEvent.{BookEvent}
use Rattle.call_book.specs.declared.event.BookReply.{BookReply}
use Rattle.sidecar_node.specs.declared.node.SidecarNode.{SidecarNode}
use Rattle.sidecar_node.specs.declared.node.Seats.{Seats}
use Rattle.sidecar_node.specs.Rows.{Along, AreSeatsOf}
use Rattle.sidecar_node.specs.Entries.{PartEntry, BookEntry, CallsEntry, NodeEntry, OnPart, part_entries, book_entries, calls_entries, at_part, at_book, at_calls, one_entry, Makes, Steps, StepsAt}
use Rattle.sidecar_node.specs.Turns.{Said}
use Rattle.sidecar_node.specs.Rounds.{each_entries}
use Rattle.sidecar_node.specs.Nodes.{PartSeat, BookSeat, CallsSeat, part_gates, book_gates, part_seats, book_seats, calls_seat, IsSeatsOf, Acts, ActsAt, ActsAtBook, ActsAtCalls, IsBookFull, SpentAt, SpentAtBook, SpentAtCalls, GivesEach}
use Rattle.sidecar_node.proofs.Places.{get_set_same, get_push, along_self, along_put}
use Rattle.sidecar_node.proofs.Makings.{makes_none}
use Rattle.sidecar_node.proofs.Actings.{OthersStay, calls_stay, acts_none, acts_then, acts_on}
use Rattle.sidecar_node.proofs.Stops.{step_spent, spent_stays}

-- ---- one step

pub one_acts : (k : ℕ) (event : PartEvent) (said : Said) (s t : Seats) → StepsAt k event said (part_seats s) (part_seats t) → OthersStay s t → ActsAt k (one_entry event said) s t
one_acts k event (Ok reply) s t p books = acts_on k (record { event = event; reply = reply } ∷ []) s t p.old p.new p.was p.is books p.steps
one_acts k event (Err e) s t p books = acts_on k [] s t p.old p.new p.was p.is books p.steps.2

-- ---- on one book

book_entries_same : (k : ℕ) (es : List BookEntry) → book_entries k (at_book k es) ≡ es
book_entries_same k [] = refl
book_entries_same k (e ∷ es) = ap (λ (b : Bool). if b then e ∷ book_entries k (at_book k es) else book_entries k (at_book k es)) (eq-eqb k k refl) ∙ ap (λ (xs : List BookEntry). e ∷ xs) (book_entries_same k es)

book_entries_other : (j k : ℕ) (es : List BookEntry) → j ≢ k → book_entries j (at_book k es) ≡ []
book_entries_other j k [] h = refl
book_entries_other j k (e ∷ es) h = ap (λ (b : Bool). if b then e ∷ book_entries j (at_book k es) else book_entries j (at_book k es)) (ne_eqb k j (λ e. h (sym e))) ∙ book_entries_other j k es h

part_entries_none : (j k : ℕ) (es : List BookEntry) → part_entries j (at_book k es) ≡ []
part_entries_none j k [] = refl
part_entries_none j k (e ∷ es) = part_entries_none j k es

calls_entries_none : (k : ℕ) (es : List BookEntry) → calls_entries (at_book k es) ≡ []
calls_entries_none k [] = refl
calls_entries_none k (e ∷ es) = calls_entries_none k es

acts_on_book : (k : ℕ) (es : List BookEntry) (s t : Seats) (a b : BookSeat) → slice_get (book_seats s) k ≡ Some a → book_seats t ≡ slice_set (book_seats s) k b → part_seats t ≡ part_seats s → calls_seat t ≡ calls_seat s → Makes es a b → ActsAtBook k es s t
acts_on_book k es s t a b was is parts calls m = record {
  books = subst (λ (xs : List BookSeat). Along (λ j (x y : BookSeat). Makes (book_entries j (at_book k es)) x y) (book_seats s) xs) (sym is)
      (along_put (λ j (x y : BookSeat). Makes (book_entries j (at_book k es)) x y) (book_seats s) k a b was
      (subst (λ (xs : List BookEntry). Makes xs a b) (sym (book_entries_same k es)) m)
      (λ j x other. subst (λ (xs : List BookEntry). Makes xs x x) (sym (book_entries_other j k es other)) (makes_none x)));
  parts = subst (λ (xs : List PartSeat). Along (λ j (x y : PartSeat). Makes (part_entries j (at_book k es)) x y) (part_seats s) xs) (sym parts)
      (along_self (λ j (x y : PartSeat). Makes (part_entries j (at_book k es)) x y) (part_seats s)
      (λ j x. subst (λ (xs : List PartEntry). Makes xs x x) (sym (part_entries_none j k es)) (makes_none x)));
  calls = calls_stay (at_book k es) s t (calls_entries_none k es) calls;
}

pub one_book_acts : (k : ℕ) (event : TimerEvent) (said : Result TimerReply Spent) (s t : Seats) → StepsAt k event said (book_seats s) (book_seats t) → part_seats t ≡ part_seats s → calls_seat t ≡ calls_seat s → ActsAtBook k (one_entry event said) s t
one_book_acts k event (Ok reply) s t p parts calls = acts_on_book k (record { event = event; reply = reply } ∷ []) s t p.old p.new p.was p.is parts calls p.steps
one_book_acts k event (Err e) s t p parts calls = acts_on_book k [] s t p.old p.new p.was p.is parts calls p.steps.2

book_full_put : (s t : Seats) (k : ℕ) (a b : BookSeat) → slice_get (book_seats s) k ≡ Some a → book_seats t ≡ slice_set (book_seats s) k b → length (seen_of b) ≡ 2 ^ 62 → IsBookFull k t
book_full_put s t k a b was is full =
    subst (λ (x : Option BookSeat). IsSomeAnd x (λ seat. length (seen_of seat) ≡ 2 ^ 62)) (sym (ap (λ (xs : List BookSeat). slice_get xs k) is ∙ get_set_same (book_seats s) k a b was)) full

pub book_spent : (k : ℕ) (event : TimerEvent) (said : Result TimerReply Spent) (s t : Seats) → StepsAt k event said (book_seats s) (book_seats t) → SpentAtBook k said t
book_spent k event (Ok reply) s t p = tt
book_spent k event (Err e) s t p = (p.steps.0, book_full_put s t k p.old p.new p.was p.is p.steps.1)

-- ---- on the book of forwarded calls

calls_entries_same : (es : List CallsEntry) → calls_entries (at_calls es) ≡ es
calls_entries_same [] = refl
calls_entries_same (e ∷ es) = ap (λ (xs : List CallsEntry). e ∷ xs) (calls_entries_same es)

no_part_entries : (k : ℕ) (es : List CallsEntry) → part_entries k (at_calls es) ≡ []
no_part_entries k [] = refl
no_part_entries k (e ∷ es) = no_part_entries k es

no_book_entries : (k : ℕ) (es : List CallsEntry) → book_entries k (at_calls es) ≡ []
no_book_entries k [] = refl
no_book_entries k (e ∷ es) = no_book_entries k es

acts_on_calls : (es : List CallsEntry) (s t : Seats) → part_seats t ≡ part_seats s → book_seats t ≡ book_seats s → Makes es (calls_seat s) (calls_seat t) → ActsAtCalls es s t
acts_on_calls es s t parts books m = record {
  parts = subst (λ (xs : List PartSeat). Along (λ j (x y : PartSeat). Makes (part_entries j (at_calls es)) x y) (part_seats s) xs) (sym parts)
      (along_self (λ j (x y : PartSeat). Makes (part_entries j (at_calls es)) x y) (part_seats s)
      (λ j x. subst (λ (xs : List PartEntry). Makes xs x x) (sym (no_part_entries j es)) (makes_none x)));
  books = subst (λ (xs : List BookSeat). Along (λ j (x y : BookSeat). Makes (book_entries j (at_calls es)) x y) (book_seats s) xs) (sym books)
      (along_self (λ j (x y : BookSeat). Makes (book_entries j (at_calls es)) x y) (book_seats s)
      (λ j x. subst (λ (xs : List BookEntry). Makes xs x x) (sym (no_book_entries j es)) (makes_none x)));
  calls = subst (λ (xs : List CallsEntry). Makes xs (calls_seat s) (calls_seat t)) (sym (calls_entries_same es)) m;
}

pub calls_acts : (event : BookEvent) (said : Result BookReply Spent) (s t : Seats) → part_seats t ≡ part_seats s → book_seats t ≡ book_seats s → Steps event said (calls_seat s) (calls_seat t) → ActsAtCalls (one_entry event said) s t
calls_acts event (Ok reply) s t parts books p = acts_on_calls (record { event = event; reply = reply } ∷ []) s t parts books p
calls_acts event (Err e) s t parts books p = acts_on_calls [] s t parts books p.2

pub calls_spent : (event : BookEvent) (said : Result BookReply Spent) (s t : Seats) → Steps event said (calls_seat s) (calls_seat t) → SpentAtCalls said t
calls_spent event (Ok reply) s t p = tt
calls_spent event (Err e) s t p = (p.0, p.1)

-- ---- one event on each part

each_entries-push : (n m : ℕ) (event : PartEvent) (saids : List Said) (said : Said) → m ≡ n + length saids → each_entries n event (saids ++ said ∷ []) ≡ each_entries n event saids ++ at_part m (one_entry event said)
each_entries-push n m event [] said e = append-nil (at_part n (one_entry event said)) ∙ ap (λ (k : ℕ). at_part k (one_entry event said)) (let f : n ≡ m = omega arith in f)
each_entries-push n m event (x ∷ saids) said e =
    ap (λ (es : List NodeEntry). at_part n (one_entry event x) ++ es) (each_entries-push (n + 1) m event saids said (omega arith))
    ∙ sym (append_assoc (at_part n (one_entry event x)) (each_entries (n + 1) event saids) (at_part m (one_entry event said)))

pub gives_none : (event : PartEvent) (s : Seats) → GivesEach event [] s s
gives_none event s = record { acts = acts_none s; full = λ k said e. absurd (let h : ⊥ = cc in h) }

pub gives_more : (k : ℕ) (event : PartEvent) (saids : List Said) (said : Said) (s t u : Seats) → length saids ≡ k → GivesEach event saids s t → StepsAt k event said (part_seats t) (part_seats u) → OthersStay t u → GivesEach event (saids ++ said ∷ []) s u
gives_more k event saids said s t u many h p books = record {
  acts = subst (λ (es : List NodeEntry). Acts es s u) (sym (each_entries-push 0 k event saids said (omega arith)))
      (acts_then (each_entries 0 event saids) (at_part k (one_entry event said)) s t u h.acts (one_acts k event said t u p books));
  full = λ j x e. elim (get_push saids j said x e) [
    | inl old ↦ spent_stays j k x t u p.new (λ is. let l = slice_get_within saids j x old in absurd (omega arith)) p.is (h.full j x old)
    | inr last ↦ subst (λ (q : ℕ × Said). SpentAt q.0 q.1 u) (λ i. (sym (last.0 ∙ many) i, sym last.1 i)) (step_spent k event said t u p)
  ];
}
