-- Parts that stop one after the other, and what a step on one part leaves.
use Rattle.std.proofs.Common.{◌≡◌, ◌≢◌, ◌∙◌, ℕ, ◌+◌, ◌<◌, ◌^◌, List, [], ◌∷◌, ◌++◌, length, Option, Some, Ok, Err, IfErr, refl, sym, ap, subst, arith, length-append, inl, inr}
use Rattle.std.specs.Prelude.{IsSomeAnd}
use Rattle.std.specs.List.{slice_get, slice_set, insert, remove}
use Rattle.std.proofs.lemmas.Option.{slice_get_within}
use Rattle.step_gate.specs.Gates.{IsSeatOf, seen_of}
use Rattle.part_model.specs.declared.event.PartEvent.{PartEvent}
use Rattle.part_model.specs.declared.event.PartEvent.TheVariants.{StopPart}
use Rattle.part_model.specs.Machine.{PartAllows}
use Rattle.timer_book.specs.Machine.{TimerMoves}
use Rattle.call_book.specs.Machine.{BookMoves}
use Rattle.sidecar_node.specs.declared.node.SidecarNode.{SidecarNode}
use Rattle.sidecar_node.specs.declared.node.Seats.{Seats}
use Rattle.sidecar_node.specs.Rows.{AreSeatsOf}
use Rattle.sidecar_node.specs.Entries.{PartEntry, NodeEntry, OnPart, StepsAt}
use Rattle.sidecar_node.specs.Turns.{Said, MakesOne, stop_entries, first_spent, first_or}
use Rattle.sidecar_node.specs.Nodes.{PartGate, PartSeat, BookSeat, CallsSeat, part_gates, book_gates, calls_gate, part_seats, book_seats, IsSeatsOf, Acts, ActsAt, IsFull, SpentAt, StopsAll}
use Rattle.sidecar_node.proofs.Places.{get_set_same, get_set_other, get_push, along_set, put_back}
use Rattle.sidecar_node.proofs.Actings.{OthersStay, acts_none, acts_then, acts_on}

-- the seat of one part was replaced by another seat of its gate
pub seats_put : (node : SidecarNode) (s t : Seats) (k : ℕ) (gate : PartGate) (b : PartSeat)
    → IsSeatsOf node s → slice_get (part_gates node) k ≡ Some gate → IsSeatOf PartAllows gate b → part_seats t ≡ slice_set (part_seats s) k b → OthersStay s t → IsSeatsOf node t
seats_put node s t k gate b h at of is others = record {
  parts = subst (λ (xs : List PartSeat). AreSeatsOf PartAllows (part_gates node) xs) (sym is) (along_set (λ j (g : PartGate) (x : PartSeat). IsSeatOf PartAllows g x) (part_gates node) (part_seats s) k gate b h.parts at of);
  books = subst (λ (xs : List BookSeat). AreSeatsOf TimerMoves (book_gates node) xs) (sym others.0) h.books;
  calls = subst (λ (x : CallsSeat). IsSeatOf BookMoves (calls_gate node) x) (sym others.1) h.calls;
}

full_put : (s t : Seats) (k : ℕ) (a b : PartSeat) → slice_get (part_seats s) k ≡ Some a → part_seats t ≡ slice_set (part_seats s) k b → length (seen_of b) ≡ 2 ^ 62 → IsFull k t
full_put s t k a b was is full =
    subst (λ (x : Option PartSeat). IsSomeAnd x (λ seat. length (seen_of seat) ≡ 2 ^ 62)) (sym (ap (λ (xs : List PartSeat). slice_get xs k) is ∙ get_set_same (part_seats s) k a b was)) full

pub spent_put : (s t : Seats) (k : ℕ) (a b : PartSeat) (said : Said) → slice_get (part_seats s) k ≡ Some a → part_seats t ≡ slice_set (part_seats s) k b
    → IfErr said (λ e. (e.count ≡ 2 ^ 62) × (length (seen_of b) ≡ 2 ^ 62)) → SpentAt k said t
spent_put s t k a b (Ok reply) was is h = tt
spent_put s t k a b (Err e) was is h = (h.0, full_put s t k a b was is h.1)

-- the seat of one part was taken out of its row, and another put back
pub put_again : (s t : Seats) (k : ℕ) (a b : PartSeat) (row : List PartSeat) → k < length (part_seats s) → row ≡ remove (part_seats s) k → part_seats t ≡ insert row k b → part_seats t ≡ slice_set (part_seats s) k b
put_again s t k a b row inside out back = back ∙ (ap (λ (xs : List PartSeat). insert xs k b) out ∙ put_back (part_seats s) k b inside)

spent_step : (k : ℕ) (event : PartEvent) (said : Said) (s t : Seats) → StepsAt k event said (part_seats s) (part_seats t) → SpentAt k said t
spent_step k event (Ok reply) s t p = tt
spent_step k event (Err e) s t p = (p.steps.0, full_put s t k p.old p.new p.was p.is p.steps.1)

-- one step on one part
pub step_acts : (k : ℕ) (event : PartEvent) (said : Said) (s t : Seats) → StepsAt k event said (part_seats s) (part_seats t) → OthersStay s t
    → (es : List PartEntry) × ActsAt k es s t × MakesOne event es said
step_acts k event (Ok reply) s t p others = (record { event = event; reply = reply } ∷ [], acts_on k (record { event = event; reply = reply } ∷ []) s t p.old p.new p.was p.is others p.steps, (refl, refl))
step_acts k event (Err e) s t p others = ([], acts_on k [] s t p.old p.new p.was p.is others p.steps.2, tt)

pub step_spent : (k : ℕ) (event : PartEvent) (said : Said) (s t : Seats) → StepsAt k event said (part_seats s) (part_seats t) → SpentAt k said t
step_spent k event said s t p = spent_step k event said s t p

-- ---- all parts

stop_entries-push : (n m : ℕ) (saids : List Said) (said : Said) → m ≡ n + length saids → stop_entries n (saids ++ said ∷ []) ≡ stop_entries n saids ++ stop_entries m (said ∷ [])
stop_entries-push n m [] said e = ap (λ (k : ℕ). stop_entries k (said ∷ [])) (let f : n ≡ m = omega arith in f)
stop_entries-push n m (Ok reply ∷ saids) said e = ap (λ (es : List NodeEntry). OnPart n (record { event = StopPart; reply = reply }) ∷ es) (stop_entries-push (n + 1) m saids said (omega arith))
stop_entries-push n m (Err spent ∷ saids) said e = stop_entries-push (n + 1) m saids said (omega arith)

stop_acts : (k : ℕ) (said : Said) (s t : Seats) → StepsAt k StopPart said (part_seats s) (part_seats t) → OthersStay s t → Acts (stop_entries k (said ∷ [])) s t
stop_acts k (Ok reply) s t p others = acts_on k (record { event = StopPart; reply = reply } ∷ []) s t p.old p.new p.was p.is others p.steps
stop_acts k (Err e) s t p others = acts_on k [] s t p.old p.new p.was p.is others p.steps.2

full_stays : (j k : ℕ) (s t : Seats) (b : PartSeat) → j ≢ k → part_seats t ≡ slice_set (part_seats s) k b → IsFull j s → IsFull j t
full_stays j k s t b other is h =
    subst (λ (x : Option PartSeat). IsSomeAnd x (λ seat. length (seen_of seat) ≡ 2 ^ 62)) (sym (ap (λ (xs : List PartSeat). slice_get xs j) is ∙ get_set_other (part_seats s) j k b other)) h

pub spent_stays : (j k : ℕ) (said : Said) (s t : Seats) (b : PartSeat) → j ≢ k → part_seats t ≡ slice_set (part_seats s) k b → SpentAt j said s → SpentAt j said t
spent_stays j k (Ok reply) s t b other is h = tt
spent_stays j k (Err e) s t b other is h = (h.0, full_stays j k s t b other is h.1)

pub stops_none : (s : Seats) → StopsAll 0 [] s s
stops_none s = record { many = refl; acts = acts_none s; full = λ k said e. absurd (let h : ⊥ = cc in h) }

pub stops_more : (k : ℕ) (saids : List Said) (said : Said) (s t u : Seats) → StopsAll k saids s t → StepsAt k StopPart said (part_seats t) (part_seats u) → OthersStay t u → StopsAll (k + 1) (saids ++ said ∷ []) s u
stops_more k saids said s t u h p others = record {
  many = let m = h.many in omega (arith, length-append saids (said ∷ []));
  acts = subst (λ (es : List NodeEntry). Acts es s u) (sym (stop_entries-push 0 k saids said (let m = h.many in omega arith)))
      (acts_then (stop_entries 0 saids) (stop_entries k (said ∷ [])) s t u h.acts (stop_acts k said t u p others));
  full = λ j x e. elim (get_push saids j said x e) [
    | inl old ↦ spent_stays j k x t u p.new (λ is. let l = slice_get_within saids j x old in let m = h.many in absurd (omega arith)) p.is (h.full j x old)
    | inr last ↦ subst (λ (q : ℕ × Said). SpentAt q.0 q.1 u) (λ i. (sym (last.0 ∙ h.many) i, sym last.1 i)) (step_spent k StopPart said t u p)
  ];
}

pub first_spent-push : (saids : List Said) (said : Said) → first_spent (saids ++ said ∷ []) ≡ first_or (first_spent saids) said
first_spent-push [] (Ok reply) = refl
first_spent-push [] (Err e) = refl
first_spent-push (Ok r ∷ saids) said = first_spent-push saids said
first_spent-push (Err f ∷ saids) said = refl
