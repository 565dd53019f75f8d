-- A pass over the cells is a step of each of them.
use Rattle.std.proofs.Common.{◌≡◌, ℕ, ◌+◌, ◌≤◌, Bool, true, false, not, ◌&&◌, List, [], ◌∷◌, ◌++◌, map, length, Option, None, Some, is_some, refl, sym, ap, ◌∙◌, subst, arith, length-append}
use Rattle.std.specs.Prelude.{if◌then◌else◌}
use Rattle.std.proofs.lemmas.Bool.{cond_both, cond-true, cond-false}
use Rattle.actor_names.specs.declared.actor_key.ActorKey.{ActorKey}
use Rattle.turn_core.specs.declared.cell.Turn.{Turn}
use Rattle.turn_core.specs.declared.cell.Waiter.{Waiter}
use Rattle.turn_core.specs.Cell.{is_free, next_call, turn_calls}
use Rattle.turn_core.proofs.Leaves.{begins_keeps, moved_keeps}
use Rattle.part_model.specs.declared.actor_cell.ActorCell.{ActorCell}
use Rattle.part_model.specs.Cells.{calls_in, total, total_calls}
use Rattle.part_cells.specs.Slots.{each_list, open_calls, late_cell, late_calls, late_number, next_calls, begun_cell, opened_cell, opened_calls, opened_moved}
use Rattle.part_model.specs.Marks.{marks_of_next, marks_of_ends, marks_of_inactive, marks_of_stop, begun_calls, ended_calls}
use Rattle.part_model.specs.Part.{PartState, CellStep, each_cell, is_own, is_foreign, is_overdue, open_cell, tick_cell, begin_in, move_in, ring_owner}
use Rattle.part_core.specs.Actors.{IsNumbered, AreActorsKept}
use Rattle.part_core.proofs.Numbers.{numbered_next, next_in_queue, numbered_moved, numbered_stopped}
use Rattle.part_core.proofs.AskedGives.{begun-marks_of_begin}
use Rattle.part_model.proofs.PartOrders.{In-each_cell, length-each_cell}
use Rattle.part_core.proofs.EachCell.{begun-append, ended-append, append_nil}

-- ---- cells, marks and counts, by what one cell gives

module _ (f : ActorCell → CellStep) where
  pub each-cells : (g : ActorCell → ActorCell) → ((c : ActorCell) → g c ≡ (f c).cell) → (cs : List ActorCell) → map g cs ≡ (each_cell f cs).cells
  each-cells g h [] = refl
  each-cells g h (c ∷ cs) = λ i. h c i ∷ each-cells g h cs i

  pub each-begun : (g : ActorCell → List ℕ) → ((c : ActorCell) → g c ≡ begun_calls (f c).marks) → (cs : List ActorCell) → each_list g cs ≡ begun_calls (each_cell f cs).marks
  each-begun g h [] = refl
  each-begun g h (c ∷ cs) = (λ i. h c i ++ each-begun g h cs i) ∙ sym (begun-append (f c).marks (each_cell f cs).marks)

  pub each-ended : (g : ActorCell → List ℕ) → ((c : ActorCell) → g c ≡ ended_calls (f c).marks) → (cs : List ActorCell) → each_list g cs ≡ ended_calls (each_cell f cs).marks
  each-ended g h [] = refl
  each-ended g h (c ∷ cs) = (λ i. h c i ++ each-ended g h cs i) ∙ sym (ended-append (f c).marks (each_cell f cs).marks)

  pub each-first : (h : ActorCell → ℕ) → ((c : ActorCell) → h c ≡ (f c).first) → (cs : List ActorCell) → total h cs ≡ (each_cell f cs).first
  each-first h e [] = refl
  each-first h e (c ∷ cs) = λ i. e c i + each-first h e cs i

  pub each-second : (h : ActorCell → ℕ) → ((c : ActorCell) → h c ≡ (f c).second) → (cs : List ActorCell) → total h cs ≡ (each_cell f cs).second
  each-second h e [] = refl
  each-second h e (c ∷ cs) = λ i. e c i + each-second h e cs i

-- ---- an opening

begun_next : (p : PartState) (c : ActorCell) (next : Option Waiter) → next_calls next ≡ begun_calls (marks_of_next c.active c.key p.opened next)
begun_next p c None = refl
begun_next p c (Some w) = sym (begun-marks_of_begin c.active c.key p.opened w.call w.chain)

length-next : (next : Option Waiter) → length (next_calls next) ≡ (if is_some next then 1 else 0)
length-next None = refl
length-next (Some w) = refl

module _ (p : PartState) where
  abbrev pub is_mine : ActorCell → Bool
  is_mine c = is_own ring_owner p c.key

  pub open-cell : (c : ActorCell) → opened_cell is_mine c ≡ (open_cell ring_owner p c).cell
  open-cell c = go (is_mine c)
    where
      go : (b : Bool) → (if b then begun_cell c (next_call (not c.closing) c.inner) else (move_in ring_owner c).cell) ≡ (if b then begin_in ring_owner p c (next_call (not c.closing) c.inner) else move_in ring_owner c).cell
      go true = refl
      go false = refl

  pub open-begun : (c : ActorCell) → opened_calls is_mine c ≡ begun_calls (open_cell ring_owner p c).marks
  open-begun c = go (is_mine c)
    where
      go : (b : Bool) → (if b then next_calls (next_call (not c.closing) c.inner) else []) ≡ begun_calls (if b then begin_in ring_owner p c (next_call (not c.closing) c.inner) else move_in ring_owner c).marks
      go true = begun_next p c (next_call (not c.closing) c.inner)
      go false = refl

  pub open-first : (c : ActorCell) → length (opened_calls is_mine c) ≡ (open_cell ring_owner p c).first
  open-first c = go (is_mine c)
    where
      go : (b : Bool) → length (if b then next_calls (next_call (not c.closing) c.inner) else []) ≡ (if b then begin_in ring_owner p c (next_call (not c.closing) c.inner) else move_in ring_owner c).first
      go true = length-next (next_call (not c.closing) c.inner)
      go false = refl

  pub open-moved : (c : ActorCell) → opened_moved is_mine c ≡ (open_cell ring_owner p c).second
  open-moved c = go (is_mine c)
    where
      go : (b : Bool) → (if b then 0 else (move_in ring_owner c).second) ≡ (if b then begin_in ring_owner p c (next_call (not c.closing) c.inner) else move_in ring_owner c).second
      go true = refl
      go false = refl

  -- the number of calls that begin is the length of their list
  pub length-begun : (cs : List ActorCell) → length (each_list (opened_calls is_mine) cs) ≡ (each_cell (open_cell ring_owner p) cs).first
  length-begun [] = refl
  length-begun (c ∷ cs) =
      let m = length-begun cs in
      let l = open-first c in
      omega (arith, length-append (opened_calls is_mine c) (each_list (opened_calls is_mine) cs))

  pub begun-few : (cs : List ActorCell) → length (each_list (opened_calls is_mine) cs) ≤ length cs
  begun-few [] = omega arith
  begun-few (c ∷ cs) =
      let m = begun-few cs in
      let l = one c in
      omega (arith, length-append (opened_calls is_mine c) (each_list (opened_calls is_mine) cs))
    where
      one : (c : ActorCell) → length (opened_calls is_mine c) ≤ 1
      one c = cond_both (is_mine c) (next_calls (next_call (not c.closing) c.inner)) [] (λ (l : List ℕ). length l ≤ 1) (λ _. short (next_call (not c.closing) c.inner)) (λ _. omega arith)
        where
          short : (next : Option Waiter) → length (next_calls next) ≤ 1
          short None = omega arith
          short (Some w) = omega arith

-- ---- a tick

ended-ends : (key : ActorKey) (ts : List Turn) → ended_calls (marks_of_ends key ts) ≡ turn_calls ts
ended-ends key [] = refl
ended-ends key (t ∷ ts) = ap (λ (l : List ℕ). t.call ∷ l) (ended-ends key ts)

module _ (p : PartState) (now : ℕ) where
  abbrev pub is_late : ActorCell → Bool
  is_late c = not (is_free c.inner) && (is_foreign ring_owner p c.key && is_overdue ring_owner p now c)

  pub tick-cell : (c : ActorCell) → late_cell is_late now c ≡ (tick_cell ring_owner p now c).cell
  tick-cell c = cond_both (is_late c) _ _ (λ (s : CellStep). late_cell is_late now c ≡ s.cell) (λ t. cond-true (is_late c) _ _ t) (λ f. cond-false (is_late c) _ _ f)

  pub tick-ended : (c : ActorCell) → late_calls is_late c ≡ ended_calls (tick_cell ring_owner p now c).marks
  tick-ended c =
      cond_both (is_late c) _ _ (λ (s : CellStep). late_calls is_late c ≡ ended_calls s.marks)
      (λ t. cond-true (is_late c) _ _ t ∙ sym (ended-ends c.key c.inner.turns)) (λ f. cond-false (is_late c) _ _ f)

  pub tick-number : (c : ActorCell) → late_number is_late c ≡ (tick_cell ring_owner p now c).first
  tick-number c = cond_both (is_late c) _ _ (λ (s : CellStep). late_number is_late c ≡ s.first) (λ t. cond-true (is_late c) _ _ t) (λ f. cond-false (is_late c) _ _ f)

-- ---- what is kept

-- numbers and counts of calls stay within what they were
pub record KeepsEach (drawn : ℕ) (f : ActorCell → CellStep) : Type 0 where
  pub numbered : (c : ActorCell) → IsNumbered drawn c.inner → IsNumbered drawn (f c).cell.inner
  pub calls : (c : ActorCell) → calls_in (f c).cell ≤ calls_in c

total-each : (f : ActorCell → CellStep) (cs : List ActorCell) → ((c : ActorCell) → calls_in (f c).cell ≤ calls_in c) → total_calls (each_cell f cs).cells ≤ total_calls cs
total-each f [] h = omega arith
total-each f (c ∷ cs) h = let l = total-each f cs h in let m = h c in omega arith

pub kept_each : (drawn room room' : ℕ) (f : ActorCell → CellStep) (cells : List ActorCell) → AreActorsKept drawn cells room → KeepsEach drawn f → room ≤ room' → AreActorsKept drawn (each_cell f cells).cells room'
kept_each drawn room room' f cells k e has =
    let t = total-each f cells e.calls in
    record {
      drawn_fits = k.drawn_fits;
      numbered = λ d i. let m = In-each_cell f cells d i in subst (λ (z : ActorCell). IsNumbered drawn z.inner) (sym m.2) (e.numbered m.0 (k.numbered m.0 m.1));
      few = (let l = length-each_cell f cells in let h = k.few in omega arith);
      counted = (let h = k.counted in omega arith);
      has_room = (let h = k.has_room in omega arith);
    }

pub opening_keeps : (drawn : ℕ) (p : PartState) → KeepsEach drawn (open_cell ring_owner p)
opening_keeps drawn p =
    record {
      numbered = λ c n. cond_both (is_own ring_owner p c.key) _ _ (λ (s : CellStep). IsNumbered drawn s.cell.inner)
          (λ _. numbered_next drawn c.inner (next_call (not c.closing) c.inner) (next_in_queue (not c.closing) c.inner) n) (λ _. numbered_moved drawn c.inner n);
      calls = λ c. cond_both (is_own ring_owner p c.key) _ _ (λ (s : CellStep). calls_in s.cell ≤ calls_in c)
          (λ _. let m = (begins_keeps (not c.closing) c.inner).as_many in omega arith)
          (λ _. let l = (moved_keeps c.inner).as_many in omega arith);
    }

pub ticking_keeps : (drawn now : ℕ) (p : PartState) → KeepsEach drawn (tick_cell ring_owner p now)
ticking_keeps drawn now p =
    record {
      numbered = λ c n. cond_both (not (is_free c.inner) && (is_foreign ring_owner p c.key && is_overdue ring_owner p now c)) _ _ (λ (s : CellStep). IsNumbered drawn s.cell.inner)
          (λ _. numbered_stopped drawn c.inner n) (λ _. n);
      calls = λ c. cond_both (not (is_free c.inner) && (is_foreign ring_owner p c.key && is_overdue ring_owner p now c)) _ _ (λ (s : CellStep). calls_in s.cell ≤ calls_in c)
          (λ _. omega arith) (λ _. omega arith);
    }

-- ---- a stop

ended-inactive : (active : Bool) (key : ActorKey) → ended_calls (marks_of_inactive active key) ≡ []
ended-inactive true key = refl
ended-inactive false key = refl

stop-cell : (c : ActorCell) (cs : List ActorCell) → ended_calls (marks_of_stop (c ∷ cs)) ≡ turn_calls c.inner.turns ++ ended_calls (marks_of_stop cs)
stop-cell c cs =
    ended-append (marks_of_ends c.key c.inner.turns ++ marks_of_inactive c.active c.key) (marks_of_stop cs)
    ∙ ap (λ (l : List ℕ). l ++ ended_calls (marks_of_stop cs))
    (ended-append (marks_of_ends c.key c.inner.turns) (marks_of_inactive c.active c.key)
    ∙ (λ i. ended-ends c.key c.inner.turns i ++ ended-inactive c.active c.key i) ∙ append_nil (turn_calls c.inner.turns))

pub stop-ended : (cs : List ActorCell) → each_list open_calls cs ≡ ended_calls (marks_of_stop cs)
stop-ended [] = refl
stop-ended (c ∷ cs) = ap (λ (l : List ℕ). turn_calls c.inner.turns ++ l) (stop-ended cs) ∙ sym (stop-cell c cs)
