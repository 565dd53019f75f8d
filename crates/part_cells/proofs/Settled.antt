-- Which changes leave a cell that is kept, and open turns only where the actor is awake.
use Rattle.std.proofs.Common.{◌≡◌, ◌⊎◌, ℕ, ◌+◌, ◌<◌, ◌≤◌, Bool, true, false, not, ◌&&◌, ◌||◌, List, [], ◌∷◌, ◌++◌, length, Option, Some, None, is_some, refl, sym, ap, subst, ◌∙◌, inl, inr, arith, length-append}
use Rattle.std.specs.Prelude.{◌==◌, nat_lt}
use Rattle.std.specs.declared.result.Result.TheVariants.{Ok}
use Rattle.std.proofs.lemmas.Bool.{cond_both, and_parts, eqb-true, lt-ltb, true≢false}
use Rattle.turn_core.specs.declared.cell.Waiter.{Waiter}
use Rattle.turn_core.specs.declared.answer.Asked.TheVariants as asked
use Rattle.turn_core.specs.declared.answer.CellPoll.TheVariants as polled
use Rattle.turn_core.specs.Cell.{CellState, AskStep, has_turn, is_first_chain, is_free, first_unmoved, kept_chain, with_waiter, admit_call, all_moved, with_queue_moved, without_turns, next_call, begun_next, is_in_cell, cell_poll}
use Rattle.turn_core.proofs.CellSteps.{ask_cases, nil_of_length}
use Rattle.turn_core.proofs.Presence.{has_or_not, KeepsCalls, left_was, left_others}
use Rattle.turn_core.proofs.Leaves.{begins_keeps, moved_keeps, polled_leaves, turns-polled}
use Rattle.part_model.specs.declared.actor_cell.ActorCell.{ActorCell}
use Rattle.part_model.specs.Cells.{is_kept, calls_in}
use Rattle.part_cells.specs.Slots.{is_awake, IsSettled, closed_cell, begun_cell, opened_cell}
use Rattle.part_cells.proofs.Keeping.{empty_has}

or-false : (b : Bool) → (b || false) ≡ b
or-false true = refl
or-false false = refl

or-true : (b : Bool) → (b || true) ≡ true
or-true true = refl
or-true false = refl

pub not_both : (b : Bool) → not b ≡ true → b ≡ false
not_both true e = absurd (cc)
not_both false e = refl

-- ---- awake actors

pub awake_settled : (x : ActorCell) → is_awake x ≡ true → IsSettled x
awake_settled x a =
    let h = and_parts x.active (not x.closing) a in
    record {
      kept = ap (λ b. b || nat_lt 0 (length x.inner.queue)) h.0;
      awake = λ f. absurd (true≢false (sym a ∙ f));
    }

-- an actor with an open turn is awake
pub turn_awake : (c : ActorCell) (call : ℕ) → IsSettled c → has_turn call c.inner.turns ≡ true → is_awake c ≡ true
turn_awake c call s h =
    elim (has_or_not (is_awake c)) [
      | inl t ↦ t
      | inr f ↦ absurd (true≢false (sym h ∙ ap (has_turn call) (s.awake f)))
    ]

asleep_closing : (c : ActorCell) → c.closing ≡ true → is_awake c ≡ false
asleep_closing c e = (λ i. c.active && not (e i)) ∙ go c.active
  where
    go : (b : Bool) → (b && false) ≡ false
    go true = refl
    go false = refl

-- a closing actor has no open turn
pub closing_free : (c : ActorCell) → IsSettled c → c.closing ≡ true → c.inner.turns ≡ []
closing_free c s e = s.awake (asleep_closing c e)

-- nor has one that isn't active
pub inactive_free : (c : ActorCell) → IsSettled c → c.active ≡ false → c.inner.turns ≡ []
inactive_free c s e = s.awake (ap (λ b. b && not c.closing) e)

-- ---- asks

-- in a closing cell no turn begins
pub begun_open : (c : ActorCell) (call : ℕ) (chain : Option (List ℕ)) (b : Bool) → IsSettled c → (admit_call c.inner call chain (b && not c.closing)).answer ≡ Ok asked.Begun → c.closing ≡ false
begun_open c call chain b s =
    ask_cases c.inner call chain (b && not c.closing) (λ (t : AskStep). t.answer ≡ Ok asked.Begun → c.closing ≡ false)
    (λ o _ _. elim (has_or_not c.closing) [
      | inl t ↦ (
          let none = closing_free c s t in
          let h = and_parts (nat_lt 0 c.inner.depth) (is_first_chain c.inner.turns (kept_chain c.inner chain)) o in
          absurd (true≢false (sym h.1 ∙ ap (λ ts. is_first_chain ts (kept_chain c.inner chain)) none))
          )
      | inr f ↦ f
    ])
    (λ e. absurd (cc))
    (λ _ m _. (let h = and_parts b (not c.closing) m in not_both c.closing h.1))
    (λ _ e. absurd (cc))
    (λ e. absurd (cc))

pub begun_settled : (c : ActorCell) (call : ℕ) (chain : Option (List ℕ)) (b : Bool) (i : CellState) → IsSettled c → (admit_call c.inner call chain (b && not c.closing)).answer ≡ Ok asked.Begun → IsSettled (record c { inner = i; active = true })
begun_settled c call chain b i s e = awake_settled (record c { inner = i; active = true }) (ap not (begun_open c call chain b s e))

waits_cell : (c : CellState) (call : ℕ) (chain : Option (List ℕ)) (b : Bool) (n : ℕ) → (admit_call c call chain b).answer ≡ Ok (asked.Waits n) → (admit_call c call chain b).cell ≡ with_waiter c call (kept_chain c chain)
waits_cell c call chain b n =
    ask_cases c call chain b (λ (t : AskStep). t.answer ≡ Ok (asked.Waits n) → t.cell ≡ with_waiter c call (kept_chain c chain))
    (λ _ _ e. absurd (cc)) (λ e. absurd (cc)) (λ _ _ e. absurd (cc)) (λ _ e. refl) (λ e. absurd (cc))

-- a cell with a queue is kept
pub queue_kept : (x : ActorCell) → 0 < length x.inner.queue → is_kept x ≡ true
queue_kept x l = ap (λ b. x.active || b) (lt-ltb 0 (length x.inner.queue) l) ∙ or-true x.active

pub waits_settled : (c : ActorCell) (call : ℕ) (chain : Option (List ℕ)) (b : Bool) (n : ℕ) → IsSettled c → (admit_call c.inner call chain b).answer ≡ Ok (asked.Waits n) → IsSettled (record c { inner = (admit_call c.inner call chain b).cell })
waits_settled c call chain b n s e =
    subst (λ (i : CellState). IsSettled (record c { inner = i })) (sym (waits_cell c.inner call chain b n e)) (
    record {
      kept = queue_kept (record c { inner = with_waiter c.inner call (kept_chain c.inner chain) })
          (let l : length (c.inner.queue ++ record { call = call; chain = kept_chain c.inner chain; moved = false } ∷ []) ≡ length c.inner.queue + 1 = simp length-append in omega arith);
      awake = s.awake;
    }
    )

-- ---- a moved call is polled

module _ (c : ActorCell) (call : ℕ) (s : IsSettled c) (e : (cell_poll c.inner call).answer ≡ polled.Moved) where
  -- the cell stays if it is active or another call waits
  pub polled_settled : (c.active ≡ true) ⊎ (1 < length c.inner.queue) → IsSettled (record c { inner = (cell_poll c.inner call).cell })
  polled_settled h =
      record {
        kept = elim h [
          | inl a ↦ ap (λ b. b || nat_lt 0 (length (cell_poll c.inner call).cell.queue)) a
          | inr l ↦ queue_kept (record c { inner = (cell_poll c.inner call).cell }) (let f = (polled_leaves c.inner call e).fewer in let t = ap (λ ts. length ts) (turns-polled c.inner call e) in omega arith)
        ];
        awake = λ f. turns-polled c.inner call e ∙ s.awake f;
      }

  -- else nothing is left in it
  module _ (idle : c.active ≡ false) (last : length c.inner.queue ≤ 1) where
    left_queue : (cell_poll c.inner call).cell.queue ≡ []
    left_queue =
        let f = (polled_leaves c.inner call e).fewer in
        let t = ap (λ ts. length ts) (turns-polled c.inner call e) in
        nil_of_length (cell_poll c.inner call).cell.queue (omega arith)

    left_turns : (cell_poll c.inner call).cell.turns ≡ []
    left_turns = turns-polled c.inner call e ∙ inactive_free c s idle

    pub polled_unkept : is_kept (record c { inner = (cell_poll c.inner call).cell }) ≡ false
    polled_unkept = λ i. idle i || nat_lt 0 (length (left_queue i))

    pub polled_only : (m : ℕ) → is_in_cell m c.inner ≡ (m == call)
    polled_only m =
        let l = polled_leaves c.inner call e in
        elim (has_or_not (m == call)) [
          | inl t ↦ (let was = left_was call c.inner (cell_poll c.inner call).cell l in same_call m t was ∙ sym t)
          | inr f ↦ sym (left_others call c.inner (cell_poll c.inner call).cell l m f) ∙ empty_has (record c { inner = (cell_poll c.inner call).cell }) left_turns left_queue m ∙ sym f
        ]
      where
        same_call : (m : ℕ) → (m == call) ≡ true → is_in_cell call c.inner ≡ true → is_in_cell m c.inner ≡ true
        same_call m t w = ap (λ (z : ℕ). is_in_cell z c.inner) (eqb-true m call t) ∙ w

    pub polled_one : calls_in c ≡ 1
    polled_one =
        let f = (polled_leaves c.inner call e).fewer in
        let a = ap (λ ts. length ts) left_turns in
        let b = ap (λ ws. length ws) left_queue in
        omega arith

-- ---- a deactivation is over

no_next : (b : Bool) (c : CellState) → c.queue ≡ [] → next_call b c ≡ None
no_next b c e = cond_both (b && is_free c) (first_unmoved c.queue) None (λ (r : Option Waiter). r ≡ None) (λ _. ap first_unmoved e) (λ _. refl)

module _ (c : ActorCell) (b : Bool) (s : IsSettled c) (closing : c.closing ≡ true) where
  -- a cell with an empty queue is dropped
  pub closed_none : c.inner.queue ≡ [] → next_call b c.inner ≡ None
  closed_none e = no_next b c.inner e

  pub closed_unkept : c.inner.queue ≡ [] → is_kept (closed_cell c b) ≡ false
  closed_unkept e =
      (λ i. is_some (no_next b c.inner e i) || nat_lt 0 (length (begun_next c.inner (no_next b c.inner e i)).queue))
      ∙ ap (λ ws. nat_lt 0 (length ws)) e

  closed_at : (next : Option Waiter) → 0 < length c.inner.queue → IsSettled (record c { inner = begun_next c.inner next; active = is_some next; closing = false })
  closed_at None l = record { kept = queue_kept (record c { active = false; closing = false }) l; awake = λ _. closing_free c s closing }
  closed_at (Some w) l = awake_settled (record c { inner = begun_next c.inner (Some w); active = true; closing = false }) refl

  pub closed_settled : 0 < length c.inner.queue → IsSettled (closed_cell c b)
  closed_settled l = closed_at (next_call b c.inner) l

-- ---- passes

begun_at : (c : ActorCell) (next : Option Waiter) → IsSettled c → (is_some next ≡ true → c.closing ≡ false) → IsSettled (begun_cell c next)
begun_at c None s h =
    record {
      kept = (λ i. or-false c.active i || nat_lt 0 (length c.inner.queue)) ∙ s.kept;
      awake = λ f. s.awake ((λ i. sym (or-false c.active) i && not c.closing) ∙ f);
    }
begun_at c (Some w) s h = awake_settled (begun_cell c (Some w)) ((λ i. or-true c.active i && not (h refl i)))

next_open : (c : ActorCell) → is_some (next_call (not c.closing) c.inner) ≡ true → c.closing ≡ false
next_open c =
    cond_both (not c.closing && is_free c.inner) (first_unmoved c.inner.queue) None (λ (r : Option Waiter). is_some r ≡ true → c.closing ≡ false)
    (λ t _. (let h = and_parts (not c.closing) (is_free c.inner) t in not_both c.closing h.0))
    (λ _ e. absurd (cc))

moved_settled : (c : ActorCell) → IsSettled c → IsSettled (record c { inner = with_queue_moved c.inner })
moved_settled c s =
    record {
      kept = (let l = (moved_keeps c.inner).as_many in let m : length (all_moved c.inner.queue) ≡ length c.inner.queue = omega arith in ap (λ (n : ℕ). c.active || nat_lt 0 n) m) ∙ s.kept;
      awake = s.awake;
    }

pub opened_settled : (own : ActorCell → Bool) (c : ActorCell) → IsSettled c → IsSettled (opened_cell own c)
opened_settled own c s = cond_both (own c) _ _ IsSettled (λ _. begun_at c (next_call (not c.closing) c.inner) s (next_open c)) (λ _. moved_settled c s)

pub opened_keeps : (own : ActorCell → Bool) (c : ActorCell) → KeepsCalls c.inner (opened_cell own c).inner
opened_keeps own c =
    cond_both (own c) (begun_cell c (next_call (not c.closing) c.inner)) (record c { inner = with_queue_moved c.inner }) (λ (x : ActorCell). KeepsCalls c.inner x.inner)
    (λ _. begins_keeps (not c.closing) c.inner) (λ _. moved_keeps c.inner)

pub opened-key : (own : ActorCell → Bool) (c : ActorCell) → (opened_cell own c).key ≡ c.key
opened-key own c = cond_both (own c) (begun_cell c (next_call (not c.closing) c.inner)) (record c { inner = with_queue_moved c.inner }) (λ (x : ActorCell). x.key ≡ c.key) (λ _. refl) (λ _. refl)

pub late_settled : (c : ActorCell) (now : ℕ) → IsSettled c → IsSettled (record c { inner = without_turns c.inner; last = now })
late_settled c now s = record { kept = s.kept; awake = λ _. refl }
