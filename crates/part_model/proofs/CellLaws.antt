-- One cell of a part: what its look-ups find, what each change of it keeps, and what waits after it.
use Rattle.std.proofs.Common.{◌≡◌, ◌⊎◌, ℕ, Bool, true, false, ◌&&◌, ◌+◌, ◌<◌, List, [], ◌∷◌, ◌++◌, length, Option, None, Some, refl, ap, subst, ◌∙◌, inl, inr, arith}
use Rattle.std.specs.Prelude.{nat_lt, ◌==◌}
use Rattle.std.specs.declared.result.Result.TheVariants.{Ok, Err}
use Rattle.std.proofs.lemmas.Bool.{and_parts, eqb-true, ltb-true, le-ltb, cond_both, false≢true}
use Rattle.actor_names.specs.declared.actor_key.ActorKey.{ActorKey}
use Rattle.turn_core.specs.declared.cell.Turn.{Turn}
use Rattle.turn_core.specs.declared.cell.Waiter.{Waiter}
use Rattle.turn_core.specs.declared.answer.Asked.TheVariants as asked
use Rattle.turn_core.specs.declared.answer.CellError.TheVariants as deny
use Rattle.turn_core.specs.Cell.{CellState, AskStep, is_free, is_open_chain, kept_chain, has_turn, first_unmoved, all_moved, with_turn, with_waiter, admit_call, begun_next, next_call, longest_queue, is_in_cell}
use Rattle.turn_core.specs.CellSound.{In, IsCellSound}
use Rattle.turn_core.proofs.Elements.{In-without_first}
use Rattle.turn_core.proofs.CellSteps.{free_turns}
use Rattle.turn_core.proofs.CellKeeps.{next_begins, new_cell_sound}
use Rattle.part_model.specs.declared.actor_cell.ActorCell.{ActorCell}
use Rattle.part_model.specs.Cells.{cell_of_call, first_cell}
use Rattle.part_model.specs.Sound.{IsActorSound, HasNoWaiter}

-- ---- look-ups

pub In-cell_of_call : (cs : List ActorCell) (call : ℕ) (c : ActorCell) → cell_of_call cs call ≡ Some c → In c cs
In-cell_of_call [] call c e = absurd (cc)
In-cell_of_call (d ∷ cs) call c e =
    let more = In-cell_of_call cs call c in
    cond_both (is_in_cell call d.inner) _ _ (λ r. r ≡ Some c → In c (d ∷ cs)) (λ _ q. inl (cc)) (λ _ q. inr (more q)) e

-- ---- turns and queues

pub In-has_turn : (call : ℕ) (ts : List Turn) → has_turn call ts ≡ true → (t : Turn) × In t ts
In-has_turn call [] e = absurd (false≢true e)
In-has_turn call (t ∷ ts) e = (t, inl refl)

pub moved_of_none : (ws : List Waiter) → first_unmoved ws ≡ None → (w : Waiter) → In w ws → w.moved ≡ true
moved_of_none [] e w h = absurd h
moved_of_none (v ∷ ws) e w h =
    let more = moved_of_none ws in
    cond_both v.moved _ _ (λ r. r ≡ None → w.moved ≡ true)
    (λ m q. elim h [ inl s ↦ ap (λ (z : Waiter). z.moved) s ∙ m | inr i ↦ more q w i ])
    (λ m q. absurd (cc)) e

pub all_moved_moved : (ws : List Waiter) (w : Waiter) → In w (all_moved ws) → w.moved ≡ true
all_moved_moved [] w h = absurd h
all_moved_moved (v ∷ ws) w (inl e) = ap (λ (z : Waiter). z.moved) e
all_moved_moved (v ∷ ws) w (inr i) = all_moved_moved ws w i

pub length-all_moved : (ws : List Waiter) → length (all_moved ws) ≡ length ws
length-all_moved [] = refl
length-all_moved (w ∷ ws) = let more = length-all_moved ws in omega arith

pub not_nil_after : (ts : List Turn) (t : Turn) → ts ++ t ∷ [] ≡ [] → ⊥
not_nil_after [] t e = cc
not_nil_after (u ∷ ts) t e = cc

pub free_of_nil : (c : CellState) → c.turns ≡ [] → is_free c ≡ true
free_of_nil c e = ap (λ (ts : List Turn). length ts == 0) e

-- ---- the cases of each call

-- the chain that the cell keeps is open exactly if the one that was brought is
pub is_open_chain-kept : (c : CellState) (chain : Option (List ℕ)) → is_open_chain c (kept_chain c chain) ≡ is_open_chain c chain
is_open_chain-kept c chain =
    cond_both (c.depth == 0) _ _ (λ r. is_open_chain c r ≡ is_open_chain c chain)
    (λ off. let p = eqb-true c.depth 0 off in let q : nat_lt 0 c.depth ≡ false = le-ltb 0 c.depth (omega arith) in rw q refl)
    (λ on. refl)

-- one argument for each outcome of an ask, with what is known there
pub admit_cases : (c : CellState) (call : ℕ) (chain : Option (List ℕ)) (may_begin : Bool) (P : AskStep → Type 0)
    → (is_open_chain c (kept_chain c chain) ≡ true → length c.turns < c.depth → P (record { cell = with_turn c call (kept_chain c chain); answer = Ok asked.Begun }))
    → (P (record { cell = c; answer = Err (deny.Depth (length c.turns)) }))
    → (c.turns ≡ [] → may_begin ≡ true → P (record { cell = with_turn c call (kept_chain c chain); answer = Ok asked.Begun }))
    → (is_open_chain c (kept_chain c chain) ≡ false → (is_free c && may_begin) ≡ false → P (record { cell = with_waiter c call (kept_chain c chain); answer = Ok (asked.Waits (length c.queue + 1)) }))
    → (P (record { cell = c; answer = Err (deny.QueueFull (length c.queue)) }))
    → P (admit_call c call chain may_begin)
admit_cases c call chain may_begin P again deep fresh waits full =
    cond_both (is_open_chain c (kept_chain c chain)) _ _ P
    (λ o. cond_both (nat_lt (length c.turns) c.depth) _ _ P (λ l. again o (ltb-true _ _ l)) (λ _. deep))
    (λ o. cond_both (is_free c && may_begin) _ _ P
    (λ f. let h = and_parts (is_free c) may_begin f in fresh (free_turns c h.0) h.1)
    (λ f. cond_both (nat_lt (length c.queue) longest_queue) _ _ P (λ l. waits o f) (λ _. full)))

-- the next call begins, or none does, for one of two reasons
pub next_cases : (b : Bool) (c : CellState) (P : Option Waiter → Type 0)
    → ((b && is_free c) ≡ false ⊎ (first_unmoved c.queue ≡ None) → P None)
    → (b ≡ true → c.turns ≡ [] → (w : Waiter) → first_unmoved c.queue ≡ Some w → P (Some w))
    → P (next_call b c)
next_cases b c P none some =
    cond_both (b && is_free c) _ _ P
    (λ f. let h = and_parts b (is_free c) f in go h.0 (free_turns c h.1) (first_unmoved c.queue) refl)
    (λ f. none (inl f))
  where
    go : b ≡ true → c.turns ≡ [] → (r : Option Waiter) → first_unmoved c.queue ≡ r → P r
    go t f None e = none (inr e)
    go t f (Some w) e = some t f w e

-- ---- soundness of one cell

-- a cell that was never called
pub first_sound : (key : ActorKey) (depth : ℕ) → IsActorSound (first_cell key depth)
first_sound key depth =
    record {
      sound = new_cell_sound depth;
      open_active = λ t i. absurd i;
      closing_active = λ e. absurd (false≢true e);
      closing_free = λ e. absurd (false≢true e);
      closing_unheld = λ e. absurd (false≢true e);
    }

-- a cell that is active and not closing
pub open_sound : (x : ActorCell) → IsCellSound x.inner → x.active ≡ true → (x.closing ≡ true → ⊥) → IsActorSound x
open_sound x s a k =
    record {
      sound = s;
      open_active = λ t i. a;
      closing_active = λ e. absurd (k e);
      closing_free = λ e. absurd (k e);
      closing_unheld = λ e. absurd (k e);
    }

-- a cell whose turns are among those of another
pub less_sound : (c x : ActorCell) → IsActorSound c → IsCellSound x.inner → ((t : Turn) → In t x.inner.turns → In t c.inner.turns) → x.active ≡ c.active → (x.closing ≡ true → (x.active ≡ true) × (x.inner.turns ≡ []) × (x.inner.holds ≡ 0)) → IsActorSound x
less_sound c x s inner among active closing =
    record {
      sound = inner;
      open_active = λ t i. active ∙ s.open_active t (among t i);
      closing_active = λ e. (closing e).0;
      closing_free = λ e. (closing e).1;
      closing_unheld = λ e. (closing e).2;
    }

pub closing_facts : (c : ActorCell) → IsActorSound c → c.closing ≡ true → (c.active ≡ true) × (c.inner.turns ≡ []) × (c.inner.holds ≡ 0)
closing_facts c s e = (s.closing_active e, s.closing_free e, s.closing_unheld e)

-- a cell with an open turn isn't closing
pub not_closing : (c : ActorCell) → IsActorSound c → (t : Turn) → In t c.inner.turns → c.closing ≡ true → ⊥
not_closing c s t i k = let e = s.closing_free k in absurd (subst (λ (ts : List Turn). In t ts) e i)

-- the call that waited has begun in a free cell
pub begun_sound : (c : CellState) (w : Waiter) → IsCellSound c → c.turns ≡ [] → first_unmoved c.queue ≡ Some w → IsCellSound (begun_next c (Some w))
begun_sound c w s free e = (next_begins c (Some w) s free e).sound

-- ---- waiters

pub fewer_waiters : (c x : CellState) → ((w : Waiter) → In w x.queue → In w c.queue) → HasNoWaiter c → HasNoWaiter x
fewer_waiters c x among h w i = h w (among w i)

-- if no unmoved call waited before a call began, none waits afterwards
pub begun_waiters : (c : CellState) (w : Waiter) → HasNoWaiter c → HasNoWaiter (begun_next c (Some w))
begun_waiters c w h v i = h v (In-without_first c.queue v i)
