-- The cell rule, case by case.
use Rattle.std.proofs.Common.{◌≡◌, ℕ, Bool, true, ◌&&◌, ◌+◌, ◌<◌, List, [], ◌∷◌, length, Option, None, Some, IsSome, refl, ap, inl, inr, arith}
use Rattle.std.specs.Prelude.{nat_lt, ◌==◌}
use Rattle.std.specs.declared.result.Result.TheVariants.{Ok, Err}
use Rattle.std.proofs.lemmas.Bool.{and_parts, eqb-true, eqb-false, ltb-true, lt-ltb, le-ltb, cond_both, false≢true}
use Rattle.std.proofs.lemmas.Slice.Eq.{bytes_eq-Decides}
use Rattle.turn_core.specs.declared.cell.Turn.{Turn}
use Rattle.turn_core.specs.declared.cell.Waiter.{Waiter}
use Rattle.turn_core.specs.declared.answer.Asked.TheVariants as asked
use Rattle.turn_core.specs.declared.answer.CellError.TheVariants as refused
use Rattle.turn_core.specs.Cell.{CellState, AskStep, is_free, is_first_chain, is_open_chain, same_chain, kept_chain, first_unmoved, with_turn, with_waiter, admit_call, longest_queue}
use Rattle.turn_core.specs.CellSound.{In, FitsDepth}

pub nil_of_length : {A : Type 0} (xs : List A) → length xs ≡ 0 → xs ≡ []
nil_of_length [] e = refl
nil_of_length (x ∷ xs) e = absurd (omega arith)

pub free_turns : (c : CellState) → is_free c ≡ true → c.turns ≡ []
free_turns c e = nil_of_length c.turns (eqb-true (length c.turns) 0 e)

pub same_chain-true : (a b : Option (List ℕ)) → same_chain a b ≡ true → a ≡ b
same_chain-true None None e = refl
same_chain-true None (Some b) e = absurd (false≢true e)
same_chain-true (Some a) None e = absurd (false≢true e)
same_chain-true (Some a) (Some b) e = ap (λ (z : List ℕ). Some z) ((bytes_eq-Decides a b).0 e)

-- if the first turn carries the chain, some turn does
pub first_chain : (ts : List Turn) (chain : Option (List ℕ)) → is_first_chain ts chain ≡ true → (t : Turn) × In t ts × (t.chain ≡ chain)
first_chain [] chain e = absurd (false≢true e)
first_chain (t ∷ ts) chain e = (t, inl refl, same_chain-true t.chain chain e)

-- a call keeps a chain exactly if reentrancy is on
pub kept_chain-fits : (c : CellState) (chain : Option (List ℕ)) → (0 < c.depth → IsSome chain) → FitsDepth c.depth (kept_chain c chain)
kept_chain-fits c chain given =
    cond_both (c.depth == 0) _ _ (λ r. FitsDepth c.depth r)
    (λ off. let p = eqb-true c.depth 0 off in let q = le-ltb 0 c.depth (omega arith) in cc)
    (λ on. let p = eqb-false c.depth 0 on in let l : 0 < c.depth = omega arith in let q = lt-ltb 0 c.depth l in let g = given l in cc)

-- one argument for each outcome of an ask, with what is known there
pub ask_cases : (c : CellState) (call : ℕ) (chain : Option (List ℕ)) (may_begin : Bool) (P : AskStep → Type 0)
    → (is_open_chain c (kept_chain c chain) ≡ true → length c.turns < c.depth → P (record { cell = with_turn c call (kept_chain c chain); answer = Ok asked.Begun }))
    → (P (record { cell = c; answer = Err (refused.Depth (length c.turns)) }))
    → (c.turns ≡ [] → may_begin ≡ true → P (record { cell = with_turn c call (kept_chain c chain); answer = Ok asked.Begun }))
    → (length c.queue < longest_queue → P (record { cell = with_waiter c call (kept_chain c chain); answer = Ok (asked.Waits (length c.queue + 1)) }))
    → (P (record { cell = c; answer = Err (refused.QueueFull (length c.queue)) }))
    → P (admit_call c call chain may_begin)
ask_cases c call chain may_begin P again deep fresh waits full =
    cond_both (is_open_chain c (kept_chain c chain)) _ _ P
    (λ o. cond_both (nat_lt (length c.turns) c.depth) _ _ P (λ l. again o (ltb-true _ _ l)) (λ _. deep))
    (λ o. cond_both (is_free c && may_begin) _ _ P
    (λ f. let h = and_parts (is_free c) may_begin f in fresh (free_turns c h.0) h.1)
    (λ f. cond_both (nat_lt (length c.queue) longest_queue) _ _ P (λ l. waits (ltb-true _ _ l)) (λ _. full)))

pub In-first_unmoved : (ws : List Waiter) (w : Waiter) → first_unmoved ws ≡ Some w → In w ws
In-first_unmoved [] w e = absurd (cc)
In-first_unmoved (v ∷ ws) w e =
    let more = In-first_unmoved ws w in
    cond_both v.moved _ _ (λ r. r ≡ Some w → In w (v ∷ ws)) (λ _ q. inr (more q)) (λ _ q. inl (cc)) e

pub depth-admit_call : (c : CellState) (call : ℕ) (chain : Option (List ℕ)) (may_begin : Bool) → (admit_call c call chain may_begin).cell.depth ≡ c.depth
depth-admit_call c call chain may_begin =
    ask_cases c call chain may_begin (λ (s : AskStep). s.cell.depth ≡ c.depth) (λ _ _. refl) refl (λ _ _. refl) (λ _. refl) refl
