-- What a run's log says of one actor's cell: each waiting call was made at this actor, with its chain, and none waits
-- if nothing is open.
use Rattle.std.proofs.Common.{◌≡◌, inl, inr, ℕ, ◌&&◌, Bool, true, false, if◌then◌else◌, List, [], ◌∷◌, ◌++◌, length, Option, None, Some, refl, sym, ap, subst, ◌∙◌, arith}
use Rattle.std.specs.Prelude.{◌==◌, unwrap_or}
use Rattle.std.proofs.lemmas.Bool.{and_parts, cond_both, false≢true}
use Rattle.std.proofs.lemmas.List.{length_push}
use Rattle.actor_names.specs.Names.{before_slash}
use Rattle.turn_core.specs.declared.cell.Turn.{Turn}
use Rattle.turn_core.specs.declared.cell.Waiter.{Waiter}
use Rattle.turn_core.specs.Cell.{CellState, AskStep, EndStep, PollStep, new_cell, is_free, is_open_chain, is_first_chain, kept_chain, has_turn, waiter_of, first_unmoved, without_waiter, admit_call, begun_next, next_call, without_call, cell_end, poll_waiter, cell_poll}
use Rattle.turn_core.specs.CellSound.{In}
use Rattle.turn_core.proofs.Elements.{In-push, In-without_waiter, In-without_first}
use Rattle.turn_core.proofs.CellSteps.{ask_cases, In-first_unmoved}
use Rattle.solo_run.specs.World.{TypeDepth, depth_of, chain_for, made_chain, ask_at}
use Rattle.solo_run.specs.Runs.{Said}
use Rattle.solo_run.specs.TurnsTold.{asked_call}
use Rattle.solo_run.proofs.LogLemmas.{asked-found}

-- a waiting call: it was made at this actor, and its chain is the one that it brought, or one made for it
pub record WaiterFollows (depths : List TypeDepth) (log : List Said) (key : List ℕ) (v : Waiter) : Type 0 where
  pub unmoved : v.moved ≡ false
  pub brought : Option (List ℕ)
  pub asked : asked_call v.call log ≡ Some (record { key = key; chain = brought })
  pub chain : v.chain ≡ chain_for (depth_of (before_slash key) depths) v.call brought

pub record CellFollows (depths : List TypeDepth) (log : List Said) (key : List ℕ) (cell : CellState) : Type 0 where
  pub depth : cell.depth ≡ depth_of (before_slash key) depths
  pub queue : (v : Waiter) → In v cell.queue → WaiterFollows depths log key v
  pub busy : cell.turns ≡ [] → cell.queue ≡ []

-- a list with one element more isn't empty
some-last : {A : Type 0} (xs : List A) (x : A) → xs ++ x ∷ [] ≡ [] → ⊥
some-last xs x e = absurd (omega (arith, length_push xs x, ap length e))

-- at depth 0 a call has no chain to keep
pub kept-chain_for : (c : CellState) (n : ℕ) (chain : Option (List ℕ)) → kept_chain c (chain_for c.depth n chain) ≡ chain_for c.depth n chain
kept-chain_for c n chain = by (c.depth == 0)
  where
    by : (b : Bool) → (if b then None else (if b then None else Some (unwrap_or chain (made_chain n)))) ≡ (if b then None else Some (unwrap_or chain (made_chain n)))
    by true = refl
    by false = refl

-- ---- no call waits where nothing is open

free_begins : (depth holds n : ℕ) (queue : List Waiter) (chain : Option (List ℕ)) → (admit_call (record { depth = depth; turns = []; queue = queue; holds = holds }) n chain true).cell.turns ≡ [] → ⊥
free_begins depth holds n queue chain =
    let c : CellState = record { depth = depth; turns = []; queue = queue; holds = holds } in
    cond_both (is_open_chain c (kept_chain c chain)) _ _ (λ (s : AskStep). s.cell.turns ≡ [] → ⊥)
    (λ o _. false≢true (and_parts _ (is_first_chain [] (kept_chain c chain)) o).1)
    (λ _ e. absurd (cc))

asks_busy : (c : CellState) (n : ℕ) (chain : Option (List ℕ)) → (c.turns ≡ [] → c.queue ≡ []) → (admit_call c n chain true).cell.turns ≡ [] → (admit_call c n chain true).cell.queue ≡ []
asks_busy c n chain busy = by c.turns refl
  where
    by : (ts : List Turn) → c.turns ≡ ts → (admit_call c n chain true).cell.turns ≡ [] → (admit_call c n chain true).cell.queue ≡ []
    by [] e none =
        let free : CellState = record { depth = c.depth; turns = []; queue = c.queue; holds = c.holds } in
        let same : c ≡ free = ap (λ (ts : List Turn). record c { turns = ts }) e in
        absurd (free_begins c.depth c.holds n c.queue chain (subst (λ (d : CellState). (admit_call d n chain true).cell.turns ≡ []) same none))
    by (t ∷ ts) e some =
        ask_cases c n chain true (λ (s : AskStep). s.cell.turns ≡ [] → s.cell.queue ≡ [])
        (λ _ _ none. absurd (some-last c.turns _ none))
        (λ none. absurd (cc))
        (λ _ _ none. absurd (some-last c.turns _ none))
        (λ _ none. absurd (cc))
        (λ none. absurd (cc))
        some

-- a queue with neither a moved call nor an unmoved one is empty
none_left : (ws : List Waiter) → ((v : Waiter) → In v ws → v.moved ≡ false) → first_unmoved ws ≡ None → ws ≡ []
none_left [] each e = refl
none_left (v ∷ rest) each e =
    let here : v.moved ≡ false = each v (inl refl) in
    cond_both v.moved _ _ (λ (r : Option Waiter). r ≡ None → v ∷ rest ≡ []) (λ moved _. absurd (false≢true (sym here ∙ moved))) (λ _ found. absurd (cc)) e

-- the call that begins when another ends was waiting
pub next_in : (c : CellState) (w : Waiter) → next_call true c ≡ Some w → In w c.queue
next_in c w =
    cond_both (true && is_free c) _ _ (λ (r : Option Waiter). r ≡ Some w → In w c.queue) (λ _ e. In-first_unmoved c.queue w e) (λ _ e. absurd (cc))

module _ (depths : List TypeDepth) (log : List Said) (key : List ℕ) where
  pub new_follows : CellFollows depths log key (new_cell (depth_of (before_slash key) depths))
  new_follows = record { depth = refl; queue = λ v i. absurd i; busy = λ _. refl }

  -- the log has this call of the actor already
  pub ask_follows : (c : CellState) (n : ℕ) (chain : Option (List ℕ)) → CellFollows depths log key c → asked_call n log ≡ Some (record { key = key; chain = chain })
      → CellFollows depths log key (ask_at c n chain).cell
  ask_follows c n chain f asked =
      let kept = chain_for c.depth n chain in
      record {
        depth = ask_cases c n kept true (λ (s : AskStep). s.cell.depth ≡ depth_of (before_slash key) depths) (λ _ _. f.depth) f.depth (λ _ _. f.depth) (λ _. f.depth) f.depth;
        queue = ask_cases c n kept true (λ (s : AskStep). (v : Waiter) → In v s.cell.queue → WaiterFollows depths log key v)
            (λ _ _. f.queue) f.queue (λ _ _. f.queue)
            (λ _ v i. elim (In-push c.queue _ v i) [ inl old ↦ f.queue v old | inr new ↦ subst (λ (w : Waiter). WaiterFollows depths log key w) (sym new) last ])
            f.queue;
        busy = asks_busy c n kept f.busy;
      }
    where
      last : WaiterFollows depths log key (record { call = n; chain = kept_chain c (chain_for c.depth n chain); moved = false })
      last = record { unmoved = refl; brought = chain; asked = asked; chain = kept-chain_for c n chain ∙ ap (λ (d : ℕ). chain_for d n chain) f.depth }

  -- the first call in the queue begins if nothing is open
  next_follows : (c : CellState) → c.depth ≡ depth_of (before_slash key) depths → ((v : Waiter) → In v c.queue → WaiterFollows depths log key v)
      → CellFollows depths log key (begun_next c (next_call true c))
  next_follows c depth queue =
      cond_both (true && is_free c) _ _ (λ (r : Option Waiter). CellFollows depths log key (begun_next c r)) (λ free. begins (first_unmoved c.queue) refl) (λ busy. stays busy)
    where
      begins : (next : Option Waiter) → first_unmoved c.queue ≡ next → CellFollows depths log key (begun_next c next)
      begins None e = record { depth = depth; queue = queue; busy = λ _. none_left c.queue (λ v i. (queue v i).unmoved) e }
      begins (Some w) e = record { depth = depth; queue = λ v i. queue v (In-without_first c.queue v i); busy = λ none. absurd (some-last c.turns _ none) }

      stays : (true && is_free c) ≡ false → CellFollows depths log key c
      stays busy = record { depth = depth; queue = queue; busy = λ none. (let free : (length c.turns == 0) ≡ true = ap (λ (ts : List Turn). length ts == 0) none in absurd (false≢true (sym busy ∙ free))) }

  pub end_follows : (c : CellState) (call : ℕ) → CellFollows depths log key c → CellFollows depths log key (cell_end c call true).cell
  end_follows c call f =
      cond_both (has_turn call c.turns) _ _ (λ (s : EndStep). CellFollows depths log key s.cell) (λ _. next_follows (without_call c call) f.depth f.queue) (λ _. f)

  pub poll_follows : (c : CellState) (call : ℕ) → CellFollows depths log key c → CellFollows depths log key (cell_poll c call).cell
  poll_follows c call f =
      cond_both (has_turn call c.turns) _ _ (λ (s : PollStep). CellFollows depths log key s.cell) (λ _. f) (λ _. by (waiter_of call c.queue))
    where
      by : (found : Option Waiter) → CellFollows depths log key (poll_waiter c call found).cell
      by None = f
      by (Some w) =
          cond_both w.moved _ _ (λ (s : PollStep). CellFollows depths log key s.cell)
          (λ _. record { depth = f.depth; queue = λ v i. f.queue v (In-without_waiter call c.queue v i); busy = λ none. ap (λ (ws : List Waiter). without_waiter call ws) (f.busy none) })
          (λ _. f)

  pub holds_follow : (c : CellState) (holds : ℕ) → CellFollows depths log key c → CellFollows depths log key (record c { holds = holds })
  holds_follow c holds f = record { depth = f.depth; queue = f.queue; busy = f.busy }

  -- a longer log says the same
  pub longer_follows : (more : List Said) (c : CellState) → CellFollows depths log key c → CellFollows depths (log ++ more) key c
  longer_follows more c f =
      record {
        depth = f.depth;
        queue = λ v i. (let q = f.queue v i in record { unmoved = q.unmoved; brought = q.brought; asked = asked-found v.call (record { key = key; chain = q.brought }) log more q.asked; chain = q.chain });
        busy = f.busy;
      }
