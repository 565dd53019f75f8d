-- How many active actors of other owners there are after each event of an updated part.
use Rattle.std.proofs.Common.{◌≡◌, ℕ, Bool, true, false, not, ◌&&◌, ◌||◌, ◌+◌, List, [], ◌∷◌, length, Option, None, Some, is_some, refl, sym, ap, ◌∙◌, inl, inr, arith}
use Rattle.std.specs.Prelude.{nat_lt, ◌==◌, max, if◌then◌else◌}
use Rattle.std.proofs.lemmas.Bool.{and_parts, cond_both, cases_Bool, ne_eqb, false≢true, true≢false}
use Rattle.actor_names.specs.declared.actor_key.ActorKey.{ActorKey}
use Rattle.place_table.specs.declared.host.HostInfo.{HostInfo}
use Rattle.place_table.specs.Hosts.{PlacementTable}
use Rattle.turn_core.specs.declared.cell.Waiter.{Waiter}
use Rattle.turn_core.specs.Cell.{AskStep, EndStep, PollStep, is_free, is_first_chain, is_open_chain, kept_chain, has_turn, waiter_of, without_waiter, without_call, begun_next, next_call, admit_call, poll_waiter, not_open, with_turn, with_waiter, with_hold, without_hold}
use Rattle.turn_core.specs.CellSound.{In}
use Rattle.turn_core.proofs.CellSteps.{first_chain}
use Rattle.part_model.specs.declared.stage.Stage.{Stage}
use Rattle.part_model.specs.declared.stage.Stage.TheVariants.{Updated}
use Rattle.part_model.specs.declared.actor_cell.ActorCell.{ActorCell}
use Rattle.part_model.specs.Cells.{cell_at, cell_of_call, keep_cell, is_kept, total}
use Rattle.part_model.proofs.Changes.{at-In}
use Rattle.part_model.proofs.Elements.{In-cell_at, key-cell_at}
use Rattle.part_model.proofs.Sizes.{total-keep-changed, total-keep-missing}
use Rattle.part_core.specs.Actors.{foreign_in, total_foreign, is_closed}
use Rattle.part_model.specs.Part
use Rattle.part_model.specs.Part.{PartState, PartStep, CellStep, asked_step, ask_cell, found_or_first, is_spent, is_open, is_own, is_foreign, may_begin, no_active_foreign, is_drained, each_cell}
use Rattle.part_model.specs.Sound.{IsPartSound}
use Rattle.part_model.proofs.CellLaws.{In-cell_of_call, admit_cases}
use Rattle.part_model.proofs.PartSteps.{In-first_to_close}
use Rattle.part_model.proofs.PartWrites.{open_stage, updated_not_open, at_found_or_first}

-- each cell changes and keeps its number
pub total-each_cell : (w : ActorCell → ℕ) (f : ActorCell → CellStep) (cs : List ActorCell) → ((c : ActorCell) → w (f c).cell ≡ w c) → total w (each_cell f cs).cells ≡ total w cs
total-each_cell w f [] k = refl
total-each_cell w f (c ∷ cs) k = let more = total-each_cell w f cs k in let h = k c in omega arith

module _ (owner : PlacementTable → ActorKey → Option HostInfo) (p : PartState) where
  drained-foreign : (cs : List ActorCell) → no_active_foreign owner p cs ≡ (total_foreign owner p cs == 0)
  drained-foreign [] = refl
  drained-foreign (c ∷ cs) = go (c.active && is_foreign owner p c.key) (drained-foreign cs)
    where
      go : (b : Bool) → no_active_foreign owner p cs ≡ (total_foreign owner p cs == 0) → (not b && no_active_foreign owner p cs) ≡ (((if b then 1 else 0) + total_foreign owner p cs) == 0)
      go true e = sym (ne_eqb (1 + total_foreign owner p cs) 0 (λ z. absurd (omega arith)))
      go false e = let z : total_foreign owner p cs ≡ 0 + total_foreign owner p cs = omega arith in e ∙ ap (λ (n : ℕ). n == 0) z

  -- a part is drained exactly if the count is 0
  module _ (n : ℕ) (e : n ≡ total_foreign owner p p.cells) where
    pub dry : n ≡ 0 → is_drained owner p ≡ true
    dry z = drained-foreign p.cells ∙ ap (λ (m : ℕ). m == 0) (sym e ∙ z)

    pub wet : (n ≡ 0 → ⊥) → is_drained owner p ≡ false
    wet z = drained-foreign p.cells ∙ ne_eqb (total_foreign owner p p.cells) 0 (λ q. z (e ∙ q))

  -- ---- one cell is written

  -- a cell that isn't kept isn't active
  idle : (x : ActorCell) → is_kept x ≡ false → foreign_in owner p x ≡ 0
  idle x e = elim (cases_Bool x.active) [
    | inl t ↦ absurd (true≢false (sym (ap (λ (b : Bool). b || nat_lt 0 (length x.inner.queue)) t) ∙ e))
    | inr f ↦ ap (λ (b : Bool). if b && is_foreign owner p x.key then 1 else 0) f
  ]

  module _ (s : IsPartSound owner p) where
    -- the cell is active exactly if it was before
    rewritten : (c x : ActorCell) → In c p.cells → x.key ≡ c.key → x.active ≡ c.active → total_foreign owner p (keep_cell p.cells x) ≡ total_foreign owner p p.cells
    rewritten c x i k a =
        let same : foreign_in owner p x ≡ foreign_in owner p c = λ j. if a j && is_foreign owner p (k j) then 1 else 0 in
        let t = total-keep-changed (foreign_in owner p) p.cells x (idle x) c (ap (cell_at p.cells) k ∙ at-In p.cells c s.in_order i) s.in_order in
        omega arith

    -- a first cell, or one that was found
    written : (key : ActorKey) (found : Option ActorCell) → cell_at p.cells key ≡ found → (x : ActorCell) → x.key ≡ (found_or_first p key found).key → x.active ≡ (found_or_first p key found).active
        → total_foreign owner p (keep_cell p.cells x) ≡ total_foreign owner p p.cells
    written key None e x k a =
        let t = total-keep-missing (foreign_in owner p) p.cells x (idle x) (ap (cell_at p.cells) k ∙ e) in
        let none : foreign_in owner p x ≡ 0 = ap (λ (b : Bool). if b && is_foreign owner p x.key then 1 else 0) a in
        omega arith
    written key (Some c) e x k a = rewritten c x (In-cell_at p.cells key c e) k a

    -- ---- events

    -- there are as many as before
    abbrev pub IsSteady : PartStep → Type 0
    IsSteady x = total_foreign owner p x.part.cells ≡ total_foreign owner p p.cells

    pub draws_steady : IsSteady (Part.draw_part owner p)
    draws_steady = cond_both (is_spent p) _ _ IsSteady (λ _. refl) (λ _. refl)

    pub polls_steady : (call : ℕ) (found : Option ActorCell) → cell_of_call p.cells call ≡ found → IsSteady (Part.poll_cell owner p call found)
    polls_steady call None f = refl
    polls_steady call (Some c) f =
        cond_both (has_turn call c.inner.turns) _ _ (λ (a : PollStep). IsSteady (Part.polled_step owner p c call a.cell a.answer)) (λ _. refl) (λ _. go (waiter_of call c.inner.queue))
      where
        go : (w : Option Waiter) → IsSteady (Part.polled_step owner p c call (poll_waiter c.inner call w).cell (poll_waiter c.inner call w).answer)
        go None = refl
        go (Some w) =
            cond_both w.moved _ _ (λ (a : PollStep). IsSteady (Part.polled_step owner p c call a.cell a.answer))
            (λ _. rewritten c (record c { inner = record (c.inner) { queue = without_waiter call c.inner.queue } }) (In-cell_of_call p.cells call c f) refl refl)
            (λ _. refl)

    pub ends_steady : (call now : ℕ) (found : Option ActorCell) → cell_of_call p.cells call ≡ found → IsSteady (Part.end_cell owner p call now found)
    ends_steady call now None f = refl
    ends_steady call now (Some c) f =
        cond_both (has_turn call c.inner.turns) _ _ (λ (a : EndStep). IsSteady (Part.ended_step owner p c call now a.cell a.answer))
        (λ _. rewritten c (record c { inner = begun_next (without_call c.inner call) (next_call (may_begin owner p c) (without_call c.inner call)); last = max c.last now }) (In-cell_of_call p.cells call c f) refl refl)
        (λ _. go (waiter_of call c.inner.queue))
      where
        go : (w : Option Waiter) → IsSteady (Part.ended_step owner p c call now c.inner (not_open w))
        go None = refl
        go (Some w) = refl

    pub holds_steady : (key : ActorKey) (found : Option ActorCell) → cell_at p.cells key ≡ found → IsSteady (Part.hold_cell owner p found)
    holds_steady key None f = refl
    holds_steady key (Some c) f =
        cond_both (c.active && not c.closing) _ _ IsSteady
        (λ _. cond_both (is_spent p) _ _ IsSteady (λ _. refl) (λ _. rewritten c (record c { inner = with_hold c.inner }) (In-cell_at p.cells key c f) refl refl))
        (λ _. refl)

    pub releases_steady : (key : ActorKey) (now : ℕ) (found : Option ActorCell) → cell_at p.cells key ≡ found → IsSteady (Part.release_cell owner p now found)
    releases_steady key now None f = refl
    releases_steady key now (Some c) f =
        cond_both (c.inner.holds == 0) _ _ IsSteady (λ _. refl)
        (λ _. rewritten c (record c { inner = without_hold c.inner; last = max c.last now }) (In-cell_at p.cells key c f) refl refl)

    pub takes_steady : (now : ℕ) (found : Option ActorCell) → Part.first_to_close owner p now p.cells ≡ found → IsSteady (Part.close_cell owner p found)
    takes_steady now None f = refl
    takes_steady now (Some c) f = let k = In-first_to_close owner p now p.cells c f in rewritten c (record c { closing = true }) k.0 refl refl

    -- a call of a part that isn't open begins only beside open turns
    module _ (up : p.stage ≡ Updated) where
      asked_steady : (key : ActorKey) (found : Option ActorCell) (chain : Option (List ℕ)) → cell_at p.cells key ≡ found
          → IsSteady (asked_step p (found_or_first p key found) chain (admit_call (found_or_first p key found).inner (p.drawn + 1) chain false).cell (admit_call (found_or_first p key found).inner (p.drawn + 1) chain false).answer)
      asked_steady key found chain e =
          let c = found_or_first p key found in
          let at = at_found_or_first owner p key found e s in
          admit_cases c.inner (p.drawn + 1) chain false (λ (a : AskStep). IsSteady (asked_step p c chain a.cell a.answer))
          (λ o room.
          let h = and_parts (nat_lt 0 c.inner.depth) (is_first_chain c.inner.turns (kept_chain c.inner chain)) o in
          let f = first_chain c.inner.turns (kept_chain c.inner chain) h.1 in
          written key found e (record c { inner = with_turn c.inner (p.drawn + 1) (kept_chain c.inner chain); active = true }) refl (sym (at.sound.open_active f.0 f.1)))
          refl
          (λ free m. absurd (false≢true m))
          (λ o busy. written key found e (record c { inner = with_waiter c.inner (p.drawn + 1) (kept_chain c.inner chain) }) refl refl)
          refl

      here_steady : (key : ActorKey) (found : Option ActorCell) (full : Bool) (chain : Option (List ℕ)) → cell_at p.cells key ≡ found → IsSteady (Part.ask_here owner full p (found_or_first p key found) chain)
      here_steady key found full chain e =
          let c = found_or_first p key found in
          let cell : IsSteady (ask_cell full p c chain false) = cond_both full _ _ IsSteady (λ _. refl) (λ _. asked_steady key found chain e) in
          cond_both (is_open_chain c.inner chain) _ _ IsSteady (λ _. cell)
          (λ _. cond_both (is_open p.stage) _ _ IsSteady (λ o. absurd (updated_not_open (sym up ∙ open_stage p.stage o))) (λ _. cell))

      pub asks_steady : (key : ActorKey) (chain : Option (List ℕ)) (least : ℕ) → IsSteady (Part.ask_part owner p key chain least)
      asks_steady key chain least =
          cond_both (is_spent p) _ _ IsSteady (λ _. refl)
          (λ _. cond_both (nat_lt p.seen least) _ _ IsSteady (λ _. refl) (λ _. here_steady key (cell_at p.cells key) _ _ refl))

    -- ---- the end of a deactivation

    -- one less, if the actor was foreign
    pub closes_foreign : p.stage ≡ Updated → (key : ActorKey) (found : Option ActorCell) → cell_at p.cells key ≡ found
        → total_foreign owner p (Part.closed_cell owner p found).part.cells + (if is_closed (Part.closed_cell owner p found).reply && is_foreign owner p key then 1 else 0) ≡ total_foreign owner p p.cells
    closes_foreign up key None f = omega arith
    closes_foreign up key (Some c) f =
        cond_both c.closing _ _ (λ (z : PartStep). total_foreign owner p z.part.cells + (if is_closed z.reply && is_foreign owner p key then 1 else 0) ≡ total_foreign owner p p.cells)
        (λ k.
        let next : Option Waiter = next_call (is_open p.stage && is_own owner p c.key) c.inner in
        let none : next ≡ None = ap (λ (z : Stage). next_call (is_open z && is_own owner p c.key) c.inner) up in
        let i = In-cell_at p.cells key c f in
        let x : ActorCell = record c { inner = begun_next c.inner next; active = is_some next; closing = false } in
        let t = total-keep-changed (foreign_in owner p) p.cells x (idle x) c (at-In p.cells c s.in_order i) s.in_order in
        let gone : foreign_in owner p x ≡ 0 = ap (λ (z : Option Waiter). if is_some z && is_foreign owner p c.key then 1 else 0) none in
        let was : foreign_in owner p c ≡ (if is_foreign owner p key then 1 else 0) = λ j. if ((s.each_sound c i).closing_active k) j && is_foreign owner p (key-cell_at p.cells key c f j) then 1 else 0 in
        omega arith)
        (λ _. omega arith)

  -- ---- a tick

  pub ticks_foreign : (now : ℕ) → total_foreign owner p (each_cell (Part.tick_cell owner p now) p.cells).cells ≡ total_foreign owner p p.cells
  ticks_foreign now =
      total-each_cell (foreign_in owner p) (Part.tick_cell owner p now) p.cells
      (λ c. cond_both (not (is_free c.inner) && (is_foreign owner p c.key && Part.is_overdue owner p now c)) _ _ (λ (z : CellStep). foreign_in owner p z.cell ≡ foreign_in owner p c) (λ _. refl) (λ _. refl))
