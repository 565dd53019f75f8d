-- Foreign actors stay counted through the steps of a part; and a tick ends nothing in a drained part.
use Rattle.std.proofs.Common.{◌≡◌, ℕ, Bool, true, false, not, ◌&&◌, ◌+◌, ◌-◌, ◌≤◌, List, [], ◌∷◌, ◌++◌, length, Option, refl, sym, ap, ◌∙◌, inl, inr, eq-eqb, arith}
use Rattle.std.specs.Prelude.{nat_lt, ◌==◌, if◌then◌else◌}
use Rattle.std.proofs.lemmas.Bool.{and_parts, and_from, cases_Bool, cond_both, cond-true, cond-false, lt-ltb, not-true, true≢false, false≢true}
use Rattle.actor_names.specs.declared.actor_key.ActorKey.{ActorKey}
use Rattle.place_table.specs.declared.host.HostInfo.{HostInfo}
use Rattle.place_table.specs.Hosts.{PlacementTable}
use Rattle.turn_core.specs.declared.cell.Turn.{Turn}
use Rattle.turn_core.specs.Cell.{is_free}
use Rattle.turn_core.specs.CellSound.{In}
use Rattle.part_model.specs.declared.stage.Stage.TheVariants.{Updated}
use Rattle.part_model.specs.Receipts.{PartReply}
use Rattle.part_model.specs.declared.event.Reply.TheVariants as replies
use Rattle.part_core.specs.declared.standing.Standing.{Standing}
use Rattle.part_model.specs.declared.actor_cell.ActorCell.{ActorCell}
use Rattle.part_model.specs.Cells.{cell_at}
use Rattle.part_core.specs.Actors.{ActorsState, no_actors, state_of, view_of, total_foreign, is_closed, gives_some, IsStandingKept}
use Rattle.part_model.specs.Part
use Rattle.part_model.specs.Part.{PartState, PartStep, CellStep, is_own, is_foreign, is_overdue, is_updated, is_drained, tick_cell, each_cell, refused, receipt_of, ring_owner}
use Rattle.part_model.specs.Sound.{IsActorSound, IsPartSound}
use Rattle.part_model.specs.Rooms.{PartView, Gives, GivesInMemory}
use Rattle.part_model.proofs.PartWrites.{updated_stage}
use Rattle.part_model.proofs.PartLaws.{drained_owns}
use Rattle.part_core.proofs.Foreigns.{closes_foreign, ticks_foreign}

module _ (owner : PlacementTable → ActorKey → Option HostInfo) where
  busy : (ts : List Turn) → not (length ts == 0) ≡ true → (t : Turn) × In t ts
  busy [] e = absurd (false≢true e)
  busy (t ∷ ts) e = (t, inl refl)

  -- an own cell, or one without open turns, is as before
  still : (p : PartState) (now : ℕ) (c : ActorCell) → IsActorSound c → (c.active ≡ true → is_own owner p c.key ≡ true) → tick_cell owner p now c ≡ record { cell = c; marks = []; first = 0; second = 0 }
  still p now c s own =
      cond_both (not (is_free c.inner) && (is_foreign owner p c.key && is_overdue owner p now c)) _ _ (λ (z : CellStep). z ≡ record { cell = c; marks = []; first = 0; second = 0 })
      (λ b.
      let h = and_parts (not (is_free c.inner)) (is_foreign owner p c.key && is_overdue owner p now c) b in
      let f = and_parts (is_foreign owner p c.key) (is_overdue owner p now c) h.1 in
      let u = busy c.inner.turns h.0 in
      absurd (true≢false (sym (own (s.open_active u.0 u.1)) ∙ not-true _ f.0)))
      (λ _. refl)

  quiet : (p : PartState) (now : ℕ) (cs : List ActorCell) → ((c : ActorCell) → In c cs → IsActorSound c) → ((c : ActorCell) → In c cs → c.active ≡ true → is_own owner p c.key ≡ true)
      → each_cell (tick_cell owner p now) cs ≡ record { cells = cs; marks = []; first = 0; second = 0 }
  quiet p now [] s own = refl
  quiet p now (c ∷ cs) s own =
      let here = still p now c (s c (inl refl)) (own c (inl refl)) in
      let rest = quiet p now cs (λ d i. s d (inr i)) (λ d i. own d (inr i)) in
      λ i. record { cells = (here i).cell ∷ (rest i).cells; marks = (here i).marks ++ (rest i).marks; first = (here i).first + (rest i).first; second = (here i).second + (rest i).second }

  -- a tick ends nothing in a drained part
  pub idle_tick : (p : PartState) (now : ℕ) → IsPartSound owner p → (is_updated p.stage ≡ true → is_drained owner p ≡ true) → Part.tick_part owner p now ≡ refused p (replies.Ticked (receipt_of owner p) 0)
  idle_tick p now s d =
      cond_both (is_updated p.stage) _ _ (λ (x : PartStep). x ≡ refused p (replies.Ticked (receipt_of owner p) 0))
      (λ u. λ i. Part.ticked_with owner p (quiet p now p.cells s.each_sound (drained_owns owner p p.cells (d u)) i)) (λ _. refl)

  -- ---- an unlock

  module _ (p : PartState) (version : ℕ) (up : is_updated p.stage ≡ true) (seen : version ≡ p.seen) where
    fits : (is_updated p.stage && (version == p.seen)) ≡ true
    fits = and_from (is_updated p.stage) (version == p.seen) up (eq-eqb version p.seen seen)

    pub unlock_wet : is_drained owner p ≡ false → Part.unlock_part owner p version ≡ refused p (replies.NotDrained (receipt_of owner p))
    unlock_wet d = cond-true (is_updated p.stage && (version == p.seen)) _ _ fits ∙ cond-false (is_drained owner p) _ _ d

    pub unlock_dry : is_drained owner p ≡ true → Part.unlock_part owner p version ≡ Part.open_part owner p
    unlock_dry d = cond-true (is_updated p.stage && (version == p.seen)) _ _ fits ∙ cond-true (is_drained owner p) _ _ d

-- ---- foreign actors are counted

module _ (s : Standing) (a b : ActorsState) (k : IsStandingKept s a) where
  kept : (s.stage ≡ Updated → total_foreign ring_owner (state_of s a) b.cells ≡ total_foreign ring_owner (state_of s a) a.cells) → IsStandingKept s b
  kept same = record { shallow = k.shallow; seen_fits = k.seen_fits; opened_fits = k.opened_fits; counted = λ u. k.counted u ∙ sym (same (updated_stage s.stage u)) }

  -- after a step that leaves their number as it was
  module _ (step : PartStep) (same : s.stage ≡ Updated → total_foreign ring_owner (state_of s a) step.part.cells ≡ total_foreign ring_owner (state_of s a) a.cells) (reply : PartReply) where
    pub kept_by : Gives step reply (view_of s b) → IsStandingKept s b
    kept_by g = kept (λ u. ap (λ (v : PartView). total_foreign ring_owner (state_of s a) v.state.cells) g.1 ∙ same u)

  pub kept_in_memory : (step : PartStep) (same : s.stage ≡ Updated → total_foreign ring_owner (state_of s a) step.part.cells ≡ total_foreign ring_owner (state_of s a) a.cells) (reply : PartReply)
      → GivesInMemory step reply (state_of s a) (view_of s b) → IsStandingKept s b
  kept_in_memory step same replies.OutOfMemory g = kept (λ u. ap (λ (v : PartView). total_foreign ring_owner (state_of s a) v.state.cells) g.0)
  kept_in_memory step same reply g = kept_by step same reply g

  pub kept_tick : (now : ℕ) → b.cells ≡ (each_cell (tick_cell ring_owner (state_of s no_actors) now) a.cells).cells → IsStandingKept s b
  kept_tick now e = kept (λ _. ap (total_foreign ring_owner (state_of s a)) e ∙ ticks_foreign ring_owner (state_of s a) now)

  -- after the end of a deactivation
  module _ (sound : IsPartSound ring_owner (state_of s a)) (key : ActorKey) (reply : PartReply) (g : Gives (Part.closed_part ring_owner (state_of s a) key) reply (view_of s b)) where
    left : is_updated s.stage ≡ true → (gone : Bool) → (is_closed reply && is_foreign ring_owner (state_of s a) key) ≡ gone → total_foreign ring_owner (state_of s a) b.cells + (if gone then 1 else 0) ≡ s.foreign
    left u gone e =
        (λ i. total_foreign ring_owner (state_of s a) (g.1 i).state.cells + (if (sym e ∙ (λ j. is_closed (g.0 j) && is_foreign ring_owner (state_of s a) key)) i then 1 else 0))
        ∙ closes_foreign ring_owner (state_of s a) sound (updated_stage s.stage u) key (cell_at a.cells key) refl ∙ sym (k.counted u)

    pub kept_closed : (is_updated s.stage ≡ true → (is_closed reply && is_foreign ring_owner (state_of s a) key) ≡ false) → IsStandingKept s b
    kept_closed none = record { shallow = k.shallow; seen_fits = k.seen_fits; opened_fits = k.opened_fits; counted = λ u. (let l = left u false (none u) in omega arith) }

    -- the deactivation of another owner's actor
    module _ (closed : is_closed reply ≡ true) (foreign : (is_updated s.stage && is_foreign ring_owner (state_of s a) key) ≡ true) where
      one_left : total_foreign ring_owner (state_of s a) b.cells + 1 ≡ s.foreign
      one_left =
          let h = and_parts (is_updated s.stage) (is_foreign ring_owner (state_of s a) key) foreign in
          left h.0 true (and_from (is_closed reply) (is_foreign ring_owner (state_of s a) key) closed h.1)

      pub counts_one : 1 ≤ s.foreign
      counts_one = let l = one_left in omega arith

      pub kept_less : IsStandingKept (record s { foreign = s.foreign - 1 }) b
      kept_less = record { shallow = k.shallow; seen_fits = k.seen_fits; opened_fits = k.opened_fits; counted = λ u. (let l = one_left in omega arith) }

    -- the actor wasn't one that an updated part gives up
    pub kept_given : (is_closed reply && (gives_some s && is_foreign ring_owner (state_of s a) key)) ≡ false → IsStandingKept s b
    kept_given e = kept_closed (λ u. elim (cases_Bool (is_closed reply && is_foreign ring_owner (state_of s a) key)) [
      | inl t ↦ (
          let foreign = is_foreign ring_owner (state_of s a) key in
          let h = and_parts (is_closed reply) foreign t in
          let n = counts_one h.0 (and_from (is_updated s.stage) foreign u h.1) in
          let gives = and_from (is_updated s.stage) (nat_lt 0 s.foreign) u (lt-ltb 0 s.foreign (omega arith)) in
          absurd (true≢false (sym (and_from (is_closed reply) (gives_some s && foreign) h.0 (and_from (gives_some s) foreign gives h.1)) ∙ e))
          )
      | inr f ↦ f
    ])

-- an actor that is given up is that of an updated part
pub given_up : (s : Standing) (foreign : Bool) → (gives_some s && foreign) ≡ true → (is_updated s.stage && foreign) ≡ true
given_up s foreign e =
    let h = and_parts (gives_some s) foreign e in
    and_from (is_updated s.stage) foreign (and_parts (is_updated s.stage) (nat_lt 0 s.foreign) h.0).0 h.1
