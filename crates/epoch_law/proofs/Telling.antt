-- What a Lock of version 0 and a Hold tell of a part.
use Rattle.std.proofs.Common.{◌≡◌, ◌⊎◌, ◌+◌, ℕ, not, ◌&&◌, Option, Some, None, refl, inl, inr, arith}
use Rattle.std.specs.Prelude.{nat_lt}
use Rattle.std.proofs.lemmas.Bool.{and_parts, ltb-true, cond_both}
use Rattle.actor_names.specs.declared.actor_key.ActorKey.{ActorKey}
use Rattle.place_table.specs.declared.host.HostInfo.{HostInfo}
use Rattle.place_table.specs.Hosts.{PlacementTable}
use Rattle.turn_core.specs.Cell.{with_hold}
use Rattle.part_model.specs.declared.actor_cell.ActorCell.{ActorCell}
use Rattle.part_model.specs.declared.event.PartEvent.TheVariants.{Lock, Hold}
use Rattle.part_model.specs.declared.event.Reply.TheVariants as replies
use Rattle.part_model.specs.declared.stage.Stage.{Stage}
use Rattle.part_model.specs.declared.stage.Stage.TheVariants.{Locked, Updated, Open, Stopped}
use Rattle.part_model.specs.Cells.{cell_at}
use Rattle.part_model.specs.Part.{PartState, PartStep, is_spent, step_at, lock_part, hold_cell, receipt_of}
use Rattle.part_model.proofs.Elements.{In-cell_at, key-cell_at}
use Rattle.epoch_law.specs.Epochs.{IsHeld, IsTold, TellsEpoch, HoldsActive}
use Rattle.epoch_law.proofs.Staying.{In-keep-itself}

module _ (owner : PlacementTable → ActorKey → Option HostInfo) where
  -- what holds of a step that leaves the part and answers its receipt, or that it has stopped
  abbrev Tells : PartState → PartStep → Type 0
  Tells p s = (s.part ≡ p) × ((s.reply ≡ replies.Stopped) ⊎ IsTold s.reply p.opened)

  locked : (p : PartState) → Tells p (lock_part owner p 0)
  locked p = cond_both (nat_lt p.seen 0) _ _ (Tells p) (λ on. let less = ltb-true p.seen 0 on in absurd (omega arith)) (λ _. (refl, inr (receipt_of owner p, refl, refl)))

  at_stage : (p : PartState) (stage : Stage) → Tells p (step_at owner p stage (Lock 0))
  at_stage p Stopped = (refl, inl refl)
  at_stage p Locked = locked p
  at_stage p Updated = locked p
  at_stage p Open = locked p

  pub tells_epoch : (p : PartState) → TellsEpoch owner p
  tells_epoch p = let t = at_stage p p.stage in record { part = t.0; reply = t.1 }

  -- ---- holds

  -- what holds of a step that answers Held
  abbrev Holds : PartState → ActorKey → PartStep → Type 0
  Holds p key s = (n : ℕ) → s.reply ≡ replies.Held n → (m : ℕ) × IsHeld m p key × IsHeld (m + 1) s.part key

  held_cell : (p : PartState) (key : ActorKey) (found : Option ActorCell) → cell_at p.cells key ≡ found → Holds p key (hold_cell owner p found)
  held_cell p key None is = λ n e. absurd (let h : ⊥ = cc in h)
  held_cell p key (Some c) is =
      let i = In-cell_at p.cells key c is in
      let k = key-cell_at p.cells key c is in
      let x : ActorCell = record c { inner = with_hold c.inner } in
      cond_both (c.active && not c.closing) _ _ (Holds p key)
      (λ on. cond_both (is_spent p) _ _ (Holds p key)
      (λ _ n e. absurd (let h : ⊥ = cc in h))
      (λ _ n e. let a = (and_parts c.active (not c.closing) on).0 in (c.inner.holds, (c, i, a, k, refl), (x, In-keep-itself p.cells x a, a, k, refl))))
      (λ _ n e. absurd (let h : ⊥ = cc in h))

  held_at : (p : PartState) (key : ActorKey) (stage : Stage) → Holds p key (step_at owner p stage (Hold key))
  held_at p key Stopped = λ n e. absurd (let h : ⊥ = cc in h)
  held_at p key Locked = held_cell p key (cell_at p.cells key) refl
  held_at p key Updated = held_cell p key (cell_at p.cells key) refl
  held_at p key Open = held_cell p key (cell_at p.cells key) refl

  pub holds_active : (p : PartState) (key : ActorKey) → HoldsActive owner p key
  holds_active p key = held_at p key p.stage
