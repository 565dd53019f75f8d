-- What a step of a part may change, apart from the rule by which it answers: the five ways in which stage, versions
-- and table change, and where active actors come from. Own.
use Rattle.std.specs.Prelude.{◌≡◌, ◌⊎◌, ◌<◌, ◌≤◌, true, [], Option}
use Rattle.actor_names.specs.declared.actor_key.ActorKey.{ActorKey}
use Rattle.place_table.specs.declared.host.HostInfo.{HostInfo}
use Rattle.place_table.specs.Hosts.{PlacementTable}
use Rattle.turn_core.specs.CellSound.{In}
use Rattle.part_model.specs.declared.stage.Stage.TheVariants.{Locked, Updated, Open, Stopped}
use Rattle.part_model.specs.declared.event.PartEvent.{PartEvent}
use Rattle.part_model.specs.declared.event.PartEvent.TheVariants as events
use Rattle.part_model.specs.declared.actor_cell.ActorCell.{ActorCell}
use Rattle.part_model.specs.Part.{PartState, is_own, is_drained}
use Rattle.part_model.specs.Sound.{IsPartSound}

-- the part has an active cell of the actor
abbrev pub HadActive : PartState → ActorKey → Type 0
HadActive p key = (d : ActorCell) × In d p.cells × (d.active ≡ true) × (d.key ≡ key)

-- The event leads from p to q. A part locks, is updated and opens, in this order; it opens only if it is drained; it
-- may stop at any time; a lock starts the order again.
pub data Moves (owner : PlacementTable → ActorKey → Option HostInfo) (p : PartState) (e : PartEvent) (q : PartState) : Type 0 where
  keeps : q.stage ≡ p.stage → q.seen ≡ p.seen → q.opened ≡ p.opened → q.table ≡ p.table → Moves owner p e q
  locks : q.stage ≡ Locked → p.seen < q.seen → q.opened ≡ p.opened → q.table ≡ p.table → e ≡ events.Lock q.seen → Moves owner p e q
  updates : p.stage ≡ Locked → q.stage ≡ Updated → q.seen ≡ p.seen → q.opened ≡ p.opened → q.table.version ≡ p.seen → e ≡ events.Update q.table q.since → Moves owner p e q
  opens : p.stage ≡ Updated → is_drained owner p ≡ true → q.stage ≡ Open → q.seen ≡ p.seen → q.opened ≡ p.seen → q.table ≡ p.table → e ≡ events.Unlock p.seen → Moves owner p e q
  stops : q.stage ≡ Stopped → q.seen ≡ p.seen → q.opened ≡ p.opened → q.table ≡ p.table → q.cells ≡ [] → e ≡ events.StopPart → Moves owner p e q

module _ (owner : PlacementTable → ActorKey → Option HostInfo) where
  -- An active actor was active before, or the part is now open and owns it.
  abbrev pub Comes : PartState → PartState → ActorCell → Type 0
  Comes p q c = HadActive p c.key ⊎ ((q.stage ≡ Open) × (is_own owner q c.key ≡ true))

  -- all that a step keeps of a sound part
  pub record Stepped (p : PartState) (e : PartEvent) (q : PartState) : Type 0 where
    pub member : q.member ≡ p.member
    pub number : q.number ≡ p.number
    pub kinds : q.kinds ≡ p.kinds
    pub moves : Moves owner p e q
    pub active : (c : ActorCell) → In c q.cells → c.active ≡ true → Comes p q c
    pub sound : IsPartSound owner q
    pub drawn : p.drawn ≤ q.drawn
    pub stop_stays : p.stage ≡ Stopped → q.stage ≡ Stopped
