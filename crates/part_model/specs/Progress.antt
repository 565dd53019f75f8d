-- How far a part and a member have got in the rounds of the placement. Own.
use Rattle.std.specs.Prelude.{◌≡◌, ◌⊎◌, ◌<◌, ℕ, List, Option}
use Rattle.actor_names.specs.declared.actor_key.ActorKey.{ActorKey}
use Rattle.actor_names.specs.declared.member.Member.{Member}
use Rattle.place_table.specs.declared.host.HostInfo.{HostInfo}
use Rattle.place_table.specs.declared.ack_stage.AckStage.{AckStage}
use Rattle.place_table.specs.declared.ack_stage.AckStage.TheVariants as stages
use Rattle.place_table.specs.Hosts.{PlacementTable}
use Rattle.turn_core.specs.CellSound.{In}
use Rattle.part_model.specs.declared.stage.Stage.TheVariants.{Updated, Open, Stopped}
use Rattle.part_model.specs.Part.{PartState}
use Rattle.part_model.specs.Sound.{OwnsActive}

module _ (owner : PlacementTable → ActorKey → Option HostInfo) where
  -- the part is in the stage or a later one: Lock, then Update with no active foreign actor, then Unlock
  abbrev pub HasStage : AckStage → PartState → Type 0
  HasStage stages.Lock p = Unit {0}
  HasStage stages.Update p = ((p.stage ≡ Updated) × OwnsActive owner p) ⊎ (p.stage ≡ Open)
  HasStage stages.Unlock p = p.stage ≡ Open

  -- it has seen more than the version, or has seen the version and is in the stage or a later one
  abbrev pub PartReached : AckStage → ℕ → PartState → Type 0
  PartReached stage version p = (version < p.seen) ⊎ ((p.seen ≡ version) × HasStage stage p)

  -- each part of the member that hasn't stopped has reached it
  abbrev pub MemberReached : List PartState → Member → AckStage → ℕ → Type 0
  MemberReached ps m stage version = (p : PartState) → In p ps → p.member ≡ m → (p.stage ≡ Stopped) ⊎ PartReached stage version p
