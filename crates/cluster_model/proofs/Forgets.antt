-- No step and no restart of the placement makes it forget anything.
use Rattle.std.proofs.Common.{ℕ, List, sym, subst, inl, inr, arith}
use Rattle.round_core.specs.Room.{RoomState}
use Rattle.round_core.specs.declared.event.PlaceEvent.{PlaceEvent}
use Rattle.round_core.specs.Reached.{IsReached}
use Rattle.round_core.specs.Runs.{ForgetsNothing, Restarts}
use Rattle.round_core.proofs.Memory.{forgets_self, step_forgets}
use Rattle.round_core.proofs.Reached.{event_forgets}
use Rattle.placement_core.specs.Placement.{PlacementState, room_of, placement_step, placement_restarted}
use Rattle.cluster_model.specs.Cluster.{RoomsForgetNothing}
use Rattle.cluster_model.proofs.RoomSteps.{room_after, restart_room}

-- two changes that forget nothing, one after the other, forget nothing
pub forgets_over : (s t u : RoomState) → ForgetsNothing s t → ForgetsNothing t u → ForgetsNothing s u
forgets_over s t u a b =
    record {
      greatest = λ node. (let x = a.greatest node in let y = b.greatest node in omega arith);
      fresh = λ m i. elim (b.fresh m i) [
        | inl j ↦ a.fresh m j
        | inr h ↦ inr (let x = a.greatest m.node in omega arith)
      ];
      versions = (let x = a.versions in let y = b.versions in omega arith);
    }

pub rooms_over : (s t u : PlacementState) → RoomsForgetNothing s t → RoomsForgetNothing t u → RoomsForgetNothing s u
rooms_over s t u a b space = forgets_over (room_of s space) (room_of t space) (room_of u space) (a space) (b space)

pub placement_forgets : (s : PlacementState) (e : PlaceEvent) (now : ℕ) → RoomsForgetNothing s (placement_step s e now).state
placement_forgets s e now space = elim (room_after s e now space) [
  | inl h ↦ subst (ForgetsNothing (room_of s space)) (sym h) (step_forgets (room_of s space) e now)
  | inr h ↦ subst (ForgetsNothing (room_of s space)) (sym h) (forgets_self (room_of s space))
]

pub restart_forgets : (s : PlacementState) (now : ℕ) → ((space : List ℕ) → IsReached (room_of s space)) → RoomsForgetNothing s (placement_restarted s now)
restart_forgets s now reached space = subst (ForgetsNothing (room_of s space)) (sym (restart_room s now space)) (event_forgets (room_of s space) (Restarts now) (reached space))
