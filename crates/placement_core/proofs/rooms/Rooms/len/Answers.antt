use Rattle.std.proofs.Common.{refl}
use Rattle.placement_core.specs.Kept.{kept, kept_space}
use Rattle.placement_core.specs.Runs.{space_of}
use Rattle.placement_core.proofs.Searched.{ascends_moved}
use Rattle.placement_core.proofs.Sound.{kept_sound}
use Rattle.placement_core.proofs.rooms.Rooms.len.Goals as goal

pub returns-clause-order : goal.returns-clause-order
returns-clause-order c = rw (← c.self.view_is) (ascends_moved kept_space space_of kept (λ k. refl) c.self.inside.rooms.items c.self.invariant.0)

pub returns-clause-sound : goal.returns-clause-sound
returns-clause-sound c = rw (← c.self.view_is) (kept_sound c.self.inside.rooms.items c.self.invariant.4)
