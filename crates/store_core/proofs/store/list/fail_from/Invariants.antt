use Rattle.std.proofs.Common.{◌≡◌, ◌++◌, List, length, ◌-◌}
use Rattle.std.specs.Prelude.{take, drop}
use Rattle.std.specs.List.{AllByRecursion}
use Rattle.std.specs.Vec.{vec_capacity}
use Rattle.frame_wire.specs.declared.store_answer.StoreAnswer.TheVariants.{Refused}
use Rattle.frame_wire.specs.declared.store_refusal.StoreRefusal.TheVariants.{DiskFault}
use Rattle.store_core.specs.Listings.{all_so}
use Rattle.store_core.proofs.store.list.fail_from.Given as goal

abbrev pub invariant-loop-at : goal.invariant-loop-at
invariant-loop-at g l =
    (take l.at l.answers.items ≡ take l.first l.fn.answers.items ++ all_so (g.G.Guard.rules.told (Refused DiskFault)) (l.at - l.first))
    × (length l.answers.items ≡ length l.fn.answers.items)
    × (vec_capacity l.answers ≡ vec_capacity l.fn.answers)
    × (AllByRecursion g.G.Guard.fits l.fn.answers.items → AllByRecursion g.G.Guard.fits l.answers.items)
