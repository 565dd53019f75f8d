use Rattle.std.proofs.Common.{◌≡◌, take}
use Rattle.disk_model.specs.Disk.{MayLead}
use Rattle.disk_model.specs.Memory.{torn_by_all}
use Rattle.disk_model.proofs.torn.tear_all.Given as goal

-- what the changes so far may have made of the synced bytes, and what they made of them by the choice
abbrev pub invariant-loop-change : goal.invariant-loop-change
invariant-loop-change l =
    MayLead (take l.change-index l.pending) l.synced l.image.items × (l.image.items ≡ torn_by_all l.choice (take l.change-index l.pending) l.synced)
