use Rattle.std.proofs.Common.{◌≡◌, ℕ, List, subst}
use Rattle.std.specs.Prelude.{IfOk}
use Rattle.disk_model.specs.Disk.{MayLeave}
use Rattle.disk_model.specs.Memory.{DiskMemory}
use Rattle.disk_model.proofs.Sound.{nothing_made, left_as}
use Rattle.disk_model.proofs.memory.MemDisk.left_bytes.Goals as goal

pub returns-in-0-clause-leaves : goal.returns-in-0-clause-leaves
returns-in-0-clause-leaves c =
    let synced = c.self.inside.synced.items in
    left_as c.from_slice.result (MayLeave c.args.self.now.disk.instant) synced
    (subst (λ (m : DiskMemory). MayLeave m.disk.instant synced) c.self.view_is (nothing_made c.self.inside.pending.items synced))
    (subst (λ (l : List ℕ). IfOk c.from_slice.result (λ v. v.items ≡ l)) c.deref.ensures.value c.from_slice.ensures.items)

pub returns-in-1-clause-leaves : goal.returns-in-1-clause-leaves
returns-in-1-clause-leaves c =
    let bytes = c.self.inside.bytes.items in
    left_as c.from_slice-in-1.result (MayLeave c.args.self.now.disk.instant) bytes
    (subst (λ (m : DiskMemory). MayLeave m.disk.instant bytes) c.self.view_is c.self.invariant.1)
    (subst (λ (l : List ℕ). IfOk c.from_slice-in-1.result (λ v. v.items ≡ l)) c.deref-in-1.ensures.value c.from_slice-in-1.ensures.items)
