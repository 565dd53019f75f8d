use Rattle.std.proofs.Common.{length, ap, refl, arith}
use Rattle.disk_model.specs.Memory.{DiskMemory}
use Rattle.disk_model.proofs.memory.MemDiskDisk.write_at.Goals as goal

pub overwrite-requires : goal.overwrite-requires
overwrite-requires c =
    let within = c.requires c.args.self.now.disk refl in
    omega (arith, within, ap (λ (v : DiskMemory). length v.disk.bytes) c.self.view_is, ap length c.deref-2.ensures.value)
