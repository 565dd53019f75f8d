use Rattle.std.proofs.Common.{length, ap, refl, arith, length-take}
use Rattle.disk_model.specs.Memory.{DiskMemory}
use Rattle.disk_model.proofs.memory.MemDiskDisk.cut.Goals as goal

pub slice_bounds-to_vec-end : goal.slice_bounds-to_vec-end
slice_bounds-to_vec-end c =
    let within = c.requires c.args.self.now.disk refl in
    omega (arith, within, ap (λ (v : DiskMemory). length v.disk.bytes) c.self.view_is, ap length c.deref-2.ensures.value, length-take c.args.len c.deref-2.result.now)
