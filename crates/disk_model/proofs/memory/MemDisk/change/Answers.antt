use Rattle.std.proofs.Common.{List, [], ◌∷◌, ◌++◌, ap, sym, ◌∙◌, subst, arith}
use Rattle.disk_model.specs.Disk.{MayLead, MayMake}
use Rattle.disk_model.specs.Memory.{DiskMemory}
use Rattle.disk_model.specs.declared.change.Change.{Change}
use Rattle.disk_model.proofs.Sound.{lead_push}
use Rattle.disk_model.proofs.memory.MemDisk.change.Goals as goal

pub invariant_of-self-2 : goal.invariant_of-self-2
invariant_of-self-2 c =
    let makes = subst (λ (m : DiskMemory). MayMake c.args.change m.disk.bytes c.args.next.items) (sym c.self.view_is) c.requires in
    let pushed = lead_push c.self.inside.pending.items c.args.change c.self.inside.synced.items c.self.inside.bytes.items c.args.next.items c.self.invariant.1 makes in
    let pending = c.in-Ok.ensures ∙ ap (λ (l : List Change). l ++ c.args.change ∷ []) c.deref.ensures.value in
    let counted = c.next_call-self-inside.ensures in (
      (λ few. let before = c.self.invariant.0 (omega (arith, few, counted)) in omega (arith, before, counted)),
      subst (λ (l : List Change). MayLead l c.self.inside.synced.items c.args.next.items) (sym pending) pushed,
    )
