use Rattle.std.proofs.Common.{ℕ, List, Ok, subst}
use Rattle.disk_model.specs.Disk.{Reads}
use Rattle.standby_core.proofs.Attached.{first_none, first_some}
use Rattle.standby_core.proofs.attach.read_first.Goals as goal

pub returns-in-empty-clause-reads : goal.returns-in-empty-clause-reads
returns-in-empty-clause-reads g c =
    first_none (g.D.Disk.told c.args.disk.now) c.read.new.into.items c.as_slice.result.now c.in_ok-read.field-0
    (λ d is. subst (λ (l : List ℕ). Reads 0 1 l c.read.new.into.items (Ok c.in_ok-read.field-0) d) c.clear.ensures.items (c.in_ok-read.ensures.read d is)) c.as_slice.ensures.value c.in-empty.len_below

pub returns-in-len1-up-clause-reads : goal.returns-in-len1-up-clause-reads
returns-in-len1-up-clause-reads g c =
    first_some (g.D.Disk.told c.args.disk.now) c.read.new.into.items c.as_slice.result.now c.in_ok-read.field-0
    (λ d is. subst (λ (l : List ℕ). Reads 0 1 l c.read.new.into.items (Ok c.in_ok-read.field-0) d) c.clear.ensures.items (c.in_ok-read.ensures.read d is)) c.as_slice.ensures.value c.in-len1-up.len_at_least
