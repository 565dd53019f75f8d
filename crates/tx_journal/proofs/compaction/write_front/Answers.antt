use Rattle.std.proofs.Common.{arith, subst}
use Rattle.disk_model.specs.Disk.{Writes, Tells}
use Rattle.disk_model.proofs.Stages.{tells_map, tells_then, ok_case}
use Rattle.tx_journal.proofs.Fronts.{cut_stays, begins, writes_front}
use Rattle.tx_journal.proofs.compaction.write_front.Goals as goal

pub returns-in_err-cut-clause-crash : goal.returns-in_err-cut-clause-crash
returns-in_err-cut-clause-crash g c = tells_map _ _ _ _ (λ d e cuts. cut_stays 1 c.cut.result d e (omega arith) cuts) c.cut.ensures.cut

pub returns-clause-crash : goal.returns-clause-crash
returns-clause-crash g c = tells_map _ _ _ _ (begins c.args.front.now c.in_ok-cut.field-0 c.write_at.result) (tells_then _ _ _ _ _ c.in_ok-cut.ensures.cut c.write_at.ensures.written)

pub returns-clause-done : goal.returns-clause-done
returns-clause-done g c = ok_case c.write_at.result _ (λ w is.
    tells_map _ _ _ _ (writes_front c.args.front.now c.in_ok-cut.field-0 w)
    (tells_then _ _ _ _ _ c.in_ok-cut.ensures.cut
    (subst (λ r. Tells (Writes 1 c.args.front.now r) (g.D.Disk.told c.cut.new.self) (g.D.Disk.told c.write_at.new.self)) is c.write_at.ensures.written)))
