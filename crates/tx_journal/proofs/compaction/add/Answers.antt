use Rattle.std.proofs.Common.{◌-◌, subst, arith}
use Rattle.disk_model.specs.Disk.{Writes, Tells}
use Rattle.disk_model.proofs.Stages.{tells_map, tells_map_at, ok_case}
use Rattle.tx_journal.proofs.Fronts.{write_stays, adds_row}
use Rattle.tx_journal.proofs.compaction.add.Goals as goal

pub returns-clause-crash : goal.returns-clause-crash
returns-clause-crash g c = tells_map_at _ _ _ _ (λ d e tells writes. write_stays (c.args.at - 1) c.args.bytes.now c.write_at.result d e (omega (arith, c.requires.some)) (omega (arith, c.requires.within d tells)) writes) c.write_at.ensures.written

pub returns-clause-done : goal.returns-clause-done
returns-clause-done g c = ok_case c.write_at.result _ (λ w is.
    tells_map _ _ _ _ (λ d e writes. adds_row c.args.at c.args.bytes.now w d e c.requires.some writes)
    (subst (λ r. Tells (Writes (c.args.at - 1) c.args.bytes.now r) (g.D.Disk.told c.args.disk.now) (g.D.Disk.told c.write_at.new.self)) is c.write_at.ensures.written))
