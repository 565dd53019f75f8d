use Rattle.std.proofs.Common.{subst}
use Rattle.tx_journal.specs.declared.format.Format.TheVariants.{One}
use Rattle.disk_model.specs.Disk.{Syncs, Tells}
use Rattle.disk_model.proofs.Stages.{tells_then, tells_map, ok_case}
use Rattle.tx_journal.proofs.Making.{shuts_1, shuts_2, shuts_all}
use Rattle.tx_journal.proofs.make.shut.Goals as goal

pub returns-in_err-write_at-clause-crash : goal.returns-in_err-write_at-clause-crash
returns-in_err-write_at-clause-crash g c format = tells_map _ _ _ _ (shuts_1 format c.write_at.result) c.write_at.ensures.written

pub returns-clause-crash : goal.returns-clause-crash
returns-clause-crash g c format =
    tells_map _ _ _ _ (shuts_2 format c.in_ok-write_at.field-0 c.sync.result)
    (tells_then _ _ _ _ _ c.in_ok-write_at.ensures.written c.sync.ensures.synced)

pub returns-clause-done : goal.returns-clause-done
returns-clause-done g c = ok_case c.sync.result _ (λ w is.
    tells_map _ _ _ _ (shuts_all One c.in_ok-write_at.field-0 w)
    (tells_then _ _ _ _ _ c.in_ok-write_at.ensures.written (subst (λ r. Tells (Syncs r) (g.D.Disk.told c.write_at.new.self) (g.D.Disk.told c.sync.new.self)) is c.sync.ensures.synced)))
