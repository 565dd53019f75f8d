use Rattle.std.proofs.Common.{subst}
use Rattle.disk_model.specs.Disk.{Syncs, Tells}
use Rattle.disk_model.proofs.Stages.{tells_map, tells_then, ok_case}
use Rattle.tx_journal.proofs.Fronts.{finish_1, finish_2, finish_3, finished}
use Rattle.tx_journal.proofs.compaction.finish.Goals as goal

pub returns-in_err-sync-clause-crash : goal.returns-in_err-sync-clause-crash
returns-in_err-sync-clause-crash g c = tells_map _ _ _ _ (finish_1 c.sync.result) c.sync.ensures.synced

pub returns-in_err-write_at-clause-crash : goal.returns-in_err-write_at-clause-crash
returns-in_err-write_at-clause-crash g c = tells_map _ _ _ _ (finish_2 c.in_ok-sync.field-0 c.write_at.result) (tells_then _ _ _ _ _ c.in_ok-sync.ensures.synced c.write_at.ensures.written)

pub returns-clause-crash : goal.returns-clause-crash
returns-clause-crash g c =
    tells_map _ _ _ _ (finish_3 c.in_ok-sync.field-0 c.in_ok-write_at.field-0 c.sync-2.result)
    (tells_then _ _ _ _ _ (tells_then _ _ _ _ _ c.in_ok-sync.ensures.synced c.in_ok-write_at.ensures.written) c.sync-2.ensures.synced)

pub returns-clause-done : goal.returns-clause-done
returns-clause-done g c = ok_case c.sync-2.result _ (λ w is.
    tells_map _ _ _ _ (finished c.in_ok-sync.field-0 c.in_ok-write_at.field-0 w)
    (tells_then _ _ _ _ _ (tells_then _ _ _ _ _ c.in_ok-sync.ensures.synced c.in_ok-write_at.ensures.written)
    (subst (λ r. Tells (Syncs r) (g.D.Disk.told c.write_at.new.self) (g.D.Disk.told c.sync-2.new.self)) is c.sync-2.ensures.synced)))
