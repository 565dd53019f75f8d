use Rattle.std.proofs.Common.{subst}
use Rattle.disk_model.specs.Disk.{Syncs, Tells}
use Rattle.disk_model.proofs.Stages.{tells_map_at, tells_then, ok_case}
use Rattle.tx_journal.proofs.Fronts.{closes_1, closes_2, is_closed}
use Rattle.tx_journal.proofs.compaction.close_gate.Goals as goal

pub returns-in_err-write_at-clause-crash : goal.returns-in_err-write_at-clause-crash
returns-in_err-write_at-clause-crash g c = tells_map_at _ _ _ _ (λ d e tells writes. let r = c.requires d tells in closes_1 d r.0 r.1 c.write_at.result e writes) c.write_at.ensures.written

pub returns-clause-crash : goal.returns-clause-crash
returns-clause-crash g c =
    tells_map_at _ _ _ _ (λ d e tells calls. let r = c.requires d tells in closes_2 d r.0 r.1 c.in_ok-write_at.field-0 c.sync.result e calls)
    (tells_then _ _ _ _ _ c.in_ok-write_at.ensures.written c.sync.ensures.synced)

pub returns-clause-done : goal.returns-clause-done
returns-clause-done g c = ok_case c.sync.result _ (λ w is.
    tells_map_at _ _ _ _ (λ d e tells calls. let r = c.requires d tells in is_closed d r.0 r.1 c.in_ok-write_at.field-0 w e calls)
    (tells_then _ _ _ _ _ c.in_ok-write_at.ensures.written
    (subst (λ r. Tells (Syncs r) (g.D.Disk.told c.write_at.new.self) (g.D.Disk.told c.sync.new.self)) is c.sync.ensures.synced)))
