use Rattle.std.proofs.Common.{Ok, subst}
use Rattle.disk_model.specs.Disk.{Writes, Syncs, Tells}
use Rattle.disk_model.proofs.Stages.{tells_then, tells_map, ok_case}
use Rattle.tx_journal.proofs.Making.{makes_1, makes_2, makes_3, makes_4, makes_all}
use Rattle.tx_journal.proofs.make.make.Goals as goal

pub returns-in_err-write_at-clause-crash : goal.returns-in_err-write_at-clause-crash
returns-in_err-write_at-clause-crash g c = tells_map _ _ _ _ (makes_1 c.args.format c.write_at.result) (subst (λ l. Tells (Writes 1 l c.write_at.result) (g.D.Disk.told c.args.disk.now) (g.D.Disk.told c.write_at.new.self)) c.front_of-front.ensures c.write_at.ensures.written)

pub returns-in_err-sync-clause-crash : goal.returns-in_err-sync-clause-crash
returns-in_err-sync-clause-crash g c =
    tells_map _ _ _ _ (makes_2 c.args.format c.in_ok-write_at.field-0 c.sync.result)
    (tells_then _ _ _ _ _ (subst (λ l. Tells (Writes 1 l (Ok c.in_ok-write_at.field-0)) (g.D.Disk.told c.args.disk.now) (g.D.Disk.told c.write_at.new.self)) c.front_of-front.ensures c.in_ok-write_at.ensures.written) c.sync.ensures.synced)

pub returns-in_err-write_at-2-clause-crash : goal.returns-in_err-write_at-2-clause-crash
returns-in_err-write_at-2-clause-crash g c =
    tells_map _ _ _ _ (makes_3 c.args.format c.in_ok-write_at.field-0 c.in_ok-sync.field-0 c.write_at-2.result)
    (tells_then _ _ _ _ _ (tells_then _ _ _ _ _ (subst (λ l. Tells (Writes 1 l (Ok c.in_ok-write_at.field-0)) (g.D.Disk.told c.args.disk.now) (g.D.Disk.told c.write_at.new.self)) c.front_of-front.ensures c.in_ok-write_at.ensures.written) c.in_ok-sync.ensures.synced) c.write_at-2.ensures.written)

pub returns-clause-crash : goal.returns-clause-crash
returns-clause-crash g c =
    tells_map _ _ _ _ (makes_4 c.args.format c.in_ok-write_at.field-0 c.in_ok-sync.field-0 c.in_ok-write_at-2.field-0 c.sync-2.result)
    (tells_then _ _ _ _ _ (tells_then _ _ _ _ _ (tells_then _ _ _ _ _ (subst (λ l. Tells (Writes 1 l (Ok c.in_ok-write_at.field-0)) (g.D.Disk.told c.args.disk.now) (g.D.Disk.told c.write_at.new.self)) c.front_of-front.ensures c.in_ok-write_at.ensures.written) c.in_ok-sync.ensures.synced) c.in_ok-write_at-2.ensures.written) c.sync-2.ensures.synced)

pub returns-clause-done : goal.returns-clause-done
returns-clause-done g c = ok_case c.sync-2.result _ (λ w is.
    tells_map _ _ _ _ (makes_all c.args.format c.in_ok-write_at.field-0 c.in_ok-sync.field-0 c.in_ok-write_at-2.field-0 w)
    (tells_then _ _ _ _ _ (tells_then _ _ _ _ _ (tells_then _ _ _ _ _ (subst (λ l. Tells (Writes 1 l (Ok c.in_ok-write_at.field-0)) (g.D.Disk.told c.args.disk.now) (g.D.Disk.told c.write_at.new.self)) c.front_of-front.ensures c.in_ok-write_at.ensures.written) c.in_ok-sync.ensures.synced) c.in_ok-write_at-2.ensures.written) (subst (λ r. Tells (Syncs r) (g.D.Disk.told c.write_at-2.new.self) (g.D.Disk.told c.sync-2.new.self)) is c.sync-2.ensures.synced)))
