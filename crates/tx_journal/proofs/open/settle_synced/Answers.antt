use Rattle.std.proofs.Common.{Ok, Err, sym, ◌∙◌, subst, arith}
use Rattle.disk_model.specs.Disk.{Tells}
use Rattle.disk_model.proofs.Stages.{tells_map_at}
use Rattle.tx_journal.specs.Journal.{LooksLike, Creates, IsCreated}
use Rattle.tx_journal.proofs.Openings.{keeps_made, opens_made, scan_opens, scan_refuses}
use Rattle.tx_journal.proofs.open.settle_synced.Goals as goal

pub create_file-requires : goal.create_file-requires
create_file-requires g c = record {
  ready = λ d tells.
      let before = sym c.look_at.ensures.same ∙ tells in
      let r = c.requires.ready d before in
      (r.0, subst (LooksLike c.args.newest d) c.in-Unmade.is (c.in_ok-look_at.ensures.looks d before), r.1);
}

pub returns-in-Ok-clause-opened : goal.returns-in-Ok-clause-opened
returns-in-Ok-clause-opened g c =
    tells_map_at (IsCreated c.args.newest) _ _ _
    (λ d e tells created.
    let r = c.requires.ready d tells in
    opens_made c.args.newest c.args.create d e c.if-not-create.false (subst (LooksLike c.args.newest d) c.in-Unmade.is (c.in_ok-look_at.ensures.looks d tells)) r.0 (omega (arith, r.1, c.if-len-gt-MOST_BYTES.false)) created)
    (subst (λ t. Tells (IsCreated c.args.newest) t (g.D.Disk.told c.create_file.new.disk)) c.look_at.ensures.same c.in-Ok.ensures.done)

pub returns-in-Ok-clause-crash : goal.returns-in-Ok-clause-crash
returns-in-Ok-clause-crash g c =
    tells_map_at (Creates c.args.newest) _ _ _
    (λ d e tells creates.
    let r = c.requires.ready d tells in
    keeps_made c.args.newest c.args.create d e c.if-not-create.false (subst (LooksLike c.args.newest d) c.in-Unmade.is (c.in_ok-look_at.ensures.looks d tells)) r.0 creates)
    (subst (λ t. Tells (Creates c.args.newest) t (g.D.Disk.told c.create_file.new.disk)) c.look_at.ensures.same c.create_file.ensures.crash)

pub returns-in-Err-clause-crash : goal.returns-in-Err-clause-crash
returns-in-Err-clause-crash g c =
    tells_map_at (Creates c.args.newest) _ _ _
    (λ d e tells creates.
    let r = c.requires.ready d tells in
    keeps_made c.args.newest c.args.create d e c.if-not-create.false (subst (LooksLike c.args.newest d) c.in-Unmade.is (c.in_ok-look_at.ensures.looks d tells)) r.0 creates)
    (subst (λ t. Tells (Creates c.args.newest) t (g.D.Disk.told c.create_file.new.disk)) c.look_at.ensures.same c.create_file.ensures.crash)

pub returns-in-Ok-scan-clause-opened : goal.returns-in-Ok-scan-clause-opened
returns-in-Ok-scan-clause-opened g c =
    scan_opens c.args.newest c.in-Journal.format c.args.create _ _ (c.scan.ensures.same ∙ c.look_at.ensures.same)
    (λ d tells. (subst (LooksLike c.args.newest d) c.in-Journal.is (c.in_ok-look_at.ensures.looks d tells)).0)
    (λ d tells. (c.requires.ready d tells).0) (Ok c.in-Ok-scan.end)
    (λ d tells. let looks = (subst (LooksLike c.args.newest d) c.in-Journal.is (c.in_ok-look_at.ensures.looks d tells)) in c.in-Ok-scan.ensures.scanned d (c.look_at.ensures.same ∙ tells) c.args.newest c.in-Journal.format looks.1 looks.0)

pub returns-in-Err-scan-clause-refused : goal.returns-in-Err-scan-clause-refused
returns-in-Err-scan-clause-refused g c =
    scan_refuses c.args.newest c.in-Journal.format c.args.create _ (g.D.Disk.told c.scan.new.disk) (c.scan.ensures.same ∙ c.look_at.ensures.same)
    (λ d tells. (subst (LooksLike c.args.newest d) c.in-Journal.is (c.in_ok-look_at.ensures.looks d tells)).0)
    (λ d tells. (c.requires.ready d tells).0) (Err c.in-Err-scan.error)
    (λ d tells. let looks = (subst (LooksLike c.args.newest d) c.in-Journal.is (c.in_ok-look_at.ensures.looks d tells)) in c.in-Err-scan.ensures.scanned d (c.look_at.ensures.same ∙ tells) c.args.newest c.in-Journal.format looks.1 looks.0)
