use Rattle.std.proofs.Common.{sym, ◌∙◌, subst}
use Rattle.std.proofs.lemmas.Result.{IfErr-weaker}
use Rattle.disk_model.specs.Disk.{Tells}
use Rattle.disk_model.proofs.Stages.{tells_map, tells_on, tells_then}
use Rattle.tx_journal.specs.declared.format.Format.TheVariants.{One}
use Rattle.tx_journal.specs.Journal.{KeepsFile}
use Rattle.tx_journal.proofs.Openings.{synced_keeps, synced_ok, sync_failed, keeps_on, refuses_on}
use Rattle.tx_journal.proofs.open.settle.Goals as goal

pub returns-then-is_err-clause-crash : goal.returns-then-is_err-clause-crash
returns-then-is_err-clause-crash g c =
    let failed = sym c.is_err.ensures.value ∙ c.if-is_err.true in
    tells_map _ _ _ _ (λ d e. sync_failed One c.args.create c.sync.result d e failed) c.sync.ensures.synced

pub returns-in-Err-clause-crash : goal.returns-in-Err-clause-crash
returns-in-Err-clause-crash g c =
    let done = synced_ok c.sync.result _ _ (sym c.is_err.ensures.value ∙ c.if-is_err.false) c.sync.ensures.synced in
    subst (λ t. Tells (KeepsFile One c.args.create) (g.D.Disk.told c.args.disk.now) t) (sym c.len.ensures.same) (tells_map _ _ _ _ (λ d e. synced_keeps One c.args.create d e done.0) done.1)

pub returns-clause-refused : goal.returns-clause-refused
returns-clause-refused g c =
    let done = synced_ok c.sync.result _ _ (sym c.is_err.ensures.value ∙ c.if-is_err.false) c.sync.ensures.synced in
    IfErr-weaker c.settle_synced.result _ _
    (λ e refuses d tells.
    let after = tells_on _ _ _ d done.1 tells in
    refuses_on One c.args.create e done.0 d after.0 after.2 (refuses after.0 (c.len.ensures.same ∙ after.1)))
    c.settle_synced.ensures.refused

pub returns-clause-crash : goal.returns-clause-crash
returns-clause-crash g c =
    let done = synced_ok c.sync.result _ _ (sym c.is_err.ensures.value ∙ c.if-is_err.false) c.sync.ensures.synced in
    tells_map _ _ _ _ (keeps_on One c.args.create done.0)
    (tells_then _ _ _ _ _ done.1 (subst (λ t. Tells (KeepsFile One c.args.create) t (g.D.Disk.told c.settle_synced.new.disk)) c.len.ensures.same c.settle_synced.ensures.crash))
