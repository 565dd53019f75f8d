use Rattle.disk_model.specs.Disk.{Tells}
use Rattle.disk_model.proofs.Stages.{tells_then, tells_both, tells_map_at, told_before, ok_case}
use Rattle.std.proofs.Common.{subst}
use Rattle.std.specs.Prelude.{OnOk}
use Rattle.tx_journal.specs.Journal.{WasShut, IsNew}
use Rattle.tx_journal.proofs.Making.{creates_short, created_short}
use Rattle.tx_journal.proofs.open.create_short.Goals as goal

pub returns-in_err-shut-clause-crash : goal.returns-in_err-shut-clause-crash
returns-in_err-shut-clause-crash g c = tells_map_at _ _ _ _ (λ d e tells shuts durable unmade. shuts durable (c.requires.ready d tells).1) (c.shut.ensures.crash c.args.format)

pub make-requires : goal.make-requires
make-requires g c = record {
  room = λ e tells.
      let before = told_before WasShut _ _ e c.in_ok-shut.ensures.done tells in
      let ready = c.requires.ready before.0 before.1 in
      (before.2 ready.0 ready.1).2;
}

pub returns-clause-crash : goal.returns-clause-crash
returns-clause-crash g c =
    tells_map_at _ _ _ _ (λ d f tells calls. creates_short c.args.format d f (c.requires.ready d tells).1 calls)
    (tells_then _ _ _ _ _ (tells_both _ _ _ _ (c.in_ok-shut.ensures.crash c.args.format) c.in_ok-shut.ensures.done) c.make.ensures.crash)

pub returns-clause-done : goal.returns-clause-done
returns-clause-done g c = ok_case c.make.result _ (λ w is.
    tells_map_at _ _ _ _ (λ d f tells calls. created_short c.args.format d f (c.requires.ready d tells).1 calls)
    (tells_then _ _ _ _ _ (tells_both _ _ _ _ (c.in_ok-shut.ensures.crash c.args.format) c.in_ok-shut.ensures.done)
    (subst (λ r. OnOk r (Tells (IsNew c.args.format) (g.D.Disk.told c.shut.new.disk) (g.D.Disk.told c.make.new.disk))) is c.make.ensures.done)))
