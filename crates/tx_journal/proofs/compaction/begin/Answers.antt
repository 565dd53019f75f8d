use Rattle.std.proofs.Common.{subst, sym}
use Rattle.std.specs.Prelude.{OnOk}
use Rattle.disk_model.specs.Disk.{Tells}
use Rattle.disk_model.proofs.Stages.{tells_map, tells_then, tells_both, told_before, ok_case}
use Rattle.tx_journal.specs.Compaction.{MayStart, Begins, HasBegunFile, WritesFront, IsClosed}
use Rattle.tx_journal.proofs.Fronts.{begins_shut, begun_shut, begins_closed, begins_open, begun_open, front_long}
use Rattle.tx_journal.proofs.compaction.begin.Goals as goal

pub write_front-requires : goal.write_front-requires
write_front-requires g c d tells = front_long d (subst (λ b. MayStart b d) c.if-is_shut.true (c.requires.ready d tells))

pub returns-then-is_shut-clause-crash : goal.returns-then-is_shut-clause-crash
returns-then-is_shut-clause-crash g c = subst (λ b. Tells (Begins b) (g.D.Disk.told c.args.disk.now) (g.D.Disk.told c.write_front.new.disk)) (sym c.if-is_shut.true) (tells_map _ _ _ _ begins_shut c.write_front.ensures.crash)

pub returns-then-is_shut-clause-done : goal.returns-then-is_shut-clause-done
returns-then-is_shut-clause-done g c = ok_case c.write_front.result _ (λ w is.
    subst (λ b. Tells (HasBegunFile b c.args.number) (g.D.Disk.told c.args.disk.now) (g.D.Disk.told c.write_front.new.disk)) (sym c.if-is_shut.true)
    (tells_map _ _ _ _ (λ d e both. begun_shut c.args.number c.front_row-front.result d e c.front_row-front.ensures both)
    (tells_both _ _ _ _ c.write_front.ensures.crash
    (subst (λ r. OnOk r (Tells (WritesFront c.front_row-front.result) (g.D.Disk.told c.args.disk.now) (g.D.Disk.told c.write_front.new.disk))) is c.write_front.ensures.done))))

pub close_gate-requires : goal.close_gate-requires
close_gate-requires g c d tells = subst (λ b. MayStart b d) c.if-is_shut.false (c.requires.ready d tells)

pub write_front-requires-2 : goal.write_front-requires-2
write_front-requires-2 g c d tells =
    let before = told_before IsClosed _ _ d c.in_ok-close_gate.ensures.done tells in
    front_long d before.2

pub returns-in_err-close_gate-clause-crash : goal.returns-in_err-close_gate-clause-crash
returns-in_err-close_gate-clause-crash g c = subst (λ b. Tells (Begins b) (g.D.Disk.told c.args.disk.now) (g.D.Disk.told c.close_gate.new.disk)) (sym c.if-is_shut.false) (tells_map _ _ _ _ begins_closed c.close_gate.ensures.crash)

pub returns-clause-crash : goal.returns-clause-crash
returns-clause-crash g c = subst (λ b. Tells (Begins b) (g.D.Disk.told c.args.disk.now) (g.D.Disk.told c.write_front-2.new.disk)) (sym c.if-is_shut.false)
    (tells_map _ _ _ _ begins_open (tells_then _ _ _ _ _ (tells_both _ _ _ _ c.in_ok-close_gate.ensures.crash c.in_ok-close_gate.ensures.done) c.write_front-2.ensures.crash))

pub returns-clause-done : goal.returns-clause-done
returns-clause-done g c = ok_case c.write_front-2.result _ (λ w is.
    subst (λ b. Tells (HasBegunFile b c.args.number) (g.D.Disk.told c.args.disk.now) (g.D.Disk.told c.write_front-2.new.disk)) (sym c.if-is_shut.false)
    (tells_map _ _ _ _ (λ d e calls. begun_open c.args.number c.front_row-front.result d e c.front_row-front.ensures calls)
    (tells_then _ _ _ _ _ c.in_ok-close_gate.ensures.done
    (tells_both _ _ _ _ c.write_front-2.ensures.crash
    (subst (λ r. OnOk r (Tells (WritesFront c.front_row-front.result) (g.D.Disk.told c.close_gate.new.disk) (g.D.Disk.told c.write_front-2.new.disk))) is c.write_front-2.ensures.done)))))
