use Rattle.std.proofs.Common.{◌≡◌, Some, None, ◌∙◌, sym, arith}
use Rattle.disk_model.proofs.Stages.{ok_from_test}
use Rattle.tx_journal.proofs.Batches.{is_empty, empty_done}
use Rattle.tx_journal.proofs.Records.{rest_within}
use Rattle.tx_journal.proofs.Grows.{text_room, append_crash, append_done, append_live, append_waits}
use Rattle.tx_journal.proofs.journal.Journal.append_all.Goals as goal

pub returns-then-size-eq0-clause-done : goal.returns-then-size-eq0-clause-done
returns-then-size-eq0-clause-done g c = empty_done c.args.batch.now (is_empty c.args.batch.now (omega (arith, c.size-size.ensures.is, c.if-size-eq0.true))) _

pub put_records-requires-clause-room : goal.put_records-requires-clause-room
put_records-requires-clause-room g c d tells =
    let live = c.self.invariant.live c.if-self.false d tells in
    (rest_within live.payloads c.self.inside.end d.bytes live.settled.file).1

pub returns-then-is_err-clause-crash : goal.returns-then-is_err-clause-crash
returns-then-is_err-clause-crash g c =
    let room = text_room c.self.inside.end c.args.batch.now c.text.result.now c.text.ensures.text (omega (arith, c.size-size.ensures.is, c.if-self-size-gt-MOST_BYTES.false)) in
    rw (← c.self.view_is) (append_crash _ _ _ _ c.self.invariant c.if-self.false c.args.batch.now _ c.text.ensures.short c.text.ensures.text room _ c.put_records.ensures.crash)

pub returns-clause-crash : goal.returns-clause-crash
returns-clause-crash g c =
    let room = text_room c.self.inside.end c.args.batch.now c.text.result.now c.text.ensures.text (omega (arith, c.size-size.ensures.is, c.if-self-size-gt-MOST_BYTES.false)) in
    rw (← c.self.view_is) (append_crash _ _ _ _ c.self.invariant c.if-self.false c.args.batch.now _ c.text.ensures.short c.text.ensures.text room _ c.put_records.ensures.crash)

pub returns-clause-done : goal.returns-clause-done
returns-clause-done g c =
    let room = text_room c.self.inside.end c.args.batch.now c.text.result.now c.text.ensures.text (omega (arith, c.size-size.ensures.is, c.if-self-size-gt-MOST_BYTES.false)) in
    let done = ok_from_test c.put_records.result _ (sym c.is_err.ensures.value ∙ c.if-is_err.false) c.put_records.ensures.done in
    rw (← c.self.view_is) (append_done _ _ _ _ c.self.invariant c.if-self.false c.args.batch.now _ c.text.ensures.short c.text.ensures.text room _ done)

pub invariant_of-self-2 : goal.invariant_of-self-2
invariant_of-self-2 g c =
    let room = text_room c.self.inside.end c.args.batch.now c.text.result.now c.text.ensures.text (omega (arith, c.size-size.ensures.is, c.if-self-size-gt-MOST_BYTES.false)) in
    let done = ok_from_test c.put_records.result _ (sym c.is_err.ensures.value ∙ c.if-is_err.false) c.put_records.ensures.done in
    let number = c.generation_with_first-self-inside.ensures c.args.batch.now c.generation.ensures in
    record {
      room_is = c.self.invariant.room_is;
      some = omega (arith, c.self.invariant.some);
      few = omega (arith, c.if-self-size-gt-MOST_BYTES.false);
      started = λ at is. absurd (let e : None ≡ Some at = is in cc);
      live = λ works d tells. append_live _ _ _ _ c.self.invariant c.if-self.false c.args.batch.now _ c.text.ensures.short c.text.ensures.text room (record { told = g.D.Disk.told c.put_records.new.disk; faults = g.D.Disk.disk_faults c.put_records.new.disk }) _ _ number (omega (arith, c.size-size.ensures.is)) done d tells;
      waits = λ works side some d tells. append_waits _ _ _ _ c.self.invariant c.if-self.false c.args.batch.now _ c.text.ensures.short c.text.ensures.text room (record { told = g.D.Disk.told c.put_records.new.disk; faults = g.D.Disk.disk_faults c.put_records.new.disk }) _ number side some d tells;
    }
