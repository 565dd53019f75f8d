use Rattle.std.proofs.Common.{◌≡◌, Some, None, ◌≤◌, ℕ, ◌+◌, List, [], ◌∷◌, ◌++◌, length, take, drop, ap, ◌∙◌, sym, arith}
use Rattle.std.proofs.lemmas.List.{take-take, take-append-le}
use Rattle.disk_model.proofs.Stages.{ok_from_test}
use Rattle.tx_journal.proofs.Records.{rest_within, one_text}
use Rattle.tx_journal.proofs.Grows.{one_generation, one_length, text_room, append_crash, append_done, append_live, append_waits}
use Rattle.tx_journal.proofs.journal.Journal.append.Goals as goal

-- the bytes that are written are the record, which is at the start of the buffer
record_is : (n m len : ℕ) (front rest whole text : List ℕ) → whole ≡ take len (front ++ rest) → m ≡ n → n ≤ len → n ≤ length front → take n front ≡ 1 ∷ text → drop 1 (take m whole) ≡ text
record_is n m len front rest whole text is same within long filled =
    ap (λ (k : ℕ). drop 1 (take k whole)) same ∙ ap (λ (l : List ℕ). drop 1 (take n l)) is ∙ ap (drop 1) (take-take n len (front ++ rest) within ∙ take-append-le n front rest long ∙ filled)

pub put_records-requires-clause-room : goal.put_records-requires-clause-room
put_records-requires-clause-room g c d tells =
    let live = c.self.invariant.live c.if-self.false d tells in
    (rest_within live.payloads c.self.inside.end d.bytes live.settled.file).1

pub returns-then-is_err-clause-crash : goal.returns-then-is_err-clause-crash
returns-then-is_err-clause-crash g c =
    let long : 6 + length c.args.payload.now ≤ length c.fill.new.buffer = omega (arith, c.fill.auto.buffer, ap length c.deref_mut.ensures.value, c.self.invariant.room_is, c.if-n-gt-LONGEST.false) in
    let text = ap (λ (l : List ℕ). 1 ∷ l) (c.behind_gate-record.ensures ∙ record_is (6 + length c.args.payload.now) _ _ _ _ _ _ c.deref.ensures.value (omega arith) (omega (arith, c.deref.ensures.len, c.fill.auto.buffer, c.deref_mut.ensures.len, ap length c.deref_mut.ensures.value, c.self.invariant.room_is, c.if-n-gt-LONGEST.false)) long c.fill.ensures) ∙ one_text c.args.payload.now in
    let room = text_room c.self.inside.end (c.args.payload.now ∷ []) _ text (omega (arith, one_length c.args.payload.now, c.if-self-size-gt-MOST_BYTES.false)) in
    rw (← c.self.view_is) (append_crash _ _ _ _ c.self.invariant c.if-self.false (c.args.payload.now ∷ []) _ (c.if-n-gt-LONGEST.false, tt) text room _ c.put_records.ensures.crash)

pub returns-clause-crash : goal.returns-clause-crash
returns-clause-crash g c =
    let long : 6 + length c.args.payload.now ≤ length c.fill.new.buffer = omega (arith, c.fill.auto.buffer, ap length c.deref_mut.ensures.value, c.self.invariant.room_is, c.if-n-gt-LONGEST.false) in
    let text = ap (λ (l : List ℕ). 1 ∷ l) (c.behind_gate-record.ensures ∙ record_is (6 + length c.args.payload.now) _ _ _ _ _ _ c.deref.ensures.value (omega arith) (omega (arith, c.deref.ensures.len, c.fill.auto.buffer, c.deref_mut.ensures.len, ap length c.deref_mut.ensures.value, c.self.invariant.room_is, c.if-n-gt-LONGEST.false)) long c.fill.ensures) ∙ one_text c.args.payload.now in
    let room = text_room c.self.inside.end (c.args.payload.now ∷ []) _ text (omega (arith, one_length c.args.payload.now, c.if-self-size-gt-MOST_BYTES.false)) in
    rw (← c.self.view_is) (append_crash _ _ _ _ c.self.invariant c.if-self.false (c.args.payload.now ∷ []) _ (c.if-n-gt-LONGEST.false, tt) text room _ c.put_records.ensures.crash)

pub returns-clause-done : goal.returns-clause-done
returns-clause-done g c =
    let long : 6 + length c.args.payload.now ≤ length c.fill.new.buffer = omega (arith, c.fill.auto.buffer, ap length c.deref_mut.ensures.value, c.self.invariant.room_is, c.if-n-gt-LONGEST.false) in
    let text = ap (λ (l : List ℕ). 1 ∷ l) (c.behind_gate-record.ensures ∙ record_is (6 + length c.args.payload.now) _ _ _ _ _ _ c.deref.ensures.value (omega arith) (omega (arith, c.deref.ensures.len, c.fill.auto.buffer, c.deref_mut.ensures.len, ap length c.deref_mut.ensures.value, c.self.invariant.room_is, c.if-n-gt-LONGEST.false)) long c.fill.ensures) ∙ one_text c.args.payload.now in
    let room = text_room c.self.inside.end (c.args.payload.now ∷ []) _ text (omega (arith, one_length c.args.payload.now, c.if-self-size-gt-MOST_BYTES.false)) in
    let done = ok_from_test c.put_records.result _ (sym c.is_err.ensures.value ∙ c.if-is_err.false) c.put_records.ensures.done in
    rw (← c.self.view_is) (append_done _ _ _ _ c.self.invariant c.if-self.false (c.args.payload.now ∷ []) _ (c.if-n-gt-LONGEST.false, tt) text room _ done)

pub invariant_of-self-2 : goal.invariant_of-self-2
invariant_of-self-2 g c =
    let long : 6 + length c.args.payload.now ≤ length c.fill.new.buffer = omega (arith, c.fill.auto.buffer, ap length c.deref_mut.ensures.value, c.self.invariant.room_is, c.if-n-gt-LONGEST.false) in
    let text = ap (λ (l : List ℕ). 1 ∷ l) (c.behind_gate-record.ensures ∙ record_is (6 + length c.args.payload.now) _ _ _ _ _ _ c.deref.ensures.value (omega arith) (omega (arith, c.deref.ensures.len, c.fill.auto.buffer, c.deref_mut.ensures.len, ap length c.deref_mut.ensures.value, c.self.invariant.room_is, c.if-n-gt-LONGEST.false)) long c.fill.ensures) ∙ one_text c.args.payload.now in
    let room = text_room c.self.inside.end (c.args.payload.now ∷ []) _ text (omega (arith, one_length c.args.payload.now, c.if-self-size-gt-MOST_BYTES.false)) in
    let done = ok_from_test c.put_records.result _ (sym c.is_err.ensures.value ∙ c.if-is_err.false) c.put_records.ensures.done in
    record {
      room_is = omega (arith, ap length c.deref.ensures.value, c.deref.ensures.len, c.deref_mut.ensures.len, ap length c.deref_mut.ensures.value, c.self.invariant.room_is);
      some = omega (arith, c.self.invariant.some);
      few = omega (arith, c.if-self-size-gt-MOST_BYTES.false);
      started = λ at is. absurd (let e : None ≡ Some at = is in cc);
      live = λ works d tells. append_live _ _ _ _ c.self.invariant c.if-self.false (c.args.payload.now ∷ []) _ (c.if-n-gt-LONGEST.false, tt) text room (record { told = g.D.Disk.told c.put_records.new.disk; faults = g.D.Disk.disk_faults c.put_records.new.disk }) _ _ (c.generation_with-self-inside.ensures ∙ sym (one_generation c.self.inside.end c.self.inside.generation c.args.payload.now)) (omega (arith, one_length c.args.payload.now)) done d tells;
      waits = λ works side some d tells. append_waits _ _ _ _ c.self.invariant c.if-self.false (c.args.payload.now ∷ []) _ (c.if-n-gt-LONGEST.false, tt) text room (record { told = g.D.Disk.told c.put_records.new.disk; faults = g.D.Disk.disk_faults c.put_records.new.disk }) _ (c.generation_with-self-inside.ensures ∙ sym (one_generation c.self.inside.end c.self.inside.generation c.args.payload.now)) side some d tells;
    }
