use Rattle.std.proofs.Common.{◌≡◌, ◌≤◌, ◌+◌, ℕ, List, ◌++◌, length, take, Some, None, refl, sym, ◌∙◌, ap, arith}
use Rattle.std.specs.Prelude.{option_map}
use Rattle.std.proofs.lemmas.List.{take-take, take-append-le}
use Rattle.disk_model.proofs.Stages.{ok_from_test, tells_both}
use Rattle.tx_journal.specs.Calls.{Side}
use Rattle.tx_journal.proofs.Compacts.{cause_ok, other_keeps, live_two, row_within, row_crash, row_kept, row_added, row_waits}
use Rattle.tx_journal.proofs.Grows.{waits_on}
use Rattle.tx_journal.proofs.journal.Journal.compact_add.Goals as goal

-- the bytes that are written are at the start of the buffer
record_is : (n m len : ℕ) (front rest whole text : List ℕ) → whole ≡ take len (front ++ rest) → m ≡ n → n ≤ len → n ≤ length front → take n front ≡ text → take m whole ≡ text
record_is n m len front rest whole text is same within long filled =
    ap (λ (k : ℕ). take k whole) same ∙ ap (λ (l : List ℕ). take n l) is ∙ take-take n len (front ++ rest) within ∙ take-append-le n front rest long ∙ filled

pub add-requires-clause-within : goal.add-requires-clause-within
add-requires-clause-within g c d tells = row_within _ _ _ _ c.self.invariant c.if-self.false (record { told = g.D.Disk.told c.in-Some-other.other; faults = g.D.Disk.disk_faults c.in-Some-other.other }) (record { told = g.D.Disk.told c.in-Some-other.other; faults = g.D.Disk.disk_faults c.in-Some-other.other }) (ap (option_map (λ d. record { told = g.D.Disk.told d; faults = g.D.Disk.disk_faults d })) c.in-Some-other.is) c.in-Some.at c.in-Some.is d tells

pub returns-then-is_err-clause-crash : goal.returns-then-is_err-clause-crash
returns-then-is_err-clause-crash g c = rw (← c.self.view_is) (row_crash _ _ _ _ c.self.invariant c.if-self.false (record { told = g.D.Disk.told c.in-Some-other.other; faults = g.D.Disk.disk_faults c.in-Some-other.other }) (record { told = g.D.Disk.told c.add.new.disk; faults = g.D.Disk.disk_faults c.add.new.disk }) (ap (option_map (λ d. record { told = g.D.Disk.told d; faults = g.D.Disk.disk_faults d })) c.in-Some-other.is) c.in-Some.at c.in-Some.is c.add.ensures.crash)

pub returns-clause-crash : goal.returns-clause-crash
returns-clause-crash g c = rw (← c.self.view_is) (row_crash _ _ _ _ c.self.invariant c.if-self.false (record { told = g.D.Disk.told c.in-Some-other.other; faults = g.D.Disk.disk_faults c.in-Some-other.other }) (record { told = g.D.Disk.told c.add.new.disk; faults = g.D.Disk.disk_faults c.add.new.disk }) (ap (option_map (λ d. record { told = g.D.Disk.told d; faults = g.D.Disk.disk_faults d })) c.in-Some-other.is) c.in-Some.at c.in-Some.is c.add.ensures.crash)

pub returns-clause-kept : goal.returns-clause-kept
returns-clause-kept g c =
    let long : 6 + length c.args.payload.now ≤ length c.fill.new.buffer = omega (arith, c.fill.auto.buffer, ap length c.deref_mut.ensures.value, c.self.invariant.room_is, c.if-n-gt-LONGEST.false) in
    let text = record_is (6 + length c.args.payload.now) (5 + length c.args.payload.now + 1) _ _ _ _ _ c.deref.ensures.value (omega arith) (omega (arith, c.deref.ensures.len, c.fill.auto.buffer, c.deref_mut.ensures.len, ap length c.deref_mut.ensures.value, c.self.invariant.room_is, c.if-n-gt-LONGEST.false)) long c.fill.ensures in
    let done = ok_from_test c.add.result _ (sym c.is_err.ensures.value ∙ c.if-is_err.false) c.add.ensures.done in
    let both = tells_both _ _ _ _ c.add.ensures.crash done in
    rw (← c.self.view_is) (row_kept _ _ _ _ c.self.invariant c.if-self.false (record { told = g.D.Disk.told c.in-Some-other.other; faults = g.D.Disk.disk_faults c.in-Some-other.other }) (record { told = g.D.Disk.told c.add.new.disk; faults = g.D.Disk.disk_faults c.add.new.disk }) (ap (option_map (λ d. record { told = g.D.Disk.told d; faults = g.D.Disk.disk_faults d })) c.in-Some-other.is) c.in-Some.at c.in-Some.is c.args.payload.now _ c.if-n-gt-LONGEST.false text (omega (arith, c.if-at-size-gt-MOST_BYTES.false)) both)

pub returns-clause-added : goal.returns-clause-added
returns-clause-added g c =
    let long : 6 + length c.args.payload.now ≤ length c.fill.new.buffer = omega (arith, c.fill.auto.buffer, ap length c.deref_mut.ensures.value, c.self.invariant.room_is, c.if-n-gt-LONGEST.false) in
    let text = record_is (6 + length c.args.payload.now) (5 + length c.args.payload.now + 1) _ _ _ _ _ c.deref.ensures.value (omega arith) (omega (arith, c.deref.ensures.len, c.fill.auto.buffer, c.deref_mut.ensures.len, ap length c.deref_mut.ensures.value, c.self.invariant.room_is, c.if-n-gt-LONGEST.false)) long c.fill.ensures in
    let done = ok_from_test c.add.result _ (sym c.is_err.ensures.value ∙ c.if-is_err.false) c.add.ensures.done in
    let both = tells_both _ _ _ _ c.add.ensures.crash done in
    rw (← c.self.view_is) (row_added _ _ _ _ c.self.invariant c.if-self.false (record { told = g.D.Disk.told c.in-Some-other.other; faults = g.D.Disk.disk_faults c.in-Some-other.other }) (record { told = g.D.Disk.told c.add.new.disk; faults = g.D.Disk.disk_faults c.add.new.disk }) (ap (option_map (λ d. record { told = g.D.Disk.told d; faults = g.D.Disk.disk_faults d })) c.in-Some-other.is) c.in-Some.at c.in-Some.is c.args.payload.now _ c.if-n-gt-LONGEST.false text (omega (arith, c.if-at-size-gt-MOST_BYTES.false)) both)

pub invariant_of-self-2 : goal.invariant_of-self-2
invariant_of-self-2 g c =
    let long : 6 + length c.args.payload.now ≤ length c.fill.new.buffer = omega (arith, c.fill.auto.buffer, ap length c.deref_mut.ensures.value, c.self.invariant.room_is, c.if-n-gt-LONGEST.false) in
    let text = record_is (6 + length c.args.payload.now) (5 + length c.args.payload.now + 1) _ _ _ _ _ c.deref.ensures.value (omega arith) (omega (arith, c.deref.ensures.len, c.fill.auto.buffer, c.deref_mut.ensures.len, ap length c.deref_mut.ensures.value, c.self.invariant.room_is, c.if-n-gt-LONGEST.false)) long c.fill.ensures in
    let done = ok_from_test c.add.result _ (sym c.is_err.ensures.value ∙ c.if-is_err.false) c.add.ensures.done in
    let both = tells_both _ _ _ _ c.add.ensures.crash done in
    let started = c.self.invariant.started c.in-Some.at c.in-Some.is in
    record {
      room_is = omega (arith, ap length c.deref.ensures.value, c.deref.ensures.len, c.deref_mut.ensures.len, ap length c.deref_mut.ensures.value, c.self.invariant.room_is);
      some = c.self.invariant.some;
      few = c.self.invariant.few;
      started = λ at is.
          let same : c.in-Some.at + (5 + length c.args.payload.now) ≡ at = cc in
          record { some = omega (arith, same, started.some); few = omega (arith, same, c.if-at-size-gt-MOST_BYTES.false); paired = refl; small = started.small };
      live = λ works d tells. live_two _ _ _ _ c.self.invariant c.if-self.false (record { told = g.D.Disk.told c.in-Some-other.other; faults = g.D.Disk.disk_faults c.in-Some-other.other }) (record { told = g.D.Disk.told c.add.new.disk; faults = g.D.Disk.disk_faults c.add.new.disk }) (ap (option_map (λ d. record { told = g.D.Disk.told d; faults = g.D.Disk.disk_faults d })) c.in-Some-other.is) d tells;
      waits = λ works side some d tells.
          let same : (record { told = g.D.Disk.told c.add.new.disk; faults = g.D.Disk.disk_faults c.add.new.disk }) ≡ side = cc in
          row_waits _ _ _ _ c.self.invariant c.if-self.false (record { told = g.D.Disk.told c.in-Some-other.other; faults = g.D.Disk.disk_faults c.in-Some-other.other }) (record { told = g.D.Disk.told c.add.new.disk; faults = g.D.Disk.disk_faults c.add.new.disk }) (ap (option_map (λ d. record { told = g.D.Disk.told d; faults = g.D.Disk.disk_faults d })) c.in-Some-other.is) c.in-Some.at c.in-Some.is c.args.payload.now _ c.if-n-gt-LONGEST.false text (omega (arith, c.if-at-size-gt-MOST_BYTES.false)) _ (omega arith) both d (ap (λ (x : Side). x.told) same ∙ tells);
    }

pub invariant_of-self-then-n-gt-LONGEST : goal.invariant_of-self-then-n-gt-LONGEST
invariant_of-self-then-n-gt-LONGEST g c = record {
  room_is = c.self.invariant.room_is;
  some = c.self.invariant.some;
  few = c.self.invariant.few;
  started = λ at is. absurd (let e : None ≡ Some at = is in cc);
  live = λ works d tells. live_two _ _ _ _ c.self.invariant c.if-self.false (record { told = g.D.Disk.told c.in-Some-other.other; faults = g.D.Disk.disk_faults c.in-Some-other.other }) (record { told = g.D.Disk.told c.in-Some-other.other; faults = g.D.Disk.disk_faults c.in-Some-other.other }) (ap (option_map (λ d. record { told = g.D.Disk.told d; faults = g.D.Disk.disk_faults d })) c.in-Some-other.is) d tells;
  waits = λ works side some d tells. waits_on c.self.inside.is_second_live c.self.inside.generation c.self.inside.generation c.self.inside.is_shut c.self.inside.staged d (omega arith) (c.self.invariant.waits works side ((ap (option_map (λ d. record { told = g.D.Disk.told d; faults = g.D.Disk.disk_faults d })) c.in-Some-other.is) ∙ some) d tells);
}

pub invariant_of-self-then-at-size-gt-MOST_BYTES : goal.invariant_of-self-then-at-size-gt-MOST_BYTES
invariant_of-self-then-at-size-gt-MOST_BYTES g c = record {
  room_is = c.self.invariant.room_is;
  some = c.self.invariant.some;
  few = c.self.invariant.few;
  started = λ at is. absurd (let e : None ≡ Some at = is in cc);
  live = λ works d tells. live_two _ _ _ _ c.self.invariant c.if-self.false (record { told = g.D.Disk.told c.in-Some-other.other; faults = g.D.Disk.disk_faults c.in-Some-other.other }) (record { told = g.D.Disk.told c.in-Some-other.other; faults = g.D.Disk.disk_faults c.in-Some-other.other }) (ap (option_map (λ d. record { told = g.D.Disk.told d; faults = g.D.Disk.disk_faults d })) c.in-Some-other.is) d tells;
  waits = λ works side some d tells. waits_on c.self.inside.is_second_live c.self.inside.generation c.self.inside.generation c.self.inside.is_shut c.self.inside.staged d (omega arith) (c.self.invariant.waits works side ((ap (option_map (λ d. record { told = g.D.Disk.told d; faults = g.D.Disk.disk_faults d })) c.in-Some-other.is) ∙ some) d tells);
}

pub returns-clause-count : goal.returns-clause-count
returns-clause-count g c =
    rw (← c.self.view_is)
    (other_keeps _ _ (record { told = g.D.Disk.told c.in-Some-other.other; faults = g.D.Disk.disk_faults c.in-Some-other.other }) (record { told = g.D.Disk.told c.add.new.disk; faults = g.D.Disk.disk_faults c.add.new.disk }) (ap (option_map (λ d. record { told = g.D.Disk.told d; faults = g.D.Disk.disk_faults d })) c.in-Some-other.is) refl
    (cause_ok c.add.result _ _ (sym c.is_err.ensures.value ∙ c.if-is_err.false) c.add.ensures.cause))
