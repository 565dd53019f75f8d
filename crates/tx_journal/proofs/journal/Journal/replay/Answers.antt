use Rattle.std.proofs.Common.{Some, None, Ok, ap, refl, sym, ◌∙◌, subst, arith}
use Rattle.std.specs.Prelude.{option_map}
use Rattle.std.specs.declared.alloc.Global.{Global}
use Rattle.tx_journal.specs.Journal.{Finds}
use Rattle.tx_journal.specs.Calls.{told, rows_in}
use Rattle.tx_journal.proofs.Replays.{replay_found}
use Rattle.tx_journal.proofs.Rowed.{holds_live, replay_rows, rows_few, some_mapped}
use Rattle.tx_journal.proofs.journal.Journal.replay.Goals as goal

pub returns-then-index-ge-MOST_BYTES-clause-found : goal.returns-then-index-ge-MOST_BYTES-clause-found
returns-then-index-ge-MOST_BYTES-clause-found g c works files tells held holds =
    let tells_in = ap told c.self.view_is ∙ tells in
    let live = holds_live _ _ _ _ c.self.invariant c.if-self.false files held tells_in holds in
    let settled = live.2.settled in
    rw (← c.self.view_is) ((omega (arith, rows_few (option_map (λ d. record { told = g.D.Disk.told d; faults = g.D.Disk.disk_faults d }) c.self.inside.other) held.payloads c.self.inside.end live.0.bytes settled.file, c.self.invariant.few, c.if-index-ge-MOST_BYTES.true)))

pub returns-in-Ok-Some-clause-found : goal.returns-in-Ok-Some-clause-found
returns-in-Ok-Some-clause-found g c works files tells held holds =
    let tells_in = ap told c.self.view_is ∙ tells in
    let live = holds_live _ _ _ _ c.self.invariant c.if-self.false files held tells_in holds in
    let settled = live.2.settled in
    let found = c.in-Ok-Some.ensures.found live.0 live.1 _ _ held.payloads c.self.inside.end settled.file (c.start_at-from.ensures.gate held.payloads settled.gate) in
    rw (← c.self.view_is) (replay_rows Global (option_map (λ d. record { told = g.D.Disk.told d; faults = g.D.Disk.disk_faults d }) c.self.inside.other) c.self.inside.generation held.payloads held.payloads c.args.index c.place_of-place.result c.is_some.result (Some (c.in-Ok-Some.payload, c.in-Ok-Some.gate)) live.2.numbered refl
    c.place_of-place.ensures (c.is_some.ensures ∙ sym (some_mapped (λ d. record { told = g.D.Disk.told d; faults = g.D.Disk.disk_faults d }) c.self.inside.other)) (subst (λ o. Finds held.payloads c.place_of-place.result (Ok o)) c.in-Ok-Some.field-0-is found))

pub returns-in-Ok-None-clause-found : goal.returns-in-Ok-None-clause-found
returns-in-Ok-None-clause-found g c works files tells held holds =
    let tells_in = ap told c.self.view_is ∙ tells in
    let live = holds_live _ _ _ _ c.self.invariant c.if-self.false files held tells_in holds in
    let settled = live.2.settled in
    let found = c.in-Ok-None.ensures.found live.0 live.1 _ _ held.payloads c.self.inside.end settled.file (c.start_at-from.ensures.gate held.payloads settled.gate) in
    rw (← c.self.view_is) (replay_rows Global (option_map (λ d. record { told = g.D.Disk.told d; faults = g.D.Disk.disk_faults d }) c.self.inside.other) c.self.inside.generation held.payloads held.payloads c.args.index c.place_of-place.result c.is_some.result None live.2.numbered refl
    c.place_of-place.ensures (c.is_some.ensures ∙ sym (some_mapped (λ d. record { told = g.D.Disk.told d; faults = g.D.Disk.disk_faults d }) c.self.inside.other)) (subst (λ o. Finds held.payloads c.place_of-place.result (Ok o)) c.in-Ok-None.field-0-is found))

pub returns-in-Err-clause-found : goal.returns-in-Err-clause-found
returns-in-Err-clause-found g c works files tells held holds =
    let tells_in = ap told c.self.view_is ∙ tells in
    let live = holds_live _ _ _ _ c.self.invariant c.if-self.false files held tells_in holds in
    let settled = live.2.settled in
    let found = c.in-Err.ensures.found live.0 live.1 _ _ held.payloads c.self.inside.end settled.file (c.start_at-from.ensures.gate held.payloads settled.gate) in
    replay_found Global held.payloads (rows_in c.args.self.now.other held.payloads) c.place_of-place.result c.args.index c.in-Err.error found

pub invariant_of-self : goal.invariant_of-self
invariant_of-self g c = record {
  room_is = c.self.invariant.room_is;
  some = c.self.invariant.some;
  few = c.self.invariant.few;
  started = λ at is. let started = c.self.invariant.started at is in record { some = started.some; few = started.few; paired = started.paired; small = started.small };
  live = λ works d tells.
      let before = sym c.find.ensures.same ∙ tells in
      let live = c.self.invariant.live c.if-self.false d before in
      let found = c.in-Ok-Some.ensures.found d before _ _ live.payloads c.self.inside.end live.settled.file (c.start_at-from.ensures.gate live.payloads live.settled.gate) in
      record {
        payloads = live.payloads;
        settled = record {
          file = live.settled.file;
          durable = live.settled.durable;
          gate = (subst (λ o. Finds live.payloads c.place_of-place.result (Ok o)) c.in-Ok-Some.field-0-is found).1;
        };
        numbered = live.numbered;
      };
  waits = c.self.invariant.waits;
}
