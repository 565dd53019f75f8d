use Rattle.std.proofs.Common.{◌≡◌, ◌+◌, ◌≤◌, ◌||◌, Bool, false, ℕ, List, None, Some, Option, length, drop, slice_get, sym, ap, ◌∙◌, subst, arith}
use Rattle.std.proofs.Common.{vec_len}
use Rattle.std.proofs.lemmas.Result.{err_from_is_err_and}
use Rattle.tx_journal.specs.Calls.{Side, JournalState, told, rows_in}
use Rattle.placement_node.specs.Found.{after_payload, rooms_found, IsFault}
use Rattle.placement_node.specs.Records.{record_in}
use Rattle.placement_node.proofs.Reading.{told_same, found_next, found_end, found_fault, none_left, some_left, payload_error, payload_costs}
use Rattle.placement_node.proofs.found.follow_all.Goals as goal

pub returns-in-Ok-None-clause-found : goal.returns-in-Ok-None-clause-found
returns-in-Ok-None-clause-found g c = λ files is held holds.
    let inv = c.loop-index.invariant in
    let j = c.loop-index.journal in
    let alone : j.other ≡ None = ap (λ (k : JournalState). k.other) inv.same ∙ c.requires.alone in
    let here : told j ≡ Some files = told_same c.args.journal.now j c.requires.alone alone (ap (λ (k : JournalState). k.live.told) inv.same) ∙ is in
    let past = none_left (rows_in j.other held.payloads) c.loop-index.index c.in-Ok-None.field-0 c.in-Ok-None.field-0-is (c.in-Ok-None.ensures.found inv.works files here held holds) in
    inv.found files is held holds ∙ found_end c.loop-index.index c.loop-index.offset c.loop-index.replay held.payloads (subst (λ (o : Option Side). length (rows_in o held.payloads) ≤ c.loop-index.index) alone past)

pub returns-in_err-follow_payload-clause-refused : goal.returns-in_err-follow_payload-clause-refused
returns-in_err-follow_payload-clause-refused g c = let p = err_from_is_err_and c.from_residual.result c.from_residual.ensures.1 in rw (p.1, p.2)
    (λ files is held holds.
    let inv = c.loop-index.invariant in
    let j = c.loop-index.journal in
    let alone : j.other ≡ None = ap (λ (k : JournalState). k.other) inv.same ∙ c.requires.alone in
    let here : told j ≡ Some files = told_same c.args.journal.now j c.requires.alone alone (ap (λ (k : JournalState). k.live.told) inv.same) ∙ is in
    let row = some_left (rows_in j.other held.payloads) c.loop-index.index c.in-Ok-Some.field-0 c.in-Ok-Some.payload c.in-Ok-Some.field-0-is (c.in-Ok-Some.ensures.found inv.works files here held holds) in
    let at : slice_get held.payloads c.loop-index.index ≡ Some c.in-Ok-Some.payload.items = subst (λ (o : Option Side). slice_get (rows_in o held.payloads) c.loop-index.index ≡ Some c.in-Ok-Some.payload.items) alone row in
    let e = c.in_err-follow_payload.field-0.0 in
    let fault = subst (λ (bytes : List ℕ). IsFault e (after_payload c.loop-index.index c.loop-index.offset c.loop-index.replay (record_in bytes))) c.as_slice.ensures.value c.in_err-follow_payload.ensures.refused in
    subst (IsFault e) (sym (inv.found files is held holds)) (found_fault e c.loop-index.index c.loop-index.offset c.loop-index.replay held.payloads c.in-Ok-Some.payload.items at fault))

pub returns-in_err-follow_payload-clause-errors : goal.returns-in_err-follow_payload-clause-errors
returns-in_err-follow_payload-clause-errors g c = let p = err_from_is_err_and c.from_residual.result c.from_residual.ensures.1 in rw (p.1, p.2) (payload_error c.in_err-follow_payload.field-0.0 c.in_err-follow_payload.ensures.errors)

pub returns-in_err-follow_payload-clause-cause : goal.returns-in_err-follow_payload-clause-cause
returns-in_err-follow_payload-clause-cause g c = let p = err_from_is_err_and c.from_residual.result c.from_residual.ensures.1 in rw (p.1, p.2)
    (payload_costs (Unit {0}) c.args.journal.now.live.faults c.replay.new.self.live.faults c.in_err-follow_payload.field-0.0 c.in_err-follow_payload.ensures.errors (omega (arith, c.loop-index.invariant.faults, c.in-Ok-Some.ensures.cause)))

pub loop-index-preserved : goal.loop-index-preserved
loop-index-preserved g c =
    let inv = c.loop-index.invariant in
    let j = c.loop-index.journal in
    let new = c.replay.new.self in
    record {
      works = c.in-Ok-Some.ensures.broken ∙ ap (λ (b : Bool). b || false) inv.works;
      same = c.in-Ok-Some.ensures.same ∙ ap (λ (k : JournalState). record k { live = record { told = k.live.told; faults = new.live.faults }; is_broken = new.is_broken }) inv.same;
      faults = omega (arith, inv.faults, c.in-Ok-Some.ensures.cause);
      fits = c.in_ok-follow_payload.ensures.fits;
      found = λ files is held holds.
          let alone : j.other ≡ None = ap (λ (k : JournalState). k.other) inv.same ∙ c.requires.alone in
          let here : told j ≡ Some files = told_same c.args.journal.now j c.requires.alone alone (ap (λ (k : JournalState). k.live.told) inv.same) ∙ is in
          let row = some_left (rows_in j.other held.payloads) c.loop-index.index c.in-Ok-Some.field-0 c.in-Ok-Some.payload c.in-Ok-Some.field-0-is (c.in-Ok-Some.ensures.found inv.works files here held holds) in
          let at : slice_get held.payloads c.loop-index.index ≡ Some c.in-Ok-Some.payload.items = subst (λ (o : Option Side). slice_get (rows_in o held.payloads) c.loop-index.index ≡ Some c.in-Ok-Some.payload.items) alone row in
          let after = ap (λ (bytes : List ℕ). after_payload c.loop-index.index c.loop-index.offset c.loop-index.replay (record_in bytes)) (sym c.as_slice.ensures.value) ∙ c.in_ok-follow_payload.ensures.followed in
          let size : vec_len c.in-Ok-Some.payload ≡ length c.in-Ok-Some.payload.items = omega (arith, c.in-Ok-Some.payload.ok) in
          let next = c.in-Some.ensures ∙ ap (λ (n : ℕ). c.loop-index.offset + 5 + n) (c.len.ensures ∙ size) in
          inv.found files is held holds
          ∙ found_next c.loop-index.index c.loop-index.offset c.loop-index.replay c.follow_payload.new.replay held.payloads c.in-Ok-Some.payload.items at after
          ∙ ap (λ (n : ℕ). rooms_found (c.loop-index.index + 1) n c.follow_payload.new.replay (drop (c.loop-index.index + 1) held.payloads)) (sym next);
    }
