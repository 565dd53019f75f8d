use Rattle.std.proofs.Common.{◌≡◌, ℕ, List, ◌++◌, Some, None, ap, sym, subst, ◌∙◌}
use Rattle.disk_model.proofs.Stages.{ok_from_test}
use Rattle.store_tables.specs.Tables.{Tables, told_in, Accepted}
use Rattle.store_tables.specs.Contents.{Timed, outcome_of}
use Rattle.store_payloads.specs.Payloads.{command_payload}
use Rattle.store_core.specs.Store.{StoreState, IsWhole, Written}
use Rattle.store_core.proofs.Steps.{takes, accepted_is, answer_fits, moves-ran-out, moves-refused, moves-written, current-refused, current-written}
use Rattle.store_core.proofs.Paired.{written_paired}
use Rattle.store_core.proofs.store.Store.accept.Goals as goal

pub returns-then-is_err-clause-moves : goal.returns-then-is_err-clause-moves
returns-then-is_err-clause-moves g c =
    let timed : Timed = record { now = c.args.now; command = c.args.command } in
    let works = ap (λ (s : StoreState). s.journal.is_broken) c.self.view_is ∙ c.requires.works in
    let accepted = ap (λ (s : StoreState). told_in (outcome_of s.contents timed)) c.self.view_is ∙ c.requires.accepted in
    rw (← c.self.view_is, c.out_of_memory.ensures.is) (moves-ran-out c.self.inside.tables.tables c.self.inside.journal c.self.invariant.current works timed (takes (outcome_of c.self.inside.tables.tables timed) accepted))

pub prepare-requires-clause-accepted : goal.prepare-requires-clause-accepted
prepare-requires-clause-accepted g c = ap (λ (s : StoreState). told_in (outcome_of s.contents (record { now = c.args.now; command = c.args.command }))) c.self.view_is ∙ c.requires.accepted

pub invariant_of-self : goal.invariant_of-self
invariant_of-self g c = subst (IsWhole c.self.inside.journal) (sym c.prepare.ensures.tables) (record { current = c.self.invariant.current; fits = c.self.invariant.fits; paired = c.self.invariant.paired })

pub returns-in_default-clause-moves : goal.returns-in_default-clause-moves
returns-in_default-clause-moves g c =
    let timed : Timed = record { now = c.args.now; command = c.args.command } in
    let works = ap (λ (s : StoreState). s.journal.is_broken) c.self.view_is ∙ c.requires.works in
    let accepted = ap (λ (s : StoreState). told_in (outcome_of s.contents timed)) c.self.view_is ∙ c.requires.accepted in
    rw (← c.self.view_is, c.out_of_memory-in_default.ensures.is, c.prepare.ensures.tables) (moves-ran-out c.self.inside.tables.tables c.self.inside.journal c.self.invariant.current works timed (takes (outcome_of c.self.inside.tables.tables timed) accepted))

pub write-requires : goal.write-requires
write-requires g c = ap (λ (s : StoreState). s.journal.is_broken) c.self.view_is ∙ c.requires.works

pub invariant_of-self-in-Some : goal.invariant_of-self-in-Some
invariant_of-self-in-Some g c =
    let timed : Timed = record { now = c.args.now; command = c.args.command } in
    let works = ap (λ (s : StoreState). s.journal.is_broken) c.self.view_is ∙ c.requires.works in
    let accepted = ap (λ (s : StoreState). told_in (outcome_of s.contents timed)) c.self.view_is ∙ c.requires.accepted in
    let o = accepted_is (outcome_of c.self.inside.tables.tables timed) accepted in
    let payload : c.as_slice.result.now ≡ command_payload timed =
    c.as_slice.ensures.value ∙ ok_from_test c.write_command_payload.result _ (sym c.is_err.ensures.value ∙ c.if-is_err.false) c.write_command_payload.ensures ∙ ap (λ (l : List ℕ). l ++ command_payload timed) c.new-payload.ensures.items in
    let written = subst (λ (p : List ℕ). Written p (Some c.in-Some.refusal) c.self.inside.journal c.write.new.journal) payload c.in-Some.ensures.written in
    subst (IsWhole c.write.new.journal) (sym c.prepare.ensures.tables)
    (record {
      current = current-refused c.self.inside.tables.tables c.self.inside.journal c.self.invariant.current works timed c.payload_law.ensures.commands c.requires.may o.0 o.1 o.2 c.in-Some.refusal c.write.new.journal written;
      fits = c.self.invariant.fits;
      paired = written_paired (command_payload timed) (Some c.in-Some.refusal) c.self.inside.journal c.write.new.journal c.self.invariant.paired written;
    })

pub returns-in-Some-clause-moves : goal.returns-in-Some-clause-moves
returns-in-Some-clause-moves g c =
    let timed : Timed = record { now = c.args.now; command = c.args.command } in
    let works = ap (λ (s : StoreState). s.journal.is_broken) c.self.view_is ∙ c.requires.works in
    let accepted = ap (λ (s : StoreState). told_in (outcome_of s.contents timed)) c.self.view_is ∙ c.requires.accepted in
    let o = accepted_is (outcome_of c.self.inside.tables.tables timed) accepted in
    let payload : c.as_slice.result.now ≡ command_payload timed =
    c.as_slice.ensures.value ∙ ok_from_test c.write_command_payload.result _ (sym c.is_err.ensures.value ∙ c.if-is_err.false) c.write_command_payload.ensures ∙ ap (λ (l : List ℕ). l ++ command_payload timed) c.new-payload.ensures.items in
    let written = subst (λ (p : List ℕ). Written p (Some c.in-Some.refusal) c.self.inside.journal c.write.new.journal) payload c.in-Some.ensures.written in
    rw (← c.self.view_is, c.refused.ensures.is, c.prepare.ensures.tables)
    (moves-refused c.self.inside.tables.tables c.self.inside.journal c.self.invariant.current works timed c.payload_law.ensures.commands c.requires.may o.0 o.1 o.2 c.in-Some.refusal c.write.new.journal written)

pub apply-requires-clause-accepted : goal.apply-requires-clause-accepted
apply-requires-clause-accepted g c =
    let timed : Timed = record { now = c.args.now; command = c.args.command } in
    ap told_in (c.in-Ok.ensures.leads c.prepare.new.self.tables) ∙ ap (λ (u : Tables). told_in (outcome_of u timed)) c.prepare.ensures.tables ∙ ap (λ (s : StoreState). told_in (outcome_of s.contents timed)) c.self.view_is ∙ c.requires.accepted

pub invariant_of-self-2 : goal.invariant_of-self-2
invariant_of-self-2 g c =
    let timed : Timed = record { now = c.args.now; command = c.args.command } in
    let works = ap (λ (s : StoreState). s.journal.is_broken) c.self.view_is ∙ c.requires.works in
    let o : outcome_of c.self.inside.tables.tables timed ≡ Accepted c.apply.result c.apply.new.self.tables =
    sym (c.in-Ok.ensures.leads c.prepare.new.self.tables ∙ ap (λ (u : Tables). outcome_of u timed) c.prepare.ensures.tables) ∙ c.apply.ensures in
    let payload : c.as_slice.result.now ≡ command_payload timed =
    c.as_slice.ensures.value ∙ ok_from_test c.write_command_payload.result _ (sym c.is_err.ensures.value ∙ c.if-is_err.false) c.write_command_payload.ensures ∙ ap (λ (l : List ℕ). l ++ command_payload timed) c.new-payload.ensures.items in
    let written = subst (λ (p : List ℕ). Written p None c.self.inside.journal c.write.new.journal) payload (rw c.in_default-write.is at c.write.ensures.written) in
    record {
      current = current-written c.self.inside.tables.tables c.self.inside.journal c.self.invariant.current works timed c.payload_law.ensures.commands c.requires.may c.apply.result c.apply.new.self.tables o c.write.new.journal written;
      fits = c.payload_law.ensures.fits c.self.inside.tables.tables timed c.apply.result c.apply.new.self.tables c.requires.may o c.self.invariant.fits;
      paired = written_paired (command_payload timed) None c.self.inside.journal c.write.new.journal c.self.invariant.paired written;
    }

pub returns-clause-moves : goal.returns-clause-moves
returns-clause-moves g c =
    let timed : Timed = record { now = c.args.now; command = c.args.command } in
    let works = ap (λ (s : StoreState). s.journal.is_broken) c.self.view_is ∙ c.requires.works in
    let o : outcome_of c.self.inside.tables.tables timed ≡ Accepted c.apply.result c.apply.new.self.tables =
    sym (c.in-Ok.ensures.leads c.prepare.new.self.tables ∙ ap (λ (u : Tables). outcome_of u timed) c.prepare.ensures.tables) ∙ c.apply.ensures in
    let payload : c.as_slice.result.now ≡ command_payload timed =
    c.as_slice.ensures.value ∙ ok_from_test c.write_command_payload.result _ (sym c.is_err.ensures.value ∙ c.if-is_err.false) c.write_command_payload.ensures ∙ ap (λ (l : List ℕ). l ++ command_payload timed) c.new-payload.ensures.items in
    let written = subst (λ (p : List ℕ). Written p None c.self.inside.journal c.write.new.journal) payload (rw c.in_default-write.is at c.write.ensures.written) in
    rw (← c.self.view_is)
    (moves-written c.self.inside.tables.tables c.self.inside.journal c.self.invariant.current works timed c.payload_law.ensures.commands c.requires.may c.apply.result c.apply.new.self.tables o c.write.new.journal written)

pub returns-clause-fits : goal.returns-clause-fits
returns-clause-fits g c =
    let timed : Timed = record { now = c.args.now; command = c.args.command } in
    let o : outcome_of c.self.inside.tables.tables timed ≡ Accepted c.apply.result c.apply.new.self.tables =
    sym (c.in-Ok.ensures.leads c.prepare.new.self.tables ∙ ap (λ (u : Tables). outcome_of u timed) c.prepare.ensures.tables) ∙ c.apply.ensures in
    answer_fits (outcome_of c.self.inside.tables.tables timed) c.apply.result c.apply.new.self.tables o (c.payload_law.ensures.answers c.self.inside.tables.tables timed c.requires.may c.self.invariant.fits c.order_law.ensures.timely)
