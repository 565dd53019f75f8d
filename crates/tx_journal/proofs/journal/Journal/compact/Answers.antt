use Rattle.std.proofs.Common.{◌≡◌, ◌+◌, ℕ, false, Some, None, refl, sym, ◌∙◌, ap, subst, arith}
use Rattle.std.specs.Prelude.{option_map, not}
use Rattle.disk_model.proofs.Stages.{ok_from_test}
use Rattle.tx_journal.specs.declared.format.Format.TheVariants.{Two}
use Rattle.tx_journal.specs.Calls.{Side}
use Rattle.tx_journal.specs.Found.{at_first}
use Rattle.tx_journal.specs.Sound.{IsLive, Waits}
use Rattle.tx_journal.proofs.Compacts.{number_or, turn_fails, turn_crash, turn_done, turn_live, turn_waits}
use Rattle.tx_journal.proofs.journal.Journal.compact.Goals as goal

pub returns-then-is_err-clause-crash : goal.returns-then-is_err-clause-crash
returns-then-is_err-clause-crash g c =
    let started = c.self.invariant.started c.in-Some.end c.in-Some.is in
    rw (← c.self.view_is) (turn_fails _ _ _ _ c.self.invariant c.if-self.false (record { told = g.D.Disk.told c.in-Some-other.other; faults = g.D.Disk.disk_faults c.in-Some-other.other }) (record { told = g.D.Disk.told c.finish.new.disk; faults = g.D.Disk.disk_faults c.finish.new.disk }) (ap (option_map (λ d. record { told = g.D.Disk.told d; faults = g.D.Disk.disk_faults d })) c.in-Some-other.is) c.in-Some.end c.in-Some.is started.small c.finish.ensures.crash)

pub returns-clause-crash : goal.returns-clause-crash
returns-clause-crash g c =
    let started = c.self.invariant.started c.in-Some.end c.in-Some.is in
    rw (← c.self.view_is, c.swap.ensures.x_after, c.swap.ensures.y_after) (turn_crash _ _ _ _ c.self.invariant c.if-self.false (record { told = g.D.Disk.told c.in-Some-other.other; faults = g.D.Disk.disk_faults c.in-Some-other.other }) (record { told = g.D.Disk.told c.finish.new.disk; faults = g.D.Disk.disk_faults c.finish.new.disk }) (ap (option_map (λ d. record { told = g.D.Disk.told d; faults = g.D.Disk.disk_faults d })) c.in-Some-other.is) c.in-Some.end c.in-Some.is started.small c.finish.ensures.crash)

pub returns-clause-done : goal.returns-clause-done
returns-clause-done g c =
    let started = c.self.invariant.started c.in-Some.end c.in-Some.is in
    let done = ok_from_test c.finish.result _ (sym c.is_err.ensures.value ∙ c.if-is_err.false) c.finish.ensures.done in
    rw (← c.self.view_is, c.swap.ensures.x_after, c.swap.ensures.y_after) (turn_done _ _ _ _ c.self.invariant c.if-self.false (record { told = g.D.Disk.told c.in-Some-other.other; faults = g.D.Disk.disk_faults c.in-Some-other.other }) (record { told = g.D.Disk.told c.finish.new.disk; faults = g.D.Disk.disk_faults c.finish.new.disk }) (ap (option_map (λ d. record { told = g.D.Disk.told d; faults = g.D.Disk.disk_faults d })) c.in-Some-other.is) c.in-Some.end c.in-Some.is started.small done)

pub invariant_of-self-2 : goal.invariant_of-self-2
invariant_of-self-2 g c =
    let started = c.self.invariant.started c.in-Some.end c.in-Some.is in
    let done = ok_from_test c.finish.result _ (sym c.is_err.ensures.value ∙ c.if-is_err.false) c.finish.ensures.done in
    let count = ap (λ (k : ℕ). Some (k + 1)) (c.unwrap_or.ensures ∙ number_or c.self.inside.generation) in
    record {
      room_is = c.self.invariant.room_is;
      some = omega (arith, started.some);
      few = started.few;
      started = λ at is. absurd (let e : None ≡ Some at = is in cc);
      live = λ works d tells. subst (λ n. IsLive Two Two n c.in-Some.end at_first d) (sym count) (turn_live _ _ _ _ c.self.invariant c.if-self.false (record { told = g.D.Disk.told c.in-Some-other.other; faults = g.D.Disk.disk_faults c.in-Some-other.other }) (record { told = g.D.Disk.told c.finish.new.disk; faults = g.D.Disk.disk_faults c.finish.new.disk }) (ap (option_map (λ d. record { told = g.D.Disk.told d; faults = g.D.Disk.disk_faults d })) c.in-Some-other.is) c.in-Some.end c.in-Some.is started.small done d (ap g.D.Disk.told (sym c.swap.ensures.x_after) ∙ tells));
      waits = λ works side some d tells.
          let same : record { told = g.D.Disk.told c.swap.new.y; faults = g.D.Disk.disk_faults c.swap.new.y } ≡ side = cc in
          subst (λ n. Waits (not c.self.inside.is_second_live) n false None d) (sym count)
          (turn_waits _ _ _ _ c.self.invariant c.if-self.false (record { told = g.D.Disk.told c.in-Some-other.other; faults = g.D.Disk.disk_faults c.in-Some-other.other }) (record { told = g.D.Disk.told c.finish.new.disk; faults = g.D.Disk.disk_faults c.finish.new.disk }) (ap (option_map (λ d. record { told = g.D.Disk.told d; faults = g.D.Disk.disk_faults d })) c.in-Some-other.is) c.in-Some.end c.in-Some.is started.small d (ap g.D.Disk.told (sym c.swap.ensures.y_after) ∙ ap (λ (x : Side). x.told) same ∙ tells));
    }

pub returns-clause-taken : goal.returns-clause-taken
returns-clause-taken g c none = (rw (← c.self.view_is, c.swap.ensures.x_after, c.swap.ensures.y_after, c.unwrap_or.ensures, number_or c.self.inside.generation, c.if-self.false) refl, rw (← c.self.view_is) c.in-Some.is)
