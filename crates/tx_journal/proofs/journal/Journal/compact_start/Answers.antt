use Rattle.std.proofs.Common.{◌≡◌, ◌+◌, ℕ, refl, sym, ◌∙◌, ap, subst, arith}
use Rattle.std.specs.Prelude.{option_map}
use Rattle.disk_model.specs.Disk.{Tells}
use Rattle.disk_model.proofs.Stages.{ok_from_test}
use Rattle.tx_journal.specs.Compaction.{HasBegunFile}
use Rattle.tx_journal.specs.Calls.{Side, next_number}
use Rattle.tx_journal.proofs.Compacts.{cause_ok, other_keeps, number_or, may_start, start_crash, live_two, start_kept, start_begun, start_waits}
use Rattle.tx_journal.proofs.journal.Journal.compact_start.Goals as goal

pub begin-requires : goal.begin-requires
begin-requires g c = record {
  ready = λ d tells. may_start c.self.inside.is_second_live c.self.inside.generation c.self.inside.is_shut c.self.inside.staged d (c.self.invariant.waits c.if-self.false (record { told = g.D.Disk.told c.in-Some.other; faults = g.D.Disk.disk_faults c.in-Some.other }) (ap (option_map (λ d. record { told = g.D.Disk.told d; faults = g.D.Disk.disk_faults d })) c.in-Some.is) d tells);
}

pub returns-then-is_err-clause-crash : goal.returns-then-is_err-clause-crash
returns-then-is_err-clause-crash g c =
    rw (← c.self.view_is) (start_crash _ _ _ _ c.self.invariant c.if-self.false (record { told = g.D.Disk.told c.in-Some.other; faults = g.D.Disk.disk_faults c.in-Some.other }) (record { told = g.D.Disk.told c.begin.new.disk; faults = g.D.Disk.disk_faults c.begin.new.disk }) (ap (option_map (λ d. record { told = g.D.Disk.told d; faults = g.D.Disk.disk_faults d })) c.in-Some.is) c.begin.ensures.crash)

pub returns-clause-crash : goal.returns-clause-crash
returns-clause-crash g c =
    rw (← c.self.view_is) (start_crash _ _ _ _ c.self.invariant c.if-self.false (record { told = g.D.Disk.told c.in-Some.other; faults = g.D.Disk.disk_faults c.in-Some.other }) (record { told = g.D.Disk.told c.begin.new.disk; faults = g.D.Disk.disk_faults c.begin.new.disk }) (ap (option_map (λ d. record { told = g.D.Disk.told d; faults = g.D.Disk.disk_faults d })) c.in-Some.is) c.begin.ensures.crash)

pub returns-clause-kept : goal.returns-clause-kept
returns-clause-kept g c =
    let count : c.unwrap_or-count.result + 1 ≡ next_number c.self.inside.generation = ap (λ (k : ℕ). k + 1) (c.unwrap_or-count.ensures ∙ number_or c.self.inside.generation) in
    let done = subst (λ n. Tells (HasBegunFile c.self.inside.is_shut n) (g.D.Disk.told c.in-Some.other) (g.D.Disk.told c.begin.new.disk)) count (ok_from_test c.begin.result _ (sym c.is_err.ensures.value ∙ c.if-is_err.false) c.begin.ensures.done) in
    rw (← c.self.view_is) (start_kept _ _ _ _ c.self.invariant c.if-self.false (record { told = g.D.Disk.told c.in-Some.other; faults = g.D.Disk.disk_faults c.in-Some.other }) (record { told = g.D.Disk.told c.begin.new.disk; faults = g.D.Disk.disk_faults c.begin.new.disk }) (ap (option_map (λ d. record { told = g.D.Disk.told d; faults = g.D.Disk.disk_faults d })) c.in-Some.is) done)

pub returns-clause-begun : goal.returns-clause-begun
returns-clause-begun g c =
    let count : c.unwrap_or-count.result + 1 ≡ next_number c.self.inside.generation = ap (λ (k : ℕ). k + 1) (c.unwrap_or-count.ensures ∙ number_or c.self.inside.generation) in
    let done = subst (λ n. Tells (HasBegunFile c.self.inside.is_shut n) (g.D.Disk.told c.in-Some.other) (g.D.Disk.told c.begin.new.disk)) count (ok_from_test c.begin.result _ (sym c.is_err.ensures.value ∙ c.if-is_err.false) c.begin.ensures.done) in
    rw (← c.self.view_is) (start_begun _ _ _ _ c.self.invariant c.if-self.false (record { told = g.D.Disk.told c.in-Some.other; faults = g.D.Disk.disk_faults c.in-Some.other }) (record { told = g.D.Disk.told c.begin.new.disk; faults = g.D.Disk.disk_faults c.begin.new.disk }) (ap (option_map (λ d. record { told = g.D.Disk.told d; faults = g.D.Disk.disk_faults d })) c.in-Some.is) done)

pub invariant_of-self-2 : goal.invariant_of-self-2
invariant_of-self-2 g c =
    let count : c.unwrap_or-count.result + 1 ≡ next_number c.self.inside.generation = ap (λ (k : ℕ). k + 1) (c.unwrap_or-count.ensures ∙ number_or c.self.inside.generation) in
    let done = subst (λ n. Tells (HasBegunFile c.self.inside.is_shut n) (g.D.Disk.told c.in-Some.other) (g.D.Disk.told c.begin.new.disk)) count (ok_from_test c.begin.result _ (sym c.is_err.ensures.value ∙ c.if-is_err.false) c.begin.ensures.done) in
    record {
      room_is = c.self.invariant.room_is;
      some = c.self.invariant.some;
      few = c.self.invariant.few;
      started = λ at is.
          let same : 31 ≡ at = cc in
          record {
            some = omega (arith, same);
            few = omega (arith, same);
            paired = refl;
            small = omega (arith, c.if-count-ge-LAST.false, c.unwrap_or-count.ensures, number_or c.self.inside.generation);
          };
      live = λ works d tells. live_two _ _ _ _ c.self.invariant c.if-self.false (record { told = g.D.Disk.told c.in-Some.other; faults = g.D.Disk.disk_faults c.in-Some.other }) (record { told = g.D.Disk.told c.begin.new.disk; faults = g.D.Disk.disk_faults c.begin.new.disk }) (ap (option_map (λ d. record { told = g.D.Disk.told d; faults = g.D.Disk.disk_faults d })) c.in-Some.is) d tells;
      waits = λ works side some d tells.
          let same : (record { told = g.D.Disk.told c.begin.new.disk; faults = g.D.Disk.disk_faults c.begin.new.disk }) ≡ side = cc in
          start_waits _ _ _ _ c.self.invariant c.if-self.false (record { told = g.D.Disk.told c.in-Some.other; faults = g.D.Disk.disk_faults c.in-Some.other }) (record { told = g.D.Disk.told c.begin.new.disk; faults = g.D.Disk.disk_faults c.begin.new.disk }) (ap (option_map (λ d. record { told = g.D.Disk.told d; faults = g.D.Disk.disk_faults d })) c.in-Some.is) done d (ap (λ (x : Side). x.told) same ∙ tells);
    }

pub returns-clause-count : goal.returns-clause-count
returns-clause-count g c =
    rw (← c.self.view_is)
    (other_keeps _ _ (record { told = g.D.Disk.told c.in-Some.other; faults = g.D.Disk.disk_faults c.in-Some.other }) (record { told = g.D.Disk.told c.begin.new.disk; faults = g.D.Disk.disk_faults c.begin.new.disk }) (ap (option_map (λ d. record { told = g.D.Disk.told d; faults = g.D.Disk.disk_faults d })) c.in-Some.is) refl
    (cause_ok c.begin.result _ _ (sym c.is_err.ensures.value ∙ c.if-is_err.false) c.begin.ensures.cause))
