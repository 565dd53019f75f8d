use Rattle.std.proofs.Common.{sym, ap, ◌∙◌, Some}
use Rattle.turn_core.specs.declared.cell.Waiter.{Waiter}
use Rattle.turn_core.proofs.Places.{is_unmoved, found_within, first_unmoved-found, first_unmoved-missed, without_first-found, without_first-missed}
use Rattle.turn_core.proofs.queue.take_first.Goals as goal

pub take_at-requires : goal.take_at-requires
take_at-requires c = found_within is_unmoved c.args.queue.now.items c.in-Some.at (sym c.in-Some.ensures)

pub returns-in-None-clause-first : goal.returns-in-None-clause-first
returns-in-None-clause-first c = sym (first_unmoved-missed c.args.queue.now.items (sym c.in-None.ensures))

pub returns-in-None-clause-rest : goal.returns-in-None-clause-rest
returns-in-None-clause-rest c = sym (without_first-missed c.args.queue.now.items (sym c.in-None.ensures))

pub returns-in-Some-clause-first : goal.returns-in-Some-clause-first
returns-in-Some-clause-first c =
    ap (λ (w : Waiter). Some w) c.take_at.ensures.value
    ∙ sym (first_unmoved-found c.args.queue.now.items c.in-Some.at c.take_at.result (sym c.in-Some.ensures))

pub returns-in-Some-clause-rest : goal.returns-in-Some-clause-rest
returns-in-Some-clause-rest c = c.take_at.ensures.rest ∙ sym (without_first-found c.args.queue.now.items c.in-Some.at (sym c.in-Some.ensures))
