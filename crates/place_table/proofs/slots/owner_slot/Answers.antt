use Rattle.std.proofs.Common.{sym, ◌∙◌, ap, Some}
use Rattle.std.proofs.lemmas.Option.{slice_get-get_or, slice_get_past}
use Rattle.place_table.specs.declared.table.Slot.{Slot}
use Rattle.place_table.proofs.Halving.{some_next, none_next}
use Rattle.place_table.proofs.slots.owner_slot.Goals as goal

pub returns-in-Some-clause-owner : goal.returns-in-Some-clause-owner
returns-in-Some-clause-owner g c = some_next c.args.slots.now c.args.place c.first_from-first.result c.in-Some.slot.now c.first_from-first.ensures.first
    (slice_get-get_or c.args.slots.now c.first_from-first.result c.in-Some.slot.now c.in-Some.ensures.lookup.3.0 ∙ ap (λ (s : Slot). Some s) (sym c.in-Some.ensures.lookup.1))

pub returns-in-None-clause-owner : goal.returns-in-None-clause-owner
returns-in-None-clause-owner g c = c.copied.ensures ∙ c.first.ensures.value ∙ none_next c.args.slots.now c.args.place c.first_from-first.result c.first_from-first.ensures.first
    (slice_get_past c.args.slots.now c.first_from-first.result c.in-None.ensures.lookup.3)
