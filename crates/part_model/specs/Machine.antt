-- A part as a machine: what its step allows. Own.
use Rattle.part_model.specs.declared.event.PartEvent.{PartEvent}
use Rattle.part_model.specs.Receipts.{PartReply}
use Rattle.part_model.specs.Rooms.{PartView, GivesStep, RunsOutRightly, IsInRange}

-- The event is one that the part takes, the reply and the new part are those of the step, and memory runs out only
-- where the answer takes some.
abbrev pub PartAllows : PartView → PartEvent → PartReply → PartView → Type 0
PartAllows old event reply new = IsInRange event × GivesStep event reply old.state new × RunsOutRightly event reply old.state
