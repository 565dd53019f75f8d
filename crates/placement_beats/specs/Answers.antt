-- What the parts of a node answered to one event, a part each in order. Own.
use Rattle.std.specs.Prelude.{◌≡◌, Bool, true, false, ◌||◌, List, [], ◌∷◌, Option, Some, None, Ok, Err}
use Rattle.part_model.specs.Receipts.{PartReply}
use Rattle.part_model.specs.declared.event.Reply.TheVariants.{TableStep, Opened, NotDrained, Ticked, StoppedNow}
use Rattle.part_model.specs.Receipts.{ReceiptState}
use Rattle.part_model.specs.Acks.{is_stopped_stage}
use Rattle.step_gate.specs.declared.gate.Spent.{Spent}
use Rattle.sidecar_node.specs.Turns.{Said, first_spent}
use Rattle.placement_beats.specs.declared.book.TurnEnd.{TurnEnd}
use Rattle.placement_beats.specs.declared.book.TurnEnd.TheVariants as ends

-- the receipt in a reply, if it has one
abbrev pub receipt_in : PartReply → Option ReceiptState
receipt_in (TableStep r changed) = Some r
receipt_in (Opened r begun moved) = Some r
receipt_in (NotDrained r) = Some r
receipt_in (Ticked r ended) = Some r
receipt_in (StoppedNow r) = Some r
receipt_in reply = None

-- no receipt, or that of a stopped part
abbrev pub is_stop : Option ReceiptState → Bool
is_stop None = true
is_stop (Some r) = is_stopped_stage r.stage

-- the receipt in an answer, if it has one
abbrev pub receipt_said : Said → Option ReceiptState
receipt_said (Ok reply) = receipt_in reply
receipt_said (Err spent) = None

-- a part has stopped: to an event of a round a part that runs answers with a receipt
abbrev pub says_stopped : Said → Bool
says_stopped (Ok reply) = is_stop (receipt_in reply)
says_stopped (Err spent) = false

abbrev pub any_stopped : List Said → Bool
any_stopped [] = false
any_stopped (said ∷ saids) = says_stopped said || any_stopped saids

abbrev pub with_receipt : Option ReceiptState → List ReceiptState → List ReceiptState
with_receipt None rs = rs
with_receipt (Some r) rs = r ∷ rs

-- the receipts in the answers, in order
abbrev pub receipts_of : List Said → List ReceiptState
receipts_of [] = []
receipts_of (said ∷ saids) = with_receipt (receipt_said said) (receipts_of saids)

-- each part answered with a receipt, and these are they
abbrev pub Report : List Said → List ReceiptState → Type 0
Report [] [] = Unit {0}
Report (Ok reply ∷ saids) (r ∷ rs) = (receipt_in reply ≡ Some r) × Report saids rs
Report saids rs = ⊥

abbrev pub hindered : Option Spent → Bool → Option TurnEnd
hindered (Some spent) stopped = Some (ends.Spent spent.count)
hindered None true = Some ends.Stopped
hindered None false = None

-- what ends a turn after these answers: a gate that took no entry, before a part that has stopped
abbrev pub hindrance : List Said → Option TurnEnd
hindrance saids = hindered (first_spent saids) (any_stopped saids)

-- the end, if nothing hinders
abbrev pub end_or : Option TurnEnd → TurnEnd → TurnEnd
end_or None end = end
end_or (Some hindered) end = hindered
