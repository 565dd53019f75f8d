-- What contracts see of a part, and what a step gives. Own.
use Rattle.std.specs.Prelude.{◌≡◌, ◌≤◌, ◌^◌, ℕ, Bool, true, false, List, [], is_some}
use Rattle.part_model.specs.declared.event.PartEvent.{PartEvent}
use Rattle.part_model.specs.declared.event.PartEvent.TheVariants as events
use Rattle.part_model.specs.Receipts.{PartReply}
use Rattle.part_model.specs.declared.event.Reply.TheVariants as replies
use Rattle.part_model.specs.Marks.{begun_calls, ended_calls}
use Rattle.part_model.specs.Part.{PartState, PartStep, is_stopped, part_step, ring_owner}

-- the state, and the calls that the last step began or, for Tick and StopPart, ended
pub record PartView : Type 0 where
  pub state : PartState
  pub recent : List ℕ

-- the step's part and reply, and the calls that began
abbrev pub Gives : PartStep → PartReply → PartView → Type 0
Gives step reply new = (reply ≡ step.reply) × (new ≡ record { state = step.part; recent = begun_calls step.marks })

-- the step's part and reply, and the calls that ended
abbrev pub GivesEnded : PartStep → PartReply → PartView → Type 0
GivesEnded step reply new = (reply ≡ step.reply) × (new ≡ record { state = step.part; recent = ended_calls step.marks })

-- the same, but if memory runs out the part is as before; a stopped part never runs out
abbrev pub GivesInMemory : PartStep → PartReply → PartState → PartView → Type 0
GivesInMemory step replies.OutOfMemory old new = (new ≡ record { state = old; recent = [] }) × (is_stopped old.stage ≡ false)
GivesInMemory step reply old new = Gives step reply new

-- only Ask, AskAt, Poll and TakeClosing may run out of memory
abbrev pub GivesStep : PartEvent → PartReply → PartState → PartView → Type 0
GivesStep (events.Ask key chain now) reply old new = GivesInMemory (part_step ring_owner old (events.Ask key chain now)) reply old new
GivesStep (events.AskAt key chain least now) reply old new = GivesInMemory (part_step ring_owner old (events.AskAt key chain least now)) reply old new
GivesStep (events.Poll call) reply old new = GivesInMemory (part_step ring_owner old (events.Poll call)) reply old new
GivesStep (events.TakeClosing now) reply old new = GivesInMemory (part_step ring_owner old (events.TakeClosing now)) reply old new
GivesStep (events.Tick now) reply old new = GivesEnded (part_step ring_owner old (events.Tick now)) reply new
GivesStep events.StopPart reply old new = GivesEnded (part_step ring_owner old events.StopPart) reply new
GivesStep event reply old new = Gives (part_step ring_owner old event) reply new

-- ---- where memory may run out

-- an Ask may take memory as soon as it isn't refused by the tests that come first
abbrev pub ask_takes : PartReply → Bool
ask_takes (replies.Spent count) = false
ask_takes (replies.Behind seen) = false
ask_takes replies.Stopped = false
ask_takes reply = true

-- a chain, an owner or a key is handed out as a copy, which takes memory
abbrev pub hands_out : PartReply → Bool
hands_out (replies.Begun call chain) = is_some chain
hands_out (replies.Elsewhere version owner) = true
hands_out (replies.Close key) = true
hands_out reply = false

-- memory runs out only where the step's answer takes some
abbrev pub RunsOutFor : (PartReply → Bool) → PartStep → PartReply → Type 0
RunsOutFor takes step reply = reply ≡ replies.OutOfMemory → takes step.reply ≡ true

-- the same for the four events that may run out of memory
abbrev pub RunsOutRightly : PartEvent → PartReply → PartState → Type 0
RunsOutRightly (events.Ask key chain now) reply old = RunsOutFor ask_takes (part_step ring_owner old (events.Ask key chain now)) reply
RunsOutRightly (events.AskAt key chain least now) reply old = RunsOutFor ask_takes (part_step ring_owner old (events.AskAt key chain least now)) reply
RunsOutRightly (events.Poll call) reply old = RunsOutFor hands_out (part_step ring_owner old (events.Poll call)) reply
RunsOutRightly (events.TakeClosing now) reply old = RunsOutFor hands_out (part_step ring_owner old (events.TakeClosing now)) reply
RunsOutRightly event reply old = Unit {0}

-- ---- events in range

-- a version is at most 2^62
abbrev pub IsInRange : PartEvent → Type 0
IsInRange (events.Lock version) = version ≤ 2 ^ 62
IsInRange (events.Update table now) = table.version ≤ 2 ^ 62
IsInRange (events.Unlock version) = version ≤ 2 ^ 62
IsInRange event = Unit {0}
