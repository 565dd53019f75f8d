-- How a turn begins, how it ends, and how parts stop: the entries of a call on a part, and what the call answers. Own.
use Rattle.std.specs.Prelude.{◌≡◌, ◌⊎◌, ◌+◌, ℕ, Bool, true, false, List, [], ◌∷◌, Option, Some, None, Result, Ok, Err}
use Rattle.actor_names.specs.declared.actor_key.ActorKey.{ActorKey}
use Rattle.part_model.specs.declared.event.PartEvent.{PartEvent}
use Rattle.part_model.specs.declared.event.PartEvent.TheVariants.{Ask, AskAt, Poll, End, StopPart}
use Rattle.part_model.specs.Receipts.{PartReply}
use Rattle.part_model.specs.declared.event.Reply.TheVariants as replies
use Rattle.step_gate.specs.declared.gate.Spent.{Spent}
use Rattle.sidecar_node.specs.Entries.{PartEntry, NodeEntry, OnPart}

-- what a call on a part comes to: a reply, or the gate took no further entry
abbrev pub Said : Type 0
Said = Result PartReply Spent

abbrev pub IsSpent : Said → Type 0
IsSpent (Ok reply) = ⊥
IsSpent (Err spent) = Unit {0}

-- the call is told to ask again: it waits, or its poll ran out of memory
abbrev pub asks_again : PartReply → Bool
asks_again (replies.Waits call place) = true
asks_again replies.OutOfMemory = true
asks_again reply = false

abbrev pub Either : Bool → Type 0 → Type 0 → Type 0
Either true A B = A
Either false A B = B

-- Polls of the call for as long as it is told to ask again. The last reply is the answer; the gate may end it sooner.
abbrev pub Polls : ℕ → List PartEntry → Said → Type 0
Polls call [] said = IsSpent said
Polls call (e ∷ es) said = (e.event ≡ Poll call) × Either (asks_again e.reply) (Polls call es said) ((es ≡ []) × (said ≡ Ok e.reply))

-- an Ask, or an AskAt if a least version is given
abbrev pub ask_of : ActorKey → Option (List ℕ) → Option ℕ → ℕ → PartEvent
ask_of key chain None now = Ask key chain now
ask_of key chain (Some least) now = AskAt key chain least now

-- what follows the reply to it
abbrev pub AfterAsk : PartReply → List PartEntry → Said → Type 0
AfterAsk (replies.Waits call place) es said = Polls call es said
AfterAsk reply es said = (es ≡ []) × (said ≡ Ok reply)

-- what follows what came of it
abbrev pub AfterFirst : Said → List PartEntry → Said → Type 0
AfterFirst (Ok reply) es said = AfterAsk reply es said
AfterFirst (Err spent) es said = (es ≡ []) × IsSpent said

-- one such event, and what follows its reply; with no entry, the gate took none
abbrev pub BeginsBy : PartEvent → List PartEntry → Said → Type 0
BeginsBy ask [] said = IsSpent said
BeginsBy ask (e ∷ es) said = (e.event ≡ ask) × AfterAsk e.reply es said

-- A turn begins: one Ask or AskAt at this moment, and then Polls of its call while it waits. With no entry, memory ran
-- out before the Ask, or the gate took none.
abbrev pub Begins : ActorKey → Option (List ℕ) → Option ℕ → ℕ → List PartEntry → Said → Type 0
Begins key chain least now [] said = (said ≡ Ok replies.OutOfMemory) ⊎ IsSpent said
Begins key chain least now (e ∷ es) said = BeginsBy (ask_of key chain least now) (e ∷ es) said

-- one entry with this event, whose reply is the answer, or the gate took none
abbrev pub MakesOne : PartEvent → List PartEntry → Said → Type 0
MakesOne event [] said = IsSpent said
MakesOne event (e ∷ []) said = (e.event ≡ event) × (said ≡ Ok e.reply)
MakesOne event (e ∷ f ∷ es) said = ⊥

-- a turn ends: one End of the call at this moment
abbrev pub Ends : ℕ → ℕ → List PartEntry → Said → Type 0
Ends call now es said = MakesOne (End call now) es said

-- The entries of parts that stop, one StopPart on each part in order from the part with this number on. Each part's
-- answer is in the list; one whose gate took no entry has none.
abbrev pub stop_entries : ℕ → List Said → List NodeEntry
stop_entries part [] = []
stop_entries part (Ok reply ∷ saids) = OnPart part (record { event = StopPart; reply = reply }) ∷ stop_entries (part + 1) saids
stop_entries part (Err spent ∷ saids) = stop_entries (part + 1) saids

-- the first of these answers that says that a gate took no entry
abbrev pub first_spent : List Said → Option Spent
first_spent [] = None
first_spent (Ok reply ∷ saids) = first_spent saids
first_spent (Err spent ∷ saids) = Some spent

-- the first so far, if one more answer comes
abbrev pub first_or : Option Spent → Said → Option Spent
first_or (Some spent) said = Some spent
first_or None (Ok reply) = None
first_or None (Err spent) = Some spent
