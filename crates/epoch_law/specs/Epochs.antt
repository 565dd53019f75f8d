-- The epoch of a member's writes to an actor: the version at which its part of the actor opened last. And the holds that
-- keep the actor active meanwhile. Own.
use Rattle.std.specs.Prelude.{◌≡◌, ◌⊎◌, ◌+◌, ◌<◌, ◌&&◌, ℕ, Bool, true, false, if◌then◌else◌, List, [], ◌∷◌, ◌++◌, Option}
use Rattle.actor_names.specs.declared.actor_key.ActorKey.{ActorKey}
use Rattle.actor_names.specs.Same.{same_key}
use Rattle.place_table.specs.declared.host.HostInfo.{HostInfo}
use Rattle.place_table.specs.Hosts.{PlacementTable}
use Rattle.turn_core.specs.CellSound.{In}
use Rattle.part_model.specs.declared.actor_cell.ActorCell.{ActorCell}
use Rattle.part_model.specs.declared.event.PartEvent.{PartEvent}
use Rattle.part_model.specs.declared.event.PartEvent.TheVariants.{Lock, Hold, Release, StopPart}
use Rattle.part_model.specs.declared.event.Reply.TheVariants.{TableStep, Stopped, Held}
use Rattle.part_model.specs.Receipts.{PartReply, ReceiptState}
use Rattle.part_model.specs.Part.{PartState, part_step}

-- the part has the actor active
abbrev pub HasActive : PartState → ActorKey → Type 0
HasActive p key = (c : ActorCell) × In c p.cells × (c.active ≡ true) × (c.key ≡ key)

-- so many holds of the actor are open, and the part has it active
abbrev pub IsHeld : ℕ → PartState → ActorKey → Type 0
IsHeld n p key = (c : ActorCell) × In c p.cells × (c.active ≡ true) × (c.key ≡ key) × (c.inner.holds ≡ n)

-- the reply is a receipt that tells this version as the one at which the part opened last
abbrev pub IsTold : PartReply → ℕ → Type 0
IsTold reply epoch = (receipt : ReceiptState) × (reply ≡ TableStep receipt false) × (receipt.opened ≡ epoch)

-- ---- lists of events

-- no event is StopPart
abbrev pub NeverStops : List PartEvent → Type 0
NeverStops es = In StopPart es → ⊥

-- 1 if the event is a Release of this actor, and otherwise 0
abbrev pub released : ActorKey → PartEvent → ℕ
released key (Release k now) = if same_key key k then 1 else 0
released key _ = 0

-- how many of these events are a Release of this actor
abbrev pub releases : ActorKey → List PartEvent → ℕ
releases key [] = 0
releases key (e ∷ es) = released key e + releases key es

abbrev pub is_held : PartReply → Bool
is_held (Held n) = true
is_held _ = false

-- 1 if the event is a Hold of this actor and is answered Held, and otherwise 0
abbrev pub added : ActorKey → PartEvent → PartReply → ℕ
added key (Hold k) reply = if is_held reply && same_key key k then 1 else 0
added key _ reply = 0

module _ (owner : PlacementTable → ActorKey → Option HostInfo) where
  -- a Lock of version 0 leaves the part as it is, and its reply tells the part's epoch, unless the part has stopped
  pub record TellsEpoch (p : PartState) : Type 0 where
    pub part : (part_step owner p (Lock 0)).part ≡ p
    pub reply : ((part_step owner p (Lock 0)).reply ≡ Stopped) ⊎ IsTold (part_step owner p (Lock 0)).reply p.opened

  -- a Hold that is answered Held finds the actor active, and leaves one hold more open
  abbrev pub HoldsActive : PartState → ActorKey → Type 0
  HoldsActive p key = (n : ℕ) → (part_step owner p (Hold key)).reply ≡ Held n → (m : ℕ) × IsHeld m p key × IsHeld (m + 1) (part_step owner p (Hold key)).part key

  -- how many of these events, from this part on, are a Hold of this actor that is answered Held
  abbrev pub holds_added : PartState → ActorKey → List PartEvent → ℕ
  holds_added p key [] = 0
  holds_added p key (e ∷ es) = added key e (part_step owner p e).reply + holds_added (part_step owner p e).part key es

  -- at no moment have as many Releases of the actor come as holds were open at first or were added since
  abbrev pub LeavesHold : ℕ → PartState → ActorKey → List PartEvent → Type 0
  LeavesHold n p key es = (front back : List PartEvent) → front ++ back ≡ es → releases key front < n + holds_added p key front
