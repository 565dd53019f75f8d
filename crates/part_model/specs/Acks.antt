-- What the receipts of a member's parts justify together. Own.
use Rattle.std.specs.Prelude.{◌≡◌, ℕ, ◌+◌, Bool, true, false, ◌&&◌, ◌==◌, nat_lt, if◌then◌else◌, List, [], ◌∷◌, Option, None, Some}
use Rattle.actor_names.specs.declared.member.Member.{Member}
use Rattle.place_table.specs.declared.ack_stage.AckStage.{AckStage}
use Rattle.place_table.specs.declared.ack_stage.AckStage.TheVariants as stages
use Rattle.part_model.specs.declared.stage.SeenStage.{SeenStage}
use Rattle.part_model.specs.declared.stage.SeenStage.TheVariants as seen
use Rattle.actor_names.specs.Same.{same_member}
use Rattle.part_model.specs.Receipts.{ReceiptState}
use Rattle.part_model.specs.declared.ack.Ack.{Ack}

-- the stage that a receipt shows as reached; a stopped part shows none
abbrev pub shown_stage : SeenStage → Option AckStage
shown_stage seen.Locked = Some stages.Lock
shown_stage seen.Draining = Some stages.Lock
shown_stage seen.Drained = Some stages.Update
shown_stage seen.Open = Some stages.Unlock
shown_stage seen.Stopped = None

-- the order of the stages
abbrev pub stage_rank : AckStage → ℕ
stage_rank stages.Lock = 0
stage_rank stages.Update = 1
stage_rank stages.Unlock = 2

-- what a receipt shows as reached
abbrev pub shown_ack : ReceiptState → Option AckStage → Option Ack
shown_ack r None = None
shown_ack r (Some stage) = Some (record { stage = stage; version = r.version })

abbrev pub ack_of : ReceiptState → Option Ack
ack_of r = shown_ack r (shown_stage r.stage)

-- a is at least as far as b
abbrev pub is_as_far : Ack → Ack → Bool
is_as_far a b = if a.version == b.version then nat_lt (stage_rank b.stage) (stage_rank a.stage + 1) else nat_lt b.version a.version

-- the one that is less far: that of the lesser version, or at equal versions that of the lesser stage
abbrev pub lesser_ack : Ack → Ack → Ack
lesser_ack a b = if is_as_far b a then a else b

-- the lesser of two that may be none; none is less than any other
abbrev pub lesser_of : Option Ack → Option Ack → Option Ack
lesser_of None b = None
lesser_of (Some a) None = None
lesser_of (Some a) (Some b) = Some (lesser_ack a b)

-- the least of this one and what the receipts show; none if one of them is of a stopped part
abbrev pub least_ack : Option Ack → List ReceiptState → Option Ack
least_ack a [] = a
least_ack a (r ∷ rs) = least_ack (lesser_of a (ack_of r)) rs

-- before the first round nothing is acknowledged
abbrev pub above_zero : Option Ack → Option Ack
above_zero None = None
above_zero (Some a) = if a.version == 0 then None else Some a

-- what the receipts acknowledge together; there must be at least one
abbrev pub collected : List ReceiptState → Option Ack
collected [] = None
collected (r ∷ rs) = above_zero (least_ack (ack_of r) rs)

-- ---- receipts of other parts

-- the receipt is that of this part of the member
abbrev pub is_of_part : Member → ℕ → ReceiptState → Bool
is_of_part m at r = same_member r.member m && (r.part == at)

-- the place of the first receipt that isn't that of the member's part with the number of its place; `at` is the first
-- place
abbrev pub other_place : Member → ℕ → List ReceiptState → Option ℕ
other_place m at [] = None
other_place m at (r ∷ rs) = if is_of_part m at r then other_place m (at + 1) rs else Some at

-- ---- leaving

abbrev pub is_stopped_stage : SeenStage → Bool
is_stopped_stage seen.Stopped = true
is_stopped_stage seen.Locked = false
is_stopped_stage seen.Draining = false
is_stopped_stage seen.Drained = false
is_stopped_stage seen.Open = false

-- each receipt is that of a stopped part
abbrev pub are_stopped : List ReceiptState → Bool
are_stopped [] = true
are_stopped (r ∷ rs) = is_stopped_stage r.stage && are_stopped rs

-- ---- what an acknowledgement is worth

-- the receipt shows that the stage of the version was reached: a greater version was seen, or that version in this
-- stage or a later one
abbrev pub Shows : ReceiptState → Ack → Type 0
Shows r a = (b : Ack) × (ack_of r ≡ Some b) × (is_as_far b a ≡ true)
