-- Worked examples of histories of lists.
use Rattle.std.proofs.Common.{◌≡◌, inl, inr, [], ◌∷◌, None, refl}
use Rattle.frame_wire.specs.declared.store_answer.StoreAnswer.TheVariants.{DueList}
use Rattle.frame_wire.specs.declared.store_command.StoreCommand.TheVariants.{Due}
use Rattle.group_gate.specs.History.{asked, entry as group}
use Rattle.step_gate.specs.History.{entry}
use Rattle.fence_rows.specs.declared.event.FencedAnswer.TheVariants as answers
use Rattle.fence_rows.specs.declared.event.FencedCommand.TheVariants as fenced
use Rattle.fence_rows.specs.declared.event.FencedEvent.{FencedEvent}
use Rattle.fence_rows.specs.declared.event.FencedEvent.TheVariants.{Command}
use Rattle.fence_rows.specs.declared.event.FencedOutcome.{FencedOutcome}
use Rattle.fence_rows.specs.declared.event.FencedOutcome.TheVariants.{Answer}
use Rattle.fence_rows.specs.Groups.{singles, disk_failed, FlatOf}

a : FencedEvent
a = Command (fenced.Plain (Due None 1)) 5

b : FencedEvent
b = Command (fenced.Plain (Due None 2)) 6

empty : FencedOutcome
empty = Answer (answers.Answer (DueList []))

-- each stands for itself, in the name of its place
lists_are_read_in_order :
    singles (group (asked 2 a ∷ asked 1 b ∷ []) (empty ∷ disk_failed ∷ []) ∷ group (asked 2 b ∷ []) (empty ∷ []) ∷ [])
    ≡ entry 2 a empty ∷ entry 1 b disk_failed ∷ entry 2 b empty ∷ []
lists_are_read_in_order = refl

failed_command_may_be_left_out : FlatOf (entry 2 a empty ∷ entry 1 b disk_failed ∷ []) (entry 2 a empty ∷ [])
failed_command_may_be_left_out = inr ([], refl, inl (refl, refl))

failed_command_may_stay : FlatOf (entry 1 a disk_failed ∷ entry 2 b disk_failed ∷ []) (entry 1 a disk_failed ∷ [])
failed_command_may_stay = inr ([], refl, inl (refl, refl))

-- but none that was answered otherwise is left out
answered_command_stays : FlatOf (entry 2 a empty ∷ []) [] → ⊥
unfolding empty
answered_command_stays (inl out) = let e : empty ≡ disk_failed = out.0 in cc
answered_command_stays (inr stays) = let e : [] ≡ entry 2 a empty ∷ stays.0 = stays.1 in cc
