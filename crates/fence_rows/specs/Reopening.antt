-- What the fence passes on, a store that met a fault refuses. Own.
use Rattle.std.proofs.Common.{◌≡◌, ◌⊎◌, inl, inr, ℕ, Bool, true, false, List, Option, None, Some, refl, ap}
use Rattle.state_rows.specs.declared.op.StateOp.{StateOp}
use Rattle.frame_wire.specs.declared.store_answer.StoreAnswer.TheVariants.{Refused}
use Rattle.frame_wire.specs.declared.store_command.StoreCommand.{StoreCommand}
use Rattle.frame_wire.specs.declared.store_command.StoreCommand.TheVariants.{Tx}
use Rattle.frame_wire.specs.declared.store_refusal.StoreRefusal.TheVariants.{Reopen}
use Rattle.store_core.specs.Store.{StoreState}
use Rattle.fence_rows.specs.declared.event.FencedAnswer.{FencedAnswer}
use Rattle.fence_rows.specs.declared.event.FencedAnswer.TheVariants.{Answer}
use Rattle.fence_rows.specs.declared.event.FencedEvent.{FencedEvent}
use Rattle.fence_rows.specs.declared.event.FencedEvent.TheVariants.{Command, Compact}
use Rattle.fence_rows.specs.declared.event.FencedOutcome.{FencedOutcome}
use Rattle.fence_rows.specs.declared.event.FencedOutcome.TheVariants as outcomes
use Rattle.fence_rows.specs.declared.event.FencedCommand.{FencedCommand}
use Rattle.fence_rows.specs.declared.event.FencedCommand.TheVariants as fenced
use Rattle.fence_rows.specs.Epochs.{actor_epoch}
use Rattle.fence_rows.specs.Fences.{tx_answer, epoch_answer, fence_answer}
use Rattle.fence_rows.specs.Together.{fence_rules, outcome_in}

-- the fence passes it on too, or says itself that the store has to be opened again
abbrev pub IsReopened : Option FencedAnswer → Type 0
IsReopened answer = (answer ≡ None) ⊎ (answer ≡ Some (Answer (Refused Reopen)))

broken_said : (epoch : ℕ) (ops : List StateOp) (b : Bool) (seen : ℕ) → b ≡ true → tx_answer epoch ops b seen ≡ Some (Answer (Refused Reopen))
broken_said epoch ops true seen broken = refl
broken_said epoch ops false seen broken = absurd (cc)

by_epoch : (epoch : ℕ) (c : StoreCommand) (now : ℕ) (t : StoreState) → t.journal.is_broken ≡ true → IsReopened (epoch_answer epoch c now t)
by_epoch epoch (Tx s actor ops) now t broken = inr (broken_said epoch ops t.journal.is_broken (actor_epoch actor now t.contents) broken)
by_epoch epoch c now t broken = inl refl

by_command : (command : FencedCommand) (now : ℕ) (s t : StoreState) → fence_answer command now s ≡ None → t.journal.is_broken ≡ true → IsReopened (fence_answer command now t)
by_command (fenced.Plain c) now s t none broken = inl none
by_command (fenced.Tx epoch c) now s t none broken = by_epoch epoch c now t broken

told_so : (answer : Option FencedAnswer) → IsReopened answer → (outcome_in answer ≡ None) ⊎ (outcome_in answer ≡ Some (outcomes.Answer (Answer (Refused Reopen))))
told_so answer (inl none) = inl (ap outcome_in none)
told_so answer (inr some) = inr (ap outcome_in some)

none_in : (answer : Option FencedAnswer) → outcome_in answer ≡ None → answer ≡ None
none_in None said = refl
none_in (Some answer) said = absurd (cc)

pub reopens : (asked : FencedEvent) (s t : StoreState) → fence_rules.refusal asked s ≡ None → t.contents ≡ s.contents → t.journal.is_broken ≡ true → (fence_rules.refusal asked t ≡ None) ⊎ (fence_rules.refusal asked t ≡ Some (fence_rules.told (Refused Reopen)))
reopens (Command command now) s t none same broken = told_so _ (by_command command now s t (none_in _ none) broken)
reopens (Compact least now) s t none same broken = absurd (cc)
