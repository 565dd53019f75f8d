-- The step of a part that has not stopped.
use Rattle.std.proofs.Common.{◌≡◌, false, refl, subst}
use Rattle.part_model.specs.declared.stage.Stage.{Stage}
use Rattle.part_model.specs.declared.stage.Stage.TheVariants.{Locked, Updated, Open, Stopped}
use Rattle.part_model.specs.declared.event.PartEvent.{PartEvent}
use Rattle.part_model.specs.declared.event.PartEvent.TheVariants as events
use Rattle.part_model.specs.Receipts.{PartReply}
use Rattle.part_model.specs.Part.{PartState, PartStep, is_stopped, running_step, step_at, part_step, ring_owner}
use Rattle.part_model.specs.Rooms.{PartView, Gives, GivesEnded, GivesInMemory, GivesStep}
use Rattle.std.proofs.lemmas.Bool.{true≢false}

-- what a step gives in a part that has not stopped
abbrev pub GivesRunning : PartEvent → PartReply → PartState → PartView → Type 0
GivesRunning (events.Ask key chain now) reply old new = GivesInMemory (running_step ring_owner old (events.Ask key chain now)) reply old new
GivesRunning (events.AskAt key chain least now) reply old new = GivesInMemory (running_step ring_owner old (events.AskAt key chain least now)) reply old new
GivesRunning (events.Poll call) reply old new = GivesInMemory (running_step ring_owner old (events.Poll call)) reply old new
GivesRunning (events.TakeClosing now) reply old new = GivesInMemory (running_step ring_owner old (events.TakeClosing now)) reply old new
GivesRunning (events.Tick now) reply old new = GivesEnded (running_step ring_owner old (events.Tick now)) reply new
GivesRunning events.StopPart reply old new = GivesEnded (running_step ring_owner old events.StopPart) reply new
GivesRunning event reply old new = Gives (running_step ring_owner old event) reply new

pub running : (p : PartState) (event : PartEvent) → is_stopped p.stage ≡ false → running_step ring_owner p event ≡ part_step ring_owner p event
running p event r = go p.stage r
  where
    go : (s : Stage) → is_stopped s ≡ false → running_step ring_owner p event ≡ step_at ring_owner p s event
    go Locked e = refl
    go Updated e = refl
    go Open e = refl
    go Stopped e = absurd (true≢false e)

module _ (reply : PartReply) (old : PartState) (new : PartView) (r : is_stopped old.stage ≡ false) where
  gives : (event : PartEvent) → Gives (running_step ring_owner old event) reply new → Gives (part_step ring_owner old event) reply new
  gives event g = subst (λ (z : PartStep). Gives z reply new) (running old event r) g

  gives_ended : (event : PartEvent) → GivesEnded (running_step ring_owner old event) reply new → GivesEnded (part_step ring_owner old event) reply new
  gives_ended event g = subst (λ (z : PartStep). GivesEnded z reply new) (running old event r) g

  gives_in_memory : (event : PartEvent) → GivesInMemory (running_step ring_owner old event) reply old new → GivesInMemory (part_step ring_owner old event) reply old new
  gives_in_memory event g = subst (λ (z : PartStep). GivesInMemory z reply old new) (running old event r) g

  pub runs : (event : PartEvent) → GivesRunning event reply old new → GivesStep event reply old new
  runs (events.Ask key chain now) g = gives_in_memory (events.Ask key chain now) g
  runs (events.AskAt key chain least now) g = gives_in_memory (events.AskAt key chain least now) g
  runs events.Draw g = gives events.Draw g
  runs (events.Poll call) g = gives_in_memory (events.Poll call) g
  runs (events.End call now) g = gives (events.End call now) g
  runs (events.Hold key) g = gives (events.Hold key) g
  runs (events.Release key now) g = gives (events.Release key now) g
  runs (events.Lock version) g = gives (events.Lock version) g
  runs (events.Update table now) g = gives (events.Update table now) g
  runs (events.Unlock version) g = gives (events.Unlock version) g
  runs (events.Tick now) g = gives_ended (events.Tick now) g
  runs (events.TakeClosing now) g = gives_in_memory (events.TakeClosing now) g
  runs (events.Closed key) g = gives (events.Closed key) g
  runs events.StopPart g = gives_ended events.StopPart g
