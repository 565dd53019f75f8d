-- What each step of a part keeps and reports, by what it gives.
use Rattle.std.proofs.Common.{ℕ, ◌≤◌, ap, arith}
use Rattle.part_model.specs.declared.event.PartEvent.{PartEvent}
use Rattle.part_model.specs.declared.event.PartEvent.TheVariants as events
use Rattle.part_model.specs.Receipts.{PartReply}
use Rattle.part_model.specs.declared.event.Reply.TheVariants as replies
use Rattle.part_model.specs.Part.{PartState, part_step, ring_owner}
use Rattle.part_core.specs.Quiet.{IsQuietUntil, lowered, quiet_after}
use Rattle.part_model.specs.Rooms.{PartView, Gives, GivesEnded, GivesInMemory, GivesStep, IsInRange}
use Rattle.part_model.specs.Sound.{IsPartSound, AreVersionsWithin, OwnsWhenOpen, TellsState}
use Rattle.part_model.proofs.PartTables.{part_stepped}
use Rattle.part_model.proofs.PartTells.{part_honest}
use Rattle.part_model.proofs.PartLaws.{moves_within, moves_own}
use Rattle.part_core.proofs.Quiets.{stays_quiet, lowered_less}
use Rattle.part_core.proofs.Closings.{quiet_then}

-- The part is sound, a receipt in the reply is that of the new state, an event in range leaves versions in range, in an
-- open part active actors stay own, and no actor may be idle before a moment that the event leaves.
pub record IsGoodStep (old : PartState) (event : PartEvent) (reply : PartReply) (new : PartState) : Type 0 where
  pub sound : IsPartSound ring_owner new
  pub tells : TellsState ring_owner reply new
  pub within : IsInRange event → AreVersionsWithin old → AreVersionsWithin new
  pub owns : OwnsWhenOpen ring_owner old → OwnsWhenOpen ring_owner new
  pub quiet : (q r : ℕ) → IsQuietUntil old q → r ≤ lowered old.kinds event q → IsQuietUntil new r

good : (old : PartState) (event : PartEvent) → IsPartSound ring_owner old → IsGoodStep old event (part_step ring_owner old event).reply (part_step ring_owner old event).part
good old event s =
    let h = part_honest ring_owner old event in
    let t = part_stepped ring_owner old event s in
    record {
      sound = t.sound;
      tells = h.tells;
      within = moves_within ring_owner old event (part_step ring_owner old event).part t.moves;
      owns = moves_own ring_owner old event (part_step ring_owner old event).part t t.moves;
      quiet = λ q r h l. stays_quiet ring_owner old q r h (let m = lowered_less old.kinds event q in omega arith) event l;
    }

module _ (reply : PartReply) (old : PartState) (new : PartView) (s : IsPartSound ring_owner old) where
  by_gives : (event : PartEvent) → Gives (part_step ring_owner old event) reply new → IsGoodStep old event reply new.state
  by_gives event g = rw (g.0, ap (λ (v : PartView). v.state) g.1) (good old event s)

  by_ended : (event : PartEvent) → GivesEnded (part_step ring_owner old event) reply new → IsGoodStep old event reply new.state
  by_ended event g = rw (g.0, ap (λ (v : PartView). v.state) g.1) (good old event s)

in_memory : (reply : PartReply) (old : PartState) (new : PartView) → IsPartSound ring_owner old → (event : PartEvent) → GivesInMemory (part_step ring_owner old event) reply old new → IsGoodStep old event reply new.state
in_memory replies.OutOfMemory old new s event g = rw (ap (λ (v : PartView). v.state) g.0) (record { sound = s; tells = tt; within = λ r w. w; owns = λ o. o; quiet = λ q r h l c i t. (let m = lowered_less old.kinds event q in let k = h c i t in omega arith) })
in_memory reply old new s event g = by_gives reply old new s event g

pub step_good : (reply : PartReply) (old : PartState) (new : PartView) → IsPartSound ring_owner old → (event : PartEvent) → GivesStep event reply old new → IsGoodStep old event reply new.state
step_good reply old new s (events.Ask key chain now) g = in_memory reply old new s (events.Ask key chain now) g
step_good reply old new s (events.AskAt key chain least now) g = in_memory reply old new s (events.AskAt key chain least now) g
step_good reply old new s events.Draw g = by_gives reply old new s events.Draw g
step_good reply old new s (events.Poll call) g = in_memory reply old new s (events.Poll call) g
step_good reply old new s (events.End call now) g = by_gives reply old new s (events.End call now) g
step_good reply old new s (events.Hold key) g = by_gives reply old new s (events.Hold key) g
step_good reply old new s (events.Release key now) g = by_gives reply old new s (events.Release key now) g
step_good reply old new s (events.Lock version) g = by_gives reply old new s (events.Lock version) g
step_good reply old new s (events.Update table now) g = by_gives reply old new s (events.Update table now) g
step_good reply old new s (events.Unlock version) g = by_gives reply old new s (events.Unlock version) g
step_good reply old new s (events.Tick now) g = by_ended reply old new s (events.Tick now) g
step_good reply old new s (events.TakeClosing now) g = in_memory reply old new s (events.TakeClosing now) g
step_good reply old new s (events.Closed key) g = by_gives reply old new s (events.Closed key) g
step_good reply old new s events.StopPart g = by_ended reply old new s events.StopPart g

-- ---- until when no actor may be idle

pub quiet_found : (old : PartState) (event : PartEvent) (reply : PartReply) (new : PartState) (q : ℕ) → IsQuietUntil old q → IsGoodStep old event reply new → IsQuietUntil new (quiet_after new reply (lowered old.kinds event q))
quiet_found old event reply new q quiet g = quiet_then new reply (lowered old.kinds event q) (g.quiet q (lowered old.kinds event q) quiet (omega arith))
