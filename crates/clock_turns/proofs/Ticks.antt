-- Ticks, in each case.
use Rattle.std.proofs.Common.{◌≡◌, ◌≤◌, ◌∙◌, refl, sym, ap, subst, ℕ, Bool, Option, Some, None}
use Rattle.std.specs.Prelude.{◌||◌}
use Rattle.actor_names.specs.declared.address.Address.{Address}
use Rattle.actor_ports.specs.Traffic.{Dialled}
use Rattle.sidecar_node.specs.declared.node.SidecarNode.{SidecarNode}
use Rattle.sidecar_node.specs.declared.node.Seats.{Seats}
use Rattle.clock_turns.specs.declared.ends.TickEnd.{TickEnd}
use Rattle.clock_turns.specs.Closings.{ClosesCells}
use Rattle.clock_turns.specs.Ticks.{FiresTimers, tick_end, ThenTimers, TickTurn}

-- the deactivations ended the tick
pub then_over :
    (node : SidecarNode) (app : Address) (faulted : Bool) (closed : Option TickEnd) (seats : Seats) (t : Option Dialled) (f now : ℕ) (end : TickEnd)
    → closed ≡ Some end → ThenTimers node app faulted closed seats seats t t f f now now end
then_over node app faulted closed seats t f now end is =
    subst (λ (o : Option TickEnd). ThenTimers node app faulted o seats seats t t f f now now end) (sym is) (refl, refl, refl, refl, refl)

-- the timers fired
pub then_fired :
    (node : SidecarNode) (app : Address) (faulted : Bool) (closed : Option TickEnd) (before after : Seats) (t0 t1 : Option Dialled) (f0 f1 first shown now last turns : ℕ) (more both : Bool) (over : Option TickEnd) (end : TickEnd)
    → closed ≡ None → first ≤ now → shown ≡ now → FiresTimers node app now before after t0 t1 f0 f1 shown last turns more over
    → both ≡ (faulted || more) → end ≡ tick_end turns both over
    → ThenTimers node app faulted closed before after t0 t1 f0 f1 first last end
then_fired node app faulted closed before after t0 t1 f0 f1 first shown now last turns more both over end is later shows fires both_is end_is =
    subst (λ (o : Option TickEnd). ThenTimers node app faulted o before after t0 t1 f0 f1 first last end) (sym is) (
      now,
      turns,
      more,
      over,
      later,
      subst (λ (m : ℕ). FiresTimers node app now before after t0 t1 f0 f1 m last turns more over) shows fires,
      end_is ∙ ap (λ (b : Bool). tick_end turns b over) both_is,
    )

pub ticked :
    (node : SidecarNode) (app : Address) (s0 s1 s2 : Seats) (t0 t1 t2 : Option Dialled) (f0 f1 f2 first shown now last : ℕ) (faulted : Bool) (closed : Option TickEnd) (end : TickEnd)
    → first ≤ now → shown ≡ now → ClosesCells node app now s0 s1 t0 t1 f0 f1 faulted closed
    → ThenTimers node app faulted closed s1 s2 t1 t2 f1 f2 shown last end
    → TickTurn node app s0 s2 t0 t2 f0 f2 first last end
ticked node app s0 s1 s2 t0 t1 t2 f0 f1 f2 first shown now last faulted closed end later shows closes fires = record {
  now = now;
  later = later;
  middle = s1;
  reported = t1;
  count = f1;
  faulted = faulted;
  closed = closed;
  closes = closes;
  fires = subst (λ (m : ℕ). ThenTimers node app faulted closed s1 s2 t1 t2 f1 f2 m last end) shows fires;
}
