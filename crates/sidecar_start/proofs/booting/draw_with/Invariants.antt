use Rattle.std.proofs.Common.{◌≤◌}
use Rattle.exchanges.specs.Replies.{place_at}
use Rattle.sidecar_start.specs.Booting.{boot_frame, BootCarries}
use Rattle.sidecar_start.proofs.Tries.{Going}
use Rattle.sidecar_start.proofs.booting.draw_with.Given as goal

-- each try so far came to nothing
abbrev pub invariant-loop : goal.invariant-loop
invariant-loop g l = record {
  going : Going (BootCarries (boot_frame l.words)) (place_at l.words.store_at) (g.L.Dial.dialled l.initial.dialler) (g.L.Dial.dialled l.dialler) (g.L.Dial.dial_faults l.initial.dialler) (g.L.Dial.dial_faults l.dialler);
  clock : g.K.Clock.shown l.initial.clock ≤ g.K.Clock.shown l.clock;
}
