use Rattle.std.proofs.Common.{◌≤◌, ◌^◌, Option, subst}
use Rattle.std.specs.Prelude.{IfSome}
use Rattle.part_model.specs.declared.ack.Ack.{Ack}
use Rattle.placement_beats.proofs.Fits.{ack_fits}
use Rattle.placement_beats.proofs.heartbeat.frame_of.Goals as goal

pub returns-in-Some-clause-fits : goal.returns-in-Some-clause-fits
returns-in-Some-clause-fits c =
    ack_fits c.args.host.now _ c.in-Some.ack.version c.requires.host (subst (λ (o : Option Ack). IfSome o (λ a. a.version ≤ 2 ^ 62)) c.in-Some.is c.requires.version)
