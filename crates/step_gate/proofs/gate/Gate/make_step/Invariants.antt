use Rattle.std.specs.Prelude.{Some}
use Rattle.step_gate.proofs.gate.Gate.make_step.Given as goal

abbrev pub ghosts-release : goal.ghosts-release
ghosts-release g a = record { said = Some (a._event.now.value, a._reply.now) }
