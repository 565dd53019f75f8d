use Rattle.std.specs.Prelude.{Some}
use Rattle.group_gate.proofs.gate.GroupGate.make_step.Given as goal

abbrev pub ghosts-record : goal.ghosts-record
ghosts-record g a = record { said = Some (a._answers.now.items, a._machine.now) }
