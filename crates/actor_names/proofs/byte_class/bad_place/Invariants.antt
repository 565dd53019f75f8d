use Rattle.std.proofs.Common.{◌≡◌}
use Rattle.actor_names.proofs.FirstBad.{found_from}
use Rattle.actor_names.proofs.byte_class.bad_place.Given as goal

abbrev pub invariant-loop-at : goal.invariant-loop-at
invariant-loop-at g l = found_from g.C.ByteClass.test l.text l.fn.start ≡ found_from g.C.ByteClass.test l.text l.at
