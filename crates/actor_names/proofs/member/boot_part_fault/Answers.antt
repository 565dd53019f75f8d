use Rattle.std.proofs.Common.{arith}
use Rattle.actor_names.specs.Numerals.{boot_fault}
use Rattle.actor_names.proofs.Slashes.{after_slash-none, second_fault-slash}
use Rattle.actor_names.proofs.member.boot_part_fault.Goals as goal

pub returns-then-end-n : goal.returns-then-end-n
returns-then-end-n c = rw (after_slash-none c.args.text.now (omega arith))

pub returns : goal.returns
returns c = rw (second_fault-slash c.args.text.now boot_fault (omega arith), ← c.requires) c.number_fault.ensures
