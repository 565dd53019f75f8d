use Rattle.std.proofs.Common.{arith}
use Rattle.plain_commands.proofs.EndLemmas.{replay-within}
use Rattle.plain_commands.proofs.replay.replay_bytes.Goals as goal

pub returns-clause-ends : goal.returns-clause-ends
returns-clause-ends g c =
    let within = replay-within c.args.script.now (omega arith) (omega (arith, c.count_lines.ensures)) in
    rw within c.run_script.ensures.ends
