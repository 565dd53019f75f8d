use Rattle.std.proofs.Common.{arith, ap, length, length-append}
use Rattle.plain_commands.proofs.RunLemmas.{read_past, read_to_end, read_no_memory}
use Rattle.plain_commands.proofs.replay.read_all.Goals as goal

pub returns-then-count-eq0-clause-read : goal.returns-then-count-eq0-clause-read
returns-then-count-eq0-clause-read g c =
    let a = c.in_ok-count.ensures.appends in
    let within = c.loop-bytes.invariant.within in
    read_to_end (g.I.Source.remaining c.args.input.now) (g.I.Source.remaining c.loop-bytes.input) (g.I.Source.remaining c.read.new.self) c.loop-bytes.bytes.items c.read.new.into.items c.in_ok-count.count c.if-count-eq0.true
    (omega (arith, a.1, ap length a.2, length-append c.loop-bytes.bytes.items a.0, c.if-count-eq0.true)) c.loop-bytes.invariant.read c.in_ok-count.ensures.front

pub returns-clause-read : goal.returns-clause-read
returns-clause-read g c =
    let counted = c.loop-bytes.bytes.ok.0 in
    let within = c.loop-bytes.invariant.within in
    read_past (g.I.Source.remaining c.args.input.now) (g.I.Source.remaining c.loop-bytes.input) c.loop-bytes.bytes.items (omega arith) (omega arith) c.loop-bytes.invariant.read
