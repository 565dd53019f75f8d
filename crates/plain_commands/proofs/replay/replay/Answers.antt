use Rattle.std.proofs.Common.{Err, subst}
use Rattle.actor_ports.specs.declared.port.PortError.{PortError}
use Rattle.plain_commands.specs.ReplayTold.{ReadsAll}
use Rattle.plain_commands.specs.Replay.{replay_of}
use Rattle.plain_commands.proofs.EndLemmas.{replays_run, replays_fault, replays_no_memory, run_no_source}
use Rattle.plain_commands.proofs.replay.replay.Goals as goal

pub returns-in-Ok-clause-replays : goal.returns-in-Ok-clause-replays
returns-in-Ok-clause-replays g c =
    let ends = rw c.as_slice.ensures.value at c.replay_bytes.ensures.ends in
    replays_run (g.I.Source.remaining c.args.input.now) (g.I.Source.remaining c.read_all.new.input) c.read_all.new.bytes.items (g.W.Sink.contents c.args.output.now) (g.W.Sink.contents c.replay_bytes.new.output)
    c.replay_bytes.result c.in-Ok.ensures.read ends

pub returns-in-Ok-clause-source : goal.returns-in-Ok-clause-source
returns-in-Ok-clause-source g c =
    λ is. absurd (run_no_source (replay_of c.as_slice.result.now) (g.W.Sink.contents c.args.output.now) (g.W.Sink.contents c.replay_bytes.new.output) c.replay_bytes.result c.replay_bytes.ensures.ends is)

pub returns-in-Err-Failed-clause-replays : goal.returns-in-Err-Failed-clause-replays
returns-in-Err-Failed-clause-replays g c =
    replays_fault (g.I.Source.remaining c.args.input.now) (g.I.Source.remaining c.read_all.new.input) (g.W.Sink.contents c.args.output.now)

pub returns-clause-replays : goal.returns-clause-replays
returns-clause-replays g c =
    replays_no_memory (g.I.Source.remaining c.args.input.now) (g.I.Source.remaining c.read_all.new.input) (g.W.Sink.contents c.args.output.now) c.read_all.new.bytes.items
    (subst (λ (e : PortError). ReadsAll {X = Unit {0}} (g.I.Source.remaining c.args.input.now) (g.I.Source.remaining c.read_all.new.input) c.read_all.new.bytes.items (Err e)) c.in-Err-OutOfMemory.field-0-is c.in-Err-OutOfMemory.ensures.read)
