use Rattle.std.proofs.Common.{Ok, Err}
use Rattle.command_words.specs.Told.{told_sidecar}
use Rattle.sidecar_command.specs.Commands.{start_words}
use Rattle.sidecar_command.proofs.Starts.{start_dials}
use Rattle.sidecar_command.proofs.command.run_sidecar.Goals as goal

pub returns-in-Ok-clause-dialled : goal.returns-in-Ok-clause-dialled
returns-in-Ok-clause-dialled g c =
    let s = c.in-Ok.ensures.starts in
    start_dials (start_words (told_sidecar c.args.words.now)) s.0 (Ok c.in-Ok.started) _ _ _ _ s.1 s.2

pub returns-in-Err-clause-dialled : goal.returns-in-Err-clause-dialled
returns-in-Err-clause-dialled g c =
    let s = c.in-Err.ensures.starts in
    start_dials (start_words (told_sidecar c.args.words.now)) s.0 (Err c.in-Err.end) _ _ _ _ s.1 s.2

pub returns-in-Ok-clause-ends : goal.returns-in-Ok-clause-ends
returns-in-Ok-clause-ends g c =
    let s = c.in-Ok.ensures.starts in
    record { exchanges = s.0; got = Ok c.in-Ok.started; starts = s.1; dialling = s.2; ends = c.serve_new.ensures.ends }

pub returns-in-Err-clause-ends : goal.returns-in-Err-clause-ends
returns-in-Err-clause-ends g c =
    let s = c.in-Err.ensures.starts in
    record { exchanges = s.0; got = Err c.in-Err.end; starts = s.1; dialling = s.2; ends = c.unstarted.ensures.is }
