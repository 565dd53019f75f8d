use Rattle.std.proofs.Common.{subst}
use Rattle.command_words.specs.Told.{told_sidecar}
use Rattle.sidecar_start.specs.declared.words.StartWords.{StartWords}
use Rattle.sidecar_start.specs.Starting.{IsStart}
use Rattle.sidecar_command.specs.Commands.{start_words}
use Rattle.sidecar_command.proofs.Served.{no_start}
use Rattle.sidecar_command.proofs.command.start_by.Goals as goal

pub returns-in-Ok-clause-starts : goal.returns-in-Ok-clause-starts
returns-in-Ok-clause-starts g c =
    let s = c.start.ensures.starts in
    (s.0, subst (λ (w : StartWords). IsStart w s.0 c.start.result) c.in-Ok.ensures s.1, s.2)

pub returns-in-Err-clause-starts : goal.returns-in-Err-clause-starts
returns-in-Err-clause-starts g c = no_start (start_words (told_sidecar c.args.words.now)) (g.N.Dial.dialled c.args.net.now) (g.N.Dial.dial_faults c.args.net.now)
