use Rattle.world_events.specs.Solo.{event_told}
use Rattle.plain_commands.proofs.LineLemmas.{solo_happened}
use Rattle.plain_commands.proofs.solo_script.SoloScript.event.Goals as goal

pub returns-in-Ok-add_turn_outcome : goal.returns-in-Ok-add_turn_outcome
returns-in-Ok-add_turn_outcome c depths events is =
    solo_happened depths events c.args.column (event_told c.args.event) c.args.self.now.world c.step.new.self c.in-Ok.outcome c.args.transcript.now c.add_turn_outcome.new.self is.1 c.in-Ok.ensures.0 c.in-Ok.ensures.1 c.in-Ok-add_turn_outcome.ensures.added
