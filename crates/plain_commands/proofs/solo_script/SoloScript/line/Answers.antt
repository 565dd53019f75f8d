use Rattle.std.proofs.Common.{ap, ◌∙◌, Ok}
use Rattle.script_text.specs.LinesTold.{setting_told, solo_told}
use Rattle.plain_commands.specs.declared.script.Script.TheVariants.{Solo}
use Rattle.plain_commands.proofs.LineLemmas.{solo_was_set}
use Rattle.plain_commands.proofs.solo_script.SoloScript.line.Goals as goal

pub returns-in-Ok-Sets : goal.returns-in-Ok-Sets
returns-in-Ok-Sets c depths events is =
    solo_was_set depths events c.args.line.now (setting_told c.in-Ok-Sets.setting) c.args.self.now.started c.set.result (Solo c.set.new.self) c.args.transcript.now is.0
    (c.in-Ok-Sets.ensures ∙ ap (λ l. Ok (solo_told l)) c.in-Ok-Sets.field-0-is)
    (λ early. c.set.ensures depths events c.args.transcript.now is early)
