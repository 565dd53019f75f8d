use Rattle.std.proofs.Common.{ap, ◌∙◌, Ok}
use Rattle.script_text.specs.LinesTold.{setting_told, cluster_told}
use Rattle.script_text.proofs.Late.{late_cluster_sets_nothing}
use Rattle.plain_commands.proofs.script.running_line.Goals as goal

pub unreachable-requires : goal.unreachable-requires
unreachable-requires c = late_cluster_sets_nothing c.args.line.now (setting_told c.in-Ok-Sets.field-0-0) (c.in-Ok-Sets.ensures.reads ∙ ap (λ l. Ok (cluster_told l)) c.in-Ok-Sets.field-0-is)
