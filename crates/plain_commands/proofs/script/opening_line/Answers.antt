use Rattle.std.proofs.Common.{◌≡◌, [], sym, ap, subst, ◌∙◌, Ok}
use Rattle.std.specs.Prelude.{ℕ, Result}
use Rattle.script_text.specs.ClusterLines.{ClusterLine, cluster_line}
use Rattle.script_text.specs.LinesTold.{cluster_told}
use Rattle.plain_commands.specs.Replay.{cluster_does}
use Rattle.plain_commands.specs.ReplayTold.{GivesLine}
use Rattle.plain_commands.specs.declared.script.Script.TheVariants.{Cluster}
use Rattle.plain_commands.proofs.script.opening_line.Goals as goal

pub returns-in-Ok-Does : goal.returns-in-Ok-Does
returns-in-Ok-Does c =
    let reads = c.in-Ok-Does.ensures.reads ∙ ap (λ l. Ok (cluster_told l)) c.in-Ok-Does.field-0-is in
    subst (λ (r : Result ClusterLine ℕ). GivesLine c.happen-done.result (cluster_does c.args.setup.now [] r) (Cluster c.happen-done.new.world) c.args.transcript.now c.happen-done.new.transcript) (sym reads)
    (c.happen-done.ensures c.args.setup.now [] c.open-world.ensures)
