use Rattle.std.proofs.Common.{sym, ap, ◌∙◌}
use Rattle.std.proofs.lemmas.Bool.{cond-true, cond-false}
use Rattle.part_model.specs.Part.{is_updated, is_drained, seen_stage, ring_owner}
use Rattle.part_model.specs.declared.stage.Stage.{Stage}
use Rattle.part_core.proofs.Foreigns.{dry, wet}
use Rattle.part_core.proofs.standing.seen_stage.Goals as goal

pub returns-then-foreign-eq0 : goal.returns-then-foreign-eq0
returns-then-foreign-eq0 c =
    λ p h.
    sym (ap (λ (s : Stage). seen_stage ring_owner p s) c.in-Updated.is ∙ cond-true (is_drained ring_owner p) _ _ (dry ring_owner p c.args.foreign (h (ap is_updated c.in-Updated.is)) c.if-foreign-eq0.true))

pub returns-else-foreign-eq0 : goal.returns-else-foreign-eq0
returns-else-foreign-eq0 c =
    λ p h.
    sym (ap (λ (s : Stage). seen_stage ring_owner p s) c.in-Updated.is ∙ cond-false (is_drained ring_owner p) _ _ (wet ring_owner p c.args.foreign (h (ap is_updated c.in-Updated.is)) c.if-foreign-eq0.false))
