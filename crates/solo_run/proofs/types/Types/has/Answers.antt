use Rattle.std.proofs.Common.{sym, ap, ◌∙◌, is_some}
use Rattle.solo_run.proofs.TypeLemmas.{has_depth-place}
use Rattle.solo_run.proofs.types.Types.has.Goals as goal

pub returns : goal.returns
returns c =
    rw (← c.self.view_is)
    (c.is_some.ensures ∙ ap is_some c.find.ensures ∙ sym (has_depth-place c.args.kind.now c.self.inside.kinds c.self.inside.depths.items c.self.invariant.each))
