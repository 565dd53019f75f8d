use Rattle.std.proofs.Common.{sym, ◌∙◌}
use Rattle.solo_run.proofs.InternerLemmas.{place_in-position}
use Rattle.solo_run.proofs.interner.Interner.find.Goals as goal

pub returns : goal.returns
returns c =
    rw (← c.self.view_is) (c.get_index_of.ensures.index ∙ sym (place_in-position (λ text. text.items) c.args.text.now c.self.inside.texts.keys))
