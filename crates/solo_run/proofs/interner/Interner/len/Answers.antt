use Rattle.solo_run.proofs.InternerLemmas.{distinct_from_unique}
use Rattle.solo_run.proofs.interner.Interner.len.Goals as goal

pub returns-clause-distinct : goal.returns-clause-distinct
returns-clause-distinct c = rw (← c.self.view_is) (distinct_from_unique (λ text. text.items) c.self.inside.texts.keys c.len.ensures.unique)
