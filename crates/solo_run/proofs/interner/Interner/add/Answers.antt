use Rattle.solo_run.proofs.InternerLemmas.{pushed}
use Rattle.solo_run.proofs.interner.Interner.add.Goals as goal

pub returns-clause-added : goal.returns-clause-added
returns-clause-added c =
    let gone = rw (← c.self.view_is) at c.requires in
    rw (← c.self.view_is)
    (pushed (λ text. text.items) c.in_ok-copy.copy c.self.inside.texts.keys c.insert_full.new.self.keys c.args.text.now c.in_ok-copy.ensures.items gone c.in_ok-insert_full.ensures.keys)
