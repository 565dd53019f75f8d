use Rattle.tx_journal.proofs.Rowed.{holds_first}
use Rattle.tx_journal.proofs.journal.Journal.generation.Goals as goal

pub returns-clause-first : goal.returns-clause-first
returns-clause-first g c = rw (← c.self.view_is) (λ works paired files tells held holds. holds_first _ _ _ _ c.self.invariant works paired files held tells holds)
