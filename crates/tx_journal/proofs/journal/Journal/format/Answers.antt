use Rattle.std.proofs.Common.{ℕ, List, take, drop, ap}
use Rattle.tx_journal.proofs.Rowed.{holds_format}
use Rattle.tx_journal.proofs.journal.Journal.format.Goals as goal

pub returns-in-One-clause-name : goal.returns-in-One-clause-name
returns-in-One-clause-name g c = rw (← c.self.view_is) (λ works d tells. ap (λ (l : List ℕ). take 7 (drop 1 l)) (c.self.invariant.live works d tells).settled.file.file)

pub returns-in-Two-clause-name : goal.returns-in-Two-clause-name
returns-in-Two-clause-name g c = rw (← c.self.view_is) (λ works d tells. ap (λ (l : List ℕ). take 7 (drop 1 l)) (c.self.invariant.live works d tells).settled.file.file)

pub returns-in-One-clause-held : goal.returns-in-One-clause-held
returns-in-One-clause-held g c = rw (← c.self.view_is) (holds_format _ _ _ _ c.self.invariant)

pub returns-in-Two-clause-held : goal.returns-in-Two-clause-held
returns-in-Two-clause-held g c = rw (← c.self.view_is) (holds_format _ _ _ _ c.self.invariant)
