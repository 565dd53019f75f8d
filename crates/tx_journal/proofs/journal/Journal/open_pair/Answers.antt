use Rattle.std.proofs.Common.{sym, ◌∙◌, ap}
use Rattle.tx_journal.specs.Found.{live_told}
use Rattle.tx_journal.proofs.Numbered.{found_numbered}
use Rattle.tx_journal.proofs.journal.Journal.open_pair.Goals as goal
use Rattle.tx_journal.proofs.journal.Journal.open_pair.Goals.{then-found, else-found}

pub returns-clause-numbered : goal.returns-clause-numbered
returns-clause-numbered g c works paired d tells =
    found_numbered c.in-Ok-settle_pair.found _ _ d c.in-Ok-settle_pair.ensures.found
    (elim c.if-found.branch [
      | then-found w ↦ ap (λ b. live_told b (g.D.Disk.told c.settle_pair.new.first) (g.D.Disk.told c.settle_pair.new.second)) w.if-found.true ∙ ap (λ p. g.D.Disk.told p.0) (sym w.live-is) ∙ tells
      | else-found w ↦ ap (λ b. live_told b (g.D.Disk.told c.settle_pair.new.first) (g.D.Disk.told c.settle_pair.new.second)) w.if-found.false ∙ ap (λ p. g.D.Disk.told p.0) (sym w.live-is) ∙ tells
    ])
