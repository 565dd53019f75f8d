use Rattle.std.proofs.Common.{◌≡◌, ◌++◌, drop}
use Rattle.placement_beats.specs.Answers.{receipts_of}
use Rattle.placement_beats.proofs.answers.receipts_of.Given as goal

abbrev pub invariant-loop-said : goal.invariant-loop-said
invariant-loop-said l = receipts_of l.saids ≡ l.receipts.items ++ receipts_of (drop l.said-index l.saids)
