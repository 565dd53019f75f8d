use Rattle.cluster_parts.proofs.parts.Parts.«+add_receipts».Given as goal

abbrev pub decreases-add_receipts : goal.decreases-add_receipts
decreases-add_receipts l = l.count
