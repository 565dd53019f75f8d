use Rattle.cluster_parts.proofs.parts.Parts.«+stopped_from».Given as goal

abbrev pub decreases-stopped_from : goal.decreases-stopped_from
decreases-stopped_from l = l.count
