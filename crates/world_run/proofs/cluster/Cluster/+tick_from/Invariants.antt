use Rattle.world_run.proofs.cluster.Cluster.«+tick_from».Given as goal

abbrev pub decreases-tick_from : goal.decreases-tick_from
decreases-tick_from l = l.count
