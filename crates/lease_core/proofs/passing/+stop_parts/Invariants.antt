use Rattle.lease_core.proofs.passing.«+stop_parts».Given as goal

abbrev pub decreases-stop_parts : goal.decreases-stop_parts
decreases-stop_parts l = l.count
