use Rattle.std.proofs.Common.{◌-◌, length}
use Rattle.actor_calls.proofs.hopping.«+hop_on».Given as goal

-- the hops that the route still allows
abbrev pub decreases-hop_on : goal.decreases-hop_on
decreases-hop_on g l = 8 - length l.route
