use Rattle.std.proofs.Common.{◌≡◌, take}
use Rattle.actor_ports.proofs.memory.dial.copy_all.Given as goal

-- the links so far are copied
abbrev pub invariant-loop-link : goal.invariant-loop-link
invariant-loop-link l = l.copies.items ≡ take l.link-index l.links
