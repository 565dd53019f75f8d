use Rattle.std.proofs.Common.{◌≡◌, ◌++◌, drop, map}
use Rattle.json_text.specs.Texts.{after_commas}
use Rattle.placement_sessions.specs.States.{host_text}
use Rattle.placement_sessions.proofs.text.add_more_hosts.Given as goal

-- the text so far and what is left make the whole text
abbrev pub invariant-loop-host : goal.invariant-loop-host
invariant-loop-host l = l.out.items ++ after_commas (map host_text (drop l.host-index l.hosts)) ≡ l.fn.out.items ++ after_commas (map host_text l.hosts)
