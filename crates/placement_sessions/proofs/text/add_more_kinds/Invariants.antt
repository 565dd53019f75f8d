use Rattle.std.proofs.Common.{◌≡◌, ◌++◌, drop, map}
use Rattle.json_text.specs.Texts.{after_commas}
use Rattle.placement_sessions.specs.States.{in_quotes}
use Rattle.placement_sessions.proofs.text.add_more_kinds.Given as goal

-- the text so far and what is left make the whole text
abbrev pub invariant-loop-kind : goal.invariant-loop-kind
invariant-loop-kind l = l.out.items ++ after_commas (map in_quotes (drop l.kind-index l.kinds)) ≡ l.fn.out.items ++ after_commas (map in_quotes l.kinds)
