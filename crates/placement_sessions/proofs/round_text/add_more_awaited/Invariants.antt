use Rattle.std.proofs.Common.{◌≡◌, ◌++◌, drop, map}
use Rattle.json_text.specs.Texts.{after_commas}
use Rattle.placement_sessions.specs.States.{awaited_text}
use Rattle.placement_sessions.proofs.round_text.add_more_awaited.Given as goal

-- the text so far and what is left make the whole text
abbrev pub invariant-loop-awaited : goal.invariant-loop-awaited
invariant-loop-awaited l = l.out.items ++ after_commas (map awaited_text (drop l.awaited-index l.members)) ≡ l.fn.out.items ++ after_commas (map awaited_text l.members)
