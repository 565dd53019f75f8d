use Rattle.std.proofs.Common.{◌≡◌, ◌++◌, drop, map}
use Rattle.json_text.specs.Texts.{after_commas}
use Rattle.json_text.specs.Written.{member_text}
use Rattle.json_text.proofs.writing.push_more_members.Given as goal

-- the text so far and what is left make the whole text
abbrev pub invariant-loop-member : goal.invariant-loop-member
invariant-loop-member l = l.out.items ++ after_commas (map member_text (drop l.member-index l.members)) ≡ l.fn.out.items ++ after_commas (map member_text l.members)
