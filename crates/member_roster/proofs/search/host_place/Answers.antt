use Rattle.std.proofs.Common.{rules}
use Rattle.std.proofs.lemmas.Fn.{always_returns_same}
use Rattle.member_roster.specs.Places.{host_node}
use Rattle.member_roster.proofs.Places.{cmp, placed}
use Rattle.member_roster.proofs.search.host_place.Goals as goal

pub returns-clause-place : goal.returns-clause-place
returns-clause-place c = placed host_node _ _ _ c.requires c.binary_search_by.ensures.bound (c.binary_search_by.ensures.position (λ y. cmp (host_node y) c.args.node.now) (always_returns_same _ _ _ (λ a r f' k. search rules)))
