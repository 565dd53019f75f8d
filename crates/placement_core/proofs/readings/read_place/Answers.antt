use Rattle.std.proofs.Common.{rules}
use Rattle.std.proofs.lemmas.Fn.{always_returns_same}
use Rattle.member_roster.proofs.Places.{cmp, placed}
use Rattle.placement_core.specs.Readings.{read_space}
use Rattle.placement_core.proofs.readings.read_place.Goals as goal

pub returns-clause-place : goal.returns-clause-place
returns-clause-place c = placed read_space _ _ _ c.requires c.binary_search_by.ensures.bound (c.binary_search_by.ensures.position (λ y. cmp (read_space y) c.args.space.now) (always_returns_same _ _ _ (λ a r f' k. search rules)))
