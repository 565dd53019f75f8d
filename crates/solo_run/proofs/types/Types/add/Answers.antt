use Rattle.std.proofs.Common.{sym, ◌∙◌}
use Rattle.solo_run.specs.Interner.{place_in}
use Rattle.solo_run.proofs.PlaceLemmas.{none_of_is_some}
use Rattle.solo_run.proofs.TypeLemmas.{has_depth-place, depths_told-push}
use Rattle.solo_run.proofs.types.Types.add.Goals as goal

pub add-requires : goal.add-requires
add-requires c =
    let fresh = rw (← c.self.view_is) at c.requires.fresh in
    let place = has_depth-place c.args.kind.now c.self.inside.kinds c.self.inside.depths.items c.self.invariant.each in
    none_of_is_some (place_in c.args.kind.now c.self.inside.kinds) (sym place ∙ fresh)

pub returns-clause-added : goal.returns-clause-added
returns-clause-added c =
    rw (c.in_ok-add.ensures.added, c.push.ensures.items, c.unwrap.ensures, c.in_ok-reserve.ensures.items, ← c.self.view_is)
    (depths_told-push c.self.inside.kinds c.self.inside.depths.items c.args.kind.now c.args.depth c.self.invariant.each)
