use Rattle.std.proofs.Common.{◌≡◌, ap, sym, ◌∙◌, subst}
use Rattle.placement_core.specs.Kept.{shown}
use Rattle.placement_core.specs.Placement.{PlacementState, placement_restarted}
use Rattle.placement_core.specs.Sound.{AreOfSpaces, AllHaveFewTypes}
use Rattle.placement_core.proofs.Sound.{shown_restarted, restart_own, restart_few}
use Rattle.placement_core.proofs.placement.Placement.restarted.Goals as goal

pub returns-clause-spaces : goal.returns-clause-spaces
returns-clause-spaces c = λ a.
    let e : shown c.restart.new.self.rooms ≡ placement_restarted (shown c.self.inside.rooms.rooms) c.args.now = ap shown c.restart.ensures.rooms ∙ shown_restarted c.self.inside.rooms.rooms c.args.now in
    subst (λ (s : PlacementState). AreOfSpaces s.rooms) (sym e) (restart_own (shown c.self.inside.rooms.rooms) c.args.now (rw (← c.self.view_is) at a))

pub returns-clause-types : goal.returns-clause-types
returns-clause-types c = λ a.
    let e : shown c.restart.new.self.rooms ≡ placement_restarted (shown c.self.inside.rooms.rooms) c.args.now = ap shown c.restart.ensures.rooms ∙ shown_restarted c.self.inside.rooms.rooms c.args.now in
    subst (λ (s : PlacementState). AllHaveFewTypes s.rooms) (sym e) (restart_few (shown c.self.inside.rooms.rooms) c.args.now (rw (← c.self.view_is) at a))
