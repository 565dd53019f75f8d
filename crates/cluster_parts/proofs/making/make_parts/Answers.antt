use Rattle.std.proofs.Common.{◌≡◌, ap, sym, ◌∙◌, subst}
use Rattle.std.specs.Prelude.{List, []}
use Rattle.part_model.specs.declared.settings.TypeSettings.{TypeSettings}
use Rattle.part_model.specs.Settings.{AreShallow}
use Rattle.part_model.specs.Part.{new_part}
use Rattle.part_model.specs.Rooms.{PartView}
use Rattle.cluster_model.specs.World.{settings_for}
use Rattle.cluster_parts.specs.Views.{states_of}
use Rattle.cluster_parts.proofs.Makings.{made-more, shallow_for}
use Rattle.cluster_parts.proofs.making.make_parts.Goals as goal

pub new-requires : goal.new-requires
new-requires c = subst (λ (ts : List TypeSettings). AreShallow ts) (sym c.in_ok-list.ensures) (shallow_for c.args.settings.now c.args.kinds.now c.requires)

pub loop-i-preserved : goal.loop-i-preserved
loop-i-preserved c =
    let ks = settings_for c.args.settings.now c.args.kinds.now in
    let made : c.in_ok-new.field-0 ≡ record { state = new_part c.args.member c.loop-i.i ks; recent = [] } = c.in_ok-new.ensures ∙ ap (λ (ts : List TypeSettings). let v : PartView = record { state = new_part c.args.member c.loop-i.i ts; recent = [] } in v) c.in_ok-list.ensures in
    ap (λ (vs : List PartView). states_of vs) c.in_ok-push.ensures.items ∙ made-more c.args.member ks c.loop-i.i c.loop-i.parts.items c.in_ok-new.field-0 c.loop-i.invariant made
