use Rattle.std.proofs.Common.{List, ℕ, subst, sym, ap, ◌∙◌, take, get_or}
use Rattle.std.proofs.lemmas.List.{take_more}
use Rattle.disk_model.specs.Disk.{MayMake, MayLead}
use Rattle.disk_model.specs.Memory.{torn_by, torn_by_all}
use Rattle.disk_model.specs.declared.change.Change.{Change}
use Rattle.disk_model.specs.declared.change.Change.TheVariants.{Over}
use Rattle.disk_model.proofs.Sound.{lead_push, torn_push}
use Rattle.disk_model.proofs.torn.tear_all.Goals as goal

pub loop-change-preserved : goal.loop-change-preserved
loop-change-preserved c =
    let change = get_or c.args.pending.now c.loop-change.change-index (Over 0 0) in
    let before = take c.loop-change.change-index c.args.pending.now in
    let one_more = sym (take_more c.args.pending.now c.loop-change.change-index (Over 0 0) c.loop-change-test.true) in
    let made = subst (λ (l : List ℕ). MayMake change l c.in_ok-image-2.image.items) c.deref.ensures.value c.in_ok-image-2.ensures.made in
    let pushed = lead_push before change c.args.synced.now c.loop-change.image.items c.in_ok-image-2.image.items c.loop-change.invariant.0 made in
    let chosen = c.in_ok-image-2.ensures.chosen ∙ ap (torn_by c.args.choice change) (c.deref.ensures.value ∙ c.loop-change.invariant.1) in (
      subst (λ (l : List Change). MayLead l c.args.synced.now c.in_ok-image-2.image.items) one_more pushed,
      chosen ∙ sym (torn_push c.args.choice before change c.args.synced.now) ∙ ap (λ (l : List Change). torn_by_all c.args.choice l c.args.synced.now) one_more,
    )
