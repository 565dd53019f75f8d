use Rattle.std.proofs.Common.{rules, ◌≡◌, ◌∙◌, List, length, take, sym, ap, subst, slice_set}
use Rattle.std.proofs.lemmas.List.{length-set}
use Rattle.frame_wire.specs.declared.store_answer.StoreAnswer.TheVariants.{Refused}
use Rattle.frame_wire.specs.declared.store_refusal.StoreRefusal.TheVariants.{DiskFault}
use Rattle.frame_wire.specs.declared.store_answer.StoreAnswer.{StoreAnswer}
use Rattle.store_core.specs.Listings.{all_so}
use Rattle.store_core.proofs.Failing.{failed_more, each_set}
use Rattle.store_core.proofs.store.list.fail_from.Goals as goal

pub loop-at-preserved : goal.loop-at-preserved
loop-at-preserved g c =
    let told : c.told.result ≡ g.G.Guard.rules.told (Refused DiskFault) = c.told.ensures.is ∙ ap g.G.Guard.rules.told c.disk_fault.ensures.is in (
      rw told (failed_more c.loop-at.answers.items (take c.args.first c.args.answers.now.items) (g.G.Guard.rules.told (Refused DiskFault)) c.loop-at.at c.args.first (search rules) (search rules) c.loop-at.invariant.0),
      length-set c.loop-at.answers.items c.loop-at.at c.told.result ∙ c.loop-at.invariant.1,
      c.loop-at.invariant.2,
      λ all. each_set g.G.Guard.fits c.loop-at.answers.items c.loop-at.at c.told.result (c.told.ensures.fits c.disk_fault.ensures.fits) (c.loop-at.invariant.3 all),
    )
