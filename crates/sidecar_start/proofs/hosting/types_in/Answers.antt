use Rattle.sidecar_start.proofs.Fitting.{pushed_fits, pushed_kinds, kinds_fit}
use Rattle.sidecar_start.proofs.hosting.types_in.Goals as goal

pub loop-settings-preserved : goal.loop-settings-preserved
loop-settings-preserved c =
    let inv = c.loop-settings.invariant in
    record {
      same = pushed_kinds _ c.loop-settings.settings-index _ _ _ c.in_ok-kind.kind c.loop-settings-test.true c.settings-item.is inv.same c.in_ok-push.ensures.items c.in_ok-kind.ensures;
      fits = pushed_fits _ _ _ c.in_ok-kind.kind c.in_ok-push.ensures.items c.in_ok-kind.ensures c.fits_type.ensures inv.fits;
    }

pub returns-clause-fits : goal.returns-clause-fits
returns-clause-fits c =
    let inv = c.loop-settings.invariant in
    kinds_fit c.from_vec.result c.loop-settings.items.items c.as_slice-settings-items.result.now c.args.kinds.now c.loop-settings.settings-index c.from_vec.ensures inv.same c.as_slice-settings-items.ensures c.requires inv.fits
