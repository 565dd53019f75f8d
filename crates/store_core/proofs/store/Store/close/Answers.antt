use Rattle.std.proofs.Common.{ap, sym, ◌∙◌}
use Rattle.std.specs.Prelude.{option_map}
use Rattle.store_core.proofs.Opened.{has_second}
use Rattle.store_core.proofs.store.Store.close.Goals as goal

pub returns-clause-both : goal.returns-clause-both
returns-clause-both g c none =
    let j = c.self.inside.journal in
    has_second j.is_second_live j.live j.other c.self.invariant.paired (sym c.close.ensures.second ∙ ap (option_map (λ d. record { told = g.D.Disk.told d; faults = g.D.Disk.disk_faults d })) none)
