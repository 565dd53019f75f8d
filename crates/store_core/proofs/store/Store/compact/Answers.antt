use Rattle.std.proofs.Common.{sym, subst}
use Rattle.store_payloads.specs.Fits.{TablesFit}
use Rattle.store_core.specs.Store.{StoreState}
use Rattle.store_core.proofs.Migrating.{current_consistent, current_compacts}
use Rattle.store_core.proofs.store.Store.compact.Goals as goal

pub compact-requires-clause-consistent : goal.compact-requires-clause-consistent
compact-requires-clause-consistent g c = current_consistent c.self.inside.journal c.self.inside.tables.tables c.self.invariant.current

pub invariant_of-self : goal.invariant_of-self
invariant_of-self g c =
    let old : StoreState = record { contents = c.self.inside.tables.tables; journal = c.self.inside.journal } in
    let new : StoreState = record { contents = c.compact.new.tables.tables; journal = c.compact.new.journal } in
    record {
      current =
          current_compacts c.args.now old c.payload_law.ensures.snapshot c.requires c.self.invariant.fits c.rows_law.ensures.restores c.rows_law.ensures.order
          c.args.least c.compact.result new c.self.invariant.current c.compact.ensures.compacts;
      fits = subst TablesFit (sym c.compact.ensures.tables) c.self.invariant.fits;
      paired = c.compact.ensures.pair;
    }

pub returns : goal.returns
returns g c = rw (← c.self.view_is) c.compact.ensures.compacts
