use Rattle.std.proofs.Common.{◌≡◌, Bool, true, false, List, [], Option, None, Some, Result, Ok, Err, refl, sym, ◌∙◌, subst}
use Rattle.std.specs.Prelude.{is_err}
use Rattle.tx_journal.specs.Runs.{AppendAllMoves}
use Rattle.store_core.specs.Listings.{IsUnderWay}
use Rattle.store_core.proofs.GoingOn.{put_goes_on, done_is}
use Rattle.store_core.proofs.Faulted.{put_fails}
use Rattle.store_core.proofs.store.list.put.Goals as goal

pub returns-else-has_failed-clause-goes_on : goal.returns-else-has_failed-clause-goes_on
returns-else-has_failed-clause-goes_on g c =
    λ t old answered are u.
    let moves : AppendAllMoves c.args.list.now.batch c.append_all.result c.args.journal.now c.append_all.new.self = record { refused = c.append_all.ensures.refused; taken = c.append_all.ensures.taken; crash = c.append_all.ensures.crash; done = c.append_all.ensures.done } in
    let is = done_is c.append_all.result (sym c.is_err-has_failed.ensures.value ∙ c.if-has_failed.false) in
    let may = rw c.in-Some.is at c.requires in (
      answered,
      refl,
      are,
      rw c.clear.ensures
          (put_goes_on g.G.Guard.rules c.payload_law.ensures.commands old answered c.args.journal.now c.append_all.new.self t c.args.list.now.batch c.in-Some.first (rw c.in-Some.is at u) may.1 (rw is at moves)),
    )

pub returns-then-has_failed-clause-goes_on : goal.returns-then-has_failed-clause-goes_on
returns-then-has_failed-clause-goes_on g c =
    λ t old answered are u.
    let moves : AppendAllMoves c.args.list.now.batch c.append_all.result c.args.journal.now c.append_all.new.self = record { refused = c.append_all.ensures.refused; taken = c.append_all.ensures.taken; crash = c.append_all.ensures.crash; done = c.append_all.ensures.done } in
    let failed = sym c.is_err-has_failed.ensures.value ∙ c.if-has_failed.true in
    let may = rw c.in-Some.is at c.requires in
    rw (c.clear.ensures, c.fail_from.ensures.items)
    (put_fails g.G.Guard.rules c.payload_law.ensures.commands c.args.list.now.answers.items c.args.journal.now c.append_all.new.self t c.args.list.now.batch c.in-Some.first c.append_all.result may.1 failed moves old answered are (rw c.in-Some.is at u))
