use Rattle.std.proofs.Common.{rules, ◌≡◌, ℕ, List, length, Option, Result, Ok, sym, ◌∙◌, ap, subst}
use Rattle.tx_journal.specs.declared.staged.Staged.TheVariants.{Added, NoRoom}
use Rattle.store_core.specs.Listings.{first_with, GoesOn}
use Rattle.store_core.proofs.Rooms.{StageMoves, added_is, no_room_keeps}
use Rattle.store_core.proofs.store.list.stage.Goals as goal

pub returns-in-Ok-Added-stage-clause-stages : goal.returns-in-Ok-Added-stage-clause-stages
returns-in-Ok-Added-stage-clause-stages g c =
    λ t.
    let j = c.args.journal.now in
    let k = c.put.new.journal in
    let payload = c.args.payload.now in
    let mid = c.put.new.list in
    let again = c.stage-in-Ok-NoRoom in
    let moves : StageMoves j payload c.stage.result c.args.list.now.batch c.stage.new.batch = record { refused = c.stage.ensures.refused; taken = c.stage.ensures.taken } in
    let kept = no_room_keeps j payload c.stage.result c.args.list.now.batch c.stage.new.batch (c.in-Ok-NoRoom.is ∙ ap (λ s. Ok s) c.in-Ok-NoRoom.field-0-is) moves in
    let on : GoesOn g.G.Guard.rules c.args.list.now.answers.items j t c.args.list.now.batch c.args.list.now.first mid.answers.items k mid.batch mid.first =
    subst (λ (ps : List (List ℕ)). GoesOn g.G.Guard.rules c.args.list.now.answers.items j t ps c.args.list.now.first mid.answers.items k mid.batch mid.first) kept (c.put.ensures.goes_on t) in
    let moves_again : StageMoves k payload again.result mid.batch again.new.batch = record { refused = again.ensures.refused; taken = again.ensures.taken } in
    let added = added_is k payload again.result mid.batch again.new.batch (c.in-Ok-Added-stage.is ∙ ap (λ s. Ok s) c.in-Ok-Added-stage.field-0-is) moves_again in
    let first_is : c.first_with-list-in-Ok-Added-stage.result ≡ first_with mid.first (length mid.answers.items) = search rules in
    (mid.batch, mid.first, on, added.0, added.1, first_is)
