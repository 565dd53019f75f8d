use Rattle.std.proofs.Common.{◌≡◌, ◌<◌, ◌+◌, false, List, length, sym, ap, ◌∙◌, arith}
use Rattle.std.proofs.lemmas.Bool.{or_parts, leb-false}
use Rattle.lease_core.specs.declared.book.MemberClock.{MemberClock}
use Rattle.lease_core.specs.Book.{is_past, any_past}
use Rattle.lease_core.proofs.passing.move_book.Goals as goal

pub overflow_add-clock : goal.overflow_add-clock
overflow_add-clock c =
    let here = or_parts (is_past c.args.book.now.clock c.args.placement) (any_past c.args.steps.now c.args.book.now.members.items) c.requires.within in
    let low : c.args.book.now.clock + c.args.placement < 253370764800000 = leb-false _ _ here.0 in
    omega arith

pub move_clocks-requires : goal.move_clocks-requires
move_clocks-requires c =
    let here = or_parts (is_past c.args.book.now.clock c.args.placement) (any_past c.args.steps.now c.args.book.now.members.items) c.requires.within in
    record {
      lengths = c.requires.lengths ∙ ap (λ (ms : List MemberClock). length ms) (sym c.as_mut_slice.ensures.value);
      within = ap (λ (ms : List MemberClock). any_past c.args.steps.now ms) c.as_mut_slice.ensures.value ∙ here.1;
    }
