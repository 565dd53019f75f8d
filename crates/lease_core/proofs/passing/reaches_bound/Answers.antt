use Rattle.std.proofs.Common.{◌≡◌, true, false, Bool, List, length, sym, ap, ◌∙◌}
use Rattle.std.specs.Prelude.{◌||◌}
use Rattle.std.proofs.lemmas.Bool.{or_left}
use Rattle.lease_core.specs.declared.book.MemberClock.{MemberClock}
use Rattle.lease_core.specs.Book.{is_past, any_past}
use Rattle.lease_core.proofs.passing.reaches_bound.Goals as goal

pub returns-then-is_past : goal.returns-then-is_past
returns-then-is_past c = sym (or_left (is_past c.args.book.now.clock c.args.placement) (any_past c.args.steps.now c.args.book.now.members.items) (sym c.is_past.ensures ∙ c.if-is_past.true))

pub any_past-requires : goal.any_past-requires
any_past-requires c = c.requires ∙ ap (λ (ms : List MemberClock). length ms) (sym c.as_slice.ensures.value)

pub returns : goal.returns
returns c =
    let rest : Bool = any_past c.args.steps.now c.args.book.now.members.items in
    c.any_past.ensures ∙ ap (λ (ms : List MemberClock). any_past c.args.steps.now ms) c.as_slice.ensures.value ∙ ap (λ (b : Bool). b || rest) (sym (sym c.is_past.ensures ∙ c.if-is_past.false))
