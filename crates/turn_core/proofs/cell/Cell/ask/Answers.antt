use Rattle.std.proofs.Common.{◌<◌, Option, Some, None, Bor, IsSome, ap, sym, ◌∙◌, arith}
use Rattle.std.specs.Option.{option_copied}
use Rattle.std.specs.declared.result.Result.{Result}
use Rattle.std.specs.declared.result.Result.TheVariants.{Ok}
use Rattle.turn_core.specs.declared.answer.Asked.{Asked}
use Rattle.turn_core.specs.declared.answer.CellError.{CellError}
use Rattle.turn_core.specs.Cell.{CellState}
use Rattle.turn_core.proofs.CellBounds.{begins_kept, joins_kept}
use Rattle.turn_core.proofs.cell.Cell.ask.Goals as goal

copied_some : {A : Type 0} (r : Option (Bor A)) → IsSome r → IsSome (option_copied r)
copied_some None h = h
copied_some (Some x) h = h

abbrev as_ok : (a : Asked) → Result Asked CellError
as_ok a = Ok a

pub invariant_of-self-in-Begun : goal.invariant_of-self-in-Begun
invariant_of-self-in-Begun c =
    let s : CellState = record { depth = c.self.inside.depth; turns = c.self.inside.turns.items; queue = c.self.inside.queue.items; holds = c.self.inside.holds } in
    let given : 0 < c.self.inside.depth → IsSome (option_copied c.args.chain) = λ deep. copied_some c.args.chain ((rw (← c.self.view_is) at c.requires.chained) deep) in
    let begun = sym (rw (← c.self.view_is) at c.admission.ensures c.args.call) ∙ c.in_ok-admission.was ∙ ap as_ok c.in-Begun.is in (
      begins_kept s c.args.call (option_copied c.args.chain) c.in_ok-chain-in-Begun.chain c.args.may_begin c.push.new.self.items c.self.invariant.0 (rw (← c.self.view_is) at c.requires.absent) given
          (c.in_ok-chain-in-Begun.ensures.ok ∙ c.chain_at.ensures) begun c.in-Ok.ensures.items,
      (let l = c.self.invariant.1 in omega arith),
    )

pub invariant_of-self-in-Waits : goal.invariant_of-self-in-Waits
invariant_of-self-in-Waits c =
    let s : CellState = record { depth = c.self.inside.depth; turns = c.self.inside.turns.items; queue = c.self.inside.queue.items; holds = c.self.inside.holds } in
    let given : 0 < c.self.inside.depth → IsSome (option_copied c.args.chain) = λ deep. copied_some c.args.chain ((rw (← c.self.view_is) at c.requires.chained) deep) in
    let waits = sym (rw (← c.self.view_is) at c.admission.ensures c.args.call) ∙ c.in_ok-admission.was ∙ ap as_ok c.in-Waits.is in (
      joins_kept s c.args.call (option_copied c.args.chain) (option_copied c.chain_at-in-Waits.result) c.args.may_begin c.join_queue.new.queue.items c.in-Waits.place c.self.invariant.0 (rw (← c.self.view_is) at c.requires.absent) given
          c.chain_at-in-Waits.ensures waits c.in_ok-join_queue-in-Waits.ensures.ok,
      c.self.invariant.1,
    )
