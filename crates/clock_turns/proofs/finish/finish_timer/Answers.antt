use Rattle.std.proofs.Common.{ℕ, ◌∙◌, sym, ap, subst}
use Rattle.timer_book.specs.declared.event.TimerEvent.TheVariants.{Finished}
use Rattle.sidecar_node.specs.Entries.{one_entry}
use Rattle.sidecar_node.specs.Nodes.{ActsAtBook}
use Rattle.clock_turns.specs.Timers.{nanos_of}
use Rattle.clock_turns.proofs.finish.finish_timer.Goals as goal

pub returns-clause-entry : goal.returns-clause-entry
returns-clause-entry g c =
    subst (λ (n : ℕ). ActsAtBook c.args.book (one_entry (Finished c.args.due.key c.args.due.name c.args.due.number n) c.step_book.result) c.args.seats.now c.step_book.new.seats)
    (c.moment_of-ended.ensures ∙ ap (λ (n : ℕ). nanos_of n) (sym c.now_ms-now.ensures.shows)) c.step_book.ensures.entry
