-- A fault of the application's connection in a timer's turn is counted.
use Rattle.std.proofs.Common.{◌≡◌, ◌⊎◌, ℕ, ◌<◌, ◌≤◌, Bool, true, false, List, Option, Some, None, Ok, Err, refl, sym, arith, inl, inr}
use Rattle.std.proofs.lemmas.Bool.{true≢false}
use Rattle.std.specs.Prelude.{◌||◌}
use Rattle.actor_names.specs.declared.address.Address.{Address}
use Rattle.actor_ports.specs.Traffic.{Dialled}
use Rattle.part_model.specs.declared.event.Reply.TheVariants as replies
use Rattle.timer_book.specs.declared.entry.DueTimer.{DueTimer}
use Rattle.timer_book.specs.declared.event.TimerReply.TheVariants as answers
use Rattle.exchanges.specs.Exchanges.{Exchange, Dialling}
use Rattle.exchanges.specs.Replies.{Got, place_at}
use Rattle.sidecar_node.specs.declared.node.SidecarNode.{SidecarNode}
use Rattle.sidecar_node.specs.declared.node.Seats.{Seats}
use Rattle.sidecar_node.specs.Nodes.{part_at}
use Rattle.sidecar_node.specs.Turns.{Said}
use Rattle.clock_turns.specs.Closings.{BookSaid}
use Rattle.clock_turns.proofs.Faults.{fault_counts}
use Rattle.clock_turns.specs.Callbacks.{timer_call}
use Rattle.clock_turns.specs.Timers.{Calls, Called, called_asked, Follows, Run, run_asked, Runs, Fired, is_there}
use Rattle.clock_turns.specs.Ends.{got_fault, called_fault, run_fault}
use Rattle.clock_turns.specs.Ticks.{IsFiring, fired_asked, fired_fault}

calls_count : (app : Address) (d : DueTimer) (chain : Option (List ℕ)) (there : Bool) (xs : List Exchange) (got : Option Got) (t0 t1 : Option Dialled) (f0 f1 : ℕ)
    → Calls app d chain there xs got → Dialling xs t0 t1 f0 f1 → got_fault got ≡ true → f0 < f1
calls_count app d chain there xs None t0 t1 f0 f1 c asks f = absurd (true≢false (sym f))
calls_count app d chain true xs (Some got) t0 t1 f0 f1 c asks f = fault_counts (timer_call app d chain) (place_at app) xs got t0 t1 f0 f1 c asks f
calls_count app d chain false xs (Some got) t0 t1 f0 f1 c asks f = absurd c

called_counts : (app : Address) (book part : ℕ) (d : DueTimer) (said : Said) (called : Option Called) (first last : ℕ) (after : Seats) (t0 t1 : Option Dialled) (f0 f1 : ℕ)
    → Follows app book part d said called first last after → Dialling (called_asked called) t0 t1 f0 f1 → called_fault called ≡ true → f0 < f1
called_counts app book part d said None first last after t0 t1 f0 f1 h asks f = absurd (true≢false (sym f))
called_counts app book part d (Ok (replies.Begun call chain)) (Some c) first last after t0 t1 f0 f1 h asks f = calls_count app d chain (is_there c.again) c.asked c.got t0 t1 f0 f1 h.calls asks f
called_counts app book part d (Ok reply) (Some c) first last after t0 t1 f0 f1 h asks f = absurd h
called_counts app book part d (Err spent) (Some c) first last after t0 t1 f0 f1 h asks f = absurd h

run_counts : (app : Address) (book part : ℕ) (d : DueTimer) (there : Bool) (run : Option Run) (middle : Seats) (first last : ℕ) (after : Seats) (t0 t1 : Option Dialled) (f0 f1 : ℕ)
    → Runs app book part d there run middle first last after → Dialling (run_asked run) t0 t1 f0 f1 → run_fault run ≡ true → f0 < f1
run_counts app book part d there None middle first last after t0 t1 f0 f1 h asks f = absurd (true≢false (sym f))
run_counts app book part d true (Some r) middle first last after t0 t1 f0 f1 h asks f =
    called_counts app book part d r.turn.said r.turn.called h.turn.middle h.middle r.before t0 t1 f0 f1 h.turn.follows asks f
run_counts app book part d false (Some r) middle first last after t0 t1 f0 f1 h asks f = absurd h

pub firing_counts : (node : SidecarNode) (app : Address) (book : ℕ) (said : BookSaid) (fired : Option Fired) (first last : ℕ) (after : Seats) (t0 t1 : Option Dialled) (f0 f1 : ℕ)
    → IsFiring node app book said fired first last after → Dialling (fired_asked fired) t0 t1 f0 f1 → fired_fault fired ≡ true → f0 < f1
firing_counts node app book said None first last after t0 t1 f0 f1 h asks f = absurd (true≢false (sym f))
firing_counts node app book (Ok (answers.DueIs (Some d))) (Some r) first last after t0 t1 f0 f1 h asks f =
    run_counts app book (part_at node d.key) r.timer (is_there r.begun) r.run r.middle first last after t0 t1 f0 f1 h.1.runs asks f
firing_counts node app book (Ok (answers.DueIs None)) (Some r) first last after t0 t1 f0 f1 h asks f = absurd h
firing_counts node app book (Ok reply) (Some r) first last after t0 t1 f0 f1 h asks f = absurd h
firing_counts node app book (Err spent) (Some r) first last after t0 t1 f0 f1 h asks f = absurd h

or_either : (a b : Bool) → (a || b) ≡ true → (a ≡ true) ⊎ (b ≡ true)
or_either true b e = inl refl
or_either false b e = inr e

pub either_rises : (faulted fault : Bool) (f0 f1 f2 : ℕ) → (faulted ≡ true → f0 < f1) → (fault ≡ true → f1 < f2) → f0 ≤ f1 → f1 ≤ f2 → (faulted || fault) ≡ true → f0 < f2
either_rises faulted fault f0 f1 f2 old new up more e = elim (or_either faulted fault e) [
  | inl a ↦ let l : f0 < f1 = old a in omega arith
  | inr b ↦ let l : f1 < f2 = new b in omega arith
]
