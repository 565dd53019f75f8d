-- Timers that fired, in each case.
use Rattle.std.proofs.Common.{◌≡◌, ◌≤◌, ◌∙◌, refl, sym, ap, subst, ℕ, Bool, true, false, Option, Some, None}
use Rattle.actor_names.specs.declared.address.Address.{Address}
use Rattle.actor_ports.specs.Traffic.{Dialled}
use Rattle.timer_book.specs.declared.entry.DueTimer.{DueTimer}
use Rattle.timer_book.specs.declared.event.TimerEvent.{TimerEvent}
use Rattle.exchanges.specs.Exchanges.{Dialling}
use Rattle.exchanges.proofs.Diallings.{none_made}
use Rattle.sidecar_node.specs.declared.node.Seats.{Seats}
use Rattle.sidecar_node.specs.Entries.{at_book, one_entry}
use Rattle.sidecar_node.specs.Nodes.{Acts, ActsAtBook, SpentAtBook}
use Rattle.sidecar_node.proofs.Actings.{acts_none, acts_then}
use Rattle.clock_turns.specs.declared.ends.TickEnd.{TickEnd}
use Rattle.clock_turns.specs.Closings.{BookSaid}
use Rattle.clock_turns.specs.Timers.{started_event, finished_event, is_there, turn_entries, Run, IsRun, run_entries, run_asked, Fired, Runs, IsFired, timer_entries}
use Rattle.clock_turns.specs.Ends.{spent_or, run_end, timer_end, run_fault, run_begun}
use Rattle.clock_turns.proofs.Turns.{HasTurned}

module _ (app : Address) (book part : ℕ) (d : DueTimer) (before after : Seats) (first last : ℕ) (t0 t1 : Option Dialled) (f0 f1 : ℕ) (begun faulted : Bool) (end : Option TickEnd) where
  -- what a function says of a turn and its Finished
  abbrev pub HasRun : Type 0
  HasRun =
      (r : Run) × IsRun app book part d r first last after × Acts (run_entries book part d last (Some r)) before after
      × Dialling (run_asked (Some r)) t0 t1 f0 f1 × (begun ≡ run_begun (Some r)) × (faulted ≡ run_fault (Some r)) × (end ≡ run_end (Some r))

  -- of what followed the first Started
  abbrev pub HasRunIf : Bool → Type 0
  HasRunIf there =
      (run : Option Run) × Runs app book part d there run before first last after × Acts (run_entries book part d last run) before after
      × Dialling (run_asked run) t0 t1 f0 f1 × (begun ≡ run_begun run) × (faulted ≡ run_fault run) × (end ≡ run_end run)

  -- of a timer
  abbrev pub HasFired : Type 0
  HasFired =
      (f : Fired) × (f.timer ≡ d) × IsFired app book part f first last after × Acts (timer_entries book part last f) before after
      × Dialling (run_asked f.run) t0 t1 f0 f1 × (begun ≡ run_begun f.run) × (faulted ≡ run_fault f.run) × (end ≡ timer_end f)

pub has_run :
    (app : Address) (book part : ℕ) (d : DueTimer) (s0 s1 s2 : Seats) (first middle last : ℕ) (t0 t1 : Option Dialled) (f0 f1 : ℕ) (begun faulted : Bool) (inner end : Option TickEnd) (done : BookSaid)
    → HasTurned app book part d s0 s1 first middle t0 t1 f0 f1 begun faulted inner
    → middle ≤ last → ActsAtBook book (one_entry (finished_event d last) done) s1 s2 → SpentAtBook book done s2 → end ≡ spent_or done inner
    → HasRun app book part d s0 s2 first last t0 t1 f0 f1 begun faulted end
has_run app book part d s0 s1 s2 first middle last t0 t1 f0 f1 begun faulted inner end done x later kept full end_is = (
  record { turn = x.0; before = s1; done = done },
  record { middle = middle; turn = x.1; later = later; kept = kept; full = full },
  acts_then (turn_entries book part d x.0) (at_book book (one_entry (finished_event d last) done)) s0 s1 s2 x.2 kept,
  x.3,
  x.4,
  x.5,
  end_is ∙ ap (λ (e : Option TickEnd). spent_or done e) x.6,
)

pub run_there :
    (app : Address) (book part : ℕ) (d : DueTimer) (before after : Seats) (first last : ℕ) (t0 t1 : Option Dialled) (f0 f1 : ℕ) (begun faulted : Bool) (end : Option TickEnd) (there : Bool)
    → there ≡ true → HasRun app book part d before after first last t0 t1 f0 f1 begun faulted end
    → HasRunIf app book part d before after first last t0 t1 f0 f1 begun faulted end there
run_there app book part d before after first last t0 t1 f0 f1 begun faulted end there is x =
    subst (λ (b : Bool). HasRunIf app book part d before after first last t0 t1 f0 f1 begun faulted end b) (sym is)
    (Some x.0, x.1, x.2, x.3, x.4, x.5, x.6)

pub run_gone :
    (app : Address) (book part : ℕ) (d : DueTimer) (seats : Seats) (now : ℕ) (t : Option Dialled) (f : ℕ) (there : Bool)
    → there ≡ false → HasRunIf app book part d seats seats now now t t f f false false None there
run_gone app book part d seats now t f there is =
    subst (λ (b : Bool). HasRunIf app book part d seats seats now now t t f f false false None b) (sym is)
    (None, (refl, refl), acts_none seats, none_made t f, refl, refl, refl)

pub has_fired :
    (app : Address) (book part : ℕ) (d : DueTimer) (event : TimerEvent) (there : Bool) (s0 s1 s2 : Seats) (first last : ℕ) (t0 t1 : Option Dialled) (f0 f1 : ℕ) (begun faulted : Bool) (inner end : Option TickEnd) (said : BookSaid)
    → event ≡ started_event d → ActsAtBook book (one_entry event said) s0 s1 → SpentAtBook book said s1 → there ≡ is_there said
    → HasRunIf app book part d s1 s2 first last t0 t1 f0 f1 begun faulted inner there → end ≡ spent_or said inner
    → HasFired app book part d s0 s2 first last t0 t1 f0 f1 begun faulted end
has_fired app book part d event there s0 s1 s2 first last t0 t1 f0 f1 begun faulted inner end said same starts full is x end_is =
    let starts_so : ActsAtBook book (one_entry (started_event d) said) s0 s1 = subst (λ (e : TimerEvent). ActsAtBook book (one_entry e said) s0 s1) same starts in
    let runs : Runs app book part d (is_there said) x.0 s1 first last s2 = subst (λ (b : Bool). Runs app book part d b x.0 s1 first last s2) is x.1 in (
      record { timer = d; begun = said; middle = s1; run = x.0 },
      refl,
      record { full = full; runs = runs },
      acts_then (at_book book (one_entry (started_event d) said)) (run_entries book part d last x.0) s0 s1 s2 starts_so x.2,
      x.3,
      x.4,
      x.5,
      end_is ∙ ap (λ (e : Option TickEnd). spent_or said e) x.6,
    )
