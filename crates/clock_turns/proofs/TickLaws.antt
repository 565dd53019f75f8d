-- What follows from the walk of a tick over the books.
use Rattle.std.proofs.Common.{◌≡◌, ◌≢◌, ◌⊎◌, ◌∙◌, ℕ, ◌+◌, ◌<◌, ◌≤◌, Bool, true, false, List, [], ◌∷◌, length, Option, Some, None, Ok, Err, refl, sym, subst, arith, inl, inr}
use Rattle.std.proofs.lemmas.Bool.{true≢false}
use mathlib.Core.Logic.{dite}
use native.Mathlib.Decide.{ℕ_discrete}
use Rattle.actor_names.specs.declared.address.Address.{Address}
use Rattle.timer_book.specs.declared.entry.DueTimer.{DueTimer}
use Rattle.timer_book.specs.declared.event.TimerReply.TheVariants as answers
use Rattle.sidecar_node.specs.declared.node.SidecarNode.{SidecarNode}
use Rattle.sidecar_node.specs.declared.node.Seats.{Seats}
use Rattle.sidecar_node.specs.Nodes.{part_gates, part_at}
use Rattle.clock_turns.specs.declared.ends.TickEnd.{TickEnd}
use Rattle.clock_turns.specs.Closings.{BookSaid}
use Rattle.clock_turns.specs.declared.tick_stand.Stand.{Stand}
use Rattle.clock_turns.specs.declared.tick_stand.Stand.TheVariants.{On, Over}
use Rattle.clock_turns.specs.Timers.{Run, Runs, Fired, is_there}
use Rattle.clock_turns.specs.Ends.{timer_end}
use Rattle.clock_turns.specs.Ticks.{Firing, IsFiring, after_timer, due_stand, stand, GoesOn}
use Rattle.clock_turns.specs.TickLaws.{NoneOn, EndsWithNone, IsFinished, AreFinished}

-- ---- a book that the tick has left

abbrev IsPast : ℕ → Stand → Type 0
IsPast k (On p) = k < p
IsPast k (Over end) = Unit {0}

past_after : (k p : ℕ) (end : Option TickEnd) → k < p → IsPast k (after_timer p end)
past_after k p None h = h
past_after k p (Some end) h = tt

past_due : (k p : ℕ) (fired : Option Fired) → k < p → IsPast k (due_stand p fired)
past_due k p None h = tt
past_due k p (Some f) h = past_after k p (timer_end f) h

past_stand : (k p : ℕ) (said : BookSaid) (fired : Option Fired) → k < p → IsPast k (stand p said fired)
past_stand k p (Ok (answers.DueIs (Some d))) fired h = past_due k p fired h
past_stand k p (Ok (answers.DueIs None)) fired h = let l : k < p + 1 = omega arith in l
past_stand k p (Ok reply) fired h = tt
past_stand k p (Err spent) fired h = tt

past_none : (k p : ℕ) (said : BookSaid) (fired : Option Fired) → p ≡ k → said ≡ Ok (answers.DueIs None) → IsPast k (stand p said fired)
past_none k p said fired same is = let l : k < p + 1 = omega arith in subst (λ (s : BookSaid). IsPast k (stand p s fired)) (sym is) l

differs : (x p k : ℕ) → x ≡ p → k < p → x ≢ k
differs x p k same less e = omega arith

none_on : (node : SidecarNode) (app : Address) (now k : ℕ) (place : Stand) (ts : List Firing) (before after : Seats) (first last : ℕ) (over : Option TickEnd) → IsPast k place → GoesOn node app now place ts before after first last over → NoneOn k ts
none_on node app now k place [] before after first last over h g = tt
none_on node app now k (Over end) (t ∷ ts) before after first last over h g = absurd g
none_on node app now k (On p) (t ∷ ts) before after first last over h g =
    (differs t.book p k g.1 h, none_on node app now k (stand p t.said t.fired) ts t.after after t.until last over (past_stand k p t.said t.fired h) g.4)

-- ---- a book that is still to come

abbrev Reaches : Stand → ℕ → Type 0
Reaches (On p) k = p ≤ k
Reaches (Over end) k = Unit {0}

reach_after : (p k : ℕ) (end : Option TickEnd) → p ≤ k → Reaches (after_timer p end) k
reach_after p k None h = h
reach_after p k (Some end) h = tt

reach_due : (p k : ℕ) (fired : Option Fired) → p ≤ k → Reaches (due_stand p fired) k
reach_due p k None h = tt
reach_due p k (Some f) h = reach_after p k (timer_end f) h

further : (p k : ℕ) → p ≤ k → p ≢ k → p + 1 ≤ k
further p k le ne = omega arith

-- the last Due on the book, or it is still to come
reach_stand : (p k : ℕ) (said : BookSaid) (fired : Option Fired) → p ≤ k → ((p ≡ k) × (said ≡ Ok (answers.DueIs None))) ⊎ Reaches (stand p said fired) k
reach_stand p k (Ok (answers.DueIs (Some d))) fired h = inr (reach_due p k fired h)
reach_stand p k (Ok (answers.DueIs None)) fired h = dite (ℕ_discrete p k) (λ e. inl (e, refl)) (λ n. inr (further p k h n))
reach_stand p k (Ok reply) fired h = inr tt
reach_stand p k (Err spent) fired h = inr tt

ends_none : (node : SidecarNode) (app : Address) (now k : ℕ) (place : Stand) (ts : List Firing) (before after : Seats) (first last : ℕ)
    → Reaches place k → k < length (part_gates node) → GoesOn node app now place ts before after first last None → EndsWithNone k ts
ends_none node app now k (Over end) [] before after first last r less g = absurd (let h : ⊥ = cc (g.0) in h)
ends_none node app now k (Over end) (t ∷ ts) before after first last r less g = absurd g
ends_none node app now k (On p) [] before after first last r less g = absurd (let past : length (part_gates node) ≤ p = g.0 in omega arith)
ends_none node app now k (On p) (t ∷ ts) before after first last r less g = elim (reach_stand p k t.said t.fired r) [
  | inl h ↦ inl (g.1 ∙ h.0, h.1, none_on node app now k (stand p t.said t.fired) ts t.after after t.until last None (past_none k p t.said t.fired h.0 h.1) g.4)
  | inr h ↦ inr (ends_none node app now k (stand p t.said t.fired) ts t.after after t.until last h less g.4)
]

pub through_law : (node : SidecarNode) (app : Address) (now : ℕ) (ts : List Firing) (before after : Seats) (first last : ℕ)
    → GoesOn node app now (On 0) ts before after first last None → (k : ℕ) → k < length (part_gates node) → EndsWithNone k ts
through_law node app now ts before after first last g k less = let low : 0 ≤ k = omega arith in ends_none node app now k (On 0) ts before after first last low less g

-- ---- each timer that was started

run_of : (app : Address) (book part : ℕ) (d : DueTimer) (there : Bool) (run : Option Run) (middle : Seats) (first last : ℕ) (after : Seats) → Runs app book part d there run middle first last after → there ≡ true → (r : Run) × (run ≡ Some r)
run_of app book part d true (Some r) middle first last after h e = (r, refl)
run_of app book part d true None middle first last after h e = absurd h
run_of app book part d false run middle first last after h e = absurd (true≢false (sym e))

finished_of : (node : SidecarNode) (app : Address) (book : ℕ) (said : BookSaid) (fired : Option Fired) (first last : ℕ) (after : Seats) → IsFiring node app book said fired first last after → IsFinished fired
finished_of node app book said None first last after h = tt
finished_of node app book (Ok (answers.DueIs (Some d))) (Some f) first last after h =
    λ e. run_of app book (part_at node d.key) f.timer (is_there f.begun) f.run f.middle first last after h.1.runs e
finished_of node app book (Ok (answers.DueIs None)) (Some f) first last after h = absurd h
finished_of node app book (Ok reply) (Some f) first last after h = absurd h
finished_of node app book (Err spent) (Some f) first last after h = absurd h

are_finished : (node : SidecarNode) (app : Address) (now : ℕ) (place : Stand) (ts : List Firing) (before after : Seats) (first last : ℕ) (over : Option TickEnd) → GoesOn node app now place ts before after first last over → AreFinished ts
are_finished node app now place [] before after first last over g = tt
are_finished node app now (Over end) (t ∷ ts) before after first last over g = absurd g
are_finished node app now (On p) (t ∷ ts) before after first last over g =
    (finished_of node app t.book t.said t.fired first t.until t.after g.2, are_finished node app now (stand p t.said t.fired) ts t.after after t.until last over g.4)

pub finished_law : (node : SidecarNode) (app : Address) (now : ℕ) (ts : List Firing) (before after : Seats) (first last : ℕ) (over : Option TickEnd) → GoesOn node app now (On 0) ts before after first last over → AreFinished ts
finished_law node app now ts before after first last over g = are_finished node app now (On 0) ts before after first last over g
