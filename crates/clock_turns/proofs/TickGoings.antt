-- How far the Dues of a tick have come.
use Rattle.std.proofs.Common.{◌≡◌, ◌∙◌, ℕ, ◌<◌, ◌≤◌, Bool, true, false, List, [], ◌∷◌, ◌++◌, length, Option, Some, None, refl, sym, ap, ap₂, subst, append_assoc}
use Rattle.std.proofs.lemmas.Bool.{true≢false}
use Rattle.std.proofs.lemmas.List.{append-nil}
use Rattle.std.specs.Prelude.{◌||◌}
use Rattle.actor_names.specs.declared.address.Address.{Address}
use Rattle.actor_ports.specs.Traffic.{Dialled}
use Rattle.exchanges.specs.Exchanges.{Exchange, Dialling}
use Rattle.exchanges.proofs.Diallings.{none_made, dialling_then}
use Rattle.sidecar_node.specs.declared.node.SidecarNode.{SidecarNode}
use Rattle.sidecar_node.specs.declared.node.Seats.{Seats}
use Rattle.sidecar_node.specs.Entries.{NodeEntry}
use Rattle.sidecar_node.specs.Nodes.{part_gates, Acts}
use Rattle.sidecar_node.proofs.Actings.{acts_none, acts_then}
use Rattle.clock_turns.specs.declared.ends.TickEnd.{TickEnd}
use Rattle.clock_turns.specs.Closings.{BookSaid}
use Rattle.clock_turns.proofs.Faults.{never_falls}
use Rattle.clock_turns.specs.declared.tick_stand.Stand.{Stand}
use Rattle.clock_turns.specs.declared.tick_stand.Stand.TheVariants.{On, Over}
use Rattle.clock_turns.specs.Timers.{Fired}
use Rattle.clock_turns.specs.Ends.{more_if}
use Rattle.clock_turns.specs.Ticks.{Firing, IsFiring, stand, due_entries, fired_asked, fired_fault, fired_begun, entries_of, exchanges_of, any_fault, turns_from, GoesOn, FiresTimers}
use Rattle.clock_turns.proofs.Dues.{HasTaken}
use Rattle.clock_turns.proofs.Counts.{firing_counts, either_rises}

-- ---- one Due more

entries_push : (node : SidecarNode) (now : ℕ) (ts : List Firing) (t : Firing) → entries_of node now (ts ++ t ∷ []) ≡ entries_of node now ts ++ due_entries node now t.book t.said t.fired t.until
entries_push node now [] t = append-nil (due_entries node now t.book t.said t.fired t.until)
entries_push node now (u ∷ ts) t =
    ap (λ (es : List NodeEntry). due_entries node now u.book u.said u.fired u.until ++ es) (entries_push node now ts t)
    ∙ sym (append_assoc (due_entries node now u.book u.said u.fired u.until) (entries_of node now ts) (due_entries node now t.book t.said t.fired t.until))

exchanges_push : (ts : List Firing) (t : Firing) → exchanges_of (ts ++ t ∷ []) ≡ exchanges_of ts ++ fired_asked t.fired
exchanges_push [] t = append-nil (fired_asked t.fired)
exchanges_push (u ∷ ts) t = ap (λ (xs : List Exchange). fired_asked u.fired ++ xs) (exchanges_push ts t) ∙ sym (append_assoc (fired_asked u.fired) (exchanges_of ts) (fired_asked t.fired))

or_last : (a b c : Bool) → (a || (b || c)) ≡ ((a || b) || c)
or_last true b c = refl
or_last false b c = refl

or_none : (a : Bool) → (a || false) ≡ (false || a)
or_none true = refl
or_none false = refl

fault_push : (ts : List Firing) (t : Firing) → any_fault (ts ++ t ∷ []) ≡ (any_fault ts || fired_fault t.fired)
fault_push [] t = or_none (fired_fault t.fired)
fault_push (u ∷ ts) t = ap (λ (b : Bool). fired_fault u.fired || b) (fault_push ts t) ∙ or_last (fired_fault u.fired) (any_fault ts) (fired_fault t.fired)

turns_push : (n : ℕ) (ts : List Firing) (t : Firing) → turns_from n (ts ++ t ∷ []) ≡ more_if (fired_begun t.fired) (turns_from n ts)
turns_push n [] t = refl
turns_push n (u ∷ ts) t = turns_push (more_if (fired_begun u.fired) n) ts t

-- ---- the Dues so far

-- The tick stands at a place, after these Dues; whatever goes on from there goes on from the first book.
pub record Progress
    (node : SidecarNode) (app : Address) (now : ℕ) (before after : Seats) (t0 t1 : Option Dialled) (f0 f1 first last : ℕ)
    (place : Stand) (turns : ℕ) (faulted : Bool) : Type 0 where
  pub front : List Firing
  pub goes : (ts : List Firing) (s : Seats) (m : ℕ) (over : Option TickEnd) → GoesOn node app now place ts after s last m over → GoesOn node app now (On 0) (front ++ ts) before s first m over
  pub acts : Acts (entries_of node now front) before after
  pub asks : Dialling (exchanges_of front) t0 t1 f0 f1
  pub counts : turns ≡ turns_from 0 front
  pub faults : faulted ≡ any_fault front
  pub rises : faulted ≡ true → f0 < f1

pub start : (node : SidecarNode) (app : Address) (now : ℕ) (s : Seats) (t : Option Dialled) (f shown : ℕ) → Progress node app now s s t t f f shown shown (On 0) 0 false
start node app now s t f shown = record {
  front = [];
  goes = λ ts u m over g. g;
  acts = acts_none s;
  asks = none_made t f;
  counts = refl;
  faults = refl;
  rises = λ e. absurd (true≢false (sym e));
}

took :
    (node : SidecarNode) (app : Address) (now book : ℕ) (s0 s1 s2 : Seats) (t0 t1 t2 : Option Dialled) (f0 f1 f2 m0 m1 m2 : ℕ) (turns : ℕ) (begun faulted fault : Bool) (place : Stand)
    → book < length (part_gates node) → Progress node app now s0 s1 t0 t1 f0 f1 m0 m1 (On book) turns faulted
    → HasTaken node app book s1 s2 m1 m2 t1 t2 f1 f2 begun fault place now
    → Progress node app now s0 s2 t0 t2 f0 f2 m0 m2 place (more_if begun turns) (faulted || fault)
took node app now book s0 s1 s2 t0 t1 t2 f0 f1 f2 m0 m1 m2 turns begun faulted fault place less p x =
    let said : BookSaid = x.0 in
    let fired : Option Fired = x.1 in
    let firing : IsFiring node app book said fired m1 m2 s2 = x.2 in
    let acts : Acts (due_entries node now book said fired m2) s1 s2 = x.3 in
    let asks : Dialling (fired_asked fired) t1 t2 f1 f2 = x.4 in
    let began : begun ≡ fired_begun fired = x.5 in
    let new : fault ≡ fired_fault fired = x.6 in
    let stands : place ≡ stand book said fired = x.7 in
    let t : Firing = record { book = book; said = said; fired = fired; after = s2; until = m2 } in
    record {
      front = p.front ++ t ∷ [];
      goes = λ ts s m over g.
          subst (λ (us : List Firing). GoesOn node app now (On 0) us s0 s m0 m over) (sym (append_assoc p.front (t ∷ []) ts))
          (p.goes (t ∷ ts) s m over (less, refl, firing, acts, subst (λ (q : Stand). GoesOn node app now q ts s2 s m2 m over) stands g));
      acts = subst (λ (es : List NodeEntry). Acts es s0 s2) (sym (entries_push node now p.front t)) (acts_then (entries_of node now p.front) (due_entries node now book said fired m2) s0 s1 s2 p.acts acts);
      asks = subst (λ (xs : List Exchange). Dialling xs t0 t2 f0 f2) (sym (exchanges_push p.front t)) (dialling_then (exchanges_of p.front) (fired_asked fired) t0 t1 t2 f0 f1 f2 p.asks asks);
      counts = ap₂ (λ (b : Bool) (n : ℕ). more_if b n) began p.counts ∙ sym (turns_push 0 p.front t);
      faults = ap₂ (λ (a b : Bool). a || b) p.faults new ∙ sym (fault_push p.front t);
      rises = either_rises faulted fault f0 f1 f2 p.rises
          (λ e. firing_counts node app book said fired m1 m2 s2 t1 t2 f1 f2 firing asks (sym new ∙ e))
          (never_falls (exchanges_of p.front) t0 t1 f0 f1 p.asks) (never_falls (fired_asked fired) t1 t2 f1 f2 asks);
    }

-- one Due more, and the tick goes on
pub went_on :
    (node : SidecarNode) (app : Address) (now book next : ℕ) (s0 s1 s2 : Seats) (t0 t1 t2 : Option Dialled) (f0 f1 f2 m0 m1 m2 : ℕ) (turns more : ℕ) (begun faulted fault either : Bool) (place : Stand)
    → book < length (part_gates node) → Progress node app now s0 s1 t0 t1 f0 f1 m0 m1 (On book) turns faulted
    → HasTaken node app book s1 s2 m1 m2 t1 t2 f1 f2 begun fault place now
    → place ≡ On next → more ≡ more_if begun turns → either ≡ (faulted || fault)
    → Progress node app now s0 s2 t0 t2 f0 f2 m0 m2 (On next) more either
went_on node app now book next s0 s1 s2 t0 t1 t2 f0 f1 f2 m0 m1 m2 turns more begun faulted fault either place less p x is counted same =
    subst (λ (q : Stand × ℕ × Bool). Progress node app now s0 s2 t0 t2 f0 f2 m0 m2 q.0 q.1 q.2) (λ i. (is i, sym counted i, sym same i))
    (took node app now book s0 s1 s2 t0 t1 t2 f0 f1 f2 m0 m1 m2 turns begun faulted fault place less p x)

-- ---- the end

-- all books are through
pub through :
    (node : SidecarNode) (app : Address) (now : ℕ) (s0 s : Seats) (t0 t : Option Dialled) (f0 f m0 m book turns : ℕ) (faulted : Bool)
    → length (part_gates node) ≤ book → Progress node app now s0 s t0 t f0 f m0 m (On book) turns faulted → FiresTimers node app now s0 s t0 t f0 f m0 m turns faulted None
through node app now s0 s t0 t f0 f m0 m book turns faulted all p = record {
  firings = p.front;
  goes_on = subst (λ (us : List Firing). GoesOn node app now (On 0) us s0 s m0 m None) (append-nil p.front) (p.goes [] s m None (all, refl, refl, refl));
  acts = p.acts;
  asks = p.asks;
  counts = p.counts;
  faults = p.faults;
  rises = p.rises;
}

ended :
    (node : SidecarNode) (app : Address) (now : ℕ) (s0 s : Seats) (t0 t : Option Dialled) (f0 f m0 m turns : ℕ) (faulted : Bool) (end : TickEnd)
    → Progress node app now s0 s t0 t f0 f m0 m (Over end) turns faulted → FiresTimers node app now s0 s t0 t f0 f m0 m turns faulted (Some end)
ended node app now s0 s t0 t f0 f m0 m turns faulted end p = record {
  firings = p.front;
  goes_on = subst (λ (us : List Firing). GoesOn node app now (On 0) us s0 s m0 m (Some end)) (append-nil p.front) (p.goes [] s m (Some end) (refl, refl, refl));
  acts = p.acts;
  asks = p.asks;
  counts = p.counts;
  faults = p.faults;
  rises = p.rises;
}

-- one Due more, which ends the tick
pub went_over :
    (node : SidecarNode) (app : Address) (now book : ℕ) (s0 s1 s2 : Seats) (t0 t1 t2 : Option Dialled) (f0 f1 f2 m0 m1 m2 : ℕ) (turns more : ℕ) (begun faulted fault either : Bool) (place : Stand) (end : TickEnd)
    → book < length (part_gates node) → Progress node app now s0 s1 t0 t1 f0 f1 m0 m1 (On book) turns faulted
    → HasTaken node app book s1 s2 m1 m2 t1 t2 f1 f2 begun fault place now
    → place ≡ Over end → more ≡ more_if begun turns → either ≡ (faulted || fault)
    → FiresTimers node app now s0 s2 t0 t2 f0 f2 m0 m2 more either (Some end)
went_over node app now book s0 s1 s2 t0 t1 t2 f0 f1 f2 m0 m1 m2 turns more begun faulted fault either place end less p x is counted same =
    ended node app now s0 s2 t0 t2 f0 f2 m0 m2 more either end
    (subst (λ (q : Stand × ℕ × Bool). Progress node app now s0 s2 t0 t2 f0 f2 m0 m2 q.0 q.1 q.2) (λ i. (is i, sym counted i, sym same i))
    (took node app now book s0 s1 s2 t0 t1 t2 f0 f1 f2 m0 m1 m2 turns begun faulted fault place less p x))
