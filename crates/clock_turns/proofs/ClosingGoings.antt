-- How far the takings of a turn have come.
use Rattle.std.proofs.Common.{◌≡◌, ◌∙◌, ℕ, ◌<◌, ◌≤◌, Bool, true, false, List, [], ◌∷◌, ◌++◌, length, Option, Some, None, Ok, Err, refl, sym, ap, ap₂, subst, append_assoc}
use Rattle.std.proofs.lemmas.Bool.{true≢false}
use Rattle.std.proofs.lemmas.List.{append-nil}
use Rattle.std.specs.Prelude.{◌||◌}
use Rattle.actor_names.specs.declared.address.Address.{Address}
use Rattle.actor_ports.specs.Traffic.{Dialled}
use Rattle.app_texts.specs.Texts.{deactivate_text}
use Rattle.part_model.specs.declared.event.Reply.TheVariants as replies
use Rattle.exchanges.specs.Exchanges.{Exchange, Dialling}
use Rattle.exchanges.specs.Replies.{place_at}
use Rattle.exchanges.proofs.Diallings.{none_made, dialling_then}
use Rattle.sidecar_node.specs.declared.node.SidecarNode.{SidecarNode}
use Rattle.sidecar_node.specs.declared.node.Seats.{Seats}
use Rattle.sidecar_node.specs.Entries.{NodeEntry}
use Rattle.sidecar_node.specs.Nodes.{part_gates, Acts}
use Rattle.sidecar_node.specs.Turns.{Said}
use Rattle.sidecar_node.proofs.Actings.{acts_none, acts_then}
use Rattle.clock_turns.specs.declared.ends.TickEnd.{TickEnd}
use Rattle.clock_turns.specs.declared.closing_stand.Stand.{Stand}
use Rattle.clock_turns.specs.declared.closing_stand.Stand.TheVariants.{On, Over}
use Rattle.clock_turns.specs.Closings.{Closing, Taking, IsTold, IsTaking, stand, take_entries, asked_of, fault_in, entries_of, exchanges_of, any_fault, GoesOn, ClosesCells}
use Rattle.clock_turns.proofs.Counts.{either_rises}
use Rattle.clock_turns.proofs.Faults.{fault_counts, never_falls}

-- ---- one taking more

entries_of-push : (now : ℕ) (ts : List Taking) (t : Taking) → entries_of now (ts ++ t ∷ []) ≡ entries_of now ts ++ take_entries now t.part t.said t.closing
entries_of-push now [] t = append-nil (take_entries now t.part t.said t.closing)
entries_of-push now (u ∷ ts) t =
    ap (λ (es : List NodeEntry). take_entries now u.part u.said u.closing ++ es) (entries_of-push now ts t)
    ∙ sym (append_assoc (take_entries now u.part u.said u.closing) (entries_of now ts) (take_entries now t.part t.said t.closing))

exchanges_of-push : (ts : List Taking) (t : Taking) → exchanges_of (ts ++ t ∷ []) ≡ exchanges_of ts ++ asked_of t.closing
exchanges_of-push [] t = append-nil (asked_of t.closing)
exchanges_of-push (u ∷ ts) t = ap (λ (xs : List Exchange). asked_of u.closing ++ xs) (exchanges_of-push ts t) ∙ sym (append_assoc (asked_of u.closing) (exchanges_of ts) (asked_of t.closing))

or_last : (a b c : Bool) → (a || (b || c)) ≡ ((a || b) || c)
or_last true b c = refl
or_last false b c = refl

or_none : (a : Bool) → (a || false) ≡ (false || a)
or_none true = refl
or_none false = refl

any_fault-push : (ts : List Taking) (t : Taking) → any_fault (ts ++ t ∷ []) ≡ (any_fault ts || fault_in t.closing)
any_fault-push [] t = or_none (fault_in t.closing)
any_fault-push (u ∷ ts) t = ap (λ (b : Bool). fault_in u.closing || b) (any_fault-push ts t) ∙ or_last (fault_in u.closing) (any_fault ts) (fault_in t.closing)

-- a deactivation that follows was told to the application
taken_told : (app : Address) (part : ℕ) (said : Said) (c : Closing) (after : Seats) → IsTaking app part said (Some c) after → IsTold app c
taken_told app part (Ok (replies.Close key)) c after i = i.1
taken_told app part (Ok reply) c after i = absurd i
taken_told app part (Err spent) c after i = absurd i

-- a fault in it is counted
closing_counts : (app : Address) (part : ℕ) (said : Said) (closing : Option Closing) (after : Seats) (t0 t1 : Option Dialled) (f0 f1 : ℕ)
    → IsTaking app part said closing after → Dialling (asked_of closing) t0 t1 f0 f1 → fault_in closing ≡ true → f0 < f1
closing_counts app part said None after t0 t1 f0 f1 i d f = absurd (true≢false (sym f))
closing_counts app part said (Some c) after t0 t1 f0 f1 i d f = fault_counts (deactivate_text app c.key) (place_at app) c.asked c.got t0 t1 f0 f1 (taken_told app part said c after i) d f

-- ---- the takings so far

-- The turn stands at a place, after these takings; whatever goes on from there goes on from the first part.
pub record Progress
    (app : Address) (now parts : ℕ) (before after : Seats) (t0 t1 : Option Dialled) (f0 f1 : ℕ) (place : Stand) (faulted : Bool) : Type 0 where
  pub front : List Taking
  pub goes : (ts : List Taking) (s : Seats) (last : Option TickEnd) → GoesOn app now parts place ts after s last → GoesOn app now parts (On 0) (front ++ ts) before s last
  pub acts : Acts (entries_of now front) before after
  pub asks : Dialling (exchanges_of front) t0 t1 f0 f1
  pub faults : faulted ≡ any_fault front
  pub rises : faulted ≡ true → f0 < f1

pub start : (app : Address) (now parts : ℕ) (s : Seats) (t : Option Dialled) (f : ℕ) → Progress app now parts s s t t f f (On 0) false
start app now parts s t f = record {
  front = [];
  goes = λ ts u last g. g;
  acts = acts_none s;
  asks = none_made t f;
  faults = refl;
  rises = λ e. absurd (true≢false (sym e));
}

-- what one taking came to
abbrev pub Takes : Address → ℕ → ℕ → Seats → Seats → Option Dialled → Option Dialled → ℕ → ℕ → Bool → Stand → Type 0
Takes app now part before after t0 t1 f0 f1 fault place =
    (said : Said) × (closing : Option Closing) × IsTaking app part said closing after × Acts (take_entries now part said closing) before after
    × Dialling (asked_of closing) t0 t1 f0 f1
    × (fault ≡ fault_in closing) × (place ≡ stand part said closing)

took :
    (app : Address) (now parts part : ℕ) (s0 s1 s2 : Seats) (t0 t1 t2 : Option Dialled) (f0 f1 f2 : ℕ) (faulted fault : Bool) (place : Stand)
    → part < parts → Progress app now parts s0 s1 t0 t1 f0 f1 (On part) faulted → Takes app now part s1 s2 t1 t2 f1 f2 fault place
    → Progress app now parts s0 s2 t0 t2 f0 f2 place (faulted || fault)
took app now parts part s0 s1 s2 t0 t1 t2 f0 f1 f2 faulted fault place less p x =
    let said : Said = x.0 in
    let closing : Option Closing = x.1 in
    let taking : IsTaking app part said closing s2 = x.2 in
    let acts : Acts (take_entries now part said closing) s1 s2 = x.3 in
    let asks : Dialling (asked_of closing) t1 t2 f1 f2 = x.4 in
    let new : fault ≡ fault_in closing = x.5 in
    let stands : place ≡ stand part said closing = x.6 in
    let t : Taking = record { part = part; said = said; closing = closing; after = s2 } in
    record {
      front = p.front ++ t ∷ [];
      goes = λ ts s last g.
          subst (λ (us : List Taking). GoesOn app now parts (On 0) us s0 s last) (sym (append_assoc p.front (t ∷ []) ts))
          (p.goes (t ∷ ts) s last (less, refl, taking, acts, subst (λ (q : Stand). GoesOn app now parts q ts s2 s last) stands g));
      acts = subst (λ (es : List NodeEntry). Acts es s0 s2) (sym (entries_of-push now p.front t)) (acts_then (entries_of now p.front) (take_entries now part said closing) s0 s1 s2 p.acts acts);
      asks = subst (λ (xs : List Exchange). Dialling xs t0 t2 f0 f2) (sym (exchanges_of-push p.front t)) (dialling_then (exchanges_of p.front) (asked_of closing) t0 t1 t2 f0 f1 f2 p.asks asks);
      faults = ap₂ (λ (a b : Bool). a || b) p.faults new ∙ sym (any_fault-push p.front t);
      rises = either_rises faulted fault f0 f1 f2 p.rises
          (λ e. closing_counts app part said closing s2 t1 t2 f1 f2 taking asks (sym new ∙ e))
          (never_falls (exchanges_of p.front) t0 t1 f0 f1 p.asks) (never_falls (asked_of closing) t1 t2 f1 f2 asks);
    }

-- one taking more, and the turn goes on
pub went_on :
    (app : Address) (now parts part next : ℕ) (s0 s1 s2 : Seats) (t0 t1 t2 : Option Dialled) (f0 f1 f2 : ℕ) (faulted fault either : Bool) (place : Stand)
    → part < parts → Progress app now parts s0 s1 t0 t1 f0 f1 (On part) faulted → Takes app now part s1 s2 t1 t2 f1 f2 fault place
    → place ≡ On next → either ≡ (faulted || fault) → Progress app now parts s0 s2 t0 t2 f0 f2 (On next) either
went_on app now parts part next s0 s1 s2 t0 t1 t2 f0 f1 f2 faulted fault either place less p x is same =
    subst (λ (q : Stand × Bool). Progress app now parts s0 s2 t0 t2 f0 f2 q.0 q.1) (λ i. (is i, sym same i))
    (took app now parts part s0 s1 s2 t0 t1 t2 f0 f1 f2 faulted fault place less p x)

-- ---- the end

-- all parts are through
pub through :
    (node : SidecarNode) (app : Address) (now : ℕ) (s0 s : Seats) (t0 t : Option Dialled) (f0 f part : ℕ) (faulted : Bool)
    → length (part_gates node) ≤ part → Progress app now (length (part_gates node)) s0 s t0 t f0 f (On part) faulted → ClosesCells node app now s0 s t0 t f0 f faulted None
through node app now s0 s t0 t f0 f part faulted all p = record {
  takings = p.front;
  goes_on = subst (λ (us : List Taking). GoesOn app now (length (part_gates node)) (On 0) us s0 s None) (append-nil p.front) (p.goes [] s None (all, refl, refl));
  acts = p.acts;
  asks = p.asks;
  faults = p.faults;
  rises = p.rises;
}

ended :
    (node : SidecarNode) (app : Address) (now : ℕ) (s0 s : Seats) (t0 t : Option Dialled) (f0 f : ℕ) (end : TickEnd) (faulted : Bool)
    → Progress app now (length (part_gates node)) s0 s t0 t f0 f (Over end) faulted → ClosesCells node app now s0 s t0 t f0 f faulted (Some end)
ended node app now s0 s t0 t f0 f end faulted p = record {
  takings = p.front;
  goes_on = subst (λ (us : List Taking). GoesOn app now (length (part_gates node)) (On 0) us s0 s (Some end)) (append-nil p.front) (p.goes [] s (Some end) (refl, refl));
  acts = p.acts;
  asks = p.asks;
  faults = p.faults;
  rises = p.rises;
}

-- one taking more, which ends the turn
pub went_over :
    (node : SidecarNode) (app : Address) (now part : ℕ) (s0 s1 s2 : Seats) (t0 t1 t2 : Option Dialled) (f0 f1 f2 : ℕ) (end : TickEnd) (faulted fault either : Bool) (place : Stand)
    → part < length (part_gates node) → Progress app now (length (part_gates node)) s0 s1 t0 t1 f0 f1 (On part) faulted → Takes app now part s1 s2 t1 t2 f1 f2 fault place
    → place ≡ Over end → either ≡ (faulted || fault) → ClosesCells node app now s0 s2 t0 t2 f0 f2 either (Some end)
went_over node app now part s0 s1 s2 t0 t1 t2 f0 f1 f2 end faulted fault either place less p x is same =
    let parts = length (part_gates node) in
    ended node app now s0 s2 t0 t2 f0 f2 end either
    (subst (λ (q : Stand × Bool). Progress app now parts s0 s2 t0 t2 f0 f2 q.0 q.1) (λ i. (is i, sym same i))
    (took app now parts part s0 s1 s2 t0 t1 t2 f0 f1 f2 faulted fault place less p x))
