-- Reminders of a page that were run, one after the other.
use Rattle.std.proofs.Common.{◌≡◌, ◌∙◌, ℕ, zero, suc, ◌+◌, ◌<◌, ◌≤◌, Bool, true, false, List, [], ◌∷◌, ◌++◌, length, drop, get_or, Option, Some, None, refl, sym, ap, ap₂, subst, arith, append_assoc, add-one}
use Rattle.std.proofs.lemmas.List.{append-nil}
use Rattle.std.specs.Prelude.{◌||◌}
use Rattle.actor_names.specs.declared.address.Address.{Address}
use Rattle.actor_ports.specs.Traffic.{Dialled}
use Rattle.frame_wire.specs.declared.store_answer.DueEntry.{DueEntry}
use Rattle.sidecar_node.specs.declared.node.SidecarNode.{SidecarNode}
use Rattle.sidecar_node.specs.declared.node.Seats.{Seats}
use Rattle.sidecar_node.specs.Entries.{NodeEntry}
use Rattle.sidecar_node.specs.Nodes.{Acts}
use Rattle.sidecar_node.proofs.Actings.{acts_none, acts_then}
use Rattle.exchanges.specs.Exchanges.{Exchange, Dialling}
use Rattle.exchanges.proofs.Diallings.{none_made, dialling_then}
use Rattle.reminder_turns.specs.declared.ends.TickEnd.{TickEnd}
use Rattle.reminder_turns.specs.Outcomes.{begun_in, fault_in}
use Rattle.reminder_turns.specs.Runs.{Run, run_entries, RunFull, GoOn, RunsEach, runs_entries, runs_called, runs_told, runs_begun, runs_fault, LastFull, capped, RunsOne, RunsPage}

-- ---- lists

pub drop_here : {A : Type 0} (xs : List A) (i : ℕ) (a : A) → i < length xs → a ≡ get_or xs i a → drop i xs ≡ a ∷ drop (i + 1) xs
drop_here xs i a l e = rw add-one (go xs i a l e)
  where
    go : {A : Type 0} (xs : List A) (i : ℕ) (a : A) → i < length xs → a ≡ get_or xs i a → drop i xs ≡ a ∷ drop (suc i) xs
    go [] i a l e = absurd (omega arith)
    go (x ∷ xs) zero a l e = ap (λ y. y ∷ xs) (sym e)
    go (x ∷ xs) (suc i) a l e = go xs i a (omega arith) e

pub drop_end : {A : Type 0} (xs : List A) (i : ℕ) → length xs ≤ i → drop i xs ≡ []
drop_end [] zero l = refl
drop_end [] (suc i) l = refl
drop_end (x ∷ xs) zero l = absurd (omega arith)
drop_end (x ∷ xs) (suc i) l = drop_end xs i (omega arith)

-- ---- truth values and counts

pub or_last : (a b c : Bool) → (a || (b || c)) ≡ ((a || b) || c)
or_last true b c = refl
or_last false b c = refl

pub or_none : (a : Bool) → (a || false) ≡ (false || a)
or_none true = refl
or_none false = refl

pub count_one : (turns n all a b c : ℕ) → turns ≡ capped a → n ≡ b → all ≡ capped (turns + n) → c ≡ a + b → all ≡ capped c
count_one turns n all a b c h k l m = omega arith

pub count_many : (turns n all a b c : ℕ) → turns ≡ capped a → n ≡ capped b → all ≡ capped (turns + n) → c ≡ a + b → all ≡ capped c
count_many turns n all a b c h k l m = omega arith

-- ---- one run more

runs_entries-push : (node : SidecarNode) (rs : List Run) (r : Run) → runs_entries node (rs ++ r ∷ []) ≡ runs_entries node rs ++ run_entries node r
runs_entries-push node [] r = append-nil (run_entries node r)
runs_entries-push node (s ∷ rs) r =
    ap (λ (es : List NodeEntry). run_entries node s ++ es) (runs_entries-push node rs r) ∙ sym (append_assoc (run_entries node s) (runs_entries node rs) (run_entries node r))

runs_called-push : (rs : List Run) (r : Run) → runs_called (rs ++ r ∷ []) ≡ runs_called rs ++ r.called
runs_called-push [] r = append-nil r.called
runs_called-push (s ∷ rs) r = ap (λ (xs : List Exchange). s.called ++ xs) (runs_called-push rs r) ∙ sym (append_assoc s.called (runs_called rs) r.called)

runs_told-push : (rs : List Run) (r : Run) → runs_told (rs ++ r ∷ []) ≡ runs_told rs ++ r.told
runs_told-push [] r = append-nil r.told
runs_told-push (s ∷ rs) r = ap (λ (xs : List Exchange). s.told ++ xs) (runs_told-push rs r) ∙ sym (append_assoc s.told (runs_told rs) r.told)

runs_begun-push : (rs : List Run) (r : Run) → runs_begun (rs ++ r ∷ []) ≡ runs_begun rs + begun_in r.turned
runs_begun-push [] r = omega arith
runs_begun-push (s ∷ rs) r = let h = runs_begun-push rs r in omega arith

runs_fault-push : (rs : List Run) (r : Run) → runs_fault (rs ++ r ∷ []) ≡ (runs_fault rs || fault_in r.turned)
runs_fault-push [] r = or_none (fault_in r.turned)
runs_fault-push (s ∷ rs) r = ap (λ (b : Bool). fault_in s.turned || b) (runs_fault-push rs r) ∙ or_last (fault_in s.turned) (runs_fault rs) (fault_in r.turned)

last_full-push : (node : SidecarNode) (after : Seats) (rs : List Run) (r : Run) → RunFull node after r → LastFull node after (rs ++ r ∷ [])
last_full-push node after [] r h = h
last_full-push node after (s ∷ []) r h = h
last_full-push node after (s ∷ t ∷ rs) r h = last_full-push node after (t ∷ rs) r h

-- ---- what the runs so far did

pub record SoFar
    (node : SidecarNode) (runs : List Run) (before after : Seats) (t0 t1 : Option Dialled) (f0 f1 : ℕ) (u0 u1 : Option Dialled) (g0 g1 : ℕ)
    (turns : ℕ) (faulted : Bool) : Type 0 where
  pub acts : Acts (runs_entries node runs) before after
  pub calls : Dialling (runs_called runs) t0 t1 f0 f1
  pub asks : Dialling (runs_told runs) u0 u1 g0 g1
  pub full : LastFull node after runs
  pub counts : turns ≡ capped (runs_begun runs)
  pub faults : faulted ≡ runs_fault runs

nothing_yet : (node : SidecarNode) (s : Seats) (t : Option Dialled) (f : ℕ) (u : Option Dialled) (g : ℕ) → SoFar node [] s s t t f f u u g g 0 false
nothing_yet node s t f u g = record {
  acts = acts_none s;
  calls = none_made t f;
  asks = none_made u g;
  full = tt;
  counts = omega arith;
  faults = refl;
}

module _
    {node : SidecarNode} {app store : Address} {e : DueEntry} {here last : ℕ} {s0 s1 s2 : Seats}
    {t0 t1 t2 : Option Dialled} {f0 f1 f2 : ℕ} {u0 u1 u2 : Option Dialled} {g0 g1 g2 : ℕ}
    {turns n : ℕ} {faulted fault : Bool} {end : Option TickEnd} where
  one_more :
      (front : List Run) (all : ℕ) (any : Bool) → SoFar node front s0 s1 t0 t1 f0 f1 u0 u1 g0 g1 turns faulted
      → (x : RunsOne node app store e here last s1 s2 t1 t2 f1 f2 u1 u2 g1 g2 n fault end)
      → all ≡ capped (turns + n) → any ≡ (faulted || fault)
      → SoFar node (front ++ x.run ∷ []) s0 s2 t0 t2 f0 f2 u0 u2 g0 g2 all any
  one_more front all any h x a b = record {
    acts = subst (λ (es : List NodeEntry). Acts es s0 s2) (sym (runs_entries-push node front x.run)) (acts_then (runs_entries node front) (run_entries node x.run) s0 s1 s2 h.acts x.acts);
    calls = subst (λ (xs : List Exchange). Dialling xs t0 t2 f0 f2) (sym (runs_called-push front x.run)) (dialling_then (runs_called front) x.run.called t0 t1 t2 f0 f1 f2 h.calls x.calls);
    asks = subst (λ (xs : List Exchange). Dialling xs u0 u2 g0 g2) (sym (runs_told-push front x.run)) (dialling_then (runs_told front) x.run.told u0 u1 u2 g0 g1 g2 h.asks x.asks);
    full = last_full-push node s2 front x.run x.full;
    counts = count_one turns n all (runs_begun front) (begun_in x.run.turned) (runs_begun (front ++ x.run ∷ [])) h.counts x.turns_are a (runs_begun-push front x.run);
    faults = b ∙ (ap₂ (λ (p q : Bool). p || q) h.faults x.faulted_is ∙ sym (runs_fault-push front x.run));
  }

-- ---- how far the runs have come

-- So many reminders of the page were run, and `rest` are the others; whatever runs follow, follow from the first one on.
pub record Progress
    (node : SidecarNode) (app store : Address) (page : List DueEntry) (first : ℕ) (rest : List DueEntry) (here : ℕ) (before after : Seats)
    (t0 t1 : Option Dialled) (f0 f1 : ℕ) (u0 u1 : Option Dialled) (g0 g1 : ℕ) (turns : ℕ) (faulted : Bool) : Type 0 where
  pub front : List Run
  pub goes : (rs : List Run) (last : ℕ) (end : Option TickEnd) → RunsEach node app store here rest rs last end → RunsEach node app store first page (front ++ rs) last end
  pub so_far : SoFar node front before after t0 t1 f0 f1 u0 u1 g0 g1 turns faulted

pub start : (node : SidecarNode) (app store : Address) (page : List DueEntry) (now : ℕ) (s : Seats) (t : Option Dialled) (f : ℕ) (u : Option Dialled) (g : ℕ)
    → Progress node app store page now page now s s t t f f u u g g 0 false
start node app store page now s t f u g = record { front = []; goes = λ rs last end h. h; so_far = nothing_yet node s t f u g }

module _
    {node : SidecarNode} {app store : Address} {page : List DueEntry} {first : ℕ} {rest : List DueEntry} {e : DueEntry} {here last : ℕ} {s0 s1 s2 : Seats}
    {t0 t1 t2 : Option Dialled} {f0 f1 f2 : ℕ} {u0 u1 u2 : Option Dialled} {g0 g1 g2 : ℕ}
    {turns n : ℕ} {faulted fault : Bool} where
  -- a run that ends nothing
  pub run_on :
      (more : List DueEntry) (all : ℕ) (any : Bool) (end : Option TickEnd) → Progress node app store page first rest here s0 s1 t0 t1 f0 f1 u0 u1 g0 g1 turns faulted → rest ≡ e ∷ more
      → RunsOne node app store e here last s1 s2 t1 t2 f1 f2 u1 u2 g1 g2 n fault end → end ≡ None
      → all ≡ capped (turns + n) → any ≡ (faulted || fault)
      → Progress node app store page first more last s0 s2 t0 t2 f0 f2 u0 u2 g0 g2 all any
  run_on more all any end p split x is a b = record {
    front = p.front ++ x.run ∷ [];
    goes = λ rs then_ stop h.
        subst (λ (qs : List Run). RunsEach node app store first page qs then_ stop) (sym (append_assoc p.front (x.run ∷ []) rs))
        (p.goes (x.run ∷ rs) then_ stop
        (subst (λ (es : List DueEntry). RunsEach node app store here es (x.run ∷ rs) then_ stop) (sym split) (
          x.entry_is,
          x.first_is,
          x.is,
          subst (λ (o : Option TickEnd). GoOn o rs stop (then_ ≡ x.run.last) (RunsEach node app store x.run.last more rs then_ stop)) (sym is ∙ x.end_is)
              (subst (λ (m : ℕ). RunsEach node app store m more rs then_ stop) (sym x.last_is) h),
        )));
    so_far = one_more p.front all any p.so_far x a b;
  }

  -- a run that ends the call
  pub run_over :
      (more : List DueEntry) (all : ℕ) (any : Bool) (end : TickEnd) (said : Option TickEnd) → Progress node app store page first rest here s0 s1 t0 t1 f0 f1 u0 u1 g0 g1 turns faulted → rest ≡ e ∷ more
      → RunsOne node app store e here last s1 s2 t1 t2 f1 f2 u1 u2 g1 g2 n fault said → said ≡ Some end
      → all ≡ capped (turns + n) → any ≡ (faulted || fault)
      → RunsPage node app store page first last s0 s2 t0 t2 f0 f2 u0 u2 g0 g2 all any (Some end)
  run_over more all any end said p split x is a b =
      let far = one_more p.front all any p.so_far x a b in
      record {
        runs = p.front ++ x.run ∷ [];
        each = p.goes (x.run ∷ []) last (Some end)
            (subst (λ (es : List DueEntry). RunsEach node app store here es (x.run ∷ []) last (Some end)) (sym split) (
              x.entry_is,
              x.first_is,
              x.is,
              subst (λ (o : Option TickEnd). GoOn o [] (Some end) (last ≡ x.run.last) (RunsEach node app store x.run.last more [] last (Some end))) (sym is ∙ x.end_is) (refl, refl, sym x.last_is),
            ));
        acts = far.acts;
        calls = far.calls;
        asks = far.asks;
        full = far.full;
        counts = far.counts;
        faults = far.faults;
      }

module _
    {node : SidecarNode} {app store : Address} {page : List DueEntry} {first : ℕ} {rest : List DueEntry} {here : ℕ} {s0 s1 : Seats}
    {t0 t1 : Option Dialled} {f0 f1 : ℕ} {u0 u1 : Option Dialled} {g0 g1 : ℕ} {turns : ℕ} {faulted : Bool} where
  -- no reminder is left
  pub run_through : Progress node app store page first rest here s0 s1 t0 t1 f0 f1 u0 u1 g0 g1 turns faulted → rest ≡ [] → RunsPage node app store page first here s0 s1 t0 t1 f0 f1 u0 u1 g0 g1 turns faulted None
  run_through p none =
      let far = p.so_far in
      record {
        runs = p.front;
        each = subst (λ (qs : List Run). RunsEach node app store first page qs here None) (append-nil p.front)
            (p.goes [] here None (subst (λ (es : List DueEntry). RunsEach node app store here es [] here None) (sym none) (refl, refl)));
        acts = far.acts;
        calls = far.calls;
        asks = far.asks;
        full = far.full;
        counts = far.counts;
        faults = far.faults;
      }
