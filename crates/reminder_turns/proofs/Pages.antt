-- Pages that were taken, one after the other.
use Rattle.std.proofs.Common.{◌≡◌, ◌∙◌, ℕ, ◌+◌, Bool, false, List, [], ◌∷◌, ◌++◌, Option, Some, None, Result, Ok, Err, refl, sym, ap, ap₂, subst, arith, append_assoc}
use Rattle.std.proofs.lemmas.List.{append-nil}
use Rattle.std.specs.Prelude.{◌||◌}
use Rattle.actor_names.specs.declared.address.Address.{Address}
use Rattle.actor_ports.specs.Traffic.{Dialled}
use Rattle.reminder_rows.specs.declared.row.DueKey.{DueKey}
use Rattle.frame_wire.specs.declared.store_answer.DueEntry.{DueEntry}
use Rattle.frame_wire.specs.declared.store_command.StoreCommand.TheVariants.{Due}
use Rattle.sidecar_node.specs.declared.node.SidecarNode.{SidecarNode}
use Rattle.sidecar_node.specs.declared.node.Seats.{Seats}
use Rattle.sidecar_node.specs.Entries.{NodeEntry}
use Rattle.sidecar_node.specs.Nodes.{Acts}
use Rattle.sidecar_node.proofs.Actings.{acts_none, acts_then}
use Rattle.exchanges.specs.Exchanges.{Exchange, Dialling}
use Rattle.exchanges.specs.Replies.{place_at}
use Rattle.exchanges.proofs.Diallings.{none_made, dialling_then}
use Rattle.exchanges.specs.Asked.{Got, IsStoreExchange}
use Rattle.reminder_turns.specs.declared.ends.TickEnd.{TickEnd}
use Rattle.reminder_turns.specs.declared.standing.Stand.{Stand}
use Rattle.reminder_turns.specs.declared.standing.Stand.TheVariants.{On, Over}
use Rattle.reminder_turns.specs.Outcomes.{page_of, last_key, stand_after, tick_end}
use Rattle.reminder_turns.specs.Runs.{runs_entries, runs_called, runs_begun, runs_fault, LastFull, capped, RunsPage}
use Rattle.reminder_turns.specs.Pages.{page_limit, Page, AfterDue, page_told, GoesOn, pages_entries, pages_called, pages_told, pages_begun, pages_fault, PagesFull, TakesPage, ReminderTurn}
use Rattle.reminder_turns.proofs.Runs.{or_last, or_none, count_many}

-- ---- the last key

pub last_key-push : (front : List DueEntry) (e : DueEntry) → last_key (front ++ e ∷ []) ≡ Some e.key
last_key-push [] e = refl
last_key-push (x ∷ []) e = refl
last_key-push (x ∷ y ∷ front) e = last_key-push (y ∷ front) e

-- ---- one page

module _
    {node : SidecarNode} {app store : Address} {first last : ℕ} {s0 s1 : Seats}
    {t0 t1 : Option Dialled} {f0 f1 : ℕ} {u1 u2 : Option Dialled} {g1 g2 : ℕ} where
  -- the store listed reminders, which were run
  pub page_listed :
      (place : Option DueKey) (got : Got) (asked : List Exchange) (u0 : Option Dialled) (g0 : ℕ) (entries : List DueEntry) (end : Option TickEnd) (turns : ℕ) (faulted : Bool) (next : Stand)
      → IsStoreExchange (Due place page_limit) (place_at store) asked got → Dialling asked u0 u1 g0 g1 → page_of got ≡ Ok entries
      → RunsPage node app store entries first last s0 s1 t0 t1 f0 f1 u1 u2 g1 g2 turns faulted end → next ≡ stand_after (last_key entries) end
      → TakesPage node app store place first last s0 s1 t0 t1 f0 f1 u0 u2 g0 g2 turns faulted next
  page_listed place got asked u0 g0 entries end turns faulted next x d is r stands =
      let after : AfterDue node app store first (Ok entries) r.runs last next = (end, r.each, stands) in
      record {
        page = record { place = place; asked = asked; got = got; runs = r.runs; last = last; next = next };
        behind = refl;
        is = record { exchange = x; follows = subst (λ (o : Result (List DueEntry) TickEnd). AfterDue node app store first o r.runs last next) (sym is) after };
        last_is = refl;
        next_is = refl;
        acts = r.acts;
        calls = r.calls;
        asks = dialling_then asked _ u0 u1 u2 g0 g1 g2 d r.asks;
        full = r.full;
        counts = r.counts;
        faults = r.faults;
      }

-- the store listed none, which ends the call
pub page_ends :
    (node : SidecarNode) (app store : Address) (place : Option DueKey) (got : Got) (asked : List Exchange) (now : ℕ) (s : Seats) (t : Option Dialled) (f : ℕ) (u0 u1 : Option Dialled) (g0 g1 : ℕ) (end : TickEnd)
    → IsStoreExchange (Due place page_limit) (place_at store) asked got → Dialling asked u0 u1 g0 g1 → page_of got ≡ Err end
    → TakesPage node app store place now now s s t t f f u0 u1 g0 g1 0 false (Over end)
page_ends node app store place got asked now s t f u0 u1 g0 g1 end x d is =
    let after : AfterDue node app store now (Err end) [] now (Over end) = (refl, refl, refl) in
    record {
      page = record { place = place; asked = asked; got = got; runs = []; last = now; next = Over end };
      behind = refl;
      is = record { exchange = x; follows = subst (λ (o : Result (List DueEntry) TickEnd). AfterDue node app store now o [] now (Over end)) (sym is) after };
      last_is = refl;
      next_is = refl;
      acts = acts_none s;
      calls = none_made t f;
      asks = subst (λ (xs : List Exchange). Dialling xs u0 u1 g0 g1) (sym (append-nil asked)) d;
      full = tt;
      counts = omega arith;
      faults = refl;
    }

-- ---- one page more

pages_entries-push : (node : SidecarNode) (ps : List Page) (p : Page) → pages_entries node (ps ++ p ∷ []) ≡ pages_entries node ps ++ runs_entries node p.runs
pages_entries-push node [] p = append-nil (runs_entries node p.runs)
pages_entries-push node (q ∷ ps) p =
    ap (λ (es : List NodeEntry). runs_entries node q.runs ++ es) (pages_entries-push node ps p) ∙ sym (append_assoc (runs_entries node q.runs) (pages_entries node ps) (runs_entries node p.runs))

pages_called-push : (ps : List Page) (p : Page) → pages_called (ps ++ p ∷ []) ≡ pages_called ps ++ runs_called p.runs
pages_called-push [] p = append-nil (runs_called p.runs)
pages_called-push (q ∷ ps) p = ap (λ (xs : List Exchange). runs_called q.runs ++ xs) (pages_called-push ps p) ∙ sym (append_assoc (runs_called q.runs) (pages_called ps) (runs_called p.runs))

pages_told-push : (ps : List Page) (p : Page) → pages_told (ps ++ p ∷ []) ≡ pages_told ps ++ page_told p
pages_told-push [] p = append-nil (page_told p)
pages_told-push (q ∷ ps) p = ap (λ (xs : List Exchange). page_told q ++ xs) (pages_told-push ps p) ∙ sym (append_assoc (page_told q) (pages_told ps) (page_told p))

pages_begun-push : (ps : List Page) (p : Page) → pages_begun (ps ++ p ∷ []) ≡ pages_begun ps + runs_begun p.runs
pages_begun-push [] p = omega arith
pages_begun-push (q ∷ ps) p = let h = pages_begun-push ps p in omega arith

pages_fault-push : (ps : List Page) (p : Page) → pages_fault (ps ++ p ∷ []) ≡ (pages_fault ps || runs_fault p.runs)
pages_fault-push [] p = or_none (runs_fault p.runs)
pages_fault-push (q ∷ ps) p = ap (λ (b : Bool). runs_fault q.runs || b) (pages_fault-push ps p) ∙ or_last (runs_fault q.runs) (pages_fault ps) (runs_fault p.runs)

pages_full-push : (node : SidecarNode) (after : Seats) (ps : List Page) (p : Page) → LastFull node after p.runs → PagesFull node after (ps ++ p ∷ [])
pages_full-push node after [] p h = h
pages_full-push node after (q ∷ []) p h = h
pages_full-push node after (q ∷ r ∷ ps) p h = pages_full-push node after (r ∷ ps) p h

-- ---- how far the pages have come

-- The call stands there after these pages; whatever goes on from there goes on from the first page.
pub record Progress
    (node : SidecarNode) (app store : Address) (first : ℕ) (stand : Stand) (here : ℕ) (before after : Seats)
    (t0 t1 : Option Dialled) (f0 f1 : ℕ) (u0 u1 : Option Dialled) (g0 g1 : ℕ) (turns : ℕ) (faulted : Bool) : Type 0 where
  pub front : List Page
  pub goes : (ps : List Page) (last : ℕ) (stop : Option TickEnd) → GoesOn node app store here stand ps last stop → GoesOn node app store first (On None) (front ++ ps) last stop
  pub acts : Acts (pages_entries node front) before after
  pub calls : Dialling (pages_called front) t0 t1 f0 f1
  pub asks : Dialling (pages_told front) u0 u1 g0 g1
  pub full : PagesFull node after front
  pub counts : turns ≡ capped (pages_begun front)
  pub faults : faulted ≡ pages_fault front

pub start : (node : SidecarNode) (app store : Address) (now : ℕ) (s : Seats) (t : Option Dialled) (f : ℕ) (u : Option Dialled) (g : ℕ)
    → Progress node app store now (On None) now s s t t f f u u g g 0 false
start node app store now s t f u g = record {
  front = [];
  goes = λ ps last stop h. h;
  acts = acts_none s;
  calls = none_made t f;
  asks = none_made u g;
  full = tt;
  counts = omega arith;
  faults = refl;
}

module _
    {node : SidecarNode} {app store : Address} {first here last : ℕ} {place : Option DueKey} {s0 s1 s2 : Seats}
    {t0 t1 t2 : Option Dialled} {f0 f1 f2 : ℕ} {u0 u1 u2 : Option Dialled} {g0 g1 g2 : ℕ}
    {turns n : ℕ} {faulted fault : Bool} {next : Stand} where
  pub page_on :
      (all : ℕ) (any : Bool) → Progress node app store first (On place) here s0 s1 t0 t1 f0 f1 u0 u1 g0 g1 turns faulted
      → TakesPage node app store place here last s1 s2 t1 t2 f1 f2 u1 u2 g1 g2 n fault next
      → all ≡ capped (turns + n) → any ≡ (faulted || fault)
      → Progress node app store first next last s0 s2 t0 t2 f0 f2 u0 u2 g0 g2 all any
  page_on all any p x a b = record {
    front = p.front ++ x.page ∷ [];
    goes = λ ps then_ stop h.
        subst (λ (qs : List Page). GoesOn node app store first (On None) qs then_ stop) (sym (append_assoc p.front (x.page ∷ []) ps))
        (p.goes (x.page ∷ ps) then_ stop (
          x.behind,
          x.is,
          subst (λ (m : ℕ). GoesOn node app store m x.page.next ps then_ stop) (sym x.last_is) (subst (λ (q : Stand). GoesOn node app store last q ps then_ stop) (sym x.next_is) h),
        ));
    acts = subst (λ (es : List NodeEntry). Acts es s0 s2) (sym (pages_entries-push node p.front x.page)) (acts_then (pages_entries node p.front) (runs_entries node x.page.runs) s0 s1 s2 p.acts x.acts);
    calls = subst (λ (xs : List Exchange). Dialling xs t0 t2 f0 f2) (sym (pages_called-push p.front x.page)) (dialling_then (pages_called p.front) (runs_called x.page.runs) t0 t1 t2 f0 f1 f2 p.calls x.calls);
    asks = subst (λ (xs : List Exchange). Dialling xs u0 u2 g0 g2) (sym (pages_told-push p.front x.page)) (dialling_then (pages_told p.front) (page_told x.page) u0 u1 u2 g0 g1 g2 p.asks x.asks);
    full = pages_full-push node s2 p.front x.page x.full;
    counts = count_many turns n all (pages_begun p.front) (runs_begun x.page.runs) (pages_begun (p.front ++ x.page ∷ [])) p.counts x.counts a (pages_begun-push p.front x.page);
    faults = b ∙ (ap₂ (λ (q r : Bool). q || r) p.faults x.faults ∙ sym (pages_fault-push p.front x.page));
  }

-- ---- the end

module _
    {node : SidecarNode} {app store : Address} {first here : ℕ} {s0 s1 : Seats}
    {t0 t1 : Option Dialled} {f0 f1 : ℕ} {u0 u1 : Option Dialled} {g0 g1 : ℕ} {turns : ℕ} {faulted : Bool} where
  -- how a call ends that stands at its end
  pub pages_end :
      (stand : Stand) (stop : Option TickEnd) (end : TickEnd) → Progress node app store first stand here s0 s1 t0 t1 f0 f1 u0 u1 g0 g1 turns faulted
      → GoesOn node app store here stand [] here stop → end ≡ tick_end turns faulted stop
      → ReminderTurn node app store first here s0 s1 t0 t1 f0 f1 u0 u1 g0 g1 end
  pages_end stand stop end p g e = record {
    pages = p.front;
    stop = stop;
    goes_on = subst (λ (qs : List Page). GoesOn node app store first (On None) qs here stop) (append-nil p.front) (p.goes [] here stop g);
    acts = p.acts;
    calls = p.calls;
    asks = p.asks;
    full = p.full;
    ends = e ∙ ap₂ (λ (m : ℕ) (b : Bool). tick_end m b stop) p.counts p.faults;
  }
