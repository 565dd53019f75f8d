-- Which reminders were run and reported.
use Rattle.std.proofs.Common.{◌≡◌, ◌⊎◌, ◌∙◌, ℕ, false, inl, inr, List, [], ◌∷◌, Option, Some, None, Result, Ok, Err, refl, sym, ap, ap₂, subst}
use Rattle.std.specs.Prelude.{map}
use Rattle.actor_names.specs.declared.address.Address.{Address}
use Rattle.reminder_rows.specs.declared.row.DueKey.{DueKey}
use Rattle.frame_wire.specs.declared.store_answer.DueEntry.{DueEntry}
use Rattle.frame_wire.specs.declared.store_answer.StoreAnswer.TheVariants as answers
use Rattle.frame_wire.specs.declared.store_refusal.StoreRefusal.TheVariants as refusals
use Rattle.sidecar_node.specs.declared.node.SidecarNode.{SidecarNode}
use Rattle.sidecar_node.specs.Entries.{PartEntry}
use Rattle.exchanges.specs.Exchanges.{Exchange}
use Rattle.exchanges.specs.Asked.{Got}
use Rattle.reminder_turns.specs.declared.ends.TickEnd.{TickEnd}
use Rattle.reminder_turns.specs.declared.results.Turned.{Turned}
use Rattle.reminder_turns.specs.declared.results.Reported.{Reported}
use Rattle.reminder_turns.specs.declared.results.Reported.TheVariants.{Told, Undrawn}
use Rattle.reminder_turns.specs.declared.standing.Stand.{Stand}
use Rattle.reminder_turns.specs.declared.standing.Stand.TheVariants.{On, Last, Over}
use Rattle.reminder_turns.specs.Outcomes.{or_end, is_owed, turned_end, told_end, run_end, page_of, last_key, stand_after}
use Rattle.reminder_turns.specs.Reports.{Reports}
use Rattle.reminder_turns.specs.Runs.{Run, end_of, GoOn, RunsEach}
use Rattle.reminder_turns.specs.Pages.{Page, AfterDue, GoesOn}
use Rattle.reminder_turns.specs.Laws.{entry_in, IsListing, IsTold, RunsSettled, PagesSettled}

last_none : (es : List DueEntry) → last_key es ≡ None → es ≡ []
last_none [] e = refl
last_none (x ∷ []) e = absurd (let h : ⊥ = cc in h)
last_none (x ∷ y ∷ es) e = let q = last_none (y ∷ es) e in absurd (let h : ⊥ = cc in h)

map_none : (rs : List Run) → map entry_in rs ≡ [] → rs ≡ []
map_none [] e = refl
map_none (r ∷ rs) e = absurd (let h : ⊥ = cc in h)

go_all : (x : Option TickEnd) (rs : List Run) (last_end : Option TickEnd) (Here More A : Type 0) → GoOn x rs last_end Here More → last_end ≡ None → (More → A) → A
go_all (Some end) rs last_end Here More A h e f = absurd (let z : ⊥ = cc (h.1, e) in z)
go_all None rs last_end Here More A h e f = f h

go_none : (x : Option TickEnd) (rs : List Run) (last_end : Option TickEnd) (Here More : Type 0) → GoOn x rs last_end Here More → last_end ≡ None → x ≡ None
go_none (Some end) rs last_end Here More h e = absurd (let z : ⊥ = cc (h.1, e) in z)
go_none None rs last_end Here More h e = refl

other_none : (a b : Option TickEnd) → or_end a b ≡ None → b ≡ None
other_none None b e = e
other_none (Some end) b e = absurd (let z : ⊥ = cc in z)

told_none : (got : Got) → told_end got ≡ None → IsTold (Some (Told got))
told_none (Ok (answers.NextIs next)) e = tt
told_none (Ok answers.NotThere) e = tt
told_none (Ok (answers.Refused (refusals.OtherMoment next))) e = tt
told_none (Ok answer) e = absurd (let z : ⊥ = cc in z)
told_none (Err end) e = absurd (let z : ⊥ = cc in z)

module _ (node : SidecarNode) (app store : Address) where
  runs_all : (first : ℕ) (es : List DueEntry) (rs : List Run) (last : ℕ) (last_end : Option TickEnd) → RunsEach node app store first es rs last last_end → last_end ≡ None → map entry_in rs ≡ es
  runs_all first [] [] last last_end h e = refl
  runs_all first [] (r ∷ rs) last last_end h e = absurd h
  runs_all first (x ∷ es) [] last last_end h e = absurd h
  runs_all first (x ∷ es) (r ∷ rs) last last_end h e =
      ap₂ (λ (y : DueEntry) (ys : List DueEntry). y ∷ ys) h.0
      (go_all (end_of r) rs last_end (last ≡ r.last) (RunsEach node app store r.last es rs last last_end) (map entry_in rs ≡ es) h.3 e (λ m. runs_all r.last es rs last last_end m e))

  never_over : (first : ℕ) (end : TickEnd) (ps : List Page) (last : ℕ) → GoesOn node app store first (Over end) ps last None → ⊥
  never_over first end [] last g = let q = g.1 in (let z : ⊥ = cc in z)
  never_over first end (p ∷ ps) last g = g

  page_at : (stand next : Stand) (here : ℕ) (ps : List Page) (last : ℕ) → next ≡ stand → GoesOn node app store here next ps last None → GoesOn node app store here stand ps last None
  page_at stand next here ps last e g = subst (λ (s : Stand). GoesOn node app store here s ps last None) e g

  -- the page listed these reminders, and nothing ended the call
  one_listed :
      (first : ℕ) (place : Option DueKey) (p : Page) (ps : List Page) (last : ℕ) (es : List DueEntry) (end : Option TickEnd) (key : Option DueKey)
      → last_key es ≡ key → RunsEach node app store first es p.runs p.last end → p.next ≡ stand_after key end → page_of p.got ≡ Ok es → p.place ≡ place
      → GoesOn node app store p.last p.next ps last None → ((here : ℕ) (k : Option DueKey) → GoesOn node app store here (On k) ps last None → IsListing k ps)
      → IsListing place (p ∷ ps)
  one_listed first place p ps last es (Some end) key k runs next got behind g more = absurd (never_over p.last end ps last (page_at (Over end) p.next p.last ps last next g))
  one_listed first place p [] last es None (Some key) k runs next got behind g more = absurd (page_at (On (Some key)) p.next p.last [] last next g)
  one_listed first place p (q ∷ ps) last es None (Some key) k runs next got behind g more =
      let all = runs_all first es p.runs p.last None runs refl in (
        behind,
        got ∙ ap (λ (xs : List DueEntry). Ok xs) (sym all),
        subst (λ (o : Option DueKey). IsListing o (q ∷ ps)) (sym (ap (λ (xs : List DueEntry). last_key xs) all ∙ k)) (more p.last (Some key) (page_at (On (Some key)) p.next p.last (q ∷ ps) last next g)),
      )
  one_listed first place p [] last es None None k runs next got behind g more =
      let none = last_none es k in
      let all = runs_all first es p.runs p.last None runs refl in
      (behind, got ∙ ap (λ (xs : List DueEntry). Ok xs) none, map_none p.runs (all ∙ none))
  one_listed first place p (q ∷ ps) last es None None k runs next got behind g more = absurd (page_at Last p.next p.last (q ∷ ps) last next g)

  due_listed :
      (first : ℕ) (place : Option DueKey) (p : Page) (ps : List Page) (last : ℕ) (o : Result (List DueEntry) TickEnd)
      → page_of p.got ≡ o → AfterDue node app store first o p.runs p.last p.next → p.place ≡ place
      → GoesOn node app store p.last p.next ps last None → ((here : ℕ) (k : Option DueKey) → GoesOn node app store here (On k) ps last None → IsListing k ps)
      → IsListing place (p ∷ ps)
  due_listed first place p ps last (Ok es) got h behind g more = one_listed first place p ps last es h.0 (last_key es) refl h.1 h.2 got behind g more
  due_listed first place p ps last (Err end) got h behind g more = absurd (never_over p.last end ps last (page_at (Over end) p.next p.last ps last h.2 g))

  pub pages_listed : (first : ℕ) (place : Option DueKey) (ps : List Page) (last : ℕ) → GoesOn node app store first (On place) ps last None → IsListing place ps
  pages_listed first place [] last g = absurd g
  pages_listed first place (p ∷ ps) last g = due_listed first place p ps last (page_of p.got) refl g.1.follows g.0 g.2 (λ here k m. pages_listed here k ps last m)

  -- ---- what was reported

  settled : (key : DueKey) (turned : Turned) (es : List PartEntry) (xs : List Exchange) (reported : Option Reported) → Reports node store key turned es xs reported → run_end turned reported ≡ None → (is_owed turned ≡ false) ⊎ IsTold reported
  settled key turned es xs None h e = inl h.0
  settled key turned es xs (Some (Told got)) h e = inr (told_none got (other_none (turned_end turned) (told_end got) e))
  settled key turned es xs (Some (Undrawn said)) h e = absurd (let z : ⊥ = cc in z)

  runs_settled : (first : ℕ) (es : List DueEntry) (rs : List Run) (last : ℕ) (last_end : Option TickEnd) → RunsEach node app store first es rs last last_end → last_end ≡ None → RunsSettled rs
  runs_settled first [] [] last last_end h e = tt
  runs_settled first [] (r ∷ rs) last last_end h e = absurd h
  runs_settled first (x ∷ es) [] last last_end h e = absurd h
  runs_settled first (x ∷ es) (r ∷ rs) last last_end h e = (
    settled r.entry.key r.turned r.drawn r.told r.reported h.2.report (go_none (end_of r) rs last_end (last ≡ r.last) (RunsEach node app store r.last es rs last last_end) h.3 e),
    go_all (end_of r) rs last_end (last ≡ r.last) (RunsEach node app store r.last es rs last last_end) (RunsSettled rs) h.3 e (λ m. runs_settled r.last es rs last last_end m e),
  )

  listed_settled : (first : ℕ) (es : List DueEntry) (rs : List Run) (here : ℕ) (end : Option TickEnd) (next : Stand) (ps : List Page) (last : ℕ) → RunsEach node app store first es rs here end → next ≡ stand_after (last_key es) end → GoesOn node app store here next ps last None → RunsSettled rs
  listed_settled first es rs here (Some end) next ps last runs is g = absurd (never_over here end ps last (page_at (Over end) next here ps last is g))
  listed_settled first es rs here None next ps last runs is g = runs_settled first es rs here None runs refl

  due_settled : (first : ℕ) (o : Result (List DueEntry) TickEnd) (runs : List Run) (here : ℕ) (next : Stand) (ps : List Page) (last : ℕ) → AfterDue node app store first o runs here next → GoesOn node app store here next ps last None → RunsSettled runs
  due_settled first (Ok es) runs here next ps last h g = listed_settled first es runs here h.0 next ps last h.1 h.2 g
  due_settled first (Err end) runs here next ps last h g = subst (λ (l : List Run). RunsSettled l) (sym h.0) tt

  pub pages_settled : (first : ℕ) (stand : Stand) (ps : List Page) (last : ℕ) → GoesOn node app store first stand ps last None → PagesSettled ps
  pages_settled first stand [] last g = tt
  pages_settled first (On place) (p ∷ ps) last g = (due_settled first (page_of p.got) p.runs p.last p.next ps last g.1.follows g.2, pages_settled p.last p.next ps last g.2)
  pages_settled first Last (p ∷ ps) last g = absurd g
  pages_settled first (Over end) (p ∷ ps) last g = absurd g
