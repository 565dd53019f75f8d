-- What an end by the store goes back to.
use Rattle.std.proofs.Common.{◌≡◌, ℕ, List, [], ◌∷◌, ◌++◌, Option, Some, None, Result, Ok, Err, refl, sym, subst}
use Rattle.std.proofs.lemmas.List.{append-nil}
use Rattle.actor_names.specs.declared.address.Address.{Address}
use Rattle.reminder_rows.specs.declared.row.DueKey.{DueKey}
use Rattle.frame_wire.specs.declared.store_answer.DueEntry.{DueEntry}
use Rattle.frame_wire.specs.declared.store_answer.StoreAnswer.TheVariants as answers
use Rattle.frame_wire.specs.declared.store_refusal.StoreRefusal.TheVariants as refusals
use Rattle.sidecar_node.specs.declared.node.SidecarNode.{SidecarNode}
use Rattle.exchanges.specs.declared.store_end.StoreEnd.TheVariants as stores
use Rattle.exchanges.specs.Asked.{Got}
use Rattle.reminder_turns.specs.declared.ends.TickEnd.{TickEnd}
use Rattle.reminder_turns.specs.declared.ends.TickEnd.TheVariants as ends
use Rattle.reminder_turns.specs.declared.results.Turned.{Turned}
use Rattle.reminder_turns.specs.declared.results.Reported.{Reported}
use Rattle.reminder_turns.specs.declared.results.Reported.TheVariants.{Told, Undrawn}
use Rattle.reminder_turns.specs.declared.standing.Stand.{Stand}
use Rattle.reminder_turns.specs.declared.standing.Stand.TheVariants.{On, Last, Over}
use Rattle.reminder_turns.specs.Outcomes.{or_end, undrawn_end, turned_end, told_end, run_end, page_of, last_key, stand_after}
use Rattle.reminder_turns.specs.Runs.{Run, end_of, GoOn, RunsEach}
use Rattle.reminder_turns.specs.Pages.{Page, AfterDue, GoesOn}
use Rattle.reminder_turns.specs.Laws.{reported_got, runs_got, pages_got, IsLast, StoreCause}
use Rattle.reminder_turns.proofs.Replies.{PartOnly, turned_only, undrawn_part}

-- ---- lists of answers

last_behind : (got : Got) (xs ys : List Got) → IsLast got ys → IsLast got (xs ++ ys)
last_behind got [] ys h = h
last_behind got (x ∷ []) [] h = absurd h
last_behind got (x ∷ []) (y ∷ ys) h = h
last_behind got (x ∷ w ∷ xs) ys h = last_behind got (w ∷ xs) ys h

store_behind : (xs ys : List Got) (stop : Option TickEnd) → StoreCause ys stop → StoreCause (xs ++ ys) stop
store_behind xs ys (Some (ends.StoreRefused answer)) h = last_behind (Ok answer) xs ys h
store_behind xs ys (Some ends.StoreReply) h = last_behind (Err stores.Unreadable) xs ys h
store_behind xs ys (Some ends.StoreFault) h = last_behind (Err stores.Fault) xs ys h
store_behind xs ys stop h = tt

store_alone : (xs : List Got) (stop : Option TickEnd) → StoreCause xs stop → StoreCause (xs ++ []) stop
store_alone xs stop h = subst (λ (ys : List Got). StoreCause ys stop) (sym (append-nil xs)) h

-- ---- one reminder

part_store : (gots : List Got) (x : Option TickEnd) → PartOnly x → StoreCause gots x
part_store gots None p = tt
part_store gots (Some (ends.StoreRefused answer)) p = absurd p
part_store gots (Some ends.StoreReply) p = absurd p
part_store gots (Some ends.StoreFault) p = absurd p
part_store gots (Some end) p = tt

or_store : (gots : List Got) (a b : Option TickEnd) → StoreCause gots a → StoreCause gots b → StoreCause gots (or_end a b)
or_store gots None b p q = q
or_store gots (Some end) b p q = p

told_store : (got : Got) → StoreCause (got ∷ []) (told_end got)
told_store (Ok (answers.NextIs next)) = tt
told_store (Ok answers.NotThere) = tt
told_store (Ok (answers.Refused (refusals.OtherMoment next))) = tt
told_store (Ok answer) = refl
told_store (Err stores.Fault) = refl
told_store (Err stores.Unreadable) = refl
told_store (Err stores.OutOfMemory) = tt

report_store : (turned : Turned) (reported : Option Reported) → StoreCause (reported_got reported) (run_end turned reported)
report_store turned None = part_store [] (turned_end turned) (turned_only turned)
report_store turned (Some (Told got)) = or_store (got ∷ []) (turned_end turned) (told_end got) (part_store (got ∷ []) (turned_end turned) (turned_only turned)) (told_store got)
report_store turned (Some (Undrawn said)) = part_store [] (Some (undrawn_end said)) (undrawn_part said)

-- ---- all of them

go_store : (gots : List Got) (x : Option TickEnd) (rs : List Run) (last_end : Option TickEnd) (Here More : Type 0) → StoreCause gots x → GoOn x rs last_end Here More → (More → StoreCause (runs_got rs) last_end) → StoreCause (gots ++ runs_got rs) last_end
go_store gots (Some end) rs last_end Here More c h f =
    subst (λ (o : Option TickEnd). StoreCause (gots ++ runs_got rs) o) (sym h.1) (subst (λ (l : List Run). StoreCause (gots ++ runs_got l) (Some end)) (sym h.0) (store_alone gots (Some end) c))
go_store gots None rs last_end Here More c h f = store_behind gots (runs_got rs) last_end (f h)

abbrev StandStore : List Got → Stand → Type 0
StandStore gots (Over end) = StoreCause gots (Some end)
StandStore gots stand = Unit {0}

stand_store : (gots : List Got) (place : Option DueKey) (end : Option TickEnd) → StoreCause gots end → StandStore gots (stand_after place end)
stand_store gots place (Some end) h = h
stand_store gots (Some key) None h = tt
stand_store gots None None h = tt

none_store : (got : Got) (end : TickEnd) → page_of got ≡ Err end → StoreCause (got ∷ []) (Some end)
none_store (Ok (answers.DueList entries)) end e = absurd (let z : ⊥ = cc in z)
none_store (Ok answer) end e = subst (λ (t : TickEnd). StoreCause (Ok answer ∷ []) (Some t)) (let z : ends.StoreRefused answer ≡ end = cc in z) refl
none_store (Err stores.Fault) end e = subst (λ (t : TickEnd). StoreCause (Err stores.Fault ∷ []) (Some t)) (let z : ends.StoreFault ≡ end = cc in z) refl
none_store (Err stores.Unreadable) end e = subst (λ (t : TickEnd). StoreCause (Err stores.Unreadable ∷ []) (Some t)) (let z : ends.StoreReply ≡ end = cc in z) refl
none_store (Err stores.OutOfMemory) end e = subst (λ (t : TickEnd). StoreCause (Err stores.OutOfMemory ∷ []) (Some t)) (let z : ends.OutOfMemory ≡ end = cc in z) tt

module _ (node : SidecarNode) (app store : Address) where
  runs_store : (first : ℕ) (es : List DueEntry) (rs : List Run) (last : ℕ) (last_end : Option TickEnd) → RunsEach node app store first es rs last last_end → StoreCause (runs_got rs) last_end
  runs_store first [] [] last last_end h = subst (λ (o : Option TickEnd). StoreCause [] o) (sym h.1) tt
  runs_store first [] (r ∷ rs) last last_end h = absurd h
  runs_store first (e ∷ es) [] last last_end h = absurd h
  runs_store first (e ∷ es) (r ∷ rs) last last_end h =
      go_store (reported_got r.reported) (end_of r) rs last_end (last ≡ r.last) (RunsEach node app store r.last es rs last last_end) (report_store r.turned r.reported) h.3 (λ m. runs_store r.last es rs last last_end m)

  due_store : (first : ℕ) (got : Got) (o : Result (List DueEntry) TickEnd) (runs : List Run) (last : ℕ) (next : Stand) → page_of got ≡ o → AfterDue node app store first o runs last next → StandStore (got ∷ runs_got runs) next
  due_store first got (Ok es) runs last next e h =
      let gots = got ∷ runs_got runs in
      subst (λ (s : Stand). StandStore gots s) (sym h.2) (stand_store gots (last_key es) h.0 (store_behind (got ∷ []) (runs_got runs) h.0 (runs_store first es runs last h.0 h.1)))
  due_store first got (Err end) runs last next e h =
      subst (λ (s : Stand). StandStore (got ∷ runs_got runs) s) (sym h.2) (subst (λ (l : List Run). StoreCause (got ∷ runs_got l) (Some end)) (sym h.0) (none_store got end e))

  stands_store : (gots : List Got) (first : ℕ) (stand : Stand) (ps : List Page) (last : ℕ) (stop : Option TickEnd) → GoesOn node app store first stand ps last stop → StandStore gots stand → StoreCause (gots ++ pages_got ps) stop
  stands_store gots first (On place) [] last stop g c = absurd g
  stands_store gots first (On place) (p ∷ ps) last stop g c =
      store_behind gots (p.got ∷ (runs_got p.runs ++ pages_got ps)) stop
      (stands_store (p.got ∷ runs_got p.runs) p.last p.next ps last stop g.2 (due_store first p.got (page_of p.got) p.runs p.last p.next refl g.1.follows))
  stands_store gots first Last [] last stop g c = subst (λ (o : Option TickEnd). StoreCause (gots ++ []) o) (sym g.1) tt
  stands_store gots first Last (p ∷ ps) last stop g c = absurd g
  stands_store gots first (Over end) [] last stop g c = subst (λ (o : Option TickEnd). StoreCause (gots ++ []) o) (sym g.1) (store_alone gots (Some end) c)
  stands_store gots first (Over end) (p ∷ ps) last stop g c = absurd g

  pub pages_store : (first : ℕ) (place : Option DueKey) (ps : List Page) (last : ℕ) (stop : Option TickEnd) → GoesOn node app store first (On place) ps last stop → StoreCause (pages_got ps) stop
  pages_store first place ps last stop g = stands_store [] first (On place) ps last stop g tt
