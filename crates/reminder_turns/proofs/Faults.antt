-- A fault that is answered was counted.
use Rattle.std.proofs.Common.{◌≡◌, ◌⊎◌, ◌∙◌, ℕ, ◌+◌, ◌<◌, ◌≤◌, Bool, true, false, List, [], ◌∷◌, ◌++◌, Option, Some, None, Result, Ok, Err, refl, sym, ap, subst, arith, inl, inr}
use Rattle.std.proofs.lemmas.Bool.{true≢false}
use Rattle.std.specs.Prelude.{◌||◌}
use Rattle.actor_names.specs.declared.address.Address.{Address}
use Rattle.actor_ports.specs.Traffic.{Place, Dialled}
use Rattle.http_edge.specs.Carry.{Carried}
use Rattle.http_edge.specs.declared.message.HttpResponse.{HttpResponse}
use Rattle.http_edge.specs.declared.error.EdgeError.{EdgeError}
use Rattle.http_edge.specs.declared.error.EdgeError.TheVariants as edge
use Rattle.part_model.specs.Receipts.{PartReply}
use Rattle.part_model.specs.declared.event.Reply.TheVariants as replies
use Rattle.reminder_rows.specs.declared.row.DueKey.{DueKey}
use Rattle.frame_wire.specs.declared.frame.Frame.TheVariants.{Command}
use Rattle.frame_wire.specs.declared.store_command.StoreCommand.{StoreCommand}
use Rattle.frame_wire.specs.declared.store_answer.DueEntry.{DueEntry}
use Rattle.frame_wire.specs.declared.store_answer.StoreAnswer.TheVariants as answers
use Rattle.frame_wire.specs.declared.store_refusal.StoreRefusal.TheVariants as refusals
use Rattle.sidecar_node.specs.declared.node.SidecarNode.{SidecarNode}
use Rattle.sidecar_node.specs.declared.node.Seats.{Seats}
use Rattle.sidecar_node.specs.Entries.{PartEntry}
use Rattle.sidecar_node.specs.Turns.{Said}
use Rattle.exchanges.specs.Exchanges.{Exchange, Comes, IsExchange, total_rise}
use Rattle.exchanges.specs.Replies.{HttpCarries, IsHttpExchange}
use Rattle.exchanges.specs.declared.store_end.StoreEnd.{StoreEnd}
use Rattle.exchanges.specs.declared.store_end.StoreEnd.TheVariants as stores
use Rattle.exchanges.specs.Asked.{Got, FrameCarries, IsStoreExchange}
use Rattle.reminder_turns.specs.declared.ends.TickEnd.{TickEnd}
use Rattle.reminder_turns.specs.declared.ends.TickEnd.TheVariants as ends
use Rattle.reminder_turns.specs.declared.results.Turned.{Turned}
use Rattle.reminder_turns.specs.declared.results.Turned.TheVariants.{Called, Refused}
use Rattle.reminder_turns.specs.declared.results.Reported.{Reported}
use Rattle.reminder_turns.specs.declared.standing.Stand.{Stand}
use Rattle.reminder_turns.specs.declared.standing.Stand.TheVariants.{On, Last, Over}
use Rattle.reminder_turns.specs.Callbacks.{entry_text, Follows}
use Rattle.reminder_turns.specs.Outcomes.{or_end, reply_end, said_end, app_end, is_fault, fault_in, turned_end, store_end, told_end, undrawn_end, reported_end, run_end, page_of, last_key, stand_after, tick_end}
use Rattle.reminder_turns.specs.Reports.{AfterDraw, Reports, fired_command}
use Rattle.reminder_turns.specs.Runs.{Run, end_of, GoOn, RunsEach, runs_called, runs_told, runs_fault}
use Rattle.reminder_turns.specs.Pages.{Page, AfterDue, IsPage, page_told, GoesOn, pages_called, pages_told, pages_fault, ReminderTurn, TickCause}

-- ---- exchanges

rise_append : (xs ys : List Exchange) → total_rise (xs ++ ys) ≡ total_rise xs + total_rise ys
rise_append [] ys = omega arith
rise_append (x ∷ xs) ys = let h = rise_append xs ys in omega arith

module _ {G : Type 0} (fault memory : G) (Carries : Carried → G → Type 0) where
  comes_rises : (link : Option Carried) (rise : ℕ) (got : G) → Comes fault memory Carries link rise got → got ≡ fault → 0 < rise
  comes_rises None rise got h e = h.0
  comes_rises (Some c) rise got h e = h.1 e

  exchange_rises : (fault ≡ memory → ⊥) → (at : Place) (xs : List Exchange) (got : G) → IsExchange fault memory Carries at xs got → got ≡ fault → 0 < total_rise xs
  exchange_rises apart at [] got h e = absurd (apart (sym e ∙ h))
  exchange_rises apart at (x ∷ []) got h e = let up = comes_rises x.link x.rise got h.1 e in omega arith
  exchange_rises apart at (x ∷ y ∷ xs) got h e = absurd h

app_apart : (let a : Result HttpResponse EdgeError = Err edge.ConnFault in a) ≡ Err edge.OutOfMemory → ⊥
app_apart e = cc

store_apart : (let a : Got = Err stores.Fault in a) ≡ Err stores.OutOfMemory → ⊥
store_apart e = cc

app_rises : (text : List ℕ) (at : Place) (xs : List Exchange) (got : Result HttpResponse EdgeError) → IsHttpExchange text at xs got → got ≡ Err edge.ConnFault → 0 < total_rise xs
app_rises text at xs got x e = exchange_rises (Err edge.ConnFault) (Err edge.OutOfMemory) (HttpCarries text) app_apart at xs got x e

store_rises : (q : StoreCommand) (at : Place) (xs : List Exchange) (got : Got) → IsStoreExchange q at xs got → got ≡ Err stores.Fault → 0 < total_rise xs
store_rises q at xs got x e = exchange_rises (Err stores.Fault) (Err stores.OutOfMemory) (FrameCarries (Command q)) store_apart at xs got x e

-- ---- the application

fault_is : (got : Result HttpResponse EdgeError) → is_fault got ≡ true → got ≡ Err edge.ConnFault
fault_is (Err edge.ConnFault) e = refl
fault_is got e = absurd (true≢false (sym e))

refused_calm : (turned : Turned) (said : Said) → turned ≡ Refused said → fault_in turned ≡ true → ⊥
refused_calm turned said is e = true≢false (sym e ∙ ap (λ (t : Turned). fault_in t) is)

follows_rises : (app : Address) (e : DueEntry) (said : Said) (first last : ℕ) (es : List PartEntry) (xs : List Exchange) (turned : Turned)
    → Follows app e said first last es xs turned → fault_in turned ≡ true → 0 < total_rise xs
follows_rises app e (Ok (replies.Begun call chain)) first last es xs turned h f =
    app_rises (entry_text app e chain) _ xs h.0 h.2.exchange (fault_is h.0 (sym (ap (λ (t : Turned). fault_in t) h.3) ∙ f))
follows_rises app e (Ok reply) first last es xs turned h f = absurd (refused_calm turned (Ok reply) h.1 f)
follows_rises app e (Err spent) first last es xs turned h f = absurd (refused_calm turned (Err spent) h.1 f)

or_either : (a b : Bool) → (a || b) ≡ true → (a ≡ true) ⊎ (b ≡ true)
or_either true b e = inl refl
or_either false b e = inr e

go_rises : (x : Option TickEnd) (rs : List Run) (last_end : Option TickEnd) (Here More : Type 0) (n : ℕ) → GoOn x rs last_end Here More → runs_fault rs ≡ true → (More → 0 < n) → 0 < n
go_rises (Some end) rs last_end Here More n h f rise = absurd (true≢false (sym f ∙ ap (λ (l : List Run). runs_fault l) h.0))
go_rises None rs last_end Here More n h f rise = rise h

module _ (node : SidecarNode) (app store : Address) where
  runs_rise : (first : ℕ) (es : List DueEntry) (rs : List Run) (last : ℕ) (last_end : Option TickEnd) → RunsEach node app store first es rs last last_end → runs_fault rs ≡ true → 0 < total_rise (runs_called rs)
  runs_rise first [] [] last last_end h f = absurd (true≢false (sym f))
  runs_rise first [] (r ∷ rs) last last_end h f = absurd h
  runs_rise first (e ∷ es) [] last last_end h f = absurd h
  runs_rise first (e ∷ es) (r ∷ rs) last last_end h f =
      let sum = rise_append r.called (runs_called rs) in
      elim (or_either (fault_in r.turned) (runs_fault rs) f) [
        | inl here ↦ let up = follows_rises app r.entry h.2.turn.said h.2.turn.middle r.last h.2.turn.back r.called r.turned h.2.turn.follows here in omega arith
        | inr there ↦ let up = go_rises (end_of r) rs last_end (last ≡ r.last) (RunsEach node app store r.last es rs last last_end) (total_rise (runs_called rs)) h.3 there (λ m. runs_rise r.last es rs last last_end m there) in omega arith
      ]

  due_rises : (first : ℕ) (o : Result (List DueEntry) TickEnd) (runs : List Run) (last : ℕ) (next : Stand) → AfterDue node app store first o runs last next → runs_fault runs ≡ true → 0 < total_rise (runs_called runs)
  due_rises first (Ok es) runs last next h f = runs_rise first es runs last h.0 h.1 f
  due_rises first (Err end) runs last next h f = absurd (true≢false (sym f ∙ ap (λ (l : List Run). runs_fault l) h.0))

  pages_rise : (first : ℕ) (stand : Stand) (ps : List Page) (last : ℕ) (stop : Option TickEnd) → GoesOn node app store first stand ps last stop → pages_fault ps ≡ true → 0 < total_rise (pages_called ps)
  pages_rise first stand [] last stop h f = absurd (true≢false (sym f))
  pages_rise first (On place) (p ∷ ps) last stop h f =
      let sum = rise_append (runs_called p.runs) (pages_called ps) in
      elim (or_either (runs_fault p.runs) (pages_fault ps) f) [
        | inl here ↦ let up = due_rises first (page_of p.got) p.runs p.last p.next h.1.follows here in omega arith
        | inr there ↦ let up = pages_rise p.last p.next ps last stop h.2 there in omega arith
      ]
  pages_rise first Last (p ∷ ps) last stop h f = absurd h
  pages_rise first (Over end) (p ∷ ps) last stop h f = absurd h

-- ---- the store

-- no end but one after all pages is a fault of the application, and a fault of the store rose its count
abbrev CausedBy : ℕ → TickEnd → Type 0
CausedBy n ends.AppFault = ⊥
CausedBy n ends.StoreFault = 0 < n
CausedBy n end = Unit {0}

abbrev Caused : ℕ → Option TickEnd → Type 0
Caused n None = Unit {0}
Caused n (Some end) = CausedBy n end

abbrev StandCaused : ℕ → Stand → Type 0
StandCaused n (Over end) = CausedBy n end
StandCaused n stand = Unit {0}

by_more : (n m : ℕ) (end : TickEnd) → n ≤ m → CausedBy n end → CausedBy m end
by_more n m ends.AppFault l h = absurd h
by_more n m ends.StoreFault l h = omega arith
by_more n m end l h = tt

caused_more : (n m : ℕ) (end : Option TickEnd) → n ≤ m → Caused n end → Caused m end
caused_more n m None l h = tt
caused_more n m (Some end) l h = by_more n m end l h

or_caused : (n : ℕ) (a b : Option TickEnd) → Caused n a → Caused n b → Caused n (or_end a b)
or_caused n None b p q = q
or_caused n (Some end) b p q = p

reply_caused : (n : ℕ) (reply : PartReply) → Caused n (reply_end reply)
reply_caused n (replies.Spent count) = tt
reply_caused n replies.Stopped = tt
reply_caused n replies.OutOfMemory = tt
reply_caused n reply = tt

said_caused : (n : ℕ) (said : Said) → Caused n (said_end said)
said_caused n (Ok reply) = reply_caused n reply
said_caused n (Err spent) = tt

app_caused : (n : ℕ) (got : Result HttpResponse EdgeError) → Caused n (app_end got)
app_caused n (Err edge.OutOfMemory) = tt
app_caused n got = tt

turned_caused : (n : ℕ) (turned : Turned) → Caused n (turned_end turned)
turned_caused n (Called got ended) = or_caused n (said_end ended) (app_end got) (said_caused n ended) (app_caused n got)
turned_caused n (Refused said) = said_caused n said

store_caused : (n : ℕ) (end : StoreEnd) → (end ≡ stores.Fault → 0 < n) → CausedBy n (store_end end)
store_caused n stores.Fault h = h refl
store_caused n stores.Unreadable h = tt
store_caused n stores.OutOfMemory h = tt

told_caused : (n : ℕ) (got : Got) → (got ≡ Err stores.Fault → 0 < n) → Caused n (told_end got)
told_caused n (Ok (answers.NextIs next)) h = tt
told_caused n (Ok answers.NotThere) h = tt
told_caused n (Ok (answers.Refused (refusals.OtherMoment next))) h = tt
told_caused n (Ok answer) h = tt
told_caused n (Err end) h = store_caused n end (λ e. h (ap (λ (s : StoreEnd). Err s) e))

page_caused : (n : ℕ) (got : Got) (end : TickEnd) → page_of got ≡ Err end → (got ≡ Err stores.Fault → 0 < n) → CausedBy n end
page_caused n (Ok (answers.DueList entries)) end is h = absurd (let x : ⊥ = cc in x)
page_caused n (Ok answer) end is h = subst (λ (t : TickEnd). CausedBy n t) (let x : ends.StoreRefused answer ≡ end = cc in x) tt
page_caused n (Err s) end is h = subst (λ (t : TickEnd). CausedBy n t) (let x : store_end s ≡ end = cc in x) (store_caused n s (λ e. h (ap (λ (r : StoreEnd). Err r) e)))

undrawn_caused : (n : ℕ) (said : Said) → CausedBy n (undrawn_end said)
undrawn_caused n (Ok (replies.Spent count)) = tt
undrawn_caused n (Ok replies.Stopped) = tt
undrawn_caused n (Ok reply) = tt
undrawn_caused n (Err spent) = tt

module _ (node : SidecarNode) (store : Address) (key : DueKey) (turned : Turned) where
  draw_caused : (said : Said) (xs : List Exchange) (reported : Reported) → AfterDraw node store key said xs reported → Caused (total_rise xs) (reported_end (turned_end turned) reported)
  draw_caused (Ok (replies.Drawn n)) xs reported h =
      let k = total_rise xs in
      subst (λ (r : Reported). Caused k (reported_end (turned_end turned) r)) (sym h.2)
      (or_caused k (turned_end turned) (told_end h.0) (turned_caused k turned) (told_caused k h.0 (λ e. store_rises (fired_command node key n) _ xs h.0 h.1 e)))
  draw_caused (Ok reply) xs reported h = subst (λ (r : Reported). Caused (total_rise xs) (reported_end (turned_end turned) r)) (sym h.1) (undrawn_caused (total_rise xs) (Ok reply))
  draw_caused (Err spent) xs reported h = subst (λ (r : Reported). Caused (total_rise xs) (reported_end (turned_end turned) r)) (sym h.1) (undrawn_caused (total_rise xs) (Err spent))

  report_caused : (es : List PartEntry) (xs : List Exchange) (reported : Option Reported) → Reports node store key turned es xs reported → Caused (total_rise xs) (run_end turned reported)
  report_caused es xs None h = turned_caused (total_rise xs) turned
  report_caused es xs (Some reported) h = draw_caused h.1.said xs reported h.1.follows

go_caused : (x : Option TickEnd) (rs : List Run) (last_end : Option TickEnd) (Here More : Type 0) (n m : ℕ) → Caused n x → GoOn x rs last_end Here More → (More → Caused m last_end) → Caused (n + m) last_end
go_caused (Some end) rs last_end Here More n m c h f = subst (λ (o : Option TickEnd). Caused (n + m) o) (sym h.1) (by_more n (n + m) end (omega arith) c)
go_caused None rs last_end Here More n m c h f = caused_more m (n + m) last_end (omega arith) (f h)

stand_caused : (n : ℕ) (place : Option DueKey) (end : Option TickEnd) → Caused n end → StandCaused n (stand_after place end)
stand_caused n place (Some end) h = h
stand_caused n (Some key) None h = tt
stand_caused n None None h = tt

module _ (node : SidecarNode) (app store : Address) where
  runs_caused : (first : ℕ) (es : List DueEntry) (rs : List Run) (last : ℕ) (last_end : Option TickEnd) → RunsEach node app store first es rs last last_end → Caused (total_rise (runs_told rs)) last_end
  runs_caused first [] [] last last_end h = subst (λ (o : Option TickEnd). Caused 0 o) (sym h.1) tt
  runs_caused first [] (r ∷ rs) last last_end h = absurd h
  runs_caused first (e ∷ es) [] last last_end h = absurd h
  runs_caused first (e ∷ es) (r ∷ rs) last last_end h =
      subst (λ (n : ℕ). Caused n last_end) (sym (rise_append r.told (runs_told rs)))
      (go_caused (end_of r) rs last_end (last ≡ r.last) (RunsEach node app store r.last es rs last last_end) (total_rise r.told) (total_rise (runs_told rs))
      (report_caused node store r.entry.key r.turned r.drawn r.told r.reported h.2.report) h.3 (λ m. runs_caused r.last es rs last last_end m))

  due_caused : (first n : ℕ) (o : Result (List DueEntry) TickEnd) (runs : List Run) (last : ℕ) (next : Stand) → AfterDue node app store first o runs last next
      → ((end : TickEnd) → o ≡ Err end → CausedBy n end) → total_rise (runs_told runs) ≤ n → StandCaused n next
  due_caused first n (Ok es) runs last next h f l =
      subst (λ (s : Stand). StandCaused n s) (sym h.2) (stand_caused n (last_key es) h.0 (caused_more (total_rise (runs_told runs)) n h.0 l (runs_caused first es runs last h.0 h.1)))
  due_caused first n (Err end) runs last next h f l = subst (λ (s : Stand). StandCaused n s) (sym h.2) (f end refl)

  next_caused : (first : ℕ) (p : Page) → IsPage node app store first p → StandCaused (total_rise (page_told p)) p.next
  next_caused first p h =
      let sum = rise_append p.asked (runs_told p.runs) in
      due_caused first (total_rise (page_told p)) (page_of p.got) p.runs p.last p.next h.follows
      (λ end is. page_caused (total_rise (page_told p)) p.got end is (λ e. let up = store_rises _ _ p.asked p.got h.exchange e in omega arith))
      (omega arith)

  pages_caused : (k first : ℕ) (stand : Stand) (ps : List Page) (last : ℕ) (stop : Option TickEnd) → GoesOn node app store first stand ps last stop → StandCaused k stand → Caused (k + total_rise (pages_told ps)) stop
  pages_caused k first (On place) [] last stop h c = absurd h
  pages_caused k first (On place) (p ∷ ps) last stop h c =
      let sum = rise_append (page_told p) (pages_told ps) in
      let l : total_rise (page_told p) + total_rise (pages_told ps) ≤ k + total_rise (page_told p ++ pages_told ps) = omega arith in
      caused_more (total_rise (page_told p) + total_rise (pages_told ps)) (k + total_rise (page_told p ++ pages_told ps)) stop l
      (pages_caused (total_rise (page_told p)) p.last p.next ps last stop h.2 (next_caused first p h.1))
  pages_caused k first Last [] last stop h c = subst (λ (o : Option TickEnd). Caused (k + 0) o) (sym h.1) tt
  pages_caused k first Last (p ∷ ps) last stop h c = absurd h
  pages_caused k first (Over end) [] last stop h c = subst (λ (o : Option TickEnd). Caused (k + 0) o) (sym h.1) (by_more k (k + 0) end (omega arith) c)
  pages_caused k first (Over end) (p ∷ ps) last stop h c = absurd h

-- ---- the end

tick_cause : (f0 f1 g0 g1 k n : ℕ) (faulted : Bool) (stop : Option TickEnd) → Caused k stop → g0 + k ≤ g1 → (faulted ≡ true → f0 < f1) → TickCause f0 f1 g0 g1 (tick_end n faulted stop)
tick_cause f0 f1 g0 g1 k n faulted (Some ends.AppFault) c l r = absurd c
tick_cause f0 f1 g0 g1 k n faulted (Some ends.StoreFault) c l r = omega arith
tick_cause f0 f1 g0 g1 k n faulted (Some end) c l r = tt
tick_cause f0 f1 g0 g1 k n true None c l r = r refl
tick_cause f0 f1 g0 g1 k n false None c l r = tt

pub turn_cause :
    {node : SidecarNode} {app store : Address} {first last : ℕ} {before after : Seats} {t0 t1 : Option Dialled} {f0 f1 : ℕ} {u0 u1 : Option Dialled} {g0 g1 : ℕ} {end : TickEnd}
    → ReminderTurn node app store first last before after t0 t1 f0 f1 u0 u1 g0 g1 end → TickCause f0 f1 g0 g1 end
turn_cause {node = node} {app = app} {store = store} {first = first} {last = last} {f0 = f0} {f1 = f1} {g0 = g0} {g1 = g1} h =
    let asked = h.asks.counted in
    let called = h.calls.counted in
    let caused : Caused (0 + total_rise (pages_told h.pages)) h.stop = pages_caused node app store 0 first (On None) h.pages last h.stop h.goes_on tt in
    subst (λ (e : TickEnd). TickCause f0 f1 g0 g1 e) (sym h.ends)
    (tick_cause f0 f1 g0 g1 (0 + total_rise (pages_told h.pages)) _ (pages_fault h.pages) h.stop caused (omega arith)
    (λ f. let up = pages_rise node app store first (On None) h.pages last h.stop h.goes_on f in omega arith))
