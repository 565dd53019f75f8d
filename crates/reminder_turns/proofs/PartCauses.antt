-- What an end by a part goes back to.
use Rattle.std.proofs.Common.{◌≡◌, ◌⊎◌, ℕ, Bool, true, false, List, [], ◌∷◌, ◌++◌, Option, Some, None, Result, Ok, Err, refl, sym, subst, inl, inr}
use Rattle.actor_names.specs.declared.actor_key.ActorKey.{ActorKey}
use Rattle.actor_names.specs.declared.address.Address.{Address}
use Rattle.part_model.specs.declared.event.PartEvent.{PartEvent}
use Rattle.part_model.specs.declared.event.PartEvent.TheVariants.{Draw}
use Rattle.part_model.specs.Receipts.{PartReply}
use Rattle.part_model.specs.declared.event.Reply.TheVariants as replies
use Rattle.http_edge.specs.declared.message.HttpResponse.{HttpResponse}
use Rattle.http_edge.specs.declared.error.EdgeError.{EdgeError}
use Rattle.http_edge.specs.declared.error.EdgeError.TheVariants as edge
use Rattle.reminder_rows.specs.declared.row.DueKey.{DueKey}
use Rattle.frame_wire.specs.declared.store_answer.DueEntry.{DueEntry}
use Rattle.frame_wire.specs.declared.store_answer.StoreAnswer.TheVariants as answers
use Rattle.frame_wire.specs.declared.store_refusal.StoreRefusal.TheVariants as refusals
use Rattle.sidecar_node.specs.declared.node.SidecarNode.{SidecarNode}
use Rattle.sidecar_node.specs.Entries.{PartEntry, one_entry}
use Rattle.sidecar_node.specs.Turns.{Said, asks_again, Either, Polls, AfterAsk, Begins, MakesOne}
use Rattle.exchanges.specs.Exchanges.{Exchange}
use Rattle.exchanges.specs.declared.store_end.StoreEnd.TheVariants as stores
use Rattle.exchanges.specs.Asked.{Got}
use Rattle.reminder_turns.specs.declared.ends.TickEnd.{TickEnd}
use Rattle.reminder_turns.specs.declared.ends.TickEnd.TheVariants as ends
use Rattle.reminder_turns.specs.declared.results.Turned.{Turned}
use Rattle.reminder_turns.specs.declared.results.Reported.{Reported}
use Rattle.reminder_turns.specs.declared.results.Reported.TheVariants.{Told, Undrawn}
use Rattle.reminder_turns.specs.declared.standing.Stand.{Stand}
use Rattle.reminder_turns.specs.declared.standing.Stand.TheVariants.{On, Last, Over}
use Rattle.reminder_turns.specs.Callbacks.{Follows}
use Rattle.reminder_turns.specs.Outcomes.{or_end, said_end, undrawn_end, app_end, turned_end, told_end, run_end, page_of, last_key, stand_after}
use Rattle.reminder_turns.specs.Reports.{AfterDraw, Reports}
use Rattle.reminder_turns.specs.Runs.{Run, IsRun, end_of, GoOn, RunsEach}
use Rattle.reminder_turns.specs.Pages.{Page, AfterDue, GoesOn}
use Rattle.reminder_turns.specs.Laws.{HasReply, RunsReplied, PagesReplied, SaidSpent, TurnedSpent, ReportedSpent, RunsSpent, PagesSpent, GoesBack, PartCause}

goes_more : (R Q : PartReply → Type 0) (S T : ℕ → Type 0) → ((r : PartReply) → R r → Q r) → ((n : ℕ) → S n → T n) → (stop : Option TickEnd) → GoesBack R S stop → GoesBack Q T stop
goes_more R Q S T f g (Some ends.Stopped) h = f replies.Stopped h
goes_more R Q S T f g (Some (ends.Spent n)) (inl h) = inl (f (replies.Spent n) h)
goes_more R Q S T f g (Some (ends.Spent n)) (inr h) = inr (g n h)
goes_more R Q S T f g stop h = tt

-- ---- entries

has_left : (reply : PartReply) (xs ys : List PartEntry) → HasReply reply xs → HasReply reply (xs ++ ys)
has_left reply [] ys h = absurd h
has_left reply (x ∷ xs) ys (inl e) = inl e
has_left reply (x ∷ xs) ys (inr h) = inr (has_left reply xs ys h)

has_right : (reply : PartReply) (xs ys : List PartEntry) → HasReply reply ys → HasReply reply (xs ++ ys)
has_right reply [] ys h = h
has_right reply (x ∷ xs) ys h = inr (has_right reply xs ys h)

-- these entries have the reply, if it isn't want of memory
abbrev Has : List PartEntry → Said → Type 0
Has es said = (reply : PartReply) → said ≡ Ok reply → (reply ≡ replies.OutOfMemory) ⊎ HasReply reply es

here : (e : PartEntry) (es : List PartEntry) (said : Said) → said ≡ Ok e.reply → (reply : PartReply) → said ≡ Ok reply → HasReply reply (e ∷ es)
here e es said is reply q = inl (let z : e.reply ≡ reply = cc in z)

polls_has : (call : ℕ) (es : List PartEntry) (said : Said) → Polls call es said → (reply : PartReply) → said ≡ Ok reply → HasReply reply es
polls_has call [] (Ok r) h reply q = absurd h
polls_has call [] (Err spent) h reply q = absurd (let z : ⊥ = cc in z)
polls_has call (e ∷ es) said h reply q = polled (asks_again e.reply) h.1 (λ m. polls_has call es said m reply q)
  where
    polled : (b : Bool) → Either b (Polls call es said) ((es ≡ []) × (said ≡ Ok e.reply)) → (Polls call es said → HasReply reply es) → HasReply reply (e ∷ es)
    polled true m more = inr (more m)
    polled false m more = here e es said m.1 reply q

asked_has : (first : PartReply) (es : List PartEntry) (said : Said) → AfterAsk first es said → (reply : PartReply) → said ≡ Ok reply → (first ≡ reply) ⊎ HasReply reply es
asked_has (replies.Waits call place) es said h reply q = inr (polls_has call es said h reply q)
asked_has first es said h reply q = let is = h.1 in inl (let z : first ≡ reply = cc in z)

begins_has : (key : ActorKey) (chain : Option (List ℕ)) (least : Option ℕ) (now : ℕ) (es : List PartEntry) (said : Said) → Begins key chain least now es said → Has es said
begins_has key chain least now [] said (inl is) reply q = inl (let z : reply ≡ replies.OutOfMemory = cc in z)
begins_has key chain least now [] (Ok r) (inr h) reply q = absurd h
begins_has key chain least now [] (Err spent) (inr h) reply q = absurd (let z : ⊥ = cc in z)
begins_has key chain least now (e ∷ es) said h reply q = inr (asked_has e.reply es said h.1 reply q)

makes_has : (event : PartEvent) (es : List PartEntry) (said : Said) → MakesOne event es said → Has es said
makes_has event [] (Ok r) h reply q = absurd h
makes_has event [] (Err spent) h reply q = absurd (let z : ⊥ = cc in z)
makes_has event (e ∷ []) said h reply q = inr (here e [] said h.1 reply q)
makes_has event (e ∷ f ∷ es) said h reply q = absurd h

draws_has : (said : Said) → Has (one_entry Draw said) said
draws_has (Ok r) reply q = inr (inl (let z : r ≡ reply = cc in z))
draws_has (Err spent) reply q = absurd (let z : ⊥ = cc in z)

-- ---- ends

apart : (reply : PartReply) (A : Type 0) → (reply ≡ replies.OutOfMemory → ⊥) → (reply ≡ replies.OutOfMemory) ⊎ A → A
apart reply A h (inl e) = absurd (h e)
apart reply A h (inr a) = a

said_goes : (es : List PartEntry) (said : Said) → Has es said → GoesBack (λ r. HasReply r es) (λ n. SaidSpent n said) (said_end said)
said_goes es (Ok replies.Stopped) f = apart replies.Stopped (HasReply replies.Stopped es) (λ e. let z : ⊥ = cc in z) (f replies.Stopped refl)
said_goes es (Ok (replies.Spent n)) f = inl (apart (replies.Spent n) (HasReply (replies.Spent n) es) (λ e. let z : ⊥ = cc in z) (f (replies.Spent n) refl))
said_goes es (Ok replies.OutOfMemory) f = tt
said_goes es (Ok reply) f = tt
said_goes es (Err spent) f = inr refl

refused_goes : (es : List PartEntry) (said : Said) → Has es said → GoesBack (λ r. HasReply r es) (λ n. SaidSpent n said) (Some (undrawn_end said))
refused_goes es (Ok replies.Stopped) f = apart replies.Stopped (HasReply replies.Stopped es) (λ e. let z : ⊥ = cc in z) (f replies.Stopped refl)
refused_goes es (Ok (replies.Spent n)) f = inl (apart (replies.Spent n) (HasReply (replies.Spent n) es) (λ e. let z : ⊥ = cc in z) (f (replies.Spent n) refl))
refused_goes es (Ok reply) f = tt
refused_goes es (Err spent) f = inr refl

module _ (R : PartReply → Type 0) (S : ℕ → Type 0) where
  or_goes : (a b : Option TickEnd) → GoesBack R S a → GoesBack R S b → GoesBack R S (or_end a b)
  or_goes None b p q = q
  or_goes (Some end) b p q = p

  app_goes : (got : Result HttpResponse EdgeError) → GoesBack R S (app_end got)
  app_goes (Err edge.OutOfMemory) = tt
  app_goes got = tt

  told_goes : (got : Got) → GoesBack R S (told_end got)
  told_goes (Ok (answers.NextIs next)) = tt
  told_goes (Ok answers.NotThere) = tt
  told_goes (Ok (answers.Refused (refusals.OtherMoment next))) = tt
  told_goes (Ok answer) = tt
  told_goes (Err stores.Fault) = tt
  told_goes (Err stores.Unreadable) = tt
  told_goes (Err stores.OutOfMemory) = tt

-- ---- a turn and its report

abbrev TurnGoes : List PartEntry → Turned → Type 0
TurnGoes es turned = GoesBack (λ r. HasReply r es) (λ n. TurnedSpent n turned) (turned_end turned)

follows_goes : (app : Address) (e : DueEntry) (said : Said) (first last : ℕ) (front es : List PartEntry) (xs : List Exchange) (turned : Turned)
    → Follows app e said first last es xs turned → Has front said → TurnGoes (front ++ es) turned
follows_goes app e (Ok (replies.Begun call chain)) first last front es xs turned h f =
    let R : PartReply → Type 0 = λ r. HasReply r (front ++ es) in
    let S : ℕ → Type 0 = λ n. SaidSpent n h.1 in
    subst (λ (t : Turned). TurnGoes (front ++ es) t) (sym h.3)
    (or_goes R S (said_end h.1) (app_end h.0)
    (goes_more (λ r. HasReply r es) R S S (λ r i. has_right r front es i) (λ n s. s) (said_end h.1) (said_goes es h.1 (makes_has _ es h.1 h.2.ends)))
    (app_goes R S h.0))
follows_goes app e (Ok r) first last front es xs turned h f =
    subst (λ (t : Turned). TurnGoes (front ++ es) t) (sym h.1)
    (goes_more (λ q. HasReply q front) (λ q. HasReply q (front ++ es)) (λ n. SaidSpent n (Ok r)) (λ n. SaidSpent n (Ok r)) (λ q i. has_left q front es i) (λ n s. s) (said_end (Ok r)) (said_goes front (Ok r) f))
follows_goes app e (Err spent) first last front es xs turned h f =
    subst (λ (t : Turned). TurnGoes (front ++ es) t) (sym h.1)
    (goes_more (λ q. HasReply q front) (λ q. HasReply q (front ++ es)) (λ n. SaidSpent n (Err spent)) (λ n. SaidSpent n (Err spent)) (λ q i. has_left q front es i) (λ n s. s) (said_end (Err spent)) (said_goes front (Err spent) f))

abbrev RunGoes : List PartEntry → Turned → Option Reported → Type 0
RunGoes es turned reported = GoesBack (λ r. HasReply r es) (λ n. TurnedSpent n turned ⊎ ReportedSpent n reported) (run_end turned reported)

module _ (node : SidecarNode) (store : Address) (key : DueKey) (turned : Turned) (turn : List PartEntry) where
  -- what the turn has ended goes back to the turn, whatever was reported
  early_goes : (es : List PartEntry) (reported : Option Reported) → TurnGoes turn turned → GoesBack (λ r. HasReply r (turn ++ es)) (λ n. TurnedSpent n turned ⊎ ReportedSpent n reported) (turned_end turned)
  early_goes es reported h =
      goes_more (λ r. HasReply r turn) (λ r. HasReply r (turn ++ es)) (λ n. TurnedSpent n turned) (λ n. TurnedSpent n turned ⊎ ReportedSpent n reported) (λ r i. has_left r turn es i) (λ n s. inl s) (turned_end turned) h

  undrawn_goes : (said : Said) → RunGoes (turn ++ one_entry Draw said) turned (Some (Undrawn said))
  undrawn_goes said =
      let es = one_entry Draw said in
      goes_more (λ r. HasReply r es) (λ r. HasReply r (turn ++ es)) (λ n. SaidSpent n said) (λ n. TurnedSpent n turned ⊎ SaidSpent n said) (λ r i. has_right r turn es i) (λ n s. inr s) (Some (undrawn_end said)) (refused_goes es said (draws_has said))

  draw_goes : (said : Said) (xs : List Exchange) (reported : Reported) → AfterDraw node store key said xs reported → TurnGoes turn turned → RunGoes (turn ++ one_entry Draw said) turned (Some reported)
  draw_goes (Ok (replies.Drawn n)) xs reported h t =
      let es = one_entry Draw (Ok (replies.Drawn n)) in
      subst (λ (q : Reported). RunGoes (turn ++ es) turned (Some q)) (sym h.2)
      (or_goes (λ r. HasReply r (turn ++ es)) (λ m. TurnedSpent m turned ⊎ ReportedSpent m (Some (Told h.0))) (turned_end turned) (told_end h.0)
      (early_goes es (Some (Told h.0)) t)
      (told_goes (λ r. HasReply r (turn ++ es)) (λ m. TurnedSpent m turned ⊎ ReportedSpent m (Some (Told h.0))) h.0))
  draw_goes (Ok r) xs reported h t = subst (λ (q : Reported). RunGoes (turn ++ one_entry Draw (Ok r)) turned (Some q)) (sym h.1) (undrawn_goes (Ok r))
  draw_goes (Err spent) xs reported h t = subst (λ (q : Reported). RunGoes (turn ++ one_entry Draw (Err spent)) turned (Some q)) (sym h.1) (undrawn_goes (Err spent))

  report_goes : (es : List PartEntry) (xs : List Exchange) (reported : Option Reported) → Reports node store key turned es xs reported → TurnGoes turn turned → RunGoes (turn ++ es) turned reported
  report_goes es xs None h t = early_goes es None t
  report_goes es xs (Some reported) h t =
      subst (λ (ys : List PartEntry). RunGoes (turn ++ ys) turned (Some reported)) (sym h.1.draws) (draw_goes h.1.said xs reported h.1.follows t)

-- ---- all of them

abbrev StandGoes : (PartReply → Type 0) → (ℕ → Type 0) → Stand → Type 0
StandGoes R S (Over end) = GoesBack R S (Some end)
StandGoes R S stand = Unit {0}

stand_goes : (R : PartReply → Type 0) (S : ℕ → Type 0) (place : Option DueKey) (end : Option TickEnd) → GoesBack R S end → StandGoes R S (stand_after place end)
stand_goes R S place (Some end) h = h
stand_goes R S (Some key) None h = tt
stand_goes R S None None h = tt

module _ (R : PartReply → Type 0) (S : ℕ → Type 0) (Q : PartReply → Type 0) (T : ℕ → Type 0) where
  go_goes : (x : Option TickEnd) (rs : List Run) (last_end : Option TickEnd) (Here More : Type 0) → GoesBack R S x → GoOn x rs last_end Here More → (More → GoesBack Q T last_end)
      → GoesBack (λ r. R r ⊎ Q r) (λ n. S n ⊎ T n) last_end
  go_goes (Some end) rs last_end Here More c h f =
      subst (λ (o : Option TickEnd). GoesBack (λ r. R r ⊎ Q r) (λ n. S n ⊎ T n) o) (sym h.1) (goes_more R (λ r. R r ⊎ Q r) S (λ n. S n ⊎ T n) (λ r i. inl i) (λ n i. inl i) (Some end) c)
  go_goes None rs last_end Here More c h f = goes_more Q (λ r. R r ⊎ Q r) T (λ n. S n ⊎ T n) (λ r i. inr i) (λ n i. inr i) last_end (f h)

module _ (node : SidecarNode) (app store : Address) where
  run_goes : (r : Run) → IsRun node app store r → RunGoes (r.turn ++ r.drawn) r.turned r.reported
  run_goes r h =
      let t = h.turn in
      report_goes node store r.entry.key r.turned r.turn r.drawn r.told r.reported h.report
      (subst (λ (es : List PartEntry). TurnGoes es r.turned) (sym t.entries)
      (follows_goes app r.entry t.said t.middle r.last t.front t.back r.called r.turned t.follows (begins_has r.entry.key.actor None None t.middle t.front t.said t.begins)))

  runs_goes : (first : ℕ) (es : List DueEntry) (rs : List Run) (last : ℕ) (last_end : Option TickEnd) → RunsEach node app store first es rs last last_end → GoesBack (λ r. RunsReplied r rs) (λ n. RunsSpent n rs) last_end
  runs_goes first [] [] last last_end h = subst (λ (o : Option TickEnd). GoesBack (λ r. RunsReplied r []) (λ n. RunsSpent n []) o) (sym h.1) tt
  runs_goes first [] (r ∷ rs) last last_end h = absurd h
  runs_goes first (e ∷ es) [] last last_end h = absurd h
  runs_goes first (e ∷ es) (r ∷ rs) last last_end h =
      let S : ℕ → Type 0 = λ n. TurnedSpent n r.turned ⊎ ReportedSpent n r.reported in
      goes_more (λ q. HasReply q (r.turn ++ r.drawn) ⊎ RunsReplied q rs) (λ q. RunsReplied q (r ∷ rs)) (λ n. S n ⊎ RunsSpent n rs) (λ n. RunsSpent n (r ∷ rs)) (λ q i. i) (λ n i. regroup n i) last_end
      (go_goes (λ q. HasReply q (r.turn ++ r.drawn)) S (λ q. RunsReplied q rs) (λ n. RunsSpent n rs) (end_of r) rs last_end (last ≡ r.last) (RunsEach node app store r.last es rs last last_end)
      (run_goes r h.2) h.3 (λ m. runs_goes r.last es rs last last_end m))
    where
      regroup : (n : ℕ) → (TurnedSpent n r.turned ⊎ ReportedSpent n r.reported) ⊎ RunsSpent n rs → RunsSpent n (r ∷ rs)
      regroup n (inl (inl a)) = inl a
      regroup n (inl (inr b)) = inr (inl b)
      regroup n (inr c) = inr (inr c)

  due_goes : (first : ℕ) (o : Result (List DueEntry) TickEnd) (got : Got) (runs : List Run) (last : ℕ) (next : Stand) → page_of got ≡ o → AfterDue node app store first o runs last next → StandGoes (λ r. RunsReplied r runs) (λ n. RunsSpent n runs) next
  due_goes first (Ok es) got runs last next e h =
      let R : PartReply → Type 0 = λ r. RunsReplied r runs in
      let S : ℕ → Type 0 = λ n. RunsSpent n runs in
      subst (λ (s : Stand). StandGoes R S s) (sym h.2) (stand_goes R S (last_key es) h.0 (runs_goes first es runs last h.0 h.1))
  due_goes first (Err end) got runs last next e h =
      let R : PartReply → Type 0 = λ r. RunsReplied r runs in
      let S : ℕ → Type 0 = λ n. RunsSpent n runs in
      subst (λ (s : Stand). StandGoes R S s) (sym h.2) (none_goes R S got end e)
    where
      none_goes : (R : PartReply → Type 0) (S : ℕ → Type 0) (got : Got) (end : TickEnd) → page_of got ≡ Err end → GoesBack R S (Some end)
      none_goes R S (Ok (answers.DueList entries)) end e = absurd (let z : ⊥ = cc in z)
      none_goes R S (Ok answer) end e = subst (λ (t : TickEnd). GoesBack R S (Some t)) (let z : ends.StoreRefused answer ≡ end = cc in z) tt
      none_goes R S (Err stores.Fault) end e = subst (λ (t : TickEnd). GoesBack R S (Some t)) (let z : ends.StoreFault ≡ end = cc in z) tt
      none_goes R S (Err stores.Unreadable) end e = subst (λ (t : TickEnd). GoesBack R S (Some t)) (let z : ends.StoreReply ≡ end = cc in z) tt
      none_goes R S (Err stores.OutOfMemory) end e = subst (λ (t : TickEnd). GoesBack R S (Some t)) (let z : ends.OutOfMemory ≡ end = cc in z) tt

  pages_goes : (R : PartReply → Type 0) (S : ℕ → Type 0) (first : ℕ) (stand : Stand) (ps : List Page) (last : ℕ) (stop : Option TickEnd) → GoesOn node app store first stand ps last stop → StandGoes R S stand
      → GoesBack (λ r. R r ⊎ PagesReplied r ps) (λ n. S n ⊎ PagesSpent n ps) stop
  pages_goes R S first (On place) [] last stop g c = absurd g
  pages_goes R S first (On place) (p ∷ ps) last stop g c =
      let Q : PartReply → Type 0 = λ r. RunsReplied r p.runs in
      let T : ℕ → Type 0 = λ n. RunsSpent n p.runs in
      goes_more (λ r. Q r ⊎ PagesReplied r ps) (λ r. R r ⊎ PagesReplied r (p ∷ ps)) (λ n. T n ⊎ PagesSpent n ps) (λ n. S n ⊎ PagesSpent n (p ∷ ps)) (λ r i. inr i) (λ n i. inr i) stop
      (pages_goes Q T p.last p.next ps last stop g.2 (due_goes first (page_of p.got) p.got p.runs p.last p.next refl g.1.follows))
  pages_goes R S first Last [] last stop g c = subst (λ (o : Option TickEnd). GoesBack (λ r. R r ⊎ PagesReplied r []) (λ n. S n ⊎ PagesSpent n []) o) (sym g.1) tt
  pages_goes R S first Last (p ∷ ps) last stop g c = absurd g
  pages_goes R S first (Over end) [] last stop g c =
      subst (λ (o : Option TickEnd). GoesBack (λ r. R r ⊎ PagesReplied r []) (λ n. S n ⊎ PagesSpent n []) o) (sym g.1)
      (goes_more R (λ r. R r ⊎ PagesReplied r []) S (λ n. S n ⊎ PagesSpent n []) (λ r i. inl i) (λ n i. inl i) (Some end) c)
  pages_goes R S first (Over end) (p ∷ ps) last stop g c = absurd g

  pub pages_cause : (first : ℕ) (place : Option DueKey) (ps : List Page) (last : ℕ) (stop : Option TickEnd) → GoesOn node app store first (On place) ps last stop → PartCause ps stop
  pages_cause first place ps last stop g =
      goes_more (λ r. ⊥ ⊎ PagesReplied r ps) (λ r. PagesReplied r ps) (λ n. ⊥ ⊎ PagesSpent n ps) (λ n. PagesSpent n ps) (λ r i. second (PagesReplied r ps) i) (λ n i. second (PagesSpent n ps) i) stop
      (pages_goes (λ r. ⊥) (λ n. ⊥) first (On place) ps last stop g tt)
    where
      second : (A : Type 0) → ⊥ ⊎ A → A
      second A (inl a) = absurd a
      second A (inr a) = a
