-- A reply that says that a part has stopped or is spent ends the call.
use Rattle.std.proofs.Common.{◌≡◌, ◌⊎◌, ◌∙◌, ℕ, Bool, true, false, List, [], ◌∷◌, ◌++◌, Option, Some, None, Result, Ok, Err, refl, sym, ap, subst, inl, inr}
use Rattle.std.proofs.lemmas.Bool.{true≢false}
use Rattle.actor_names.specs.declared.actor_key.ActorKey.{ActorKey}
use Rattle.actor_names.specs.declared.address.Address.{Address}
use Rattle.part_model.specs.declared.event.PartEvent.{PartEvent}
use Rattle.part_model.specs.declared.event.PartEvent.TheVariants.{Draw}
use Rattle.part_model.specs.Receipts.{PartReply}
use Rattle.part_model.specs.declared.event.Reply.TheVariants as replies
use Rattle.http_edge.specs.declared.message.HttpResponse.{HttpResponse}
use Rattle.http_edge.specs.declared.error.EdgeError.{EdgeError}
use Rattle.http_edge.specs.declared.error.EdgeError.TheVariants as edge
use Rattle.reminder_rows.specs.declared.row.DueKey.{DueKey}
use Rattle.frame_wire.specs.declared.store_answer.DueEntry.{DueEntry}
use Rattle.sidecar_node.specs.declared.node.SidecarNode.{SidecarNode}
use Rattle.sidecar_node.specs.Entries.{PartEntry, one_entry}
use Rattle.sidecar_node.specs.Turns.{Said, asks_again, Either, Polls, AfterAsk, Begins, MakesOne}
use Rattle.exchanges.specs.Exchanges.{Exchange}
use Rattle.reminder_turns.specs.declared.ends.TickEnd.{TickEnd}
use Rattle.reminder_turns.specs.declared.results.Turned.{Turned}
use Rattle.reminder_turns.specs.declared.results.Turned.TheVariants.{Called, Refused}
use Rattle.reminder_turns.specs.declared.results.Reported.{Reported}
use Rattle.reminder_turns.specs.declared.results.Reported.TheVariants.{Told, Undrawn}
use Rattle.reminder_turns.specs.declared.standing.Stand.{Stand}
use Rattle.reminder_turns.specs.declared.standing.Stand.TheVariants.{On, Last, Over}
use Rattle.reminder_turns.specs.Callbacks.{Follows}
use Rattle.reminder_turns.specs.Outcomes.{or_end, reply_end, said_end, undrawn_end, app_end, turned_end, told_end, run_end, page_of, last_key, stand_after}
use Rattle.reminder_turns.specs.Reports.{AfterDraw, Reports}
use Rattle.reminder_turns.specs.Runs.{Run, IsRun, end_of, GoOn, RunsEach}
use Rattle.reminder_turns.specs.Pages.{Page, AfterDue, GoesOn}
use Rattle.reminder_turns.specs.Laws.{HasReply, RunsReplied, PagesReplied, EndsCall, IsPartEnd}

-- ---- ends

-- an end by a part, if it is an end
abbrev pub PartOnly : Option TickEnd → Type 0
PartOnly None = Unit {0}
PartOnly (Some end) = IsPartEnd (Some end)

or_only : (a b : Option TickEnd) → PartOnly a → PartOnly b → PartOnly (or_end a b)
or_only None b p q = q
or_only (Some end) b p q = p

said_only : (said : Said) → PartOnly (said_end said)
said_only (Ok (replies.Spent count)) = tt
said_only (Ok replies.Stopped) = tt
said_only (Ok replies.OutOfMemory) = tt
said_only (Ok reply) = tt
said_only (Err spent) = tt

app_only : (got : Result HttpResponse EdgeError) → PartOnly (app_end got)
app_only (Err edge.OutOfMemory) = tt
app_only got = tt

pub turned_only : (turned : Turned) → PartOnly (turned_end turned)
turned_only (Called got ended) = or_only (said_end ended) (app_end got) (said_only ended) (app_only got)
turned_only (Refused said) = said_only said

first_part : (a b : Option TickEnd) → IsPartEnd a → IsPartEnd (or_end a b)
first_part None b h = absurd h
first_part (Some end) b h = h

pub undrawn_part : (said : Said) → IsPartEnd (Some (undrawn_end said))
undrawn_part (Ok (replies.Spent count)) = tt
undrawn_part (Ok replies.Stopped) = tt
undrawn_part (Ok reply) = tt
undrawn_part (Err spent) = tt

early_part : (turned : Turned) (reported : Option Reported) → IsPartEnd (turned_end turned) → IsPartEnd (run_end turned reported)
early_part turned None h = h
early_part turned (Some (Told got)) h = first_part (turned_end turned) (told_end got) h
early_part turned (Some (Undrawn said)) h = undrawn_part said

part_end : (reply : PartReply) → EndsCall reply → IsPartEnd (reply_end reply)
part_end replies.Stopped e = tt
part_end (replies.Spent count) e = tt
part_end reply e = absurd e

-- ---- entries

pub has_split : (reply : PartReply) (xs ys : List PartEntry) → HasReply reply (xs ++ ys) → HasReply reply xs ⊎ HasReply reply ys
has_split reply [] ys h = inr h
has_split reply (x ∷ xs) ys (inl e) = inl (inl e)
has_split reply (x ∷ xs) ys (inr h) = elim (has_split reply xs ys h) [ inl a ↦ inl (inr a) | inr b ↦ inr b ]

never_in : (reply : PartReply) (es : List PartEntry) → es ≡ [] → HasReply reply es → ⊥
never_in reply es e h = subst (λ (xs : List PartEntry). HasReply reply xs) e h

ends_calm : (reply : PartReply) → EndsCall reply → asks_again reply ≡ false
ends_calm (replies.Waits call place) e = absurd e
ends_calm replies.OutOfMemory e = absurd e
ends_calm reply e = refl

same_ends : (a b : PartReply) → a ≡ b → EndsCall b → EndsCall a
same_ends a b q e = subst (λ (r : PartReply). EndsCall r) (sym q) e

module _ (reply : PartReply) (ends_ : EndsCall reply) where
  polls_last : (call : ℕ) (es : List PartEntry) (said : Said) → Polls call es said → HasReply reply es → said ≡ Ok reply
  polls_last call [] said h i = absurd i
  polls_last call (e ∷ es) said h i = polled (asks_again e.reply) refl h.1 (λ m j. polls_last call es said m j) i
    where
      polled : (b : Bool) → asks_again e.reply ≡ b → Either b (Polls call es said) ((es ≡ []) × (said ≡ Ok e.reply)) → (Polls call es said → HasReply reply es → said ≡ Ok reply) → (e.reply ≡ reply) ⊎ HasReply reply es → said ≡ Ok reply
      polled true q m more (inl is) = absurd (true≢false (sym q ∙ ends_calm e.reply (same_ends e.reply reply is ends_)))
      polled true q m more (inr i) = more m i
      polled false q m more (inl is) = m.1 ∙ ap (λ (r : PartReply). Ok r) is
      polled false q m more (inr i) = absurd (never_in reply es m.0 i)

  asked_last : (first : PartReply) (es : List PartEntry) (said : Said) → AfterAsk first es said → (first ≡ reply) ⊎ HasReply reply es → said ≡ Ok reply
  asked_last (replies.Waits call place) es said h (inl is) = absurd (same_ends (replies.Waits call place) reply is ends_)
  asked_last (replies.Waits call place) es said h (inr i) = polls_last call es said h i
  asked_last first es said h (inl is) = h.1 ∙ ap (λ (r : PartReply). Ok r) is
  asked_last first es said h (inr i) = absurd (never_in reply es h.0 i)

  begins_last : (key : ActorKey) (chain : Option (List ℕ)) (least : Option ℕ) (now : ℕ) (es : List PartEntry) (said : Said) → Begins key chain least now es said → HasReply reply es → said ≡ Ok reply
  begins_last key chain least now [] said h i = absurd i
  begins_last key chain least now (e ∷ es) said h i = asked_last e.reply es said h.1 i

  makes_last : (event : PartEvent) (es : List PartEntry) (said : Said) → MakesOne event es said → HasReply reply es → said ≡ Ok reply
  makes_last event [] said h i = absurd i
  makes_last event (e ∷ []) said h (inl is) = h.1 ∙ ap (λ (r : PartReply). Ok r) is
  makes_last event (e ∷ []) said h (inr i) = absurd i
  makes_last event (e ∷ f ∷ es) said h i = absurd h

  -- ---- a turn

  said_part : (said : Said) → said ≡ Ok reply → IsPartEnd (said_end said)
  said_part said e = subst (λ (s : Said). IsPartEnd (said_end s)) (sym e) (part_end reply ends_)

  module _ (app : Address) (e : DueEntry) where
    front_part : (said : Said) (first last : ℕ) (es : List PartEntry) (xs : List Exchange) (turned : Turned) → Follows app e said first last es xs turned → said ≡ Ok reply → IsPartEnd (turned_end turned)
    front_part (Ok (replies.Begun call chain)) first last es xs turned h q = absurd (same_ends (replies.Begun call chain) reply (let z : replies.Begun call chain ≡ reply = cc in z) ends_)
    front_part (Ok r) first last es xs turned h q = subst (λ (t : Turned). IsPartEnd (turned_end t)) (sym h.1) (said_part (Ok r) q)
    front_part (Err spent) first last es xs turned h q = absurd (let z : ⊥ = cc in z)

    back_part : (said : Said) (first last : ℕ) (es : List PartEntry) (xs : List Exchange) (turned : Turned) → Follows app e said first last es xs turned → HasReply reply es → IsPartEnd (turned_end turned)
    back_part (Ok (replies.Begun call chain)) first last es xs turned h i =
        subst (λ (t : Turned). IsPartEnd (turned_end t)) (sym h.3) (first_part (said_end h.1) (app_end h.0) (said_part h.1 (makes_last _ es h.1 h.2.ends i)))
    back_part (Ok r) first last es xs turned h i = absurd (never_in reply es h.0.entries i)
    back_part (Err spent) first last es xs turned h i = absurd (never_in reply es h.0.entries i)

  -- ---- a report

  module _ (node : SidecarNode) (store : Address) (key : DueKey) (turned : Turned) where
    draw_part : (said : Said) (xs : List Exchange) (reported : Reported) → AfterDraw node store key said xs reported → HasReply reply (one_entry Draw said) → IsPartEnd (run_end turned (Some reported))
    draw_part (Ok (replies.Drawn n)) xs reported h (inl is) = absurd (same_ends (replies.Drawn n) reply is ends_)
    draw_part (Ok (replies.Drawn n)) xs reported h (inr i) = absurd i
    draw_part (Ok r) xs reported h (inl is) = subst (λ (q : Reported). IsPartEnd (run_end turned (Some q))) (sym h.1) (undrawn_part (Ok r))
    draw_part (Ok r) xs reported h (inr i) = absurd i
    draw_part (Err spent) xs reported h i = absurd i

    report_part : (es : List PartEntry) (xs : List Exchange) (reported : Option Reported) → Reports node store key turned es xs reported → HasReply reply es → IsPartEnd (run_end turned reported)
    report_part es xs None h i = absurd (never_in reply es h.1 i)
    report_part es xs (Some reported) h i = draw_part h.1.said xs reported h.1.follows (subst (λ (ys : List PartEntry). HasReply reply ys) h.1.draws i)

-- ---- all of them

some_part : (x : Option TickEnd) (rs : List Run) (last_end : Option TickEnd) (Here More : Type 0) → GoOn x rs last_end Here More → IsPartEnd x → IsPartEnd last_end
some_part (Some end) rs last_end Here More h p = subst (λ (o : Option TickEnd). IsPartEnd o) (sym h.1) p
some_part None rs last_end Here More h p = absurd p

none_replied : (reply : PartReply) (rs : List Run) → rs ≡ [] → RunsReplied reply rs → ⊥
none_replied reply rs e h = subst (λ (l : List Run). RunsReplied reply l) e h

later_part : (reply : PartReply) (x : Option TickEnd) (rs : List Run) (last_end : Option TickEnd) (Here More : Type 0) → GoOn x rs last_end Here More → RunsReplied reply rs → (More → IsPartEnd last_end) → IsPartEnd last_end
later_part reply (Some end) rs last_end Here More h i f = absurd (none_replied reply rs h.0 i)
later_part reply None rs last_end Here More h i f = f h

stand_part : (place : Option DueKey) (last_end : Option TickEnd) (next : Stand) → next ≡ stand_after place last_end → IsPartEnd last_end → (end : TickEnd) × (next ≡ Over end) × IsPartEnd (Some end)
stand_part place (Some end) next e p = (end, e, p)
stand_part place None next e p = absurd p

module _ (node : SidecarNode) (app store : Address) (reply : PartReply) (ends_ : EndsCall reply) where
  run_part : (r : Run) → IsRun node app store r → HasReply reply (r.turn ++ r.drawn) → IsPartEnd (end_of r)
  run_part r h i = elim (has_split reply r.turn r.drawn i) [
    | inl a ↦ early_part r.turned r.reported (turn_part (has_split reply h.turn.front h.turn.back (subst (λ (xs : List PartEntry). HasReply reply xs) h.turn.entries a)))
    | inr b ↦ report_part reply ends_ node store r.entry.key r.turned r.drawn r.told r.reported h.report b
  ]
    where
      turn_part : HasReply reply h.turn.front ⊎ HasReply reply h.turn.back → IsPartEnd (turned_end r.turned)
      turn_part (inl a) = front_part reply ends_ app r.entry h.turn.said h.turn.middle r.last h.turn.back r.called r.turned h.turn.follows (begins_last reply ends_ r.entry.key.actor None None h.turn.middle h.turn.front h.turn.said h.turn.begins a)
      turn_part (inr b) = back_part reply ends_ app r.entry h.turn.said h.turn.middle r.last h.turn.back r.called r.turned h.turn.follows b

  runs_part : (first : ℕ) (es : List DueEntry) (rs : List Run) (last : ℕ) (last_end : Option TickEnd) → RunsEach node app store first es rs last last_end → RunsReplied reply rs → IsPartEnd last_end
  runs_part first [] [] last last_end h i = absurd i
  runs_part first [] (r ∷ rs) last last_end h i = absurd h
  runs_part first (e ∷ es) [] last last_end h i = absurd h
  runs_part first (e ∷ es) (r ∷ rs) last last_end h (inl a) = some_part (end_of r) rs last_end (last ≡ r.last) (RunsEach node app store r.last es rs last last_end) h.3 (run_part r h.2 a)
  runs_part first (e ∷ es) (r ∷ rs) last last_end h (inr b) =
      later_part reply (end_of r) rs last_end (last ≡ r.last) (RunsEach node app store r.last es rs last last_end) h.3 b (λ m. runs_part r.last es rs last last_end m b)

  due_part : (first : ℕ) (o : Result (List DueEntry) TickEnd) (runs : List Run) (last : ℕ) (next : Stand) → AfterDue node app store first o runs last next → RunsReplied reply runs → (end : TickEnd) × (next ≡ Over end) × IsPartEnd (Some end)
  due_part first (Ok es) runs last next h i = stand_part (last_key es) h.0 next h.2 (runs_part first es runs last h.0 h.1 i)
  due_part first (Err end) runs last next h i = absurd (none_replied reply runs h.0 i)

  over_part : (first : ℕ) (end : TickEnd) (ps : List Page) (last : ℕ) (stop : Option TickEnd) → GoesOn node app store first (Over end) ps last stop → IsPartEnd (Some end) → IsPartEnd stop
  over_part first end [] last stop g p = subst (λ (o : Option TickEnd). IsPartEnd o) (sym g.1) p
  over_part first end (q ∷ ps) last stop g p = absurd g

  pub pages_part : (first : ℕ) (stand : Stand) (ps : List Page) (last : ℕ) (stop : Option TickEnd) → GoesOn node app store first stand ps last stop → PagesReplied reply ps → IsPartEnd stop
  pages_part first stand [] last stop g i = absurd i
  pages_part first (On place) (p ∷ ps) last stop g (inl a) =
      let d = due_part first (page_of p.got) p.runs p.last p.next g.1.follows a in
      over_part p.last d.0 ps last stop (subst (λ (s : Stand). GoesOn node app store p.last s ps last stop) d.1 g.2) d.2
  pages_part first (On place) (p ∷ ps) last stop g (inr b) = pages_part p.last p.next ps last stop g.2 b
  pages_part first Last (p ∷ ps) last stop g i = absurd g
  pages_part first (Over end) (p ∷ ps) last stop g i = absurd g
