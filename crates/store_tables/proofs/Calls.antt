-- Commands one after another: what they leave, and that no stamp is accepted twice.
use Rattle.std.proofs.Common.{◌≡◌, ℕ, List, [], ◌∷◌, ◌++◌, Option, Some, None, Result, Ok, Err, is_some, true, refl, sym, ap, subst, ◌∙◌}
use Rattle.actor_names.specs.declared.member.Member.{Member}
use Rattle.schedule_text.specs.declared.advance.Next.{Next}
use Rattle.reminder_rows.specs.declared.error.FiredError.{FiredError}
use Rattle.reminder_rows.specs.Reminders.{row_at, without_row, put_row, fired_answer, fired_rows}
use Rattle.state_rows.specs.Checks.{ops_fault}
use Rattle.state_rows.specs.Entries.{after_ops}
use Rattle.stamp_lanes.specs.declared.answer.LaneAnswer.{LaneAnswer}
use Rattle.stamp_lanes.specs.declared.answer.LaneAnswer.TheVariants as lane_answers
use Rattle.stamp_lanes.specs.declared.answer.KeptNumber.{KeptNumber}
use Rattle.stamp_lanes.specs.declared.answer.StampLook.{StampLook}
use Rattle.stamp_lanes.specs.declared.answer.StampLook.TheVariants.{Fresh, Kept}
use Rattle.stamp_lanes.specs.declared.error.StampError.{StampError}
use Rattle.stamp_lanes.specs.declared.error.BootError.{BootError}
use Rattle.stamp_lanes.specs.declared.node.NodeLanes.{NodeLanes}
use Rattle.stamp_lanes.specs.Stamps.{look, after_accept, draw_fault}
use Rattle.stamp_lanes.specs.Runs.{LaneEvent, Draws, Accepts, MayRun, after_event, after_events}
use Rattle.frame_wire.specs.declared.store_command.StoreCommand.{StoreCommand}
use Rattle.frame_wire.specs.declared.store_command.StoreCommand.TheVariants.{Boot, Tx, Get, PutReminder, GetReminder, DeleteReminder, Due, Fired}
use Rattle.frame_wire.specs.declared.store_command.Stamp.{Stamp}
use Rattle.frame_wire.specs.declared.store_answer.StoreAnswer.{StoreAnswer}
use Rattle.store_tables.specs.Tables.{Tables, Outcome, Told, Accepted, told_or, kept_as, look_answer, stamp_answer, accepted, boot_answer, ops_answer, tx_outcome, by_fired, fired_outcome, put_outcome, delete_outcome, nanos_of, store_outcome}
use Rattle.store_tables.specs.Contents.{Timed, outcome_of, after_accepted}
use Rattle.store_tables.specs.Runs.{stamp_of, tables_after, after_calls, if_accepted, accepted_of, FoldsAccepted, AcceptsOnce, RepeatsAnswer}
use Rattle.store_tables.proofs.KeptAnswers.{look-accepted}

-- ---- the accepted commands

pub folds : FoldsAccepted
folds [] t = refl
folds (c ∷ cs) t = go (outcome_of t c) refl (λ u. folds cs u)
  where
    go : (o : Outcome) → outcome_of t c ≡ o → ((u : Tables) → after_accepted (accepted_of cs u) u ≡ Some (after_calls cs u)) → after_accepted (if_accepted o c (accepted_of cs (tables_after o t))) t ≡ Some (after_calls cs (tables_after o t))
    go (Told a) h ih = ih t
    go (Accepted a after) h ih = rw h (ih after)

-- ---- one outcome

told-none : (m : Option StoreAnswer) (o : Outcome) (a : StoreAnswer) (after : Tables) → told_or m o ≡ Accepted a after → (m ≡ None) × (o ≡ Accepted a after)
told-none None o a after h = (refl, h)
told-none (Some b) o a after h = absurd (cc)

pub look-fresh : (r : Result StampLook StampError) → look_answer r ≡ None → r ≡ Ok Fresh
look-fresh (Ok Fresh) h = refl
look-fresh (Ok (Kept a)) h = absurd (cc)
look-fresh (Err e) h = absurd (cc)

fired-next : (r : Result Next FiredError) (f : Next → Outcome) (a : StoreAnswer) (after : Tables) → by_fired r f ≡ Accepted a after → (next : Next) × (f next ≡ Accepted a after)
fired-next (Ok next) f a after h = (next, h)
fired-next (Err e) f a after h = absurd (cc)

-- ---- an accepted stamp

-- a stamp was fresh, and its lane keeps the answer
record Joins (s : Stamp) (t : Tables) (answer : StoreAnswer) (after : Tables) : Type 0 where
  kept : LaneAnswer
  fresh : look s.member s.part s.number t.nodes ≡ Ok Fresh
  nodes : after.nodes ≡ after_accept s.member s.part (record { number = s.number; answer = kept }) t.nodes
  told : answer ≡ kept_as kept

answer_in : Outcome → StoreAnswer
answer_in (Told a) = a
answer_in (Accepted a after) = a

-- an accepted command of these nodes
joins : (s : Stamp) (kept : LaneAnswer) (t u : Tables) (answer : StoreAnswer) (after : Tables) → u.nodes ≡ t.nodes → look s.member s.part s.number t.nodes ≡ Ok Fresh → accepted s kept u ≡ Accepted answer after → Joins s t answer after
unfolding answer_in
joins s kept t u answer after same fresh h = record {
  kept = kept;
  fresh = fresh;
  nodes = (let k = ap (λ (o : Outcome). (tables_after o u).nodes) h in sym k ∙ ap (λ (ns : List NodeLanes). after_accept s.member s.part (record { number = s.number; answer = kept }) ns) same);
  told = sym (ap answer_in h);
}

-- what joins a stamp's lane joins that of an equal stamp
same-stamp : (r s : Stamp) (t : Tables) (answer : StoreAnswer) (after : Tables) → r ≡ s → Joins r t answer after → Joins s t answer after
same-stamp r s t answer after e j = subst (λ (x : Stamp). Joins x t answer after) e j

stamped : (s : Stamp) (c : StoreCommand) (now : ℕ) (t : Tables) (answer : StoreAnswer) (after : Tables) → stamp_of c ≡ Some s → store_outcome t c now ≡ Accepted answer after → Joins s t answer after
unfolding store_outcome
stamped s (Boot space node) now t answer after h o = absurd (cc)
stamped s (Tx r actor ops) now t answer after h o =
    let p = told-none (stamp_answer r t) (tx_outcome r actor ops now t) answer after o in
    let done : LaneAnswer = lane_answers.Done true in
    let u : Tables = record t { rows = after_ops actor now ops t.rows } in
    let q = told-none (ops_answer (ops_fault ops)) (accepted r done u) answer after p.1 in
    same-stamp r s t answer after (cc) (joins r done t u answer after refl (look-fresh _ p.0) q.1)
stamped s (Get actor key) now t answer after h o = absurd (cc)
stamped s (PutReminder r actor name reminder) now t answer after h o =
    let p = told-none (stamp_answer r t) (put_outcome r actor name reminder t) answer after o in
    let done : LaneAnswer = lane_answers.Done true in
    let u : Tables = record t { reminders = put_row actor name reminder t.reminders } in
    same-stamp r s t answer after (cc) (joins r done t u answer after refl (look-fresh _ p.0) p.1)
stamped s (GetReminder actor name) now t answer after h o = absurd (cc)
stamped s (DeleteReminder r actor name) now t answer after h o =
    let p = told-none (stamp_answer r t) (delete_outcome r actor name t) answer after o in
    let done : LaneAnswer = lane_answers.Done (is_some (row_at actor name t.reminders)) in
    let u : Tables = record t { reminders = without_row actor name t.reminders } in
    same-stamp r s t answer after (cc) (joins r done t u answer after refl (look-fresh _ p.0) p.1)
stamped s (Due place limit) now t answer after h o = absurd (cc)
stamped s (Fired r actor name moment) now t answer after h o =
    let p = told-none (stamp_answer r t) (fired_outcome r actor name moment (nanos_of now) t) answer after o in
    let u : Tables = record t { reminders = fired_rows actor name (row_at actor name t.reminders) moment (nanos_of now) t.reminders } in
    let q = fired-next (fired_answer (row_at actor name t.reminders) moment (nanos_of now)) (λ next. accepted r (lane_answers.NextIs next) u) answer after p.1 in
    same-stamp r s t answer after (cc) (joins r (lane_answers.NextIs q.0) t u answer after refl (look-fresh _ p.0) q.1)

-- ---- what happens to the nodes

-- draws and acceptances that lead from the nodes of one store to those of another
record Leads (t u : Tables) : Type 0 where
  events : List LaneEvent
  may : MayRun events t.nodes
  nodes : u.nodes ≡ after_events events t.nodes

draw-none : (o : Option BootError) → boot_answer o ≡ None → o ≡ None
draw-none None h = refl
draw-none (Some e) h = absurd (cc)

leads-joins : (s : Stamp) (t : Tables) (answer : StoreAnswer) (after : Tables) → Joins s t answer after → Leads t after
leads-joins s t answer after j = record { events = Accepts s.member s.part s.number j.kept ∷ []; may = (j.fresh, tt); nodes = j.nodes }

leads-accepted : (c : StoreCommand) (now : ℕ) (t : Tables) (answer : StoreAnswer) (after : Tables) → store_outcome t c now ≡ Accepted answer after → Leads t after
unfolding store_outcome
leads-accepted (Boot space node) now t answer after o =
    let p = told-none (boot_answer (draw_fault space node t.nodes)) _ answer after o in
    let k = ap (λ (x : Outcome). (tables_after x t).nodes) p.1 in
    record { events = Draws space node ∷ []; may = (draw-none _ p.0, tt); nodes = sym k }
leads-accepted (Tx r actor ops) now t answer after o = leads-joins r t answer after (stamped r (Tx r actor ops) now t answer after refl o)
leads-accepted (Get actor key) now t answer after o = absurd (cc)
leads-accepted (PutReminder r actor name reminder) now t answer after o = leads-joins r t answer after (stamped r (PutReminder r actor name reminder) now t answer after refl o)
leads-accepted (GetReminder actor name) now t answer after o = absurd (cc)
leads-accepted (DeleteReminder r actor name) now t answer after o = leads-joins r t answer after (stamped r (DeleteReminder r actor name) now t answer after refl o)
leads-accepted (Due place limit) now t answer after o = absurd (cc)
leads-accepted (Fired r actor name moment) now t answer after o = leads-joins r t answer after (stamped r (Fired r actor name moment) now t answer after refl o)

leads-none : (t : Tables) → Leads t t
leads-none t = record { events = []; may = tt; nodes = refl }

leads-one : (t : Tables) (c : Timed) → Leads t (tables_after (outcome_of t c) t)
leads-one t c = go (outcome_of t c) refl
  where
    go : (o : Outcome) → outcome_of t c ≡ o → Leads t (tables_after o t)
    go (Told a) h = leads-none t
    go (Accepted a after) h = leads-accepted c.command c.now t a after h

run-append : (xs ys : List LaneEvent) (nodes : List NodeLanes) → MayRun xs nodes → MayRun ys (after_events xs nodes) → MayRun (xs ++ ys) nodes
run-append [] ys nodes r q = q
run-append (x ∷ xs) ys nodes r q = (r.0, run-append xs ys (after_event x nodes) r.1 q)

after_events-append : (xs ys : List LaneEvent) (nodes : List NodeLanes) → after_events (xs ++ ys) nodes ≡ after_events ys (after_events xs nodes)
after_events-append [] ys nodes = refl
after_events-append (x ∷ xs) ys nodes = after_events-append xs ys (after_event x nodes)

leads-then : (t u v : Tables) → Leads t u → Leads u v → Leads t v
leads-then t u v a b = record {
  events = a.events ++ b.events;
  may = run-append a.events b.events t.nodes a.may (subst (λ (ns : List NodeLanes). MayRun b.events ns) a.nodes b.may);
  nodes = b.nodes ∙ (ap (λ (ns : List NodeLanes). after_events b.events ns) a.nodes ∙ sym (after_events-append a.events b.events t.nodes));
}

leads-calls : (cs : List Timed) (t : Tables) → Leads t (after_calls cs t)
leads-calls [] t = leads-none t
leads-calls (c ∷ cs) t = let u = tables_after (outcome_of t c) t in leads-then t u (after_calls cs u) (leads-one t c) (leads-calls cs u)

-- ---- no stamp twice

after_calls-append : (cs ds : List Timed) (t : Tables) → after_calls (cs ++ ds) t ≡ after_calls ds (after_calls cs t)
after_calls-append [] ds t = refl
after_calls-append (c ∷ cs) ds t = after_calls-append cs ds (tables_after (outcome_of t c) t)

-- an accepted stamp is never fresh again
abbrev pub NeverFresh : Type 0
NeverFresh =
    (member : Member) (part number : ℕ) (answer : LaneAnswer) (later : List LaneEvent) (nodes : List NodeLanes)
    → MayRun (Accepts member part number answer ∷ later) nodes → look member part number (after_events (Accepts member part number answer ∷ later) nodes) ≡ Ok Fresh → ⊥

pub once : NeverFresh → AcceptsOnce
once never s c d before between t hc hd p q =
    let t1 = after_calls before t in
    let t2 = after_calls (before ++ c ∷ between) t in
    let j = stamped s c.command c.now t1 p.0 p.1 hc p.2 in
    let k = stamped s d.command d.now t2 q.0 q.1 hd q.2 in
    let l = leads-calls between p.1 in
    let same : t2 ≡ after_calls between p.1 = after_calls-append before (c ∷ between) t ∙ ap (λ (o : Outcome). after_calls between (tables_after o t1)) p.2 in
    let may : MayRun l.events (after_accept s.member s.part (record { number = s.number; answer = j.kept }) t1.nodes) = subst (λ (ns : List NodeLanes). MayRun l.events ns) j.nodes l.may in
    let nodes : t2.nodes ≡ after_events l.events (after_accept s.member s.part (record { number = s.number; answer = j.kept }) t1.nodes) = ap (λ (u : Tables). u.nodes) same ∙ (l.nodes ∙ ap (λ (ns : List NodeLanes). after_events l.events ns) j.nodes) in
    never s.member s.part s.number j.kept l.events t1.nodes (j.fresh, may) (ap (λ (ns : List NodeLanes). look s.member s.part s.number ns) (sym nodes) ∙ k.fresh)

-- ---- repeats

told-kept : (s : Stamp) (c : StoreCommand) (now : ℕ) (t : Tables) (answer : StoreAnswer) → stamp_of c ≡ Some s → stamp_answer s t ≡ Some answer → store_outcome t c now ≡ Told answer
unfolding store_outcome
told-kept s (Boot space node) now t answer h k = absurd (cc)
told-kept s (Tx r actor ops) now t answer h k = let e : r ≡ s = cc in ap (λ m. told_or m (tx_outcome r actor ops now t)) (ap (λ (x : Stamp). stamp_answer x t) e ∙ k)
told-kept s (Get actor key) now t answer h k = absurd (cc)
told-kept s (PutReminder r actor name reminder) now t answer h k = let e : r ≡ s = cc in ap (λ m. told_or m (put_outcome r actor name reminder t)) (ap (λ (x : Stamp). stamp_answer x t) e ∙ k)
told-kept s (GetReminder actor name) now t answer h k = absurd (cc)
told-kept s (DeleteReminder r actor name) now t answer h k = let e : r ≡ s = cc in ap (λ m. told_or m (delete_outcome r actor name t)) (ap (λ (x : Stamp). stamp_answer x t) e ∙ k)
told-kept s (Due place limit) now t answer h k = absurd (cc)
told-kept s (Fired r actor name moment) now t answer h k = let e : r ≡ s = cc in ap (λ m. told_or m (fired_outcome r actor name moment (nanos_of now) t)) (ap (λ (x : Stamp). stamp_answer x t) e ∙ k)

pub repeats : RepeatsAnswer
repeats s c d t after answer hc hd o =
    let j = stamped s c.command c.now t answer after hc o in
    let k : KeptNumber = record { number = s.number; answer = j.kept } in
    let there : look s.member s.part s.number after.nodes ≡ Ok (Kept j.kept) = ap (λ (ns : List NodeLanes). look s.member s.part s.number ns) j.nodes ∙ look-accepted s.member s.part k t.nodes j.fresh in
    told-kept s d.command d.now after answer hd (ap look_answer there ∙ ap (λ (a : StoreAnswer). Some a) (sym j.told))
