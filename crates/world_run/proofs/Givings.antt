-- What the code of a world does is what happens in the model.
use Rattle.std.proofs.Common.{◌≡◌, ◌≢◌, ℕ, ◌<◌, ◌+◌, ◌-◌, Bool, true, false, cond, List, [], ◌∷◌, ◌++◌, length, set, refl, sym, ap, ◌∙◌, subst, inl, inr, arith}
use Rattle.std.specs.Prelude.{zero, suc, ◌==◌, slice_get, Option, None, Some, Result, Ok, Err}
use Rattle.std.proofs.lemmas.Bool.{true≢false, eq-eqb}
use Rattle.actor_names.specs.declared.member.Member.{Member}
use Rattle.actor_names.specs.declared.actor_key.ActorKey.{ActorKey}
use Rattle.part_model.specs.declared.event.PartEvent.{PartEvent}
use Rattle.part_model.specs.declared.event.PartEvent.TheVariants as events_of
use Rattle.part_model.specs.Receipts.{PartReply}
use Rattle.part_model.specs.Part.{PartState, PartStep, part_step, ring_owner}
use Rattle.world_events.specs.declared.settings.WorldSettings.{WorldSettings}
use Rattle.world_events.specs.declared.outcome.Outcome.{Outcome}
use Rattle.world_events.specs.declared.outcome.Outcome.TheVariants as out
use Rattle.world_events.specs.declared.outcome.TurnOutcome.TheVariants as turn
use Rattle.world_events.specs.declared.error.WorldError.{WorldError}
use Rattle.world_events.specs.declared.error.WorldError.TheVariants as refused
use Rattle.cluster_model.specs.World as world
use Rattle.cluster_model.specs.World.{ClusterState, WorldStep, CallPlace, key_part, tagged, place_of_part, key_place_of, nothing, part_does, step_of_part}
use Rattle.cluster_parts.specs.CallIndex.{CallsView}
use Rattle.cluster_model.specs.Messages.{Answer, LockAt, UpdateTo, UnlockAt, Says, Message, Asks, Tells, told_event}
use Rattle.world_run.specs.declared.kept.Told.{Told}
use Rattle.cluster_parts.specs.Layout.{IsFirst, counted_from}
use Rattle.world_run.specs.Post.{PostView, numbered, told_of}
use Rattle.cluster_parts.specs.Views.{PartsView, more, stepped, MayWant, wants, StepsAt}
use Rattle.cluster_model.specs.Counts.{begun_turns, over_turns}
use Rattle.world_run.specs.Worlds.{WorldView, cluster_of, after, Gives, Ticks, viewed}
use Rattle.cluster_parts.proofs.Steps.{part_at}
use Rattle.cluster_parts.proofs.Scans.{booted-first, places-first}
use Rattle.world_run.proofs.Unmarked.{begun-tagged, ended-tagged, begun-append, ended-append, more-more, marked, adds, ticks_marked}

-- ---- nothing changes

-- what the event names doesn't exist
pub gives_nothing : (v : WorldView) → Gives (Ok (out.Turn turn.NotThere)) v v (nothing (cluster_of v))
gives_nothing v = inr (refl, refl)

-- out of memory
pub gives_want : (v : WorldView) (s : WorldStep) → Gives (Err refused.OutOfMemory) v v s
gives_want v s = inl (refl, refl)

-- one of two steps, by a test
pub gives_true : (b : Bool) (r : Result Outcome WorldError) (v u : WorldView) (s t : WorldStep) → b ≡ true → Gives r v u s → Gives r v u (cond b s t)
gives_true b r v u s t e g = subst (λ (z : Bool). Gives r v u (cond z s t)) (sym e) g

pub gives_false : (b : Bool) (r : Result Outcome WorldError) (v u : WorldView) (s t : WorldStep) → b ≡ false → Gives r v u t → Gives r v u (cond b s t)
gives_false b r v u s t e g = subst (λ (z : Bool). Gives r v u (cond z s t)) (sym e) g

-- ---- a part takes a step

module _ (settings : WorldSettings) (post : PostView) (calls : CallsView) (moment events : ℕ) where
  abbrev pub view : PartsView → WorldView
  view pv = viewed settings post pv calls moment events

  -- the view after a step of a part
  pub step_view : (pv : PartsView) (n : ℕ) (p : PartState) (s : PartStep) → view (stepped pv n s) ≡ after (view pv) (world.with_step ring_owner key_part (cluster_of (view pv)) n p s)
  step_view pv n p s = λ i. record (view (stepped pv n s)) { begun = more pv.begun (sym (begun-tagged p.member s.marks) i); ended = more pv.ended (sym (ended-tagged p.member s.marks) i) }

  pub step_gives : (pv new : PartsView) (n : ℕ) (e : PartEvent) (says : PartReply → Outcome) (reply : PartReply) (r : Result Outcome WorldError) → StepsAt e reply n pv new → n < length pv.parts →
      (MayWant e → wants reply ≡ false) → r ≡ Ok (says reply) → Gives r (view pv) (view new) (step_of_part ring_owner key_part (cluster_of (view pv)) n e says (slice_get pv.parts n))
  step_gives pv new n e says reply r steps l some told =
      let h = part_at pv.parts n l in
      subst (λ (o : Option PartState). Gives r (view pv) (view new) (step_of_part ring_owner key_part (cluster_of (view pv)) n e says o)) (sym h.1)
      (elim (steps h.0 h.1) [
        | inl k ↦ absurd (true≢false (sym k.1 ∙ some k.0))
        | inr k ↦ inr (told ∙ ap (λ (z : PartReply). let q : Result Outcome WorldError = Ok (says z) in q) k.1, ap view k.2 ∙ step_view pv n h.0 (part_step ring_owner h.0 e))
      ])

  -- the part ran out of memory
  pub step_wants : (pv new : PartsView) (n : ℕ) (e : PartEvent) (reply : PartReply) → StepsAt e reply n pv new → n < length pv.parts → MayWant e → wants reply ≡ true → (s : WorldStep) → Gives (Err refused.OutOfMemory) (view pv) (view new) s
  step_wants pv new n e reply steps l may w s =
      let h = part_at pv.parts n l in
      elim (steps h.0 h.1) [ inl k ↦ inl (refl, ap view k.2) | inr k ↦ absurd (true≢false (sym w ∙ k.0 may)) ]

  abbrev pub Does : PartsView → PartsView → Option ℕ → PartEvent → (ℕ → PartReply → Outcome) → Result Outcome WorldError → Type 0
  Does pv new o e says r = Gives r (view pv) (view new) (part_does ring_owner key_part (cluster_of (view pv)) o e says)

  pub does_gives : (pv new : PartsView) (o : Option ℕ) (n : ℕ) (e : PartEvent) (says : ℕ → PartReply → Outcome) (reply : PartReply) (r : Result Outcome WorldError) → Some n ≡ o → StepsAt e reply n pv new → n < length pv.parts →
      (MayWant e → wants reply ≡ false) → r ≡ Ok (says n reply) → Does pv new o e says r
  does_gives pv new o n e says reply r at steps l some told = subst (λ (z : Option ℕ). Does pv new z e says r) at (step_gives pv new n e (says n) reply r steps l some told)

  pub does_nothing : (pv : PartsView) (o : Option ℕ) (e : PartEvent) (says : ℕ → PartReply → Outcome) → None ≡ o → Does pv pv o e says (Ok (out.Turn turn.NotThere))
  does_nothing pv o e says none = subst (λ (z : Option ℕ). Does pv pv z e says (Ok (out.Turn turn.NotThere))) none (gives_nothing (view pv))

-- the place of a member's part of an actor
pub key_at : (pv : PartsView) (settings : WorldSettings) (m : Member) (key : ActorKey) (o : Option ℕ) → pv.per ≡ settings.parts → o ≡ place_of_part pv.parts m (key_part key pv.per) → o ≡ place_of_part pv.parts m (key_part key settings.parts)
key_at pv settings m key o per e = e ∙ ap (λ (n : ℕ). place_of_part pv.parts m (key_part key n)) per

-- ---- calls

module _ (settings : WorldSettings) (post : PostView) (moment events : ℕ) where
  pub call_gives : (pv new : PartsView) (cv next : CallsView) (number : ℕ) (o : Option ℕ) (n : ℕ) (e : PartEvent) (reply : PartReply) (r : Result Outcome WorldError) (other : WorldStep) → number ≡ suc (length cv.calls) → Some n ≡ o →
      StepsAt e reply n pv new → n < length pv.parts → wants reply ≡ false → next.calls ≡ cv.calls ++ world.place_of_call n reply ∷ [] → r ≡ Ok (world.call_outcome number reply) →
      Gives r (viewed settings post pv cv moment events) (viewed settings post new next moment events)
      (cond (number == suc (length cv.calls)) (world.call_at_place ring_owner key_part (cluster_of (viewed settings post pv cv moment events)) number e o) other)
  call_gives pv new cv next number o n e reply r other number_is at steps l some calls told =
      let v = viewed settings post pv cv moment events in
      let u = viewed settings post new next moment events in
      let h = part_at pv.parts n l in
      gives_true (number == suc (length cv.calls)) r v u (world.call_at_place ring_owner key_part (cluster_of v) number e o) other (eq-eqb number (suc (length cv.calls)) number_is)
      (subst (λ (z : Option ℕ). Gives r v u (world.call_at_place ring_owner key_part (cluster_of v) number e z)) at
      (subst (λ (z : Option PartState). Gives r v u (world.call_of_part ring_owner key_part (cluster_of v) number n e z)) (sym h.1)
      (elim (steps h.0 h.1) [
        | inl k ↦ absurd (true≢false (sym k.1 ∙ some))
        | inr k ↦
            let s : PartStep = part_step ring_owner h.0 e in
            inr (
              told ∙ ap (λ (z : PartReply). let q : Result Outcome WorldError = Ok (world.call_outcome number z) in q) k.1,
              (λ i. record (viewed settings post (k.2 i) cv moment events) { calls = (calls ∙ ap (λ (z : PartReply). cv.calls ++ world.place_of_call n z ∷ []) k.1) i })
                  ∙ (λ i. record (viewed settings post (stepped pv n s) cv moment events) {
                    calls = cv.calls ++ world.place_of_call n s.reply ∷ [];
                    begun = more pv.begun (sym (begun-tagged h.0.member s.marks) i);
                    ended = more pv.ended (sym (ended-tagged h.0.member s.marks) i);
                  }),
            )
      ])))

  -- a call for which the part ran out of memory
  pub call_wants : (pv new : PartsView) (cv next : CallsView) (n : ℕ) (e : PartEvent) (reply : PartReply) (s : WorldStep) → StepsAt e reply n pv new → n < length pv.parts → MayWant e → wants reply ≡ true → next.calls ≡ cv.calls →
      Gives (Err refused.OutOfMemory) (viewed settings post pv cv moment events) (viewed settings post new next moment events) s
  call_wants pv new cv next n e reply s steps l may w same =
      let h = part_at pv.parts n l in
      elim (steps h.0 h.1) [
        | inl k ↦ inl (refl, (λ i. record (viewed settings post (k.2 i) cv moment events) { calls = same i }))
        | inr k ↦ absurd (true≢false (sym w ∙ k.0 may))
      ]

  pub end_gives : (pv new : PartsView) (cv : CallsView) (number : ℕ) (c : CallPlace) (reply : PartReply) (r : Result Outcome WorldError) → world.call_at cv.calls number ≡ Some c → StepsAt (events_of.End c.call moment) reply c.place pv new → c.place < length pv.parts →
      r ≡ Ok (world.end_outcome cv.calls number c.place reply) →
      Gives r (viewed settings post pv cv moment events) (viewed settings post new cv moment events) (world.end_call ring_owner key_part (cluster_of (viewed settings post pv cv moment events)) number (world.call_at cv.calls number))
  end_gives pv new cv number c reply r at steps l told =
      let v = viewed settings post pv cv moment events in
      subst (λ (o : Option CallPlace). Gives r v (viewed settings post new cv moment events) (world.end_call ring_owner key_part (cluster_of v) number o)) (sym at)
      (step_gives settings post cv moment events pv new c.place (events_of.End c.call moment) (world.end_outcome cv.calls number c.place) reply r steps l (λ m. absurd m) told)

  pub poll_gives : (pv new : PartsView) (cv : CallsView) (number : ℕ) (c : CallPlace) (reply : PartReply) (r : Result Outcome WorldError) → world.call_at cv.calls number ≡ Some c → StepsAt (events_of.Poll c.call) reply c.place pv new → c.place < length pv.parts →
      wants reply ≡ false → r ≡ Ok (world.call_outcome number reply) →
      Gives r (viewed settings post pv cv moment events) (viewed settings post new cv moment events) (world.poll_call ring_owner key_part (cluster_of (viewed settings post pv cv moment events)) number (world.call_at cv.calls number))
  poll_gives pv new cv number c reply r at steps l some told =
      let v = viewed settings post pv cv moment events in
      subst (λ (o : Option CallPlace). Gives r v (viewed settings post new cv moment events) (world.poll_call ring_owner key_part (cluster_of v) number o)) (sym at)
      (step_gives settings post cv moment events pv new c.place (events_of.Poll c.call) (world.call_outcome number) reply r steps l (λ _. some) told)

-- ---- deliveries to parts

pub message_is : (v : WorldView) (k : ℕ) → world.message_at (cluster_of v) k ≡ numbered v.messages k
message_is v zero = refl
message_is v (suc k) = refl

record Telling (x : Option Message) (now : ℕ) (t : Told) : Type 0 where
  member : Member
  answer : Answer
  is : x ≡ Some (Tells member answer)
  told : record { member = member; event = told_event answer now } ≡ t

telling : (x : Option Message) (now : ℕ) (t : Told) → told_of x now ≡ Some t → Telling x now t
telling None now t e = absurd (cc)
telling (Some (Asks r)) now t e = absurd (cc)
telling (Some (Tells m a)) now t e = record { member = m; answer = a; is = refl; told = some_same _ t e }
  where
    some_same : (a b : Told) → Some a ≡ Some b → a ≡ b
    some_same a b e = cc

told_wants : (a : Answer) (now : ℕ) (e : PartEvent) → told_event a now ≡ Some e → MayWant e → ⊥
told_wants (LockAt v) now e f m = subst MayWant (sym (some_same (events_of.Lock v) e f)) m
  where
    some_same : (a b : PartEvent) → Some a ≡ Some b → a ≡ b
    some_same a b e = cc
told_wants (UpdateTo t) now e f m = subst MayWant (sym (some_same (events_of.Update t now) e f)) m
  where
    some_same : (a b : PartEvent) → Some a ≡ Some b → a ≡ b
    some_same a b e = cc
told_wants (UnlockAt v) now e f m = subst MayWant (sym (some_same (events_of.Unlock v) e f)) m
  where
    some_same : (a b : PartEvent) → Some a ≡ Some b → a ≡ b
    some_same a b e = cc
told_wants (Says r) now e f m = absurd (cc)

pub part_gives : (settings : WorldSettings) (post : PostView) (cv : CallsView) (moment events : ℕ) (pv new : PartsView) (k i : ℕ) (t : Told) (n : ℕ) (e : PartEvent) (reply : PartReply) (r : Result Outcome WorldError) →
    told_of (numbered post.messages k) moment ≡ Some t → t.event ≡ Some e → Some n ≡ place_of_part pv.parts t.member i → StepsAt e reply n pv new → n < length pv.parts → r ≡ Ok (world.told_outcome reply) →
    Gives r (viewed settings post pv cv moment events) (viewed settings post new cv moment events)
    (world.to_part ring_owner key_part (cluster_of (viewed settings post pv cv moment events)) i (world.message_at (cluster_of (viewed settings post pv cv moment events)) k))
part_gives settings post cv moment events pv new k i t n e reply r told event at steps l says =
    let v = viewed settings post pv cv moment events in
    let u = viewed settings post new cv moment events in
    let h = telling (numbered post.messages k) moment t told in
    let event_is : told_event h.answer moment ≡ Some e = ap (λ (z : Told). z.event) h.told ∙ event in
    let place_is : Some n ≡ place_of_part pv.parts h.member i = at ∙ ap (λ (z : Told). place_of_part pv.parts z.member i) (sym h.told) in
    subst (λ (x : Option Message). Gives r v u (world.to_part ring_owner key_part (cluster_of v) i x)) (sym (message_is v k ∙ h.is))
    (subst (λ (o : Option ℕ). Gives r v u (world.tell_part ring_owner key_part (cluster_of v) h.answer o)) place_is
    (subst (λ (o : Option PartEvent). Gives r v u (world.told_part ring_owner key_part (cluster_of v) n o (slice_get pv.parts n))) (sym event_is)
    (step_gives settings post cv moment events pv new n e world.told_outcome reply r steps l (λ m. absurd (told_wants h.answer moment e event_is m)) says)))

-- ---- time

counted-next : (at count : ℕ) → count ≢ 0 → counted_from at count ≡ at ∷ counted_from (at + 1) (count - 1)
counted-next at zero some = absurd (some refl)
counted-next at (suc n) some =
    let next : suc at ≡ at + 1 = omega arith in
    let less : n ≡ suc n - 1 = omega arith in
    (λ i. at ∷ counted_from (next i) (less i))

ok_want : (o : Outcome) → ◌≡◌ {A = Result Outcome WorldError} (Ok o) (Err refused.OutOfMemory) → ⊥
ok_want o e = cc

-- one part takes a Tick, and the others after it
pub tick_gives : (settings : WorldSettings) (post : PostView) (cv : CallsView) (moment events : ℕ) (pv new : PartsView) (at count turns result : ℕ) (reply : PartReply) (final : WorldView) → count ≢ 0 →
    StepsAt (events_of.Tick moment) reply at pv new → at < length pv.parts → Ticks result (viewed settings post new cv moment events) final (at + 1) (count - 1) (turns + world.ended_turns reply) →
    Ticks result (viewed settings post pv cv moment events) final at count turns
tick_gives settings post cv moment events pv new at count turns result reply final some steps l more_ticks =
    let v = viewed settings post pv cv moment events in
    let ns = counted_from (at + 1) (count - 1) in
    let h = part_at pv.parts at l in
    let s : PartStep = part_step ring_owner h.0 (events_of.Tick moment) in
    let xs = tagged h.0.member s.marks in
    let next : ClusterState = record (cluster_of v) { parts = set pv.parts at s.part } in
    let t = turns + world.ended_turns s.reply in
    let end = world.tick_each ring_owner key_part (marked next []) ns t in
    subst (λ (zs : List ℕ). Gives (Ok (out.TickEnded result)) v final (world.tick_each ring_owner key_part (cluster_of v) zs turns)) (sym (counted-next at count some))
    (elim (steps h.0 h.1) [
      | inl k ↦ absurd k.0
      | inr k ↦
          let same : Ticks result (viewed settings post (stepped pv at s) cv moment events) final (at + 1) (count - 1) t =
          subst (λ (z : PartReply). Ticks result (viewed settings post (stepped pv at s) cv moment events) final (at + 1) (count - 1) (turns + world.ended_turns z)) k.1
          (subst (λ (z : PartsView). Ticks result (viewed settings post z cv moment events) final (at + 1) (count - 1) (turns + world.ended_turns reply)) k.2 more_ticks) in
          let whole : world.tick_each ring_owner key_part (cluster_of v) (at ∷ ns) turns ≡ adds xs end =
          ap (λ (o : Option PartState). let p = world.step_of_part ring_owner key_part (cluster_of v) at (events_of.Tick moment) (λ z. out.TickEnded (world.ended_turns z)) o in
          world.tick_each ring_owner key_part p.world ns (turns + world.turns_ended ring_owner key_part p.outcome)) h.1 ∙ ticks_marked xs next ns t in
          subst (λ (z : WorldStep). Gives (Ok (out.TickEnded result)) v final z) (sym whole)
          (elim same [
            | inl w ↦ absurd (ok_want (out.TickEnded result) w.0)
            | inr w ↦ inr (
              w.0,
              w.1 ∙ (λ i. record (after v end.world) {
                begun = (ap (λ (n : ℕ). more (more pv.begun n) (begun_turns end.world.marks)) (sym (begun-tagged h.0.member s.marks)) ∙ more-more pv.begun (begun_turns xs) (begun_turns end.world.marks) ∙ ap (λ (n : ℕ). more pv.begun n) (sym (begun-append xs end.world.marks))) i;
                ended = (ap (λ (n : ℕ). more (more pv.ended n) (over_turns end.world.marks)) (sym (ended-tagged h.0.member s.marks)) ∙ more-more pv.ended (over_turns xs) (over_turns end.world.marks) ∙ ap (λ (n : ℕ). more pv.ended n) (sym (ended-append xs end.world.marks))) i;
              }),
            )
          ])
    ])

pub tick_each_gives : (v final : WorldView) (m : Member) (first per result : ℕ) → IsFirst v.parts m per first → Ticks result v final first per 0 →
    Gives (Ok (out.TickEnded result)) v final (cond (world.was_booted v.parts m) (world.tick_each ring_owner key_part (cluster_of v) (world.places_of v.parts m 0) 0) (nothing (cluster_of v)))
tick_each_gives v final m first per result f ticks =
    gives_true (world.was_booted v.parts m) (Ok (out.TickEnded result)) v final _ (nothing (cluster_of v)) (booted-first v.parts m per first f)
    (subst (λ (ns : List ℕ). Gives (Ok (out.TickEnded result)) v final (world.tick_each ring_owner key_part (cluster_of v) ns 0)) (sym (places-first v.parts m per first f)) ticks)
