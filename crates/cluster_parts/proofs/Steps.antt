-- What a step of a part gives, in one form for all events.
use Rattle.std.proofs.Common.{◌≡◌, ◌⊎◌, ◌<◌, ◌+◌, ◌^◌, ℕ, Bool, true, false, List, [], ◌∷◌, length, set, refl, sym, ap, ◌∙◌, inl, inr, subst, arith}
use Rattle.std.specs.Prelude.{zero, suc, nat_lt, slice_get, Some}
use Rattle.std.proofs.lemmas.Bool.{cond-false, le-ltb}
use Rattle.part_model.specs.declared.event.PartEvent.{PartEvent}
use Rattle.part_model.specs.declared.event.PartEvent.TheVariants as events
use Rattle.part_model.specs.Receipts.{PartReply}
use Rattle.part_model.specs.declared.event.Reply.TheVariants as replies
use Rattle.part_model.specs.declared.stage.Stage.{Stage}
use Rattle.part_model.specs.declared.stage.Stage.TheVariants.{Locked, Updated, Open, Stopped}
use Rattle.part_model.specs.Marks.{PartMark, begun_calls, ended_calls}
use Rattle.part_model.specs.Part.{PartState, PartStep, refused, receipt_of, step_at, running_step, stopped_step, part_step, ring_owner}
use Rattle.part_model.specs.Receipts.{ReceiptState}
use Rattle.part_model.specs.Rooms.{PartView, Gives, GivesEnded, GivesInMemory, GivesStep}
use Rattle.cluster_parts.specs.declared.tally.Tally.{Tally}
use Rattle.cluster_parts.specs.Views.{PartsView, state_in, states_of, capped, more, began_in, ended_in, stepped, MayWant, wants, closes, is_ended, tally_of, told_calls, StepsPart, StepsAt}
use Rattle.turn_core.specs.CellSound.{In}
use Rattle.part_model.specs.Sound.{IsPartSound}
use Rattle.part_model.proofs.PartTables.{part_stepped}
use Rattle.cluster_model.proofs.Basics.{In-slice_get, In-set}
use Rattle.cluster_parts.specs.declared.home.Home.{Home}
use Rattle.cluster_parts.specs.Layout.{tags_of, AreLaidOut}
use Rattle.cluster_parts.proofs.Blocks.{tags-set}
use Rattle.cluster_parts.proofs.Counts.{step_tells}

-- an event that doesn't run out of memory reports the calls that began
by_gives : (event : PartEvent) (reply : PartReply) (old : PartState) (new : PartView) → (MayWant event → wants reply ≡ false) → ((ms : List PartMark) → begun_calls ms ≡ told_calls event ms) →
    Gives (part_step ring_owner old event) reply new → StepsPart event reply old new
by_gives event reply old new wants tells g = inr (wants, g.0, ap state_in g.1, ap (λ (v : PartView). v.recent) g.1 ∙ tells (part_step ring_owner old event).marks)

by_ended : (event : PartEvent) (reply : PartReply) (old : PartState) (new : PartView) → (MayWant event → wants reply ≡ false) → ((ms : List PartMark) → ended_calls ms ≡ told_calls event ms) →
    GivesEnded (part_step ring_owner old event) reply new → StepsPart event reply old new
by_ended event reply old new wants tells g = inr (wants, g.0, ap state_in g.1, ap (λ (v : PartView). v.recent) g.1 ∙ tells (part_step ring_owner old event).marks)

in_memory : (event : PartEvent) (reply : PartReply) (old : PartState) (new : PartView) → MayWant event → ((ms : List PartMark) → begun_calls ms ≡ told_calls event ms) →
    GivesInMemory (part_step ring_owner old event) reply old new → StepsPart event reply old new
in_memory event replies.OutOfMemory old new may tells g = inl (may, refl, ap state_in g.0, ap (λ (v : PartView). length v.recent) g.0)
in_memory event reply old new may tells g = by_gives event reply old new (λ _. refl) tells g

pub gives_part : (event : PartEvent) (reply : PartReply) (old : PartState) (new : PartView) → GivesStep event reply old new → StepsPart event reply old new
gives_part (events.Ask key chain now) reply old new g = in_memory (events.Ask key chain now) reply old new tt (λ _. refl) g
gives_part (events.AskAt key chain least now) reply old new g = in_memory (events.AskAt key chain least now) reply old new tt (λ _. refl) g
gives_part events.Draw reply old new g = by_gives events.Draw reply old new (λ m. absurd m) (λ _. refl) g
gives_part (events.Poll call) reply old new g = in_memory (events.Poll call) reply old new tt (λ _. refl) g
gives_part (events.End call now) reply old new g = by_gives (events.End call now) reply old new (λ m. absurd m) (λ _. refl) g
gives_part (events.Hold key) reply old new g = by_gives (events.Hold key) reply old new (λ m. absurd m) (λ _. refl) g
gives_part (events.Release key now) reply old new g = by_gives (events.Release key now) reply old new (λ m. absurd m) (λ _. refl) g
gives_part (events.Lock version) reply old new g = by_gives (events.Lock version) reply old new (λ m. absurd m) (λ _. refl) g
gives_part (events.Update table now) reply old new g = by_gives (events.Update table now) reply old new (λ m. absurd m) (λ _. refl) g
gives_part (events.Unlock version) reply old new g = by_gives (events.Unlock version) reply old new (λ m. absurd m) (λ _. refl) g
gives_part (events.Tick now) reply old new g = by_ended (events.Tick now) reply old new (λ m. absurd m) (λ _. refl) g
gives_part (events.TakeClosing now) reply old new g = in_memory (events.TakeClosing now) reply old new tt (λ _. refl) g
gives_part (events.Closed key) reply old new g = by_gives (events.Closed key) reply old new (λ m. absurd m) (λ _. refl) g
gives_part events.StopPart reply old new g = by_ended events.StopPart reply old new (λ m. absurd m) (λ _. refl) g

states-set : (vs : List PartView) (n : ℕ) (v : PartView) → states_of (set vs n v) ≡ set (states_of vs) n v.state
states-set [] n v = refl
states-set (u ∷ vs) zero v = refl
states-set (u ∷ vs) (suc n) v = ap (λ (ps : List PartState). u.state ∷ ps) (states-set vs n v)

set-same : (ps : List PartState) (n : ℕ) (p : PartState) → slice_get ps n ≡ Some p → set ps n p ≡ ps
set-same [] n p e = refl
set-same (q ∷ ps) zero p e = ap (λ (z : PartState). z ∷ ps) (first p q e)
  where
    first : (a b : PartState) → Some b ≡ Some a → a ≡ b
    first a b e = cc
set-same (q ∷ ps) (suc n) p e = ap (λ (zs : List PartState). q ∷ zs) (set-same ps n p e)

state_at : (vs : List PartView) (n : ℕ) (v : PartView) (p : PartState) → slice_get vs n ≡ Some v → slice_get (states_of vs) n ≡ Some p → v.state ≡ p
state_at [] n v p e f = absurd (cc)
state_at (u ∷ vs) zero v p e f = (let a : u ≡ v = cc in let b : u.state ≡ p = cc in ap state_in (sym a) ∙ b)
state_at (u ∷ vs) (suc n) v p e f = state_at vs n v p e f

wants_none : (e : PartEvent) (r : PartReply) (n : ℕ) → MayWant e → wants r ≡ true → n ≡ 0 → tally_of (closes e) (is_ended r) n ≡ record { began = 0; ended = 0 }
wants_none e r n may w z = ap (λ (b : Bool). tally_of b (is_ended r) n) (running e may) ∙ ap (λ (b : Bool). tally_of false b n) (other r w) ∙ ap (λ (k : ℕ). tally_of false false k) z
  where
    running : (e : PartEvent) → MayWant e → closes e ≡ false
    running (events.Ask key chain now) m = refl
    running (events.AskAt key chain least now) m = refl
    running (events.Poll call) m = refl
    running (events.TakeClosing now) m = refl
    running e m = absurd m

    other : (r : PartReply) → wants r ≡ true → is_ended r ≡ false
    other replies.OutOfMemory w = refl
    other r w = absurd (cc)

-- the parts, with one of them replaced and the turns of a tally added
abbrev pub written : PartsView → List PartState → Tally → PartsView
written v ps t = record v { parts = ps; begun = capped (v.begun + t.began); ended = capped (v.ended + t.ended) }

capped-more : (n k : ℕ) → n < 2 ^ 64 → capped (n + k) ≡ more n k
capped-more n zero l = omega arith
capped-more n (suc k) l = refl

-- the part at a place has taken a step
pub steps_at : (event : PartEvent) (reply : PartReply) (n : ℕ) (old : PartsView) (vs : List PartView) (v new : PartView) → old.parts ≡ states_of vs → old.begun < 2 ^ 64 → old.ended < 2 ^ 64 →
    slice_get vs n ≡ Some v → GivesStep event reply v.state new → StepsAt event reply n old (written old (states_of (set vs n new)) (tally_of (closes event) (is_ended reply) (length new.recent)))
steps_at event reply n old vs v new same b e at g p f =
    let s = gives_part event reply v.state new g in
    let one = state_at vs n v p at (ap (λ (z : List PartState). slice_get z n) (sym same) ∙ f) in
    elim s [
      | inl h ↦
          let parts : states_of (set vs n new) ≡ old.parts = states-set vs n new ∙ ap (λ (z : PartState). set (states_of vs) n z) (h.2 ∙ one) ∙ set-same (states_of vs) n p (ap (λ (z : List PartState). slice_get z n) (sym same) ∙ f) ∙ sym same in
          let none = wants_none event reply (length new.recent) h.0 h.1 h.3 in
          inl (h.0, h.1, (ap (λ (t : Tally). written old (states_of (set vs n new)) t) none ∙ (λ i. record old { parts = parts i; begun = capped-more old.begun 0 b i; ended = capped-more old.ended 0 e i })))
      | inr h ↦
          let step : PartStep = part_step ring_owner p event in
          let parts : states_of (set vs n new) ≡ set old.parts n step.part =
          states-set vs n new ∙ ap (λ (z : PartState). set (states_of vs) n z) (h.2 ∙ ap (λ (z : PartState). (part_step ring_owner z event).part) one) ∙ ap (λ (z : List PartState). set z n step.part) (sym same) in
          let reply_is : reply ≡ step.reply = h.1 ∙ ap (λ (z : PartState). (part_step ring_owner z event).reply) one in
          let recent : new.recent ≡ told_calls event step.marks = h.3 ∙ ap (λ (z : PartState). told_calls event (part_step ring_owner z event).marks) one in
          let tally : tally_of (closes event) (is_ended reply) (length new.recent) ≡ record { began = began_in step.marks; ended = ended_in step.marks } =
          (λ i. tally_of (closes event) (is_ended (reply_is i)) (length (recent i))) ∙ step_tells p event in
          inr (h.0, reply_is, (λ i. written old (parts i) (tally i)) ∙ (λ i. record old { parts = set old.parts n step.part; begun = capped-more old.begun (began_in step.marks) b i; ended = capped-more old.ended (ended_in step.marks) e i }))
    ]

-- a refused step keeps the parts and the counts
stepped-same : (v : PartsView) (n : ℕ) (p : PartState) (reply : PartReply) → slice_get v.parts n ≡ Some p → stepped v n (refused p reply) ≡ v
stepped-same v n p reply at = λ i. record v { parts = set-same v.parts n p at i }

-- ---- receipts of parts as they are

-- a lock at version 0 leaves a part as it was
pub lock_zero : (p : PartState) → (p.stage ≡ Stopped → ⊥) → part_step ring_owner p (events.Lock 0) ≡ refused p (replies.TableStep (receipt_of ring_owner p) false)
lock_zero p running = go p.stage refl
  where
    none : running_step ring_owner p (events.Lock 0) ≡ refused p (replies.TableStep (receipt_of ring_owner p) false)
    none = cond-false (nat_lt p.seen 0) _ _ (le-ltb p.seen 0 (omega arith))

    go : (s : Stage) → p.stage ≡ s → step_at ring_owner p s (events.Lock 0) ≡ refused p (replies.TableStep (receipt_of ring_owner p) false)
    go Stopped e = absurd (running e)
    go Locked e = none
    go Updated e = none
    go Open e = none

stopped_at : (p : PartState) (event : PartEvent) → p.stage ≡ Stopped → part_step ring_owner p event ≡ stopped_step ring_owner p event
stopped_at p event e = ap (λ (s : Stage). step_at ring_owner p s event) e

-- a lock at version 0 gives the receipt of a running part
pub lock_told : (p : PartState) → ((part_step ring_owner p (events.Lock 0)).reply ≡ replies.TableStep (receipt_of ring_owner p) false) ⊎ (p.stage ≡ Stopped)
lock_told p = go p.stage refl
  where
    go : (s : Stage) → p.stage ≡ s → ((part_step ring_owner p (events.Lock 0)).reply ≡ replies.TableStep (receipt_of ring_owner p) false) ⊎ (p.stage ≡ Stopped)
    go Stopped e = inr e
    go Locked e = inl (ap (λ (x : PartStep). x.reply) (lock_zero p (λ q. (let w = sym e ∙ q in cc))))
    go Updated e = inl (ap (λ (x : PartStep). x.reply) (lock_zero p (λ q. (let w = sym e ∙ q in cc))))
    go Open e = inl (ap (λ (x : PartStep). x.reply) (lock_zero p (λ q. (let w = sym e ∙ q in cc))))

-- a lock at version 0 changes nothing
lock_keeps : (v : PartsView) (n : ℕ) (p : PartState) → slice_get v.parts n ≡ Some p → stepped v n (part_step ring_owner p (events.Lock 0)) ≡ v
lock_keeps v n p at = go p.stage refl
  where
    none : part_step ring_owner p (events.Lock 0) ≡ refused p (replies.TableStep (receipt_of ring_owner p) false) → stepped v n (part_step ring_owner p (events.Lock 0)) ≡ v
    none e = ap (λ (x : PartStep). stepped v n x) e ∙ stepped-same v n p (replies.TableStep (receipt_of ring_owner p) false) at

    go : (s : Stage) → p.stage ≡ s → stepped v n (part_step ring_owner p (events.Lock 0)) ≡ v
    go Stopped e = ap (λ (x : PartStep). stepped v n x) (stopped_at p (events.Lock 0) e) ∙ stepped-same v n p replies.Stopped at
    go Locked e = none (lock_zero p (λ q. (let w = sym e ∙ q in cc)))
    go Updated e = none (lock_zero p (λ q. (let w = sym e ∙ q in cc)))
    go Open e = none (lock_zero p (λ q. (let w = sym e ∙ q in cc)))

-- the part at a place in range
pub part_at : (ps : List PartState) (n : ℕ) → n < length ps → (p : PartState) × (slice_get ps n ≡ Some p)
part_at [] n l = absurd (omega arith)
part_at (q ∷ ps) zero l = (q, refl)
part_at (q ∷ ps) (suc n) l = part_at ps n (omega arith)

-- a lock at version 0 leaves all parts as they are
pub locks_same : (reply : PartReply) (n : ℕ) (old new : PartsView) → n < length old.parts → StepsAt (events.Lock 0) reply n old new → new ≡ old
locks_same reply n old new l s =
    let h = part_at old.parts n l in
    elim (s h.0 h.1) [ inl k ↦ absurd k.0 | inr k ↦ k.2 ∙ lock_keeps old n h.0 h.1 ]

table_receipt : (a b : ReceiptState) (c d : Bool) → replies.TableStep a c ≡ replies.TableStep b d → a ≡ b
table_receipt a b c d e = cc

pub stopped_receipt : (a b : ReceiptState) → replies.StoppedNow a ≡ replies.StoppedNow b → a ≡ b
stopped_receipt a b e = cc

-- a receipt of that lock is the part's
pub locks_told : (reply : PartReply) (n : ℕ) (old new : PartsView) (r : ReceiptState) (c : Bool) → StepsAt (events.Lock 0) reply n old new → reply ≡ replies.TableStep r c → (p : PartState) → slice_get old.parts n ≡ Some p → r ≡ receipt_of ring_owner p
locks_told reply n old new r c s e p at = elim (s p at) [
  | inl k ↦ absurd k.0
  | inr k ↦ elim (lock_told p) [
    | inl t ↦ table_receipt r (receipt_of ring_owner p) c false (sym e ∙ k.1 ∙ t)
    | inr t ↦ absurd (let w : replies.TableStep r c ≡ replies.Stopped = sym e ∙ k.1 ∙ ap (λ (x : PartStep). x.reply) (stopped_at p (events.Lock 0) t) in cc)
  ]
]

-- if it gives none, the part has stopped
pub locks_stopped : (reply : PartReply) (n : ℕ) (old new : PartsView) → StepsAt (events.Lock 0) reply n old new → ((r : ReceiptState) (c : Bool) → reply ≡ replies.TableStep r c → ⊥) → (p : PartState) → slice_get old.parts n ≡ Some p → p.stage ≡ Stopped
locks_stopped reply n old new s none p at = elim (s p at) [
  | inl k ↦ absurd k.0
  | inr k ↦ elim (lock_told p) [ inl t ↦ absurd (none (receipt_of ring_owner p) false (k.1 ∙ t)) | inr t ↦ t ]
]

-- a stopped part stays as it is at another stop, and gives its receipt
pub stops_told : (reply : PartReply) (n : ℕ) (old new : PartsView) (p : PartState) → StepsAt events.StopPart reply n old new → slice_get old.parts n ≡ Some p → p.stage ≡ Stopped → (reply ≡ replies.StoppedNow (receipt_of ring_owner p)) × (new ≡ old)
stops_told reply n old new p s at e = elim (s p at) [
  | inl k ↦ absurd k.0
  | inr k ↦ (
    k.1 ∙ ap (λ (x : PartStep). x.reply) (stopped_at p events.StopPart e),
    k.2 ∙ ap (λ (x : PartStep). stepped old n x) (stopped_at p events.StopPart e) ∙ stepped-same old n p (replies.StoppedNow (receipt_of ring_owner p)) at,
  )
]

-- ---- the layout

slice-states : (vs : List PartView) (n : ℕ) (v : PartView) → slice_get vs n ≡ Some v → slice_get (states_of vs) n ≡ Some v.state
slice-states [] n v e = absurd (cc)
slice-states (u ∷ vs) zero v e = (let a : u ≡ v = cc in ap (λ (z : PartView). Some z.state) a)
slice-states (u ∷ vs) (suc n) v e = slice-states vs n v e

-- a step of a part keeps the layout
pub step_laid : (per : ℕ) (nodes : List Home) (event : PartEvent) (reply : PartReply) (vs : List PartView) (n : ℕ) (v new : PartView) → AreLaidOut per nodes (states_of vs) → slice_get vs n ≡ Some v →
    GivesStep event reply v.state new → IsPartSound ring_owner new.state → AreLaidOut per nodes (states_of (set vs n new))
step_laid per nodes event reply vs n v new laid at g sound =
    let here = slice-states vs n v at in
    let was = laid.sound v.state (In-slice_get (states_of vs) n v.state here) in
    let kept : (new.state.member ≡ v.state.member) × (new.state.number ≡ v.state.number) =
    elim (gives_part event reply v.state new g) [
      | inl h ↦ (ap (λ (z : PartState). z.member) h.2, ap (λ (z : PartState). z.number) h.2)
      | inr h ↦ (let s = part_stepped ring_owner v.state event was in (ap (λ (z : PartState). z.member) h.2 ∙ s.member, ap (λ (z : PartState). z.number) h.2 ∙ s.number))
    ] in
    record {
      many = laid.many;
      few = laid.few;
      laid = ap (λ (z : List PartState). tags_of z) (states-set vs n new) ∙ tags-set (states_of vs) n v.state new.state here kept.0 kept.1 ∙ laid.laid;
      sound = λ p i. elim (In-set (states_of vs) n new.state p (subst (λ (z : List PartState). In p z) (states-set vs n new) i)) [
        | inl e ↦ subst (λ (z : PartState). IsPartSound ring_owner z) (sym e) sound
        | inr j ↦ laid.sound p j
      ];
    }
