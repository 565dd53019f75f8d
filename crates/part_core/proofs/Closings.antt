-- Which actor is taken for deactivation: no owner is looked up where none is foreign, and none is found too early.
use Rattle.std.proofs.Common.{◌≡◌, ℕ, Bool, true, false, not, ◌&&◌, ◌||◌, ◌+◌, ◌-◌, ◌^◌, ◌<◌, ◌≤◌, min, List, [], ◌∷◌, None, Some, refl, sym, ap, ◌∙◌, inl, inr, arith}
use Rattle.std.specs.Prelude.{nat_lt, ◌==◌, if◌then◌else◌}
use Rattle.std.proofs.lemmas.Bool.{and_parts, and_from, cases_Bool, cond_both, cond-true, cond-false, eqb-false, ltb-true, ltb-false, leb-true, not-true, true≢false, false≢true}
use Rattle.turn_core.specs.Cell.{is_free, unmoved}
use Rattle.turn_core.specs.CellSound.{In}
use Rattle.part_model.specs.declared.actor_cell.ActorCell.{ActorCell}
use Rattle.part_cells.specs.Slots.{first_where}
use Rattle.part_cells.proofs.SlotPasses.{least_le}
use Rattle.part_model.specs.declared.stage.Stage.{Stage}
use Rattle.part_model.specs.declared.stage.Stage.TheVariants.{Locked, Updated, Open, Stopped}
use Rattle.part_model.specs.declared.event.PartEvent.{PartEvent}
use Rattle.part_model.specs.declared.event.PartEvent.TheVariants as events
use Rattle.part_model.specs.Receipts.{PartReply}
use Rattle.part_model.specs.declared.event.Reply.TheVariants as replies
use Rattle.part_core.specs.declared.standing.Standing.{Standing}
use Rattle.part_model.specs.Settings.{settings_of}
use Rattle.part_model.specs.Part.{PartState, PartStep, is_updated, is_foreign, is_idle, is_drained, may_close, first_to_close, close_cell, take_closing, step_at, part_step, ring_owner}
use Rattle.part_model.specs.Marks.{begun_calls}
use Rattle.part_model.specs.Rooms.{PartView, GivesStep}
use Rattle.part_core.specs.Actors.{ActorsState, no_actors, state_of, foreign_in, total_foreign, gives_some, may_close_if, IsForeignCounted}
use Rattle.part_core.specs.Quiet.{is_resting, idle_from, idle_moment, IsQuietUntil, rest_end, first_idle, quiet_after, is_early, gives_none_at, gives_none}
use Rattle.part_core.proofs.Foreigns.{dry, wet}
use Rattle.part_model.proofs.PartLaws.{drained_owns}
use Rattle.part_model.proofs.PartSteps.{In-first_to_close}

-- ---- no owner is looked up where no active actor is foreign

-- by cases: active, not closing, free and unheld, given up or not, updated, foreign, idle
same_test : (a k w g u f i : Bool) → (g ≡ true → u ≡ true) → (u ≡ true → g ≡ false → (a && f) ≡ false) → (((a && k) && w) && ((g && f) || i)) ≡ ((a && k) && (w && ((u && f) || i)))
same_test false k w g u f i s n = refl
same_test true false w g u f i s n = refl
same_test true true false g u f i s n = refl
same_test true true true true true f i s n = refl
same_test true true true true false f i s n = absurd (false≢true (s refl))
same_test true true true false false f i s n = refl
same_test true true true false true true i s n = absurd (true≢false (n refl refl))
same_test true true true false true false i s n = refl

none : (b : Bool) → ◌≡◌ {A = ℕ} (if b then 1 else 0) 0 → b ≡ false
none true e = absurd (omega arith)
none false e = refl

closes_first : (p : PartState) (gives : Bool) (now : ℕ) → (gives ≡ true → is_updated p.stage ≡ true) → (cs : List ActorCell) → (is_updated p.stage ≡ true → gives ≡ false → total_foreign ring_owner p cs ≡ 0)
    → first_where (λ c. may_close_if gives p now c) cs ≡ first_to_close ring_owner p now cs
closes_first p gives now some [] h = refl
closes_first p gives now some (c ∷ cs) h =
    let here : may_close_if gives p now c ≡ may_close ring_owner p now c =
    same_test c.active (not c.closing) (is_free c.inner && (c.inner.holds == 0)) gives (is_updated p.stage) (is_foreign ring_owner p c.key) (is_idle ring_owner p now c) some
    (λ u f. none (c.active && is_foreign ring_owner p c.key) (let t : foreign_in ring_owner p c + total_foreign ring_owner p cs ≡ 0 = h u f in omega arith)) in
    let rest = closes_first p gives now some cs (λ u f. (let t : foreign_in ring_owner p c + total_foreign ring_owner p cs ≡ 0 = h u f in omega arith)) in
    λ i. if here i then Some c else rest i

pub closes_counted : (s : Standing) (cells : List ActorCell) (now : ℕ) (gives : Bool) → IsForeignCounted s cells → gives ≡ gives_some s
    → first_where (λ c. may_close_if gives (state_of s no_actors) now c) cells ≡ first_to_close ring_owner (state_of s no_actors) now cells
closes_counted s cells now gives counted e =
    closes_first (state_of s no_actors) gives now (λ t. (and_parts (is_updated s.stage) (nat_lt 0 s.foreign) (sym e ∙ t)).0) cells (λ u f. (
    let n = counted u in
    let l = ltb-false 0 s.foreign ((λ i. sym u i && nat_lt 0 s.foreign) ∙ sym e ∙ f) in
    omega arith
    ))

-- the cell that is taken is free
pub taken_free : (p : PartState) (now : ℕ) (cs : List ActorCell) (c : ActorCell) → first_to_close ring_owner p now cs ≡ Some c → is_free c.inner ≡ true
taken_free p now cs c e =
    let m = (In-first_to_close ring_owner p now cs c e).1 in
    let h = (and_parts (c.active && not c.closing) _ m).1 in
    let f = (and_parts (is_free c.inner && (c.inner.holds == 0)) _ h).0 in
    (and_parts (is_free c.inner) (c.inner.holds == 0) f).0

-- whether a part that runs has an active actor to give up
pub none_given : (s : Standing) (a : ActorsState) → IsForeignCounted s a.cells → (s.stage ≡ Stopped → ⊥) → not (gives_some s) ≡ gives_none (state_of s a)
none_given s a counted running = go s.stage refl
  where
    at : (n : ℕ) → n ≡ total_foreign ring_owner (state_of s a) a.cells → (b : Bool) → nat_lt 0 n ≡ b → not b ≡ is_drained ring_owner (state_of s a)
    at n e true l = let m = ltb-true 0 n l in sym (wet ring_owner (state_of s a) n e (λ z. absurd (omega arith)))
    at n e false l = let m = ltb-false 0 n l in sym (dry ring_owner (state_of s a) n e (omega arith))

    go : (st : Stage) → s.stage ≡ st → not (is_updated st && nat_lt 0 s.foreign) ≡ gives_none_at (state_of s a) st
    go Locked e = refl
    go Open e = refl
    go Updated e = at s.foreign (counted (ap is_updated e)) (nat_lt 0 s.foreign) refl
    go Stopped e = absurd (running e)

-- ---- nothing is found too early

-- an idle actor's moment has come
idle_since : (idle last now q : ℕ) → q ≤ idle_from idle last → now < q → idle ≤ now - last → ⊥
idle_since idle last now q l n h =
    let z = cond_both (idle == 0) 0 (min (last + idle) (2 ^ 64 - 1)) (λ (m : ℕ). q ≤ m → ⊥) (λ _ k. absurd (omega arith))
    (λ f k. let some = eqb-false idle 0 f in absurd (some (omega arith))) in
    z l

none_to_close : (p : PartState) (now : ℕ) (cs : List ActorCell) → ((c : ActorCell) → In c cs → may_close ring_owner p now c ≡ false) → first_to_close ring_owner p now cs ≡ None
none_to_close p now [] h = refl
none_to_close p now (c ∷ cs) h = cond-false (may_close ring_owner p now c) _ _ (h c (inl refl)) ∙ none_to_close p now cs (λ d i. h d (inr i))

not_early : (p : PartState) (now q : ℕ) → IsQuietUntil p q → now < q → (is_updated p.stage ≡ true → is_drained ring_owner p ≡ true) → (c : ActorCell) → In c p.cells → may_close ring_owner p now c ≡ false
not_early p now q quiet n dry c i = elim (cases_Bool (may_close ring_owner p now c)) [
  | inl m ↦ (
      let h = and_parts (c.active && not c.closing) _ m in
      let f = and_parts (is_free c.inner && (c.inner.holds == 0)) _ h.1 in
      let rests : is_resting c ≡ true = and_from (c.active && not c.closing) (is_free c.inner && (c.inner.holds == 0)) h.0 f.0 in
      let active = (and_parts c.active (not c.closing) h.0).0 in
      let moment = quiet c i rests in
      elim (cases_Bool (is_updated p.stage && is_foreign ring_owner p c.key)) [
        | inl g ↦ (
            let u = and_parts (is_updated p.stage) (is_foreign ring_owner p c.key) g in
            absurd (true≢false (sym (drained_owns ring_owner p p.cells (dry u.0) c i active) ∙ not-true _ u.1))
            )
        | inr g ↦ (
            let idle = (λ j. sym g j || is_idle ring_owner p now c) ∙ f.1 in
            let k = and_parts (unmoved c.inner.queue == 0) _ idle in
            absurd (idle_since (settings_of p.kinds c.key.kind).idle_ms c.last now q moment n (leb-true _ _ k.1))
            )
      ]
      )
  | inr f ↦ f
]

early_none : (p : PartState) (now q : ℕ) → IsQuietUntil p q → now < q → gives_none p ≡ true → part_step ring_owner p (events.TakeClosing now) ≡ record { part = p; reply = replies.NoneClosing; marks = [] }
early_none p now q quiet n gives = go p.stage refl gives
  where
    take : (is_updated p.stage ≡ true → is_drained ring_owner p ≡ true) → take_closing ring_owner p now ≡ record { part = p; reply = replies.NoneClosing; marks = [] }
    take dry = ap (close_cell ring_owner p) (none_to_close p now p.cells (not_early p now q quiet n dry))

    go : (s : Stage) → p.stage ≡ s → gives_none_at p s ≡ true → step_at ring_owner p s (events.TakeClosing now) ≡ record { part = p; reply = replies.NoneClosing; marks = [] }
    go Locked e g = take (λ u. absurd (false≢true (sym (ap is_updated e) ∙ u)))
    go Updated e g = take (λ _. g)
    go Open e g = take (λ u. absurd (false≢true (sym (ap is_updated e) ∙ u)))
    go Stopped e g = absurd (false≢true g)

-- what such an answer gives
pub early_gives : (e : PartEvent) (q : ℕ) (old : PartState) (new : PartView) → IsQuietUntil old q → is_early e q ≡ true → gives_none old ≡ true → new ≡ record { state = old; recent = [] } → GivesStep e replies.NoneClosing old new
early_gives (events.TakeClosing now) q old new quiet t gives same =
    let s = early_none old now q quiet (ltb-true now q t) gives in
    (ap (λ (z : PartStep). z.reply) (sym s), same ∙ ap (λ (z : PartStep). record { state = z.part; recent = begun_calls z.marks }) (sym s))
early_gives _ q old new quiet t gives same = absurd (false≢true t)

-- ---- the moment that a pass finds

found_quiet : (p : PartState) → IsQuietUntil p (first_idle p)
found_quiet p c i t =
    let l = least_le (rest_end p.kinds) p.cells c i in
    let e : rest_end p.kinds c ≡ idle_moment p.kinds c = cond-true (is_resting c) _ _ t in
    omega arith

pub quiet_then : (p : PartState) (reply : PartReply) (q : ℕ) → IsQuietUntil p q → IsQuietUntil p (quiet_after p reply q)
quiet_then p replies.NoneClosing q quiet = found_quiet p
quiet_then p _ q quiet = quiet
