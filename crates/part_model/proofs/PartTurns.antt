-- For every list of events the marks of a part say what its cells are, and the turns of each actor are isolated.
use Rattle.std.proofs.Common.{◌≡◌, ℕ, zero, suc, Bool, true, false, cond, ◌+◌, ◌<◌, ◌≤◌, List, [], ◌∷◌, ◌++◌, length, Option, None, Some, refl, sym, ap, ◌∙◌, subst, inl, inr, arith, length-append}
use Rattle.std.specs.Prelude.{nat_lt, is_some}
use Rattle.std.proofs.lemmas.Bool.{lt-ltb, cond_both, cases_Bool}
use Rattle.actor_names.specs.declared.actor_key.ActorKey.{ActorKey}
use Rattle.actor_names.specs.declared.member.Member.{Member}
use Rattle.place_table.specs.declared.host.HostInfo.{HostInfo}
use Rattle.place_table.specs.Hosts.{PlacementTable}
use Rattle.turn_core.specs.declared.cell.Turn.{Turn}
use Rattle.turn_core.specs.CellMarks.{TurnMark, Began, Ended, TurnsIsolated, open_after, most_turns}
use Rattle.turn_core.specs.CellSound.{In, FitsDepth}
use Rattle.turn_core.proofs.Elements.{In-left, In-last}
use Rattle.turn_core.proofs.Overlaps.{Enters, EntersAll, EntersAll-append, isolated_from_enters}
use Rattle.part_model.specs.declared.settings.TypeSettings.{TypeSettings}
use Rattle.part_model.specs.declared.event.PartEvent.{PartEvent}
use Rattle.part_model.specs.declared.actor_cell.ActorCell.{ActorCell}
use Rattle.actor_names.specs.Same.{same_key}
use Rattle.part_model.specs.Settings.{settings_of}
use Rattle.part_model.specs.Cells.{cell_at}
use Rattle.part_model.specs.Marks.{PartMark, TurnBegan, TurnEnded, BecameActive, BecameInactive, PartOpened}
use Rattle.part_model.specs.Part.{PartState, new_part, part_step}
use Rattle.part_model.specs.Sound.{IsPartSound}
use Rattle.part_model.specs.Activity.{Activity, activity_of, after_mark, is_mark_of, replay, turn_marks, AreTidy}
use Rattle.part_model.specs.PartRuns.{part_after, marks_after}
use Rattle.part_model.proofs.KeyOrders.{same_key-true}
use Rattle.part_model.proofs.Elements.{In-cell_at, key-cell_at}
use Rattle.part_model.proofs.PartTables.{new_part_sound, part_stepped}
use Rattle.part_model.proofs.Replays.{replay-append, unmarked}
use Rattle.part_model.proofs.PartReplays.{part_replays}

-- ---- the marks of one actor's turns

-- a choice between longer and shorter marks of the first part of a list
pick : (b : Bool) (m : TurnMark) (xs ys zs : List TurnMark) → zs ≡ xs ++ ys → cond b (m ∷ zs) zs ≡ cond b (m ∷ xs) xs ++ ys
pick true m xs ys zs e = ap (λ (ts : List TurnMark). m ∷ ts) e
pick false m xs ys zs e = e

turn_marks-append : (k : ActorKey) (xs ys : List PartMark) → turn_marks k (xs ++ ys) ≡ turn_marks k xs ++ turn_marks k ys
turn_marks-append k [] ys = refl
turn_marks-append k (TurnBegan key call chain ∷ xs) ys = pick (same_key k key) _ _ _ _ (turn_marks-append k xs ys)
turn_marks-append k (TurnEnded key call ∷ xs) ys = pick (same_key k key) _ _ _ _ (turn_marks-append k xs ys)
turn_marks-append k (BecameActive key version ∷ xs) ys = turn_marks-append k xs ys
turn_marks-append k (BecameInactive key ∷ xs) ys = turn_marks-append k xs ys
turn_marks-append k (PartOpened number version ∷ xs) ys = turn_marks-append k xs ys

-- they say which turns are open
open_turns : (k : ActorKey) (ms : List PartMark) (a : Activity) → open_after a.turns (turn_marks k ms) ≡ (replay ms k a).turns
open_turns k [] a = refl
open_turns k (TurnBegan key call chain ∷ ms) a =
    let more = open_turns k ms in
    elim (same_key k key) as (λ b. open_after a.turns (cond b (Began call chain ∷ turn_marks k ms) (turn_marks k ms)) ≡ (replay ms k (cond b (after_mark (TurnBegan key call chain) a) a)).turns) [
      | true ↦ more (after_mark (TurnBegan key call chain) a)
      | false ↦ more a
    ]
open_turns k (TurnEnded key call ∷ ms) a =
    let more = open_turns k ms in
    elim (same_key k key) as (λ b. open_after a.turns (cond b (Ended call ∷ turn_marks k ms) (turn_marks k ms)) ≡ (replay ms k (cond b (after_mark (TurnEnded key call) a) a)).turns) [
      | true ↦ more (after_mark (TurnEnded key call) a)
      | false ↦ more a
    ]
open_turns k (BecameActive key version ∷ ms) a =
    let more = open_turns k ms in
    elim (same_key k key) as (λ b. open_after a.turns (turn_marks k ms) ≡ (replay ms k (cond b (after_mark (BecameActive key version) a) a)).turns) [
      | true ↦ more (after_mark (BecameActive key version) a)
      | false ↦ more a
    ]
open_turns k (BecameInactive key ∷ ms) a =
    let more = open_turns k ms in
    elim (same_key k key) as (λ b. open_after a.turns (turn_marks k ms) ≡ (replay ms k (cond b (after_mark (BecameInactive key) a) a)).turns) [
      | true ↦ more (after_mark (BecameInactive key) a)
      | false ↦ more a
    ]
open_turns k (PartOpened number version ∷ ms) a = open_turns k ms a

-- ---- turns enter beside those of their own chain

-- open turns of one chain, within the depth, with a chain exactly if reentrancy is on
pub record AreTurnsSound (depth : ℕ) (ts : List Turn) : Type 0 where
  pub one_chain : (t u : Turn) → In t ts → In u ts → t.chain ≡ u.chain
  pub within : length ts ≤ most_turns depth
  pub fit : (t : Turn) → In t ts → FitsDepth depth t.chain

-- one more turn is within the depth only if its chain was open, or none was
enters_of : (depth : ℕ) (ts : List Turn) (call : ℕ) (chain : Option (List ℕ)) → AreTurnsSound depth (ts ++ record { call = call; chain = chain } ∷ []) → Enters depth ts chain
enters_of depth ts call chain s =
    let new : Turn = record { call = call; chain = chain } in
    let few : length ts < most_turns depth = (let h = s.within in let e : length (ts ++ new ∷ []) ≡ length ts + 1 = simp length-append in omega arith) in
    record {
      same = λ t i.
          let on : 0 < depth = deep depth ts t i few in
          let fits : is_some chain ≡ nat_lt 0 depth = s.fit new (In-last ts new) in
          (s.one_chain t new (In-left ts _ t i) (In-last ts new), fits ∙ lt-ltb 0 depth on, on);
      few = few;
    }
  where
    deep : (depth : ℕ) (ts : List Turn) (t : Turn) → In t ts → length ts < most_turns depth → 0 < depth
    deep depth [] t i few = absurd i
    deep zero (u ∷ ts) t i few = absurd (omega arith)
    deep (suc depth) (u ∷ ts) t i few = omega arith

enters_marks : (depth : ℕ) (k : ActorKey) (ms : List PartMark) (a : Activity) → AreTidy ms → AreTurnsSound depth (replay ms k a).turns → EntersAll depth a.turns (turn_marks k ms)
enters_marks depth k [] a tidy s = tt
enters_marks depth k (TurnBegan key call chain ∷ ms) a tidy s =
    let more = enters_marks depth k ms in
    cond_both (same_key k key) _ _ (λ (ts : List TurnMark). EntersAll depth a.turns ts)
    (λ same.
    let last : replay (TurnBegan key call chain ∷ ms) k a ≡ after_mark (TurnBegan key call chain) a =
    ap (λ (b : Bool). replay ms k (cond b (after_mark (TurnBegan key call chain) a) a)) same
    ∙ unmarked ms k (after_mark (TurnBegan key call chain) a) (λ m i e. tidy.0 m i (subst (λ (z : ActorKey). is_mark_of m z ≡ true) (same_key-true k key same) e)) in
    let then : replay (TurnBegan key call chain ∷ ms) k a ≡ replay ms k (after_mark (TurnBegan key call chain) a) = ap (λ (b : Bool). replay ms k (cond b (after_mark (TurnBegan key call chain) a) a)) same in (
      enters_of depth a.turns call chain (subst (λ (z : Activity). AreTurnsSound depth z.turns) last s),
      more (after_mark (TurnBegan key call chain) a) tidy.1 (subst (λ (z : Activity). AreTurnsSound depth z.turns) then s),
    ))
    (λ other. more a tidy.1 (subst (λ (b : Bool). AreTurnsSound depth (replay ms k (cond b (after_mark (TurnBegan key call chain) a) a)).turns) other s))
enters_marks depth k (TurnEnded key call ∷ ms) a tidy s =
    let more = enters_marks depth k ms in
    cond_both (same_key k key) _ _ (λ (ts : List TurnMark). EntersAll depth a.turns ts)
    (λ same. more (after_mark (TurnEnded key call) a) tidy.1 (subst (λ (b : Bool). AreTurnsSound depth (replay ms k (cond b (after_mark (TurnEnded key call) a) a)).turns) same s))
    (λ other. more a tidy.1 (subst (λ (b : Bool). AreTurnsSound depth (replay ms k (cond b (after_mark (TurnEnded key call) a) a)).turns) other s))
enters_marks depth k (BecameActive key version ∷ ms) a tidy s =
    let more = enters_marks depth k ms in
    elim (cases_Bool (same_key k key)) [
      | inl same ↦ more (after_mark (BecameActive key version) a) tidy.1 (subst (λ (b : Bool). AreTurnsSound depth (replay ms k (cond b (after_mark (BecameActive key version) a) a)).turns) same s)
      | inr other ↦ more a tidy.1 (subst (λ (b : Bool). AreTurnsSound depth (replay ms k (cond b (after_mark (BecameActive key version) a) a)).turns) other s)
    ]
enters_marks depth k (BecameInactive key ∷ ms) a tidy s =
    let more = enters_marks depth k ms in
    elim (cases_Bool (same_key k key)) [
      | inl same ↦ more (after_mark (BecameInactive key) a) tidy.1 (subst (λ (b : Bool). AreTurnsSound depth (replay ms k (cond b (after_mark (BecameInactive key) a) a)).turns) same s)
      | inr other ↦ more a tidy.1 (subst (λ (b : Bool). AreTurnsSound depth (replay ms k (cond b (after_mark (BecameInactive key) a) a)).turns) other s)
    ]
enters_marks depth k (PartOpened number version ∷ ms) a tidy s = enters_marks depth k ms a tidy.1 s

module _ (owner : PlacementTable → ActorKey → Option HostInfo) where
  turns_sound : (p : PartState) (k : ActorKey) (found : Option ActorCell) → cell_at p.cells k ≡ found → IsPartSound owner p → AreTurnsSound (settings_of p.kinds k.kind).depth (activity_of found).turns
  turns_sound p k None f s = record { one_chain = λ t u i j. absurd i; within = omega arith; fit = λ t i. absurd i }
  turns_sound p k (Some c) f s =
      let i = In-cell_at p.cells k c f in
      let sound = (s.each_sound c i).sound in
      let deep : c.inner.depth ≡ (settings_of p.kinds k.kind).depth = sym (s.limits.depths c i) ∙ ap (λ (z : ActorKey). (settings_of p.kinds z.kind).depth) (key-cell_at p.cells k c f) in
      subst (λ (n : ℕ). AreTurnsSound n c.inner.turns) deep (record { one_chain = sound.one_chain; within = sound.within; fit = sound.turns_fit })

  -- ---- lists of events

  -- the marks say what every cell is
  pub run_told : (p : PartState) (es : List PartEvent) (k : ActorKey) → IsPartSound owner p → activity_of (cell_at (part_after owner p es).cells k) ≡ replay (marks_after owner p es) k (activity_of (cell_at p.cells k))
  run_told p [] k s = refl
  run_told p (e ∷ es) k s =
      run_told (part_step owner p e).part es k (part_stepped owner p e s).sound
      ∙ ap (λ (a : Activity). replay (marks_after owner (part_step owner p e).part es) k a) ((part_replays owner p e s).activity k)
      ∙ sym (replay-append (part_step owner p e).marks (marks_after owner (part_step owner p e).part es) k (activity_of (cell_at p.cells k)))

  run_enters : (p : PartState) (es : List PartEvent) (k : ActorKey) → IsPartSound owner p
      → EntersAll (settings_of p.kinds k.kind).depth (activity_of (cell_at p.cells k)).turns (turn_marks k (marks_after owner p es))
  run_enters p [] k s = tt
  run_enters p (e ∷ es) k s =
      let q : PartState = (part_step owner p e).part in
      let marks : List PartMark = (part_step owner p e).marks in
      let rest : List PartMark = marks_after owner (part_step owner p e).part es in
      let depth : ℕ = (settings_of p.kinds k.kind).depth in
      let a : Activity = activity_of (cell_at p.cells k) in
      let stepped = part_stepped owner p e s in
      let r = part_replays owner p e s in
      let kinds : (settings_of q.kinds k.kind).depth ≡ depth = ap (λ (ts : List TypeSettings). (settings_of ts k.kind).depth) stepped.kinds in
      let now : AreTurnsSound depth (replay marks k a).turns =
      subst (λ (z : Activity). AreTurnsSound depth z.turns) (r.activity k) (subst (λ (n : ℕ). AreTurnsSound n (activity_of (cell_at q.cells k)).turns) kinds (turns_sound q k (cell_at q.cells k) refl stepped.sound)) in
      let later : EntersAll depth (replay marks k a).turns (turn_marks k rest) =
      subst (λ (z : Activity). EntersAll depth z.turns (turn_marks k rest)) (r.activity k)
      (subst (λ (n : ℕ). EntersAll n (activity_of (cell_at q.cells k)).turns (turn_marks k rest)) kinds (run_enters q es k stepped.sound)) in
      subst (λ (ts : List TurnMark). EntersAll depth a.turns ts) (sym (turn_marks-append k marks rest))
      (EntersAll-append depth a.turns (turn_marks k marks) (turn_marks k rest) (enters_marks depth k marks a r.tidy now)
      (subst (λ (ts : List Turn). EntersAll depth ts (turn_marks k rest)) (sym (open_turns k marks a)) later))

  -- the turns of every actor are isolated
  pub part_isolated : (m : Member) (number : ℕ) (kinds : List TypeSettings) (es : List PartEvent) (k : ActorKey) → TurnsIsolated (settings_of kinds k.kind).depth (turn_marks k (marks_after owner (new_part m number kinds) es))
  part_isolated m number kinds es k =
      isolated_from_enters (settings_of kinds k.kind).depth (turn_marks k (marks_after owner (new_part m number kinds) es))
      (run_enters (new_part m number kinds) es k (new_part_sound owner m number kinds))
