-- Each turn that ends was open, and each that is open had begun.
use Rattle.std.proofs.Common.{◌≡◌, ◌⊎◌, ℕ, Bool, true, false, not, ◌&&◌, ◌<◌, List, [], ◌∷◌, ◌++◌, length, Option, None, Some, refl, sym, ap, ◌∙◌, subst, inl, inr, arith}
use Rattle.std.specs.Prelude.{◌==◌, slice_get}
use Rattle.std.proofs.lemmas.Bool.{cond_both, or_cases, eqb-true, false≢true}
use Rattle.actor_names.specs.declared.member.Member.{Member}
use Rattle.actor_names.specs.declared.actor_key.ActorKey.{ActorKey}
use Rattle.place_table.specs.declared.host.HostInfo.{HostInfo}
use Rattle.place_table.specs.Hosts.{PlacementTable}
use Rattle.turn_core.specs.declared.cell.Turn.{Turn}
use Rattle.turn_core.specs.declared.cell.Waiter.{Waiter}
use Rattle.turn_core.specs.Cell.{EndStep, has_turn, waiter_of, not_open, next_call, without_call, is_free}
use Rattle.turn_core.specs.CellSound.{In}
use Rattle.turn_core.proofs.Elements.{In-left, In-push, In-without_turn}
use Rattle.part_model.specs.declared.actor_cell.ActorCell.{ActorCell}
use Rattle.part_model.specs.Cells.{cell_at, cell_of_call}
use Rattle.part_model.proofs.KeyOrders.{same_key-true}
use Rattle.part_model.specs.declared.stage.Stage.{Stage}
use Rattle.part_model.specs.declared.stage.Stage.TheVariants.{Locked, Updated, Open, Stopped}
use Rattle.part_model.specs.declared.event.PartEvent.{PartEvent}
use Rattle.part_model.specs.declared.event.PartEvent.TheVariants as events
use Rattle.part_model.specs.Activity.{Activity, no_activity, activity_of, after_mark, is_mark_of}
use Rattle.actor_names.specs.Same.{same_member}
use Rattle.part_model.specs.Marks.{PartMark, TurnBegan, TurnEnded, BecameActive, BecameInactive, PartOpened, ended_calls, marks_of_begin, marks_of_next, marks_of_ends, marks_of_inactive, marks_of_stop}
use Rattle.part_model.specs.Part
use Rattle.part_model.specs.Part.{PartState, PartStep, CellStep, is_updated, is_foreign, each_cell, part_step}
use Rattle.part_model.proofs.CellLaws.{In-cell_of_call}
use Rattle.part_model.proofs.Replays.{cell_at-In}
use Rattle.world_events.specs.declared.event.WorldEvent.{WorldEvent}
use Rattle.world_events.specs.declared.settings.WorldSettings.{WorldSettings}
use Rattle.cluster_model.specs.Spaces.{KeepsToSpace}
use Rattle.cluster_model.proofs.SpaceParts.{backed}
use Rattle.cluster_model.specs.Asked.{EndedHadBegun}
use Rattle.cluster_model.specs.History.{history}
use Rattle.cluster_model.specs.World as world
use Rattle.cluster_model.specs.World.{ClusterState, TraceMark, tagged}
use Rattle.cluster_model.proofs.Basics.{In-append, In-middle, In-slice_get, same_member-true}
use Rattle.cluster_model.proofs.Counts.{step_counted}
use Rattle.cluster_model.proofs.Histories.{split_append, split_tagged}
use Rattle.cluster_model.proofs.Isolation.{after_trace}
use Rattle.cluster_model.proofs.Lines.{AreKept, run_kept}
use Rattle.cluster_model.proofs.Runs.{IsToldWorld, told_kept, new_world_told}
use Rattle.cluster_model.proofs.Worlds.{new_world_safe}

-- ---- what the marks tell of an open turn

-- a turn that is open after a mark was open before it, or the mark is of its beginning
turn_from : (x : TraceMark) (m : Member) (k : ActorKey) (a : Activity) (t : Turn) → In t (after_trace x m k a).turns → In t a.turns ⊎ (record { member = m; what = TurnBegan k t.call t.chain } ≡ x)
turn_from x m k a t =
    cond_both (same_member m x.member) _ _ (λ (z : Activity). In t z.turns → In t a.turns ⊎ (record { member = m; what = TurnBegan k t.call t.chain } ≡ x))
    (λ s. cond_both (is_mark_of x.what k) _ _ (λ (z : Activity). In t z.turns → In t a.turns ⊎ (record { member = m; what = TurnBegan k t.call t.chain } ≡ x)) (λ e. go (same_member-true m x.member s) x.what refl e) (λ _ i. inl i))
    (λ _ i. inl i)
  where
    go : m ≡ x.member → (w : PartMark) → x.what ≡ w → is_mark_of w k ≡ true → In t (after_mark w a).turns → In t a.turns ⊎ (record { member = m; what = TurnBegan k t.call t.chain } ≡ x)
    go s (TurnBegan key call chain) q e i = elim (In-push a.turns _ t i) [
      | inl old ↦ inl old
      | inr new ↦ inr (
          let p : TurnBegan k t.call t.chain ≡ x.what =
          ap (λ (z : ActorKey). TurnBegan z t.call t.chain) (same_key-true k key e) ∙ ap (λ (z : Turn). TurnBegan key z.call z.chain) new ∙ sym q in
          λ j. record { member = s j; what = p j })
    ]
    go s (TurnEnded key call) q e i = inl (In-without_turn call a.turns t i)
    go s (BecameActive key v) q e i = inl i
    go s (BecameInactive key) q e i = inl i
    go s (PartOpened number v) q e i = inl i

open_began : (xs : List TraceMark) (m : Member) (k : ActorKey) (a : Activity) (t : Turn) → In t (history xs m k a).turns → In t a.turns ⊎ In (record { member = m; what = TurnBegan k t.call t.chain }) xs
open_began [] m k a t i = inl i
open_began (x ∷ xs) m k a t i =
    elim (open_began xs m k (after_trace x m k a) t i) [
      | inl j ↦ elim (turn_from x m k a t j) [ inl l ↦ inl l | inr e ↦ inr (inl e) ]
      | inr j ↦ inr (inr j)
    ]

-- ---- what ends was open

some_ended : (k : ActorKey) (call : ℕ) (xs : List PartMark) → In (TurnEnded k call) xs → 0 < length (ended_calls xs)
some_ended k call [] i = absurd i
some_ended k call (TurnEnded key n ∷ xs) i = omega arith
some_ended k call (PartOpened number v ∷ xs) i = (let more = some_ended k call xs in elim i [ inl e ↦ absurd (cc) | inr j ↦ more j ])
some_ended k call (x ∷ xs) i = (let more = some_ended k call xs in elim i [ inl e ↦ absurd (cc) | inr j ↦ more j ])

same_ended : (k l : ActorKey) (a b : ℕ) → TurnEnded k a ≡ TurnEnded l b → (l ≡ k) × (b ≡ a)
same_ended k l a b e = (cc, cc)

turn_of_call : (call : ℕ) (ts : List Turn) → has_turn call ts ≡ true → (t : Turn) × In t ts × (t.call ≡ call)
turn_of_call call [] h = absurd (false≢true h)
turn_of_call call (t ∷ ts) h =
    let more = turn_of_call call ts in
    elim (or_cases (call == t.call) (has_turn call ts) h) [ inl e ↦ (t, inl refl, sym (eqb-true call t.call e)) | inr j ↦ (let k = more j in (k.0, inr k.1, k.2)) ]

not_begin : (k : ActorKey) (call : ℕ) (a : Bool) (key : ActorKey) (v n : ℕ) (chain : Option (List ℕ)) → In (TurnEnded k call) (marks_of_begin a key v n chain) → ⊥
not_begin k call true key v n chain i = elim i [ inl e ↦ cc | inr j ↦ j ]
not_begin k call false key v n chain i = elim i [ inl e ↦ cc | inr j ↦ elim j [ inl e ↦ cc | inr l ↦ l ] ]

not_next : (k : ActorKey) (call : ℕ) (a : Bool) (key : ActorKey) (v : ℕ) (next : Option Waiter) → In (TurnEnded k call) (marks_of_next a key v next) → ⊥
not_next k call a key v None i = i
not_next k call a key v (Some w) i = not_begin k call a key v w.call w.chain i

not_inactive : (k : ActorKey) (call : ℕ) (a : Bool) (key : ActorKey) → In (TurnEnded k call) (marks_of_inactive a key) → ⊥
not_inactive k call true key i = elim i [ inl e ↦ cc | inr j ↦ j ]
not_inactive k call false key i = i

ends_from : (k key : ActorKey) (call : ℕ) (ts : List Turn) → In (TurnEnded k call) (marks_of_ends key ts) → (key ≡ k) × ((t : Turn) × In t ts × (t.call ≡ call))
ends_from k key call [] i = absurd i
ends_from k key call (t ∷ ts) i =
    let more = ends_from k key call ts in
    elim i [ inl e ↦ (let h = same_ended k key call t.call e in (h.0, (t, inl refl, h.1))) | inr j ↦ (let h = more j in (h.0, (h.1.0, inr h.1.1, h.1.2))) ]

-- the call's turn is open in a cell of the actor
abbrev IsOpenIn : List ActorCell → ActorKey → ℕ → Type 0
IsOpenIn cs k call = (c : ActorCell) × In c cs × (c.key ≡ k) × ((t : Turn) × In t c.inner.turns × (t.call ≡ call))

stop_from : (k : ActorKey) (call : ℕ) (cs : List ActorCell) → In (TurnEnded k call) (marks_of_stop cs) → IsOpenIn cs k call
stop_from k call [] i = absurd i
stop_from k call (c ∷ cs) i =
    let more = stop_from k call cs in
    elim (In-append (marks_of_ends c.key c.inner.turns ++ marks_of_inactive c.active c.key) (marks_of_stop cs) _ i) [
      | inl j ↦ elim (In-append (marks_of_ends c.key c.inner.turns) (marks_of_inactive c.active c.key) _ j) [
        | inl l ↦ (let h = ends_from k c.key call c.inner.turns l in (c, inl refl, h.0, h.1))
        | inr l ↦ absurd (not_inactive k call c.active c.key l)
      ]
      | inr j ↦ (let h = more j in (h.0, inr h.1, h.2, h.3))
    ]

each_from : (k : ActorKey) (call : ℕ) (f : ActorCell → CellStep) (cs : List ActorCell) → ((c : ActorCell) → In (TurnEnded k call) (f c).marks → (c.key ≡ k) × ((t : Turn) × In t c.inner.turns × (t.call ≡ call)))
    → In (TurnEnded k call) (each_cell f cs).marks → IsOpenIn cs k call
each_from k call f [] ends i = absurd i
each_from k call f (c ∷ cs) ends i =
    let more = each_from k call f cs ends in
    elim (In-append (f c).marks (each_cell f cs).marks _ i) [
      | inl j ↦ (let h = ends c j in (c, inl refl, h.0, h.1))
      | inr j ↦ (let h = more j in (h.0, inr h.1, h.2, h.3))
    ]

module _ (owner : PlacementTable → ActorKey → Option HostInfo) where
  abbrev EndsOpen : PartState → PartStep → Type 0
  EndsOpen p s = (k : ActorKey) (call : ℕ) → In (TurnEnded k call) s.marks → IsOpenIn p.cells k call

  end_from : (p : PartState) (call now : ℕ) (found : Option ActorCell) → cell_of_call p.cells call ≡ found → EndsOpen p (Part.end_cell owner p call now found)
  end_from p call now None f = λ k n i. absurd i
  end_from p call now (Some c) f =
      cond_both (has_turn call c.inner.turns) _ _ (λ (a : EndStep). EndsOpen p (Part.ended_step owner p c call now a.cell a.answer))
      (λ t k n i. elim i [
        | inl e ↦ (let h = same_ended k c.key n call e in let o = turn_of_call call c.inner.turns t in (c, In-cell_of_call p.cells call c f, h.0, (o.0, o.1, o.2 ∙ h.1)))
        | inr j ↦ absurd (not_next k n c.active c.key p.opened (next_call (Part.may_begin owner p c) (without_call c.inner call)) j)
      ])
      (λ _. go (waiter_of call c.inner.queue))
    where
      go : (w : Option Waiter) → EndsOpen p (Part.ended_step owner p c call now c.inner (not_open w))
      go None = λ k n i. absurd i
      go (Some w) = λ k n i. absurd i

  tick_from : (p : PartState) (now : ℕ) → EndsOpen p (Part.tick_part owner p now)
  tick_from p now k call =
      cond_both (is_updated p.stage) _ _ (λ (s : PartStep). In (TurnEnded k call) s.marks → IsOpenIn p.cells k call)
      (λ _. each_from k call (Part.tick_cell owner p now) p.cells
      (λ c. cond_both (not (is_free c.inner) && (is_foreign owner p c.key && Part.is_overdue owner p now c)) _ _ (λ (s : CellStep). In (TurnEnded k call) s.marks → (c.key ≡ k) × ((t : Turn) × In t c.inner.turns × (t.call ≡ call)))
      (λ _ i. ends_from k c.key call c.inner.turns i) (λ _ i. absurd i)))
      (λ _ i. absurd i)

  step_from : (p : PartState) (e : PartEvent) → EndsOpen p (part_step owner p e)
  step_from p (events.End call now) = go p.stage
    where
      go : (stage : Stage) → EndsOpen p (Part.step_at owner p stage (events.End call now))
      go Stopped = λ k n i. absurd i
      go Locked = end_from p call now (cell_of_call p.cells call) refl
      go Updated = end_from p call now (cell_of_call p.cells call) refl
      go Open = end_from p call now (cell_of_call p.cells call) refl
  step_from p (events.Tick now) = go p.stage
    where
      go : (stage : Stage) → EndsOpen p (Part.step_at owner p stage (events.Tick now))
      go Stopped = λ k n i. absurd i
      go Locked = tick_from p now
      go Updated = tick_from p now
      go Open = tick_from p now
  step_from p events.StopPart = go p.stage
    where
      go : (stage : Stage) → EndsOpen p (Part.step_at owner p stage events.StopPart)
      go Stopped = λ k n i. absurd i
      go Locked = λ k n i. stop_from k n p.cells i
      go Updated = λ k n i. stop_from k n p.cells i
      go Open = λ k n i. stop_from k n p.cells i
  step_from p e = λ k call i. absurd (let h = (step_counted owner p e).ended in let l = some_ended k call (part_step owner p e).marks i in omega arith)

module _ (owner : PlacementTable → ActorKey → Option HostInfo) (part_of : ActorKey → ℕ → ℕ) where
  record AreEndings (w : ClusterState) : Type 0 where
    told : IsToldWorld owner part_of w
    ended : EndedHadBegun w.marks

  -- a turn that a part has open had begun
  had_begun : (w : ClusterState) (n : ℕ) (p : PartState) (k : ActorKey) (call : ℕ) → IsToldWorld owner part_of w → slice_get w.parts n ≡ Some p → IsOpenIn p.cells k call
      → (chain : Option (List ℕ)) × In (record { member = p.member; what = TurnBegan k call chain }) w.marks
  had_begun w n p k call t at o =
      let c = o.0 in
      let u = o.3.0 in
      let fits = t.told.fits in
      let home : part_of k w.settings.parts ≡ p.number = subst (λ (z : ActorKey). part_of z w.settings.parts ≡ p.number) o.2 (fits.placed n p at c o.1) in
      let in_order = (backed owner w t.safe p (In-slice_get w.parts n p at)).sound.in_order in
      let cell : cell_at p.cells k ≡ Some c = subst (λ (z : ActorKey). cell_at p.cells z ≡ Some c) o.2 (cell_at-In p.cells c in_order o.1) in
      let now : In u (history w.marks p.member k no_activity).turns = subst (λ (z : Activity). In u z.turns) (sym (fits.here n p at k home ∙ ap activity_of cell)) o.3.1 in
      elim (open_began w.marks p.member k no_activity u now) [
        | inl i ↦ absurd i
        | inr i ↦ (u.chain, subst (λ (z : ℕ). In (let x : TraceMark = record { member = p.member; what = TurnBegan k z u.chain } in x) w.marks) o.3.2 i)
      ]

  ended_step : (w : ClusterState) (n : ℕ) (p : PartState) (e : PartEvent) → AreEndings w → slice_get w.parts n ≡ Some p → EndedHadBegun (w.marks ++ tagged p.member (part_step owner p e).marks)
  ended_step w n p e t at before after m k call split =
      elim (split_append w.marks (tagged p.member (part_step owner p e).marks) before after _ split) [
        | inl old ↦ t.ended before old.0 m k call old.1
        | inr new ↦ (
            let s = split_tagged p.member (part_step owner p e).marks new.0 after _ new.2 in
            let i : In (TurnEnded k call) (part_step owner p e).marks = subst (In (TurnEnded k call)) (sym s.3) (In-middle s.0 (TurnEnded k call) s.1) in
            let b = had_begun w n p k call t.told at (step_from owner p e k call i) in
            (b.0, subst (In _) (sym new.1) (In-left w.marks new.0 _ (subst (λ (z : Member). In (let x : TraceMark = record { member = z; what = TurnBegan k call b.0 } in x) w.marks) (sym s.4) b.1))))
      ]

  endings_kept : KeepsToSpace owner → AreKept owner part_of AreEndings
  endings_kept keeps =
      let kept = told_kept owner part_of keeps in
      record {
        safe = λ w t. t.told.safe;
        other = λ w now calls events t. record { told = kept.other w now calls events t.told; ended = t.ended };
        step = λ w n p e t at heard asked. record { told = kept.step w n p e t.told at heard asked; ended = ended_step w n p e t at };
        ask = λ w r t may booted. record { told = kept.ask w r t.told may booted; ended = t.ended };
        answer = λ w r t i. record { told = kept.answer w r t.told i; ended = t.ended };
        change = λ w e t h. record { told = kept.change w e t.told h; ended = t.ended };
        restart = λ w t. record { told = kept.restart w t.told; ended = t.ended };
        boot = λ w m kinds fresh t. record { told = kept.boot w m kinds fresh t.told; ended = t.ended };
      }

  no_split : (before after : List TraceMark) (x : TraceMark) → [] ≡ before ++ x ∷ after → ⊥
  no_split [] after x e = cc
  no_split (y ∷ before) after x e = cc

  pub run_ended : KeepsToSpace owner → (settings : WorldSettings) (es : List WorldEvent) → EndedHadBegun (world.cluster_run owner part_of (world.opening_cluster settings) es).marks
  run_ended keeps settings es =
      (run_kept owner part_of AreEndings (endings_kept keeps) (world.opening_cluster settings) es (record {
        told = record { safe = new_world_safe owner part_of settings; told = new_world_told owner part_of settings };
        ended = λ before after m k call e. absurd (no_split before after _ e);
      })).ended
