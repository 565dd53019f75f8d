-- A poll that prints that a turn has begun finds it open.
use Rattle.std.proofs.Common.{◌≡◌, ℕ, true, List, [], ◌∷◌, set, Option, None, Some, refl, sym, ap, ◌∙◌, subst, inl, inr}
use Rattle.std.specs.Prelude.{◌==◌, nat_le, slice_get}
use Rattle.std.specs.declared.result.Result.TheVariants.{Ok, Err}
use Rattle.std.proofs.lemmas.Bool.{cond_both, or_cases, eqb-true, false≢true}
use Rattle.actor_names.specs.declared.actor_key.ActorKey.{ActorKey}
use Rattle.place_table.specs.declared.host.HostInfo.{HostInfo}
use Rattle.place_table.specs.Hosts.{PlacementTable}
use Rattle.turn_core.specs.declared.cell.Turn.{Turn}
use Rattle.turn_core.specs.declared.cell.Waiter.{Waiter}
use Rattle.turn_core.specs.Cell.{PollStep, has_turn, poll_waiter, waiter_of}
use Rattle.turn_core.specs.CellSound.{In}
use Rattle.part_model.specs.declared.actor_cell.ActorCell.{ActorCell}
use Rattle.part_model.specs.declared.event.PartEvent.TheVariants as events
use Rattle.part_model.specs.declared.event.Reply.TheVariants as replies
use Rattle.part_model.specs.declared.stage.Stage.{Stage}
use Rattle.part_model.specs.declared.stage.Stage.TheVariants.{Locked, Updated, Open, Stopped}
use Rattle.part_model.specs.Cells.{cell_of_call}
use Rattle.part_model.specs.Part
use Rattle.part_model.specs.Part.{PartState, PartStep, owner_reply, part_step}
use Rattle.part_model.specs.Receipts.{PartReply}
use Rattle.part_model.proofs.CellLaws.{In-cell_of_call}
use Rattle.part_model.proofs.PartTables.{part_stepped}
use Rattle.world_events.specs.declared.error.WorldError.{WorldError}
use Rattle.world_events.specs.declared.error.WorldError.TheVariants as refused
use Rattle.world_events.specs.declared.event.WorldEvent.{WorldEvent}
use Rattle.world_events.specs.declared.event.WorldEvent.TheVariants as lines
use Rattle.cluster_model.specs.Asked.{AskedCall, WasAsked}
use Rattle.cluster_model.specs.World as world
use Rattle.cluster_model.specs.World.{ClusterState, WorldStep, CallPlace, call_at, call_outcome, most_events}
use Rattle.cluster_model.proofs.Basics.{In-slice_get}
use Rattle.cluster_model.proofs.Histories.{get-set_same}
use Rattle.cluster_model.proofs.Runs.{IsToldWorld}
use Rattle.cluster_model.proofs.SpaceParts.{backed}
use Rattle.plain_commands.specs.Begins.{FindsOpen, IsOpenAt}

-- ---- the part finds the turn open

turn_of_call : (call : ℕ) (ts : List Turn) → has_turn call ts ≡ true → (t : Turn) × In t ts × (t.call ≡ call)
turn_of_call call [] h = absurd (false≢true h)
turn_of_call call (t ∷ ts) h =
    let more = turn_of_call call ts in
    elim (or_cases (call == t.call) (has_turn call ts) h) [ inl e ↦ (t, inl refl, sym (eqb-true call t.call e)) | inr j ↦ (let k = more j in (k.0, inr k.1, k.2)) ]

-- if the reply is that the turn has begun, the part is as before and has the turn open
abbrev PollsOpen : PartState → ℕ → PartStep → Type 0
PollsOpen p call s = (n : ℕ) (chain : Option (List ℕ)) → s.reply ≡ replies.Begun n chain → (s.part ≡ p) × ((d : ActorCell) × In d p.cells × ((t : Turn) × In t d.inner.turns × (t.call ≡ call)))

moved_begins_none : (version : ℕ) (found : Option HostInfo) (n : ℕ) (chain : Option (List ℕ)) → owner_reply version found ≡ replies.Begun n chain → ⊥
moved_begins_none version None n chain e = cc
moved_begins_none version (Some host) n chain e = cc

module _ (owner : PlacementTable → ActorKey → Option HostInfo) where
  poll_open : (p : PartState) (call : ℕ) (found : Option ActorCell) → cell_of_call p.cells call ≡ found → PollsOpen p call (Part.poll_cell owner p call found)
  poll_open p call None f = λ n chain e. absurd (cc)
  poll_open p call (Some c) f =
      cond_both (has_turn call c.inner.turns) _ _ (λ (a : PollStep). PollsOpen p call (Part.polled_step owner p c call a.cell a.answer))
      (λ t n chain e. (refl, (c, In-cell_of_call p.cells call c f, turn_of_call call c.inner.turns t)))
      (λ _. go (waiter_of call c.inner.queue))
    where
      go : (w : Option Waiter) → PollsOpen p call (Part.polled_step owner p c call (poll_waiter c.inner call w).cell (poll_waiter c.inner call w).answer)
      go None = λ n chain e. absurd (cc)
      go (Some w) =
          cond_both w.moved _ _ (λ (a : PollStep). PollsOpen p call (Part.polled_step owner p c call a.cell a.answer))
          (λ _ n chain e. absurd (moved_begins_none p.table.version (owner p.table c.key) n chain e))
          (λ _ n chain e. absurd (cc))

  poll_step : (p : PartState) (call : ℕ) → PollsOpen p call (part_step owner p (events.Poll call))
  poll_step p call = go p.stage
    where
      go : (stage : Stage) → PollsOpen p call (Part.step_at owner p stage (events.Poll call))
      go Stopped = λ n chain e. absurd (cc)
      go Locked = poll_open p call (cell_of_call p.cells call) refl
      go Updated = poll_open p call (cell_of_call p.cells call) refl
      go Open = poll_open p call (cell_of_call p.cells call) refl

-- ---- the line

poll_prints : (IsOpen : ℕ → Type 0) (number : ℕ) (reply : PartReply) → ((n : ℕ) (chain : Option (List ℕ)) → reply ≡ replies.Begun n chain → IsOpen number) → FindsOpen IsOpen (lines.Poll number) (Ok (call_outcome number reply))
poll_prints IsOpen number (replies.Begun n chain) finds = finds n chain refl
poll_prints IsOpen number reply finds = tt

refused_prints : (IsOpen : ℕ → Type 0) (e : WorldEvent) (error : WorldError) → FindsOpen IsOpen e (Err error)
refused_prints IsOpen (lines.Poll number) error = tt
refused_prints IsOpen e error = tt

module _ (owner : PlacementTable → ActorKey → Option HostInfo) (part_of : ActorKey → ℕ → ℕ) where
  -- what is known after the line: each open turn was asked, each call has one number, and a member has one part of a number
  pub record KnowsOpen (n : ℕ) (ps : List PartState) (calls : List (Option CallPlace)) (asked : List AskedCall) : Type 0 where
    pub open_turns : (p : PartState) (c : ActorCell) (t : Turn) → In p ps → In c p.cells → In t c.inner.turns → WasAsked part_of n ps calls asked p.member c.key t.call t.chain
    pub one_number : (i j : ℕ) (c : CallPlace) → call_at calls i ≡ Some c → call_at calls j ≡ Some c → i ≡ j
    pub apart : (i j : ℕ) (p q : PartState) → slice_get ps i ≡ Some p → slice_get ps j ≡ Some q → p.member ≡ q.member → p.number ≡ q.number → i ≡ j

  module _ (asked : List AskedCall) (w : ClusterState) (told : IsToldWorld owner part_of w) where
    abbrev pub LineFinds : WorldEvent → WorldStep → Type 0
    LineFinds e s = KnowsOpen s.world.settings.parts s.world.parts s.world.calls asked → FindsOpen (IsOpenAt part_of s.world.settings.parts s.world.parts s.world.calls asked) e s.outcome

    poll_finds : (number : ℕ) (o : Option CallPlace) → call_at w.calls number ≡ o → LineFinds (lines.Poll number) (world.poll_call owner part_of w number o)
    poll_finds number None taken = λ _. tt
    poll_finds number (Some c) taken = go (slice_get w.parts c.place) refl
      where
        go : (found : Option PartState) → slice_get w.parts c.place ≡ found → LineFinds (lines.Poll number) (world.step_of_part owner part_of w c.place (events.Poll c.call) (call_outcome number) found)
        go None at = λ _. tt
        go (Some p) at = λ knows.
            let finds = IsOpenAt part_of w.settings.parts (set w.parts c.place (part_step owner p (events.Poll c.call)).part) w.calls asked in
            poll_prints finds number (part_step owner p (events.Poll c.call)).reply (λ n chain e.
            let q : PartState = (part_step owner p (events.Poll c.call)).part in
            let st = part_stepped owner p (events.Poll c.call) (backed owner w told.safe p (In-slice_get w.parts c.place p at)).sound in
            let h = poll_step owner p c.call n chain e in
            let d = h.1.0 in
            let t = h.1.2.0 in
            let here : slice_get (set w.parts c.place q) c.place ≡ Some q = get-set_same w.parts c.place q p at in
            let in_world = In-slice_get (set w.parts c.place q) c.place q here in
            let in_part : In d q.cells = subst (λ (z : PartState). In d z.cells) (sym h.0) h.1.1 in
            let line = knows.open_turns q d t in_world in_part h.1.2.1 in
            let home : part_of d.key w.settings.parts ≡ p.number = told.told.fits.placed c.place p at d h.1.1 in
            let place : line.place ≡ c.place = knows.apart line.place c.place line.part q line.found here line.of_member (line.of_key ∙ home ∙ sym st.number) in
            let mine : CallPlace = record { place = line.place; call = t.call } in
            let same : mine ≡ c = (let call = h.1.2.2 in λ i. record { place = place i; call = call i }) in
            record {
              part = q;
              cell = d;
              open_turn = t;
              in_parts = in_world;
              in_part = in_part;
              in_cell = h.1.2.1;
              numbered = (line, knows.one_number line.number number c (line.stands ∙ ap Some same) taken);
            })

    line_finds : (e : WorldEvent) → LineFinds e (world.happens owner part_of w e)
    line_finds (lines.Poll number) = poll_finds number (call_at w.calls number) refl
    line_finds e = λ _. tt

    pub step_finds : (e : WorldEvent) → LineFinds e (world.cluster_step owner part_of w e)
    step_finds e = cond_both (nat_le most_events w.events) _ _ (LineFinds e) (λ _ _. refused_prints (IsOpenAt part_of w.settings.parts w.parts w.calls asked) e (refused.Spent w.events)) (λ _. line_finds e)
