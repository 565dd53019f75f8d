-- What each line of a script prints of the turns that began, against the marks that its event adds.
use Rattle.std.proofs.Common.{◌≡◌, ℕ, ◌+◌, true, false, List, [], ◌∷◌, ◌++◌, length, set, Option, None, Some, refl, sym, ap, ◌∙◌, subst, inl, inr, append_assoc}
use Rattle.std.specs.Prelude.{suc, ◌==◌, nat_le, map, slice_get}
use Rattle.std.specs.declared.result.Result.{Result}
use Rattle.std.specs.declared.result.Result.TheVariants.{Ok, Err}
use Rattle.std.proofs.lemmas.Bool.{cond_both, eqb-true}
use Rattle.actor_names.specs.declared.member.Member.{Member}
use Rattle.actor_names.specs.declared.actor_key.ActorKey.{ActorKey}
use Rattle.place_table.specs.declared.host.HostInfo.{HostInfo}
use Rattle.place_table.specs.Hosts.{PlacementTable}
use Rattle.turn_core.specs.CellSound.{In}
use Rattle.part_model.specs.declared.ack.Ack as declared
use Rattle.part_model.specs.declared.event.PartEvent.{PartEvent}
use Rattle.part_model.specs.declared.event.PartEvent.TheVariants as events
use Rattle.part_model.specs.declared.event.Reply.TheVariants as replies
use Rattle.part_model.specs.declared.stage.SeenStage.{SeenStage}
use Rattle.part_model.specs.declared.stage.SeenStage.TheVariants as seen
use Rattle.part_model.specs.Acks.{collected, are_stopped}
use Rattle.part_model.specs.Activity.{IsAsked}
use Rattle.part_model.specs.Marks.{TurnBegan, begun_calls}
use Rattle.part_model.specs.Part.{PartState, part_step}
use Rattle.part_model.specs.Receipts.{PartReply, ReceiptState}
use Rattle.part_model.proofs.KeyOrders.{same_key-self}
use Rattle.part_model.proofs.PartReplays.{part_replays}
use Rattle.part_model.proofs.PartTables.{part_stepped}
use Rattle.round_core.specs.declared.event.PlaceReply.{PlaceReply}
use Rattle.round_core.specs.declared.event.PlaceReply.TheVariants as place_replies
use Rattle.round_core.specs.declared.event.PlaceEvent.TheVariants as changes
use Rattle.placement_core.specs.Placement.{late_in, placement_step}
use Rattle.world_events.specs.declared.error.WorldError.{WorldError}
use Rattle.world_events.specs.declared.error.WorldError.TheVariants as refused
use Rattle.world_events.specs.declared.event.WorldEvent.{WorldEvent}
use Rattle.world_events.specs.declared.event.WorldEvent.TheVariants as lines
use Rattle.world_events.specs.declared.outcome.Outcome.{Outcome}
use Rattle.world_events.specs.declared.outcome.Outcome.TheVariants as out
use Rattle.world_events.specs.declared.outcome.TurnOutcome.TheVariants as turn
use Rattle.cluster_model.specs.Asked.{AskedCall, WasAsked}
use Rattle.cluster_model.specs.Messages.{Answer, LockAt, UpdateTo, UnlockAt, Says, Message, Asks, Tells, told_event}
use Rattle.cluster_model.specs.World as world
use Rattle.cluster_model.specs.World.{ClusterState, WorldStep, CallPlace, TraceMark, ask_of, call_at, call_outcome, closed_outcome, closing_outcome, end_outcome, hold_outcome, most_events, place_of_call, script_number, seen_outcome, stop_outcome, tagged, told_outcome}
use Rattle.cluster_model.proofs.AskedLines.{append_nil, call_at-last}
use Rattle.cluster_model.proofs.Basics.{In-right, In-slice_get}
use Rattle.cluster_model.proofs.Histories.{get-set_same}
use Rattle.cluster_model.proofs.Named.{ask_asks, same_place}
use Rattle.cluster_model.proofs.Runs.{IsToldWorld}
use Rattle.cluster_model.proofs.SpaceParts.{backed}
use Rattle.plain_commands.specs.Begins.{BegunTurn, AreInStep, AreTold, IsNumberAt, begun_in, listed}
use Rattle.plain_commands.proofs.BegunNumbers.{begun_in-append, begun_in-tagged, begun_in-none, In-tags, in_step, listed-next, script_number-is}
use Rattle.plain_commands.proofs.BegunParts.{AskTells, EndTells, CloseTells, TableTells, StepTells, call_tells, step_tells}

-- ---- what a reply makes a line print, against the calls that began

module _ (IsNumber : ℕ → BegunTurn → Type 0) (number : ℕ → ℕ) (begun : List ℕ) (ts : List BegunTurn) (step : AreInStep IsNumber (map number begun) ts) where
  none_began : begun ≡ [] → AreInStep IsNumber [] ts
  none_began e = subst (λ (z : List ℕ). AreInStep IsNumber (map number z) ts) e step

  call_line : (n : ℕ) (m : Member) (key : ActorKey) (least : ℕ) (chain : Option (List ℕ)) (reply : PartReply) → ((call : ℕ) (c : Option (List ℕ)) → reply ≡ replies.Begun call c → number call ≡ n) → AskTells reply begun
      → AreTold IsNumber (lines.Call n m key least chain) (Ok (call_outcome n reply)) ts
  call_line n m key least chain (replies.Begun call c) is tells =
      subst (λ (z : ℕ). AreInStep IsNumber (z ∷ []) ts) (is call c refl) (subst (λ (z : List ℕ). AreInStep IsNumber (map number z) ts) tells step)
  call_line n m key least chain reply is tells = none_began tells

  poll_line : (n : ℕ) (reply : PartReply) → begun ≡ [] → AreTold IsNumber (lines.Poll n) (Ok (call_outcome n reply)) ts
  poll_line n (replies.Begun call c) none = none_began none
  poll_line n reply none = none_began none

  hold_line : (m : Member) (key : ActorKey) (reply : PartReply) → begun ≡ [] → AreTold IsNumber (lines.Hold m key) (Ok (hold_outcome reply)) ts
  hold_line m key replies.NotActive none = none_began none
  hold_line m key reply none = none_began none

  release_line : (m : Member) (key : ActorKey) (reply : PartReply) → begun ≡ [] → AreTold IsNumber (lines.Release m key) (Ok (hold_outcome reply)) ts
  release_line m key replies.NotActive none = none_began none
  release_line m key reply none = none_began none

  closing_line : (m : Member) (i : ℕ) (reply : PartReply) → begun ≡ [] → AreTold IsNumber (lines.Closing m i) (Ok (closing_outcome reply)) ts
  closing_line m i replies.NoneClosing none = none_began none
  closing_line m i reply none = none_began none

  stop_line : (m : Member) (i : ℕ) (reply : PartReply) → begun ≡ [] → AreTold IsNumber (lines.Stop m i) (Ok (stop_outcome reply)) ts
  stop_line m i (replies.StoppedNow r) none = none_began none
  stop_line m i reply none = none_began none

  seen_line : (k i : ℕ) (r : ReceiptState) (stage : SeenStage) → begun ≡ [] → AreTold IsNumber (lines.Part k i) (Ok (seen_outcome r stage)) ts
  seen_line k i r seen.Locked none = none_began none
  seen_line k i r seen.Draining none = none_began none
  seen_line k i r seen.Drained none = none_began none
  seen_line k i r seen.Open none = none_began none
  seen_line k i r seen.Stopped none = none_began none

  told_line : (k i : ℕ) (reply : PartReply) → length ts ≡ length begun → TableTells reply begun → AreTold IsNumber (lines.Part k i) (Ok (told_outcome reply)) ts
  told_line k i (replies.TableStep r true) many tells = seen_line k i r r.stage tells
  told_line k i (replies.TableStep r false) many tells = none_began tells
  told_line k i (replies.Opened r b moved) many tells = many ∙ tells
  told_line k i reply many tells = none_began tells

-- a next call has its number in the script
module _ (IsNumber : ℕ → BegunTurn → Type 0) (cs : List (Option CallPlace)) (place : ℕ) (begun : List ℕ) (ts : List BegunTurn) (step : AreInStep IsNumber (map (script_number cs 1 place) begun) ts) where
  next_began : (next : Option ℕ) → begun ≡ listed next → AreInStep IsNumber (listed (world.next_number cs place next)) ts
  next_began next e = subst (λ (z : List ℕ). AreInStep IsNumber z ts) (listed-next cs place next) (subst (λ (z : List ℕ). AreInStep IsNumber (map (script_number cs 1 place) z) ts) e step)

  end_line : (n : ℕ) (reply : PartReply) → EndTells reply begun → AreTold IsNumber (lines.End n) (Ok (end_outcome cs n place reply)) ts
  end_line n (replies.Ended next) tells = next_began next tells
  end_line n reply tells = next_began None tells

  closed_line : (m : Member) (key : ActorKey) (reply : PartReply) → CloseTells reply begun → AreTold IsNumber (lines.Closed m key) (Ok (closed_outcome cs key place reply)) ts
  closed_line m key (replies.ClosedDone next) tells = next_began next tells
  closed_line m key reply tells = next_began None tells

-- ---- what the placement says begins no turn

lost_line : (IsNumber : ℕ → BegunTurn → Type 0) (m : Member) (reply : PlaceReply) → AreTold IsNumber (lines.Lost m) (Ok (world.lost_outcome m reply)) []
lost_line IsNumber m place_replies.Gone = tt
lost_line IsNumber m reply = tt

dropped_line : (IsNumber : ℕ → BegunTurn → Type 0) (reply : PlaceReply) → AreTold IsNumber lines.PlacementTick (Ok (world.dropped_outcome reply)) []
dropped_line IsNumber (place_replies.Ticked dropped) = tt
dropped_line IsNumber reply = tt

refused_line : (IsNumber : ℕ → BegunTurn → Type 0) (e : WorldEvent) (error : WorldError) → AreTold IsNumber e (Err error) []
refused_line IsNumber (lines.Poll n) error = tt
refused_line IsNumber e error = tt

-- ---- a line

-- these marks were added, and this holds of the turns that begin in them
pub record Adds (old new : List TraceMark) (P : List BegunTurn → Type 0) : Type 0 where
  pub added : List TraceMark
  pub marks : new ≡ old ++ added
  pub told : P (begun_in added)

module _ (owner : PlacementTable → ActorKey → Option HostInfo) (part_of : ActorKey → ℕ → ℕ) where
  -- what is known of the calls after the line: each turn that began was asked, each call has one number, and a member has one
  -- part of a number
  pub record KnowsCalls (n : ℕ) (ps : List PartState) (calls : List (Option CallPlace)) (marks : List TraceMark) (asked : List AskedCall) : Type 0 where
    pub began : (m : Member) (k : ActorKey) (call : ℕ) (chain : Option (List ℕ)) → In (record { member = m; what = TurnBegan k call chain }) marks → WasAsked part_of n ps calls asked m k call chain
    pub one_number : (i j : ℕ) (c : CallPlace) → call_at calls i ≡ Some c → call_at calls j ≡ Some c → i ≡ j
    pub apart : (i j : ℕ) (p q : PartState) → slice_get ps i ≡ Some p → slice_get ps j ≡ Some q → p.member ≡ q.member → p.number ≡ q.number → i ≡ j

  module _ (asked : List AskedCall) (w : ClusterState) (told : IsToldWorld owner part_of w) where
    abbrev pub Knows : ClusterState → Type 0
    Knows v = KnowsCalls v.settings.parts v.parts v.calls v.marks asked

    abbrev pub LineTold : WorldEvent → WorldStep → Type 0
    LineTold e s = Knows s.world → Adds w.marks s.world.marks (AreTold (IsNumberAt part_of s.world.settings.parts s.world.parts s.world.calls asked) e s.outcome)

    -- the numbers of turns in the world as it is
    abbrev Now : ℕ → BegunTurn → Type 0
    Now = IsNumberAt part_of w.settings.parts w.parts w.calls asked

    -- no mark is added
    same : (P : List BegunTurn → Type 0) (marks : List TraceMark) → marks ≡ w.marks → P [] → Adds w.marks marks P
    same P marks m none = record { added = []; marks = m ∙ sym (append_nil w.marks); told = none }

    -- ---- a part takes a step

    module _ (n : ℕ) (p : PartState) (at : slice_get w.parts n ≡ Some p) (x : PartEvent) (calls : List (Option CallPlace)) (asks : (k : ActorKey) → IsAsked x k → part_of k w.settings.parts ≡ p.number)
        (knows : KnowsCalls w.settings.parts (set w.parts n (part_step owner p x).part) calls (w.marks ++ tagged p.member (part_step owner p x).marks) asked) where
      abbrev Number : ℕ → BegunTurn → Type 0
      Number = IsNumberAt part_of w.settings.parts (set w.parts n (part_step owner p x).part) calls asked

      -- a turn that begins is of an actor of the part, so its call was taken at this place
      here : (k : ActorKey) (call : ℕ) (chain : Option (List ℕ)) → In (TurnBegan k call chain) (part_step owner p x).marks
          → (line : WasAsked part_of w.settings.parts (set w.parts n (part_step owner p x).part) calls asked p.member k call chain) × (call_at calls line.number ≡ Some (record { place = n; call = call }))
      here k call chain i =
          let q : PartState = (part_step owner p x).part in
          let sound = (backed owner w told.safe p (In-slice_get w.parts n p at)).sound in
          let st = part_stepped owner p x sound in
          let home : part_of k w.settings.parts ≡ p.number = elim ((part_replays owner p x sound).marked (TurnBegan k call chain) k i (same_key-self k)) [
            | inl h ↦ subst (λ (z : ActorKey). part_of z w.settings.parts ≡ p.number) h.2 (told.told.fits.placed n p at h.0 h.1)
            | inr a ↦ asks k a
          ] in
          let line = knows.began p.member k call chain (In-right w.marks (tagged p.member (part_step owner p x).marks) _ (In-tags p.member (TurnBegan k call chain) (part_step owner p x).marks i)) in
          let place : line.place ≡ n = knows.apart line.place n line.part q line.found (get-set_same w.parts n q p at) (line.of_member ∙ sym st.member) (line.of_key ∙ home ∙ sym st.number) in
          (line, subst (λ (z : ℕ). call_at calls line.number ≡ Some (let c : CallPlace = record { place = z; call = call } in c)) place line.stands)

      numbered : AreInStep Number (map (script_number calls 1 n) (begun_calls (part_step owner p x).marks)) (begun_in (tagged p.member (part_step owner p x).marks))
      numbered =
          in_step Number (script_number calls 1 n) p.member (part_step owner p x).marks
          (λ k call chain i.
          let h = here k call chain i in
          let c : CallPlace = record { place = n; call = call } in
          (h.0, sym (script_number-is calls h.0.number c h.1 (λ j e. knows.one_number j h.0.number c e h.1))))

    -- what a line prints for a reply, if it prints so for each
    abbrev Prints : WorldEvent → ℕ → PartEvent → (PartReply → Outcome) → Type 1
    Prints e n x says =
        (P : ℕ → BegunTurn → Type 0) (reply : PartReply) (begun : List ℕ) (ts : List BegunTurn) → AreInStep P (map (script_number w.calls 1 n) begun) ts → length ts ≡ length begun → StepTells x reply begun → AreTold P e (Ok (says reply)) ts

    step_line : (e : WorldEvent) (n : ℕ) (x : PartEvent) (says : PartReply → Outcome) → ((k : ActorKey) → IsAsked x k → ⊥) → ((P : ℕ → BegunTurn → Type 0) → AreTold P e (Ok (out.Turn turn.NotThere)) []) → Prints e n x says
        → (found : Option PartState) → slice_get w.parts n ≡ found → LineTold e (world.step_of_part owner part_of w n x says found)
    step_line e n x says quiet none prints None at = λ _. same _ _ refl (none Now)
    step_line e n x says quiet none prints (Some p) at = λ knows.
        let xs = (part_step owner p x).marks in
        let numbers = IsNumberAt part_of w.settings.parts (set w.parts n (part_step owner p x).part) w.calls asked in
        record {
          added = tagged p.member xs;
          marks = refl;
          told = prints numbers (part_step owner p x).reply (begun_calls xs) (begun_in (tagged p.member xs)) (numbered n p at x w.calls (λ k a. absurd (quiet k a)) knows) (begun_in-tagged p.member xs) (step_tells owner p x);
        }

    does_line : (e : WorldEvent) (o : Option ℕ) (x : PartEvent) (says : ℕ → PartReply → Outcome) → ((k : ActorKey) → IsAsked x k → ⊥) → ((P : ℕ → BegunTurn → Type 0) → AreTold P e (Ok (out.Turn turn.NotThere)) []) → ((n : ℕ) → Prints e n x (says n))
        → LineTold e (world.part_does owner part_of w o x says)
    does_line e None x says quiet none prints = λ _. same _ _ refl (none Now)
    does_line e (Some n) x says quiet none prints = step_line e n x (says n) quiet none (prints n) (slice_get w.parts n) refl

    -- ---- the lines that begin turns

    call_told : (number : ℕ) (m : Member) (key : ActorKey) (least : ℕ) (chain : Option (List ℕ)) → number ≡ suc (length w.calls) → (o : Option ℕ) → world.key_place_of owner part_of w m key ≡ o
        → LineTold (lines.Call number m key least chain) (world.call_at_place owner part_of w number (ask_of key least chain w.now) o)
    call_told number m key least chain next None home = λ _. same _ _ refl tt
    call_told number m key least chain next (Some n) home = go (slice_get w.parts n) refl
      where
        go : (found : Option PartState) → slice_get w.parts n ≡ found → LineTold (lines.Call number m key least chain) (world.call_of_part owner part_of w number n (ask_of key least chain w.now) found)
        go None at = λ _. same _ _ refl tt
        go (Some p) at = λ knows.
            let x : PartEvent = ask_of key least chain w.now in
            let xs = (part_step owner p x).marks in
            let reply = (part_step owner p x).reply in
            let calls : List (Option CallPlace) = w.calls ++ place_of_call n (part_step owner p (ask_of key least chain w.now)).reply ∷ [] in
            let asks : (k : ActorKey) → IsAsked (ask_of key least chain w.now) k → part_of k w.settings.parts ≡ p.number = λ k a.
            ap (λ (z : ActorKey). part_of z w.settings.parts) (sym (ask_asks key least chain w.now k a)) ∙ sym (same_place w.parts m (part_of key w.settings.parts) n p home at).1 in
            let numbers = IsNumberAt part_of w.settings.parts (set w.parts n (part_step owner p (ask_of key least chain w.now)).part) calls asked in
            let is : (call : ℕ) (c : Option (List ℕ)) → (part_step owner p (ask_of key least chain w.now)).reply ≡ replies.Begun call c → script_number calls 1 n call ≡ number = λ call c e.
            (let new : CallPlace = record { place = n; call = call } in
            let stands : call_at calls number ≡ Some new = ap (call_at calls) next ∙ call_at-last w.calls (place_of_call n reply) ∙ ap (place_of_call n) e in
            script_number-is calls number new stands (λ j f. knows.one_number j number new f stands)) in
            record {
              added = tagged p.member xs;
              marks = refl;
              told = call_line numbers (script_number calls 1 n) (begun_calls xs) (begun_in (tagged p.member xs)) (numbered n p at x calls asks knows) number m key least chain reply is (call_tells owner p key least chain w.now);
            }

    end_told : (number : ℕ) (o : Option CallPlace) → LineTold (lines.End number) (world.end_call owner part_of w number o)
    end_told number None = λ _. same _ _ refl tt
    end_told number (Some c) =
        step_line (lines.End number) c.place (events.End c.call w.now) (end_outcome w.calls number c.place) (λ k a. a) (λ P. tt)
        (λ P reply begun ts step many tells. end_line P w.calls c.place begun ts step number reply tells) (slice_get w.parts c.place) refl

    closed_told : (m : Member) (key : ActorKey) → LineTold (lines.Closed m key) (world.part_does owner part_of w (world.key_place_of owner part_of w m key) (events.Closed key) (closed_outcome w.calls key))
    closed_told m key =
        does_line (lines.Closed m key) (world.key_place_of owner part_of w m key) (events.Closed key) (closed_outcome w.calls key) (λ k a. a) (λ P. tt)
        (λ n P reply begun ts step many tells. closed_line P w.calls n begun ts step m key reply tells)

    -- a message that a part is told
    table_told : (k i n : ℕ) (answer : Answer) → LineTold (lines.Part k i) (world.told_part owner part_of w n (told_event answer w.now) (slice_get w.parts n))
    table_told k i n (LockAt v) =
        step_line (lines.Part k i) n (events.Lock v) told_outcome (λ j a. a) (λ P. tt) (λ P reply begun ts step many tells. told_line P (script_number w.calls 1 n) begun ts step k i reply many tells) (slice_get w.parts n) refl
    table_told k i n (UpdateTo t) =
        step_line (lines.Part k i) n (events.Update t w.now) told_outcome (λ j a. a) (λ P. tt) (λ P reply begun ts step many tells. told_line P (script_number w.calls 1 n) begun ts step k i reply many tells) (slice_get w.parts n) refl
    table_told k i n (UnlockAt v) =
        step_line (lines.Part k i) n (events.Unlock v) told_outcome (λ j a. a) (λ P. tt) (λ P reply begun ts step many tells. told_line P (script_number w.calls 1 n) begun ts step k i reply many tells) (slice_get w.parts n) refl
    table_told k i n (Says reply) = λ _. same _ _ refl tt

    tell_told : (k i : ℕ) (answer : Answer) (o : Option ℕ) → LineTold (lines.Part k i) (world.tell_part owner part_of w answer o)
    tell_told k i answer None = λ _. same _ _ refl tt
    tell_told k i answer (Some n) = table_told k i n answer

    part_told : (k i : ℕ) (o : Option Message) → LineTold (lines.Part k i) (world.to_part owner part_of w i o)
    part_told k i None = λ _. same _ _ refl tt
    part_told k i (Some (Asks r)) = λ _. same _ _ refl tt
    part_told k i (Some (Tells m answer)) = tell_told k i answer (world.place_of_part w.parts m i)

    -- ---- the lines that begin none

    poll_told : (number : ℕ) (o : Option CallPlace) → LineTold (lines.Poll number) (world.poll_call owner part_of w number o)
    poll_told number None = λ _. same _ _ refl tt
    poll_told number (Some c) =
        step_line (lines.Poll number) c.place (events.Poll c.call) (call_outcome number) (λ k a. a) (λ P. tt)
        (λ P reply begun ts step many tells. poll_line P (script_number w.calls 1 c.place) begun ts step number reply tells) (slice_get w.parts c.place) refl

    acks_told : (m : Member) (o : Option declared.Ack) → LineTold (lines.Collect m) (world.add_ack owner part_of w m o)
    acks_told m None = λ _. same _ _ refl tt
    acks_told m (Some a) = λ _. same _ _ refl tt

    to_told : (k : ℕ) (o : Option Message) → LineTold (lines.To k) (world.deliver w o)
    to_told k None = λ _. same _ _ refl tt
    to_told k (Some (Tells m answer)) = λ _. same _ _ refl tt
    to_told k (Some (Asks r)) = λ _. same _ _ refl tt

    honest_told : (o : Option Member) → LineTold lines.PlacementTick (world.honest_tick w o)
    honest_told None = λ _. same _ _ refl (dropped_line Now (placement_step w.placement changes.Tick w.now).reply)
    honest_told (Some m) = λ _. same _ _ refl tt

    -- ---- a Tick, of each part of a member

    -- these marks were added, and no turn begins in them
    abbrev AddsNone : ClusterState → ClusterState → Type 0
    AddsNone old new = (added : List TraceMark) × (new.marks ≡ old.marks ++ added) × (begun_in added ≡ [])

    tick_adds : (v : ClusterState) (n : ℕ) (found : Option PartState) → AddsNone v (world.step_of_part owner part_of v n (events.Tick v.now) (λ reply. out.TickEnded (world.ended_turns reply)) found).world
    tick_adds v n None = ([], sym (append_nil v.marks), refl)
    tick_adds v n (Some p) = (tagged p.member (part_step owner p (events.Tick v.now)).marks, refl, begun_in-none p.member (part_step owner p (events.Tick v.now)).marks (step_tells owner p (events.Tick v.now)))

    ticks_add : (v : ClusterState) (ns : List ℕ) (turns : ℕ) → AddsNone v (world.tick_each owner part_of v ns turns).world × ((t : ℕ) × ((world.tick_each owner part_of v ns turns).outcome ≡ Ok (out.TickEnded t)))
    ticks_add v [] turns = (([], sym (append_nil v.marks), refl), (turns, refl))
    ticks_add v (n ∷ ns) turns =
        let one = tick_adds v n (slice_get v.parts n) in
        let more = ticks_add (world.tick_part owner part_of v n).world ns (turns + world.turns_ended owner part_of (world.tick_part owner part_of v n).outcome) in (
          (
            one.0 ++ more.0.0,
            more.0.1 ∙ ap (λ (z : List TraceMark). z ++ more.0.0) one.1 ∙ append_assoc v.marks one.0 more.0.0,
            begun_in-append one.0 more.0.0 ∙ ap (λ (z : List BegunTurn). z ++ begun_in more.0.0) one.2 ∙ more.0.2,
          ),
          more.1,
        )

    tick_told : (m : Member) (ns : List ℕ) → LineTold (lines.Tick m) (world.tick_each owner part_of w ns 0)
    tick_told m ns = λ _.
        let h = ticks_add w ns 0 in
        let v = (world.tick_each owner part_of w ns 0).world in
        let numbers : ℕ → BegunTurn → Type 0 = IsNumberAt part_of v.settings.parts v.parts v.calls asked in
        record {
          added = h.0.0;
          marks = h.0.1;
          told = subst (λ (z : Result Outcome WorldError). AreTold numbers (lines.Tick m) z (begun_in h.0.0)) (sym h.1.1) (subst (λ (z : List BegunTurn). AreInStep numbers [] z) (sym h.0.2) tt);
        }

    -- ---- every line

    pub line_told : (e : WorldEvent) → LineTold e (world.happens owner part_of w e)
    line_told (lines.At moment) = λ _. same _ _ refl tt
    line_told (lines.Boot space node kinds) = λ _. same _ _ refl tt
    line_told (lines.Beat m) = cond_both (world.was_booted w.parts m) _ _ (LineTold (lines.Beat m)) (λ _ _. same _ _ refl tt) (λ _ _. same _ _ refl tt)
    line_told (lines.Collect m) =
        cond_both (world.was_booted w.parts m) _ _ (LineTold (lines.Collect m)) (λ _. acks_told m (collected (world.receipts_of owner part_of w.parts m))) (λ _ _. same _ _ refl tt)
    line_told (lines.Leave m) =
        cond_both (world.was_booted w.parts m) _ _ (LineTold (lines.Leave m))
        (λ _. cond_both (are_stopped (world.receipts_of owner part_of w.parts m)) _ _ (LineTold (lines.Leave m)) (λ _ _. same _ _ refl tt) (λ _ _. same _ _ refl tt))
        (λ _ _. same _ _ refl tt)
    line_told (lines.To k) = to_told k (world.message_at w k)
    line_told (lines.Part k i) = part_told k i (world.message_at w k)
    line_told (lines.Call number m key least chain) =
        cond_both (number == suc (length w.calls)) _ _ (LineTold (lines.Call number m key least chain))
        (λ b. call_told number m key least chain (eqb-true number (suc (length w.calls)) b) (world.key_place_of owner part_of w m key) refl)
        (λ _ _. same _ _ refl tt)
    line_told (lines.Poll number) = poll_told number (call_at w.calls number)
    line_told (lines.End number) = end_told number (call_at w.calls number)
    line_told (lines.Hold m key) =
        does_line (lines.Hold m key) (world.key_place_of owner part_of w m key) (events.Hold key) (λ _. hold_outcome) (λ k a. a) (λ P. tt) (λ n P reply begun ts step many tells. hold_line P (script_number w.calls 1 n) begun ts step m key reply tells)
    line_told (lines.Release m key) =
        does_line (lines.Release m key) (world.key_place_of owner part_of w m key) (events.Release key w.now) (λ _. hold_outcome) (λ k a. a) (λ P. tt) (λ n P reply begun ts step many tells. release_line P (script_number w.calls 1 n) begun ts step m key reply tells)
    line_told (lines.Tick m) = cond_both (world.was_booted w.parts m) _ _ (LineTold (lines.Tick m)) (λ _. tick_told m (world.places_of w.parts m 0)) (λ _ _. same _ _ refl tt)
    line_told (lines.Closing m i) =
        does_line (lines.Closing m i) (world.place_of_part w.parts m i) (events.TakeClosing w.now) (λ _. closing_outcome) (λ k a. a) (λ P. tt) (λ n P reply begun ts step many tells. closing_line P (script_number w.calls 1 n) begun ts step m i reply tells)
    line_told (lines.Closed m key) = closed_told m key
    line_told (lines.Stop m i) =
        does_line (lines.Stop m i) (world.place_of_part w.parts m i) events.StopPart (λ _. stop_outcome) (λ k a. a) (λ P. tt) (λ n P reply begun ts step many tells. stop_line P (script_number w.calls 1 n) begun ts step m i reply tells)
    line_told (lines.Lost m) =
        cond_both (world.was_booted w.parts m) _ _ (LineTold (lines.Lost m))
        (λ _. cond_both (world.all_stopped w.parts m) _ _ (LineTold (lines.Lost m)) (λ _ _. same _ _ refl (lost_line Now m (placement_step w.placement (changes.Lost m) w.now).reply)) (λ _ _. same _ _ refl tt))
        (λ _ _. same _ _ refl tt)
    line_told lines.PlacementTick = honest_told (world.running_among w.parts (late_in w.placement.rooms w.now))
    line_told lines.Restart = λ _. same _ _ refl tt

    pub step_told : (e : WorldEvent) → LineTold e (world.cluster_step owner part_of w e)
    step_told e = cond_both (nat_le most_events w.events) _ _ (LineTold e) (λ _ _. same _ _ refl (refused_line Now e (refused.Spent w.events))) (λ _. line_told e)
