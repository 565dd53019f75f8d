-- What the definitions of a turn mean.
use Rattle.std.proofs.Common.{◌≡◌, ℕ, suc, Bool, true, false, List, [], ◌∷◌, length, Option, Some, None, Result, Ok, Err, refl, ap, subst, inl, inr}
use Rattle.std.specs.Prelude.{◌||◌, ◌&&◌, ◌==◌, nat_lt, if◌then◌else◌, ◌⊎◌}
use Rattle.actor_names.specs.declared.member.Member.{Member}
use Rattle.place_table.specs.declared.host.HostInfo.{HostInfo}
use Rattle.place_table.specs.declared.ack_stage.AckStage.{AckStage}
use Rattle.part_model.specs.Receipts.{PartReply}
use Rattle.part_model.specs.declared.event.Reply.TheVariants as replies
use Rattle.part_model.specs.declared.stage.Stage.{Stage}
use Rattle.part_model.specs.declared.stage.Stage.TheVariants.{Locked, Updated, Open, Stopped}
use Rattle.part_model.specs.Receipts.{ReceiptState}
use Rattle.part_model.specs.Part.{PartState, PartStep, part_step, step_at, running_step, is_updated, is_locked, refused, each_cell, tick_cell, ticked_with, changed_to, unchanged, is_drained, open_part, receipt_of}
use Rattle.sidecar_node.specs.declared.rounds.RoundEvent.{RoundEvent}
use Rattle.sidecar_node.specs.declared.rounds.RoundEvent.TheVariants as rounds
use Rattle.sidecar_node.specs.Rounds.{part_event}
use Rattle.actor_names.specs.declared.actor_key.ActorKey.{ActorKey}
use Rattle.place_table.specs.Hosts.{PlacementTable}
use Rattle.step_gate.specs.declared.gate.Spent.{Spent}
use Rattle.part_model.specs.declared.ack.Ack.{Ack}
use Rattle.member_core.specs.declared.ack.CollectError.{CollectError}
use Rattle.frame_wire.specs.declared.frame.Frame.TheVariants as frames
use Rattle.sidecar_node.specs.Turns.{Said, first_spent}
use Rattle.placement_beats.specs.Answers.{receipt_in, is_stop, any_stopped, with_receipt, receipts_of, Report, hindered, hindrance}
use Rattle.placement_beats.specs.Beats.{heartbeat_frame, frame_of, if_new, is_acked}

-- ---- what hinders nothing

hindered_none : (s : Option Spent) (t : Bool) → hindered s t ≡ None → (s ≡ None) × (t ≡ false)
hindered_none (Some e) t h = absurd (let x : ⊥ = cc in x)
hindered_none None true h = absurd (let x : ⊥ = cc in x)
hindered_none None false h = (refl, refl)

or_false : (a b : Bool) → (a || b) ≡ false → (a ≡ false) × (b ≡ false)
or_false true b h = absurd (let x : ⊥ = cc in x)
or_false false b h = (refl, h)

reports : (saids : List Said) → first_spent saids ≡ None → any_stopped saids ≡ false → Report saids (receipts_of saids)
reports [] s a = tt
reports (Err e ∷ saids) s a = absurd (let x : ⊥ = cc in x)
reports (Ok reply ∷ saids) s a =
    let both = or_false (is_stop (receipt_in reply)) (any_stopped saids) a in
    go (receipt_in reply) refl both.0 (reports saids s both.1)
  where
    go : (o : Option ReceiptState) → receipt_in reply ≡ o → is_stop o ≡ false → Report saids (receipts_of saids) → Report (Ok reply ∷ saids) (with_receipt o (receipts_of saids))
    go None is stop rest = absurd (let x : ⊥ = cc in x)
    go (Some r) is stop rest = (is, rest)

pub reported : (saids : List Said) → hindrance saids ≡ None → Report saids (receipts_of saids)
reported saids h = let n = hindered_none (first_spent saids) (any_stopped saids) h in reports saids n.0 n.1

report_length : (saids : List Said) (rs : List ReceiptState) → Report saids rs → length rs ≡ length saids
report_length [] [] r = refl
report_length [] (x ∷ rs) r = absurd r
report_length (Ok reply ∷ saids) [] r = absurd r
report_length (Ok reply ∷ saids) (x ∷ rs) r = ap (λ (n : ℕ). suc n) (report_length saids rs r.1)
report_length (Err e ∷ saids) [] r = absurd r
report_length (Err e ∷ saids) (x ∷ rs) r = absurd r

-- as many receipts as parts
pub all_report : (saids : List Said) → hindrance saids ≡ None → length (receipts_of saids) ≡ length saids
all_report saids h = report_length saids (receipts_of saids) (reported saids h)

-- ---- an acknowledgement

abbrev Justified : HostInfo → Option Ack → Result (Option Ack) CollectError → Member → AckStage → ℕ → Type 0
Justified host acked answer member stage version = (member ≡ host.member) × (answer ≡ Ok (Some (record { stage = stage; version = version }))) × (is_acked acked (record { stage = stage; version = version }) ≡ false)

pub justified : (host : HostInfo) (acked : Option Ack) (answer : Result (Option Ack) CollectError) (member : Member) (stage : AckStage) (version : ℕ)
    → heartbeat_frame host acked answer ≡ frames.Ack member stage version → Justified host acked answer member stage version
justified host acked (Err x) member stage version e = absurd (let h : ⊥ = cc in h)
justified host acked (Ok None) member stage version e = absurd (let h : ⊥ = cc in h)
justified host acked (Ok (Some ack)) member stage version e = go (is_acked acked ack) refl e
  where
    go : (t : Bool) → is_acked acked ack ≡ t → frame_of host (if_new t ack) (Ok (Some ack)) ≡ frames.Ack member stage version → Justified host acked (Ok (Some ack)) member stage version
    go true is h = absurd (let x : ⊥ = cc in x)
    go false is h =
        let m : member ≡ host.member = cc in
        let s : ack.stage ≡ stage = cc in
        let v : ack.version ≡ version = cc in
        let same : ack ≡ record { stage = stage; version = version } = λ i. record { stage = s i; version = v i } in
        (m, ap (λ (a : Ack). Ok (Some a)) same, subst (λ (a : Ack). is_acked acked a ≡ false) same is)

-- ---- what a part answers to an event of a round

abbrev Tells : PartReply → Type 0
Tells reply = (reply ≡ replies.Stopped) ⊎ ((r : ReceiptState) × (receipt_in reply ≡ Some r))

if_tells : (b : Bool) (x y : PartStep) → Tells x.reply → Tells y.reply → Tells (if b then x else y).reply
if_tells true x y h k = h
if_tells false x y h k = k

module _ (owner : PlacementTable → ActorKey → Option HostInfo) (p : PartState) where
  running_tells : (event : RoundEvent) → Tells (running_step owner p (part_event event)).reply
  running_tells (rounds.Tick now) = if_tells (is_updated p.stage) (ticked_with owner p (each_cell (tick_cell owner p now) p.cells)) (refused p (replies.Ticked (receipt_of owner p) 0)) (inr (receipt_of owner (record p { cells = (each_cell (tick_cell owner p now) p.cells).cells }), refl)) (inr (receipt_of owner p, refl))
  running_tells (rounds.Lock version) = if_tells (nat_lt p.seen version) (changed_to owner (record p { stage = Locked; seen = version })) (unchanged owner p) (inr (receipt_of owner (record p { stage = Locked; seen = version }), refl)) (inr (receipt_of owner p, refl))
  running_tells (rounds.Update table now) = if_tells (is_locked p.stage && (table.version == p.seen)) (changed_to owner (record p { stage = Updated; table = table; since = now })) (unchanged owner p) (inr (receipt_of owner (record p { stage = Updated; table = table; since = now }), refl)) (inr (receipt_of owner p, refl))
  running_tells (rounds.Unlock version) =
      if_tells (is_updated p.stage && (version == p.seen)) (if is_drained owner p then open_part owner p else refused p (replies.NotDrained (receipt_of owner p))) (unchanged owner p)
      (if_tells (is_drained owner p) (open_part owner p) (refused p (replies.NotDrained (receipt_of owner p))) (inr (_, refl)) (inr (receipt_of owner p, refl)))
      (inr (receipt_of owner p, refl))
  running_tells rounds.StopPart = inr (_, refl)

  pub answered : (event : RoundEvent) → Tells (part_step owner p (part_event event)).reply
  answered event = go p.stage event
    where
      go : (s : Stage) (event : RoundEvent) → Tells (step_at owner p s (part_event event)).reply
      go Locked event = running_tells event
      go Updated event = running_tells event
      go Open event = running_tells event
      go Stopped (rounds.Tick now) = inl refl
      go Stopped (rounds.Lock version) = inl refl
      go Stopped (rounds.Update table now) = inl refl
      go Stopped (rounds.Unlock version) = inl refl
      go Stopped rounds.StopPart = inr (receipt_of owner p, refl)
