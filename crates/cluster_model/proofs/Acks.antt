-- The version of an acknowledgement is one that the room of the member's space has used.
use Rattle.std.proofs.Common.{◌≡◌, ℕ, ◌-◌, ◌<◌, ◌≤◌, Option, refl, sym, ◌∙◌, subst, inl, inr, arith}
use Rattle.std.proofs.lemmas.Bool.{cases_order}
use Rattle.actor_names.specs.declared.member.Member.{Member}
use Rattle.actor_names.specs.declared.actor_key.ActorKey.{ActorKey}
use Rattle.place_table.specs.declared.host.HostInfo.{HostInfo}
use Rattle.place_table.specs.declared.ack_stage.AckStage.{AckStage}
use Rattle.place_table.specs.Hosts.{PlacementTable}
use Rattle.turn_core.specs.CellSound.{In}
use Rattle.part_model.specs.Part.{PartState}
use Rattle.part_model.specs.Progress.{PartReached}
use Rattle.round_core.specs.declared.event.PlaceEvent.{PlaceEvent}
use Rattle.round_core.specs.Room.{RoomState}
use Rattle.placement_core.specs.Placement.{room_of, placement_step}
use Rattle.cluster_model.specs.Messages.{Request, Register, Beat, Ack, Leave, LockAt, Asks, asker_of}
use Rattle.cluster_model.specs.World.{ClusterState}
use Rattle.cluster_model.specs.Invariant.{IsBooted, IsSafeWorld}
use Rattle.cluster_model.proofs.Forgets.{placement_forgets}
use Rattle.cluster_model.proofs.Lines.{MayAsk}
use Rattle.cluster_model.proofs.SpaceParts.{of_itself, in_parts}

module _ (owner : PlacementTable → ActorKey → Option HostInfo) (part_of : ActorKey → ℕ → ℕ) where
  -- a step of the placement keeps the versions that were acknowledged below the next ones
  pub acks_below : (w : ClusterState) (e : PlaceEvent) → IsSafeWorld owner w → (m : Member) (st : AckStage) (v : ℕ) → In (Asks (Ack m st v)) w.messages →
      v < (room_of (placement_step w.placement e w.now).state m.space).next_version
  acks_below w e s m st v i = let old = s.acks m st v i in let more = (placement_forgets w.placement e w.now m.space).versions in omega arith

  -- a part has seen no version that its room hasn't used
  seen_used : (w : ClusterState) → IsSafeWorld owner w → (p : PartState) → In p w.parts → p.seen < (room_of w.placement p.member.space).next_version
  seen_used w s p i =
      let v = s.spaces p.member.space in
      let room : RoomState = room_of w.placement p.member.space in
      let used : 1 ≤ room.next_version = v.reached.kept.used in
      elim (cases_order 0 p.seen) [
        | inl z ↦ omega arith
        | inr h ↦ elim h [
          | inl l ↦ (
              let lock = (v.safe.parts p (in_parts w.parts p p.member.space i (of_itself p.member))).lock_came l in
              let last : p.seen ≤ room.next_version - 1 = v.safe.messages.told_below p.member p.seen (LockAt p.seen, lock, refl) in
              omega arith)
          | inr l ↦ absurd (omega arith)
        ]
      ]

  reached_seen : (p : PartState) (st : AckStage) (v : ℕ) → PartReached owner st v p → v ≤ p.seen
  reached_seen p st v r = elim r [ inl l ↦ omega arith | inr h ↦ (let e = h.0 in omega arith) ]

  ack_same : (m n : Member) (st t : AckStage) (v u : ℕ) → Asks (Ack m st v) ≡ Asks (Ack n t u) → (m ≡ n) × (v ≡ u)
  ack_same m n st t v u e = (cc, cc)

  -- the version that a request acknowledges was used
  pub asked_used : (w : ClusterState) (r : Request) → IsSafeWorld owner w → MayAsk owner part_of w r → IsBooted w.parts (asker_of r) → (m : Member) (st : AckStage) (v : ℕ) → Asks (Ack m st v) ≡ Asks r →
      v < (room_of w.placement m.space).next_version
  asked_used w (Register h) s may booted m st v e = absurd (cc)
  asked_used w (Beat n) s may booted m st v e = absurd (cc)
  asked_used w (Leave n) s may booted m st v e = absurd (cc)
  asked_used w (Ack n t u) s may booted m st v e =
      let same = ack_same m n st t v u e in
      let p = booted.0 in
      let low = reached_seen p t u (may.0 p booted.1 booted.2) in
      let high = seen_used w s p booted.1 in
      let below : u < (room_of w.placement p.member.space).next_version = omega arith in
      subst (λ (z : ℕ). z < (room_of w.placement m.space).next_version) (sym same.1) (subst (λ (z : Member). u < (room_of w.placement z.space).next_version) (booted.2 ∙ sym same.0) below)
