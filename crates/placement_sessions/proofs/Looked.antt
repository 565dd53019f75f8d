-- What a Look is answered.
use Rattle.std.proofs.Common.{◌≡◌, ◌⊎◌, ℕ, Bool, true, false, List, [], ◌∷◌, map, refl, sym, ap, ◌∙◌, inl, inr}
use Rattle.placement_core.specs.Entries.{placement_record}
use Rattle.placement_core.specs.Placement.{placement_step}
use Rattle.frame_wire.specs.declared.frame.Frame.TheVariants as frames
use Rattle.frame_wire.specs.declared.refusal.Refusal.TheVariants as refusals
use Rattle.round_core.specs.declared.event.PlaceEvent.{PlaceEvent}
use Rattle.round_core.specs.declared.event.PlaceEvent.TheVariants.{Look}
use Rattle.placement_node.specs.declared.reply.NodeEvent.{NodeEvent}
use Rattle.placement_node.specs.declared.reply.NodeReply.{NodeReply}
use Rattle.placement_node.specs.declared.reply.NodeReply.TheVariants.{Message, Seen, Ticked}
use Rattle.placement_node.specs.Node.{NodeState, NodeMoves, NodeAllows, Works, Steps, payloads_for, reply_to}
use Rattle.placement_node.specs.Records.{payloads_of}
use Rattle.placement_node.specs.Replies.{event_space, refused, reply_of, seen_room, outcome_of}

-- the three answers
abbrev Told : NodeState → NodeReply → Type 0
Told old r = (r ≡ Seen (map seen_room old.state.rooms)) ⊎ ((r ≡ refused refusals.OutOfMemory) ⊎ (r ≡ refused refusals.Reopen))

module _ (old new : NodeState) (e : NodeEvent) (look : e.event ≡ Look) where
  all_rooms : reply_to old e ≡ Seen (map seen_room old.state.rooms)
  all_rooms = ap (λ (event : PlaceEvent). reply_of (placement_step old.state event e.now).state (event_space event) (placement_step old.state event e.now).reply) look

  no_payload : payloads_for old e ≡ []
  no_payload = ap (λ (event : PlaceEvent). payloads_of (placement_record old.state event e.now)) look

  stepped_look : (r : NodeReply) → Steps old e r new → Told old r
  stepped_look r steps = inl (steps.replies ∙ all_rooms)

  some_payload : (payload : List ℕ) → payloads_for old e ≡ payload ∷ [] → ⊥
  some_payload payload is = let none : [] ≡ payload ∷ [] = sym no_payload ∙ is in cc

  worked_look : (r : NodeReply) → Works old e r new (outcome_of r) → Told old r
  worked_look (Seen rooms) works = stepped_look (Seen rooms) works
  worked_look (Ticked dropped) works = stepped_look (Ticked dropped) works
  worked_look (Message (frames.Refused (refusals.StaleBoot greatest))) works = stepped_look _ works
  worked_look (Message (frames.Refused (refusals.NodeBusy boot))) works = stepped_look _ works
  worked_look (Message (frames.Refused (refusals.NotMember greatest))) works = stepped_look _ works
  worked_look (Message (frames.Refused (refusals.Full members))) works = stepped_look _ works
  worked_look (Message (frames.Refused refusals.DiskFault)) works = absurd (some_payload works.payload works.is)
  worked_look (Message (frames.Refused refusals.Reopen)) works = absurd works
  worked_look (Message (frames.Refused refusals.OutOfMemory)) works = inr (inl refl)
  worked_look (Message (frames.Refused (refusals.JournalFull len))) works = absurd (some_payload works.0.payload works.0.is)
  worked_look (Message (frames.Refused (refusals.SpacesFull spaces))) works = stepped_look _ works
  worked_look (Message (frames.Register host)) works = stepped_look _ works
  worked_look (Message (frames.Beat member)) works = stepped_look _ works
  worked_look (Message (frames.Ack member stage version)) works = stepped_look _ works
  worked_look (Message (frames.Leave member)) works = stepped_look _ works
  worked_look (Message (frames.Lock version)) works = stepped_look _ works
  worked_look (Message (frames.Update version hosts)) works = stepped_look _ works
  worked_look (Message (frames.Unlock version)) works = stepped_look _ works
  worked_look (Message frames.Idle) works = stepped_look _ works
  worked_look (Message frames.Gone) works = stepped_look _ works
  worked_look (Message (frames.Mirror command)) works = stepped_look _ works
  worked_look (Message (frames.Mirrored answer)) works = stepped_look _ works
  worked_look (Message (frames.Command command)) works = stepped_look _ works
  worked_look (Message (frames.FencedTx epoch s actor ops)) works = stepped_look _ works
  worked_look (Message (frames.Answer answer)) works = stepped_look _ works

  moved_look : (r : NodeReply) → NodeMoves old e r new → Told old r
  moved_look r m = go old.journal.is_broken refl
    where
      go : (b : Bool) → old.journal.is_broken ≡ b → Told old r
      go true is = inr (inr (m.shut is).0)
      go false is = worked_look r (m.works is)

pub look_answered : (old new : NodeState) (e : NodeEvent) (r : NodeReply) → e.event ≡ Look → NodeAllows old e r new → (r ≡ Seen (map seen_room old.state.rooms)) ⊎ ((r ≡ refused refusals.OutOfMemory) ⊎ (r ≡ refused refusals.Reopen))
look_answered old new e r look a = moved_look old new e look r a.0
