-- What the parts of a member have reached, when one of them steps.
use Rattle.std.proofs.Common.{◌≡◌, ◌⊎◌, ℕ, List, ◌∷◌, ◌++◌, Option, ◌∙◌, sym, ap, subst, inl, inr, refl}
use Rattle.actor_names.specs.declared.actor_key.ActorKey.{ActorKey}
use Rattle.actor_names.specs.declared.member.Member.{Member}
use Rattle.place_table.specs.declared.host.HostInfo.{HostInfo}
use Rattle.place_table.specs.declared.ack_stage.AckStage.{AckStage}
use Rattle.place_table.specs.Hosts.{PlacementTable}
use Rattle.lists_and_limits.proofs.Elements.{In-left, In-right, In-append, In-middle}
use Rattle.turn_core.specs.CellSound.{In}
use Rattle.part_model.specs.declared.event.PartEvent.{PartEvent}
use Rattle.part_model.specs.declared.stage.Stage.TheVariants.{Stopped}
use Rattle.part_model.specs.Part.{PartState, part_step}
use Rattle.part_model.specs.PartMoves.{Stepped}
use Rattle.part_model.specs.Progress.{PartReached, MemberReached}
use Rattle.part_model.specs.Sound.{IsPartSound}
use Rattle.part_model.proofs.Collects.{step_reached}
use Rattle.part_model.proofs.PartTables.{part_stepped}

module _ (owner : PlacementTable → ActorKey → Option HostInfo) (p : PartState) (event : PartEvent) (sound : IsPartSound owner p) where
  stepped : Stepped owner p event (part_step owner p event).part
  stepped = part_stepped owner p event sound

  module _ (stage : AckStage) (version : ℕ) where
    -- the part that steps has stopped, or keeps what it had reached
    reached_here : (p.stage ≡ Stopped) ⊎ PartReached owner stage version p → ((part_step owner p event).part.stage ≡ Stopped) ⊎ PartReached owner stage version (part_step owner p event).part
    reached_here (inl stopped) = inl (stepped.stop_stays stopped)
    reached_here (inr reached) = elim (step_reached owner p (part_step owner p event).part event stage version stepped reached) [ inl stops ↦ inl stops.1 | inr kept ↦ inr kept ]

    pub member_keeps : (before after : List PartState) (m : Member) → MemberReached owner (before ++ p ∷ after) m stage version
        → MemberReached owner (before ++ (part_step owner p event).part ∷ after) m stage version
    member_keeps before after m reached q at of_m = elim (In-append before ((part_step owner p event).part ∷ after) q at) [
      | inl left ↦ reached q (In-left before (p ∷ after) q left) of_m
      | inr right ↦ elim right [
        | inl same ↦ subst (λ (x : PartState). (x.stage ≡ Stopped) ⊎ PartReached owner stage version x) (sym same)
            (reached_here (reached p (In-middle before p after) (sym stepped.member ∙ ap (λ (x : PartState). x.member) (sym same) ∙ of_m)))
        | inr behind ↦ reached q (In-right before (p ∷ after) q (inr behind)) of_m
      ]
    ]
