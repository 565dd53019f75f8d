-- Worked lines of outcomes, as tests of the definitions: each closes by computing.
use Rattle.std.proofs.Common.{◌≡◌, [], ◌∷◌, Some, refl}
use Rattle.std.specs.Prelude.{codes}
use Rattle.std.specs.Fmt.{digits}
use Rattle.actor_names.specs.Names.{default_space}
use Rattle.actor_names.specs.declared.actor_key.ActorKey.{ActorKey}
use Rattle.actor_names.specs.declared.member.Member.{Member}
use Rattle.place_table.specs.declared.ack_stage.AckStage.TheVariants as stage
use Rattle.round_core.specs.declared.event.PlaceReply.TheVariants as reply
use Rattle.world_events.specs.declared.outcome.TurnOutcome.TheVariants as turn
use Rattle.world_events.specs.declared.outcome.Outcome.TheVariants as out
use Rattle.outcome_text.specs.Outcomes.{outcome_text}

abbrev a/1 : Member
a/1 = record { space = default_space; node = codes "a"; boot = 1 }

abbrev key : ActorKey
key = record { space = default_space; kind = codes "counter"; id = codes "k0" }

abbrev blue:a/1 : Member
blue:a/1 = record { space = codes "blue"; node = codes "a"; boot = 1 }

elsewhere_line : outcome_text (out.Elsewhere 7 3 a/1) ≡ codes "elsewhere 7 3 a/1\n"
unfolding digits
elsewhere_line = refl

booted_line : outcome_text (out.Booted a/1 12) ≡ codes "boot a/1 msg 12\n"
unfolding digits
booted_line = refl

booted_in_space : outcome_text (out.Booted blue:a/1 12) ≡ codes "boot blue:a/1 msg 12\n"
unfolding digits
booted_in_space = refl

spaces_full_line : outcome_text (out.Answered 4 (reply.SpacesFull 64)) ≡ codes "msg 4 spaces-full 64\n"
unfolding digits
spaces_full_line = refl

restart_line : outcome_text (out.Restarted (3 ∷ 0 ∷ [])) ≡ codes "restart 3 0\n"
unfolding digits
restart_line = refl

restart_of_one : outcome_text (out.Restarted (12 ∷ [])) ≡ codes "restart 12\n"
unfolding digits
restart_of_one = refl

ack_line : outcome_text (out.AckAdded 4 stage.Update 2) ≡ codes "msg 4 ack update 2\n"
unfolding digits
ack_line = refl

stale_line : outcome_text (out.Answered 4 (reply.StaleBoot 2)) ≡ codes "msg 4 stale-boot 2\n"
unfolding digits
stale_line = refl

opened_line : outcome_text (out.Opened 5 2 1) ≡ codes "open 5 begun 2 moved 1\n"
unfolding digits
opened_line = refl

closed_line : outcome_text (out.Closed key (Some 3)) ≡ codes "closed counter/k0 begin 3\n"
unfolding digits
closed_line = refl

ended_line : outcome_text (out.Turn (turn.Ended 1 (Some 2))) ≡ codes "end 1 begin 2\n"
unfolding digits
ended_line = refl
