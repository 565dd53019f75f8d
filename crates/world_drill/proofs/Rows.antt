-- Worked drills, as tests of the definitions: each closes by computing. None of them looks up the owner of an actor.
use Rattle.std.specs.Prelude.{◌≡◌, [], ◌∷◌, codes}
use Rattle.actor_names.specs.Names.{default_space}
use Rattle.std.specs.Fmt.{digits}
use Rattle.std.proofs.Common.{refl}
use Rattle.actor_names.specs.declared.member.Member.{Member}
use Rattle.world_events.specs.declared.event.WorldEvent.TheVariants.{Boot, Restart, To, Stop, Lost, Closing, Collect, Part}
use Rattle.world_drill.specs.Drill.{counter, first_of, draw_of, drill_events, drill_world, counts_of, counts_text}

drill_of_no_steps_prints_zeros : counts_text (counts_of 0 (drill_world 5 0)) ≡ codes "steps 0\nboots 0\nmessages 0\nbegun 0\nopen 0\nversion 0\n"
unfolding digits
drill_of_no_steps_prints_zeros = refl

first_draw : draw_of (first_of 5) ≡ 1724882992
first_draw = refl

drill_first_step_boots : counts_of 1 (drill_world 5 1) ≡ record { steps = 1; boots = 1; messages = 1; begun = 0; open_turns = 0; version = 0 }
drill_first_step_boots = refl

drill_step_without_member_does_nothing : counts_of 1 (drill_world 1 1) ≡ record { steps = 1; boots = 0; messages = 0; begun = 0; open_turns = 0; version = 0 }
drill_step_without_member_does_nothing = refl

abbrev n3/1 : Member
n3/1 = record { space = default_space; node = codes "n3"; boot = 1 }

abbrev n3/2 : Member
n3/2 = record { space = default_space; node = codes "n3"; boot = 2 }

drill_stops_parts_of_lost_member : drill_events 15890 12
    ≡ Boot default_space (codes "n3") (counter ∷ []) ∷ Boot default_space (codes "n3") (counter ∷ []) ∷ Restart ∷ To 1 ∷ Stop n3/1 0 ∷ Stop n3/1 1 ∷ Lost n3/1 ∷ Closing n3/2 0 ∷ Collect n3/1 ∷ Collect n3/2 ∷ Part 3 1 ∷ []
unfolding digits
drill_stops_parts_of_lost_member = refl

drill_counts_last_version : counts_of 12 (drill_world 15890 12) ≡ record { steps = 12; boots = 2; messages = 3; begun = 0; open_turns = 0; version = 2 }
unfolding digits
drill_counts_last_version = refl
