-- Worked lines, as tests of the definitions: each closes by computing.
use Rattle.std.proofs.Common.{◌≡◌, [], ◌∷◌, None, Some, Ok, Err, true, false, refl}
use Rattle.std.specs.Prelude.{codes}
use Rattle.actor_names.specs.Names.{default_space}
use Rattle.actor_names.specs.declared.actor_key.ActorKey.{ActorKey}
use Rattle.actor_names.specs.declared.member.Member.{Member}
use Rattle.world_events.specs.declared.event.WorldEvent.TheVariants as lines
use Rattle.world_events.specs.Solo as solo
use Rattle.script_text.specs.Reading as setting
use Rattle.script_text.specs.SoloLines.{solo_line}
use Rattle.script_text.specs.SoloLines as says
use Rattle.script_text.specs.ClusterLines.{cluster_line, parts_line, Blank, Sets, Does}

abbrev a/1 : Member
a/1 = record { space = default_space; node = codes "a"; boot = 1 }

abbrev key : ActorKey
key = record { space = default_space; kind = codes "counter"; id = codes "k0" }

abbrev blue:a/1 : Member
blue:a/1 = record { space = codes "blue"; node = codes "a"; boot = 1 }

abbrev blue_key : ActorKey
blue_key = record { space = codes "blue"; kind = codes "counter"; id = codes "a:b" }

-- lines of a solo script, with the column at which a wrong number or a second depth is refused
solo_call : solo_line true (codes "call 2 counter/k0 chain x") ≡ Ok (says.Does 6 (solo.Call 2 (codes "counter/k0") (Some (codes "x"))))
solo_call = refl

solo_depth : solo_line false (codes "reentrant counter 2") ≡ Ok (says.Sets (setting.Reentrant 11 (codes "counter") 2))
solo_depth = refl

solo_late_depth : solo_line true (codes "reentrant counter 2") ≡ Err 1
solo_late_depth = refl

solo_end_of_two : solo_line true (codes "end 1 2") ≡ Err 7
solo_end_of_two = refl

-- lines of a cluster script
boot_of_two : cluster_line true (codes "boot a counter,nested") ≡ Ok (Does 1 (lines.Boot default_space (codes "a") (codes "counter" ∷ codes "nested" ∷ [])))
boot_of_two = refl

call_in_full : cluster_line true (codes "call 1 a/1 counter/k0 least 2 chain x") ≡ Ok (Does 6 (lines.Call 1 a/1 key 2 (Some (codes "x"))))
call_in_full = refl

call_without_least : cluster_line true (codes "call 1 a/1 counter/k0 chain x") ≡ Ok (Does 6 (lines.Call 1 a/1 key 0 (Some (codes "x"))))
call_without_least = refl

call_alone : cluster_line false (codes "call 1 a/1 counter/k0") ≡ Ok (Does 6 (lines.Call 1 a/1 key 0 None))
call_alone = refl

boot_in_space : cluster_line true (codes "boot a counter space blue") ≡ Ok (Does 1 (lines.Boot (codes "blue") (codes "a") (codes "counter" ∷ [])))
boot_in_space = refl

call_in_space : cluster_line true (codes "call 1 blue:a/1 counter/a:b least 2") ≡ Ok (Does 6 (lines.Call 1 blue:a/1 blue_key 2 None))
call_in_space = refl

hold_in_space : cluster_line true (codes "hold blue:a/1 counter/a:b") ≡ Ok (Does 1 (lines.Hold blue:a/1 blue_key))
hold_in_space = refl

solo_colon_in_id : solo_line true (codes "hold counter/a:b") ≡ Ok (says.Does 1 (solo.Hold (codes "counter/a:b")))
solo_colon_in_id = refl

at_moment : cluster_line true (codes "at 999999999999") ≡ Ok (Does 4 (lines.At 999999999999))
at_moment = refl

part_of_message : cluster_line true (codes "part 2 0") ≡ Ok (Does 1 (lines.Part 2 0))
part_of_message = refl

restart : cluster_line true (codes "restart") ≡ Ok (Does 1 lines.Restart)
restart = refl

early_depth : cluster_line false (codes "reentrant counter 2") ≡ Ok (Sets (setting.Reentrant 11 (codes "counter") 2))
early_depth = refl

comment : cluster_line true (codes "# boot a") ≡ Ok Blank
comment = refl

-- refused lines, with the column
least_behind_chain : cluster_line true (codes "call 1 a/1 counter/k0 chain x least 2") ≡ Err 31
least_behind_chain = refl

type_twice : cluster_line true (codes "boot a counter,counter") ≡ Err 8
type_twice = refl

boot_without_its_space : cluster_line true (codes "boot a counter space") ≡ Err 21
boot_without_its_space = refl

boot_in_no_space : cluster_line true (codes "boot a counter space Blue") ≡ Err 22
boot_in_no_space = refl

key_with_a_space : cluster_line true (codes "hold blue:a/1 blue:counter/k0") ≡ Err 15
key_with_a_space = refl

solo_key_with_a_space : solo_line true (codes "hold blue:counter/k0") ≡ Err 6
solo_key_with_a_space = refl

missing_part : cluster_line true (codes "part 2") ≡ Err 7
missing_part = refl

two_spaces : cluster_line true (codes "poll  1") ≡ Err 6
two_spaces = refl

late_cluster : cluster_line false (codes "cluster 2") ≡ Err 1
late_cluster = refl

late_idle : cluster_line true (codes "idle 5") ≡ Err 1
late_idle = refl

-- first lines
cluster_of_16 : parts_line (codes "cluster 16") ≡ Ok (Some 16)
cluster_of_16 = refl

cluster_of_17 : parts_line (codes "cluster 17") ≡ Err 9
cluster_of_17 = refl

cluster_of_none : parts_line (codes "cluster") ≡ Err 8
cluster_of_none = refl

solo_first : parts_line (codes "end 1") ≡ Ok None
solo_first = refl
