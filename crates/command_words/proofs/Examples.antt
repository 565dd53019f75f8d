-- Worked examples of the reading.
use Rattle.std.proofs.Common.{◌≡◌, ℕ, Bool, true, false, List, [], ◌∷◌, Option, None, Some, codes, refl}
use Rattle.actor_names.specs.Addresses.{part_reading, port_reading}
use Rattle.actor_names.specs.declared.address.Address.{Address}
use Rattle.command_words.specs.Options.{Text, read_from}
use Rattle.command_words.specs.Reading.{Said, Replay, Schedule, Drill, Placement, Store, Sidecar, Standby, reading, is_placement, has_options}

abbrev asks : Text → Text → Said
asks now period = Schedule (record { now = now; due = []; period = period; ttl = []; count = 10 })

no_words : reading [] ≡ None
no_words = refl

replay_alone : reading (codes "replay" ∷ []) ≡ Some Replay
replay_alone = refl

replay_takes_no_option : reading (codes "replay" ∷ codes "--now=1" ∷ []) ≡ None
replay_takes_no_option = refl

unknown_command : reading (codes "cluster" ∷ []) ≡ None
unknown_command = refl

value_behind_name : reading (codes "schedule" ∷ codes "--now" ∷ codes "x" ∷ codes "--period=1s" ∷ []) ≡ Some (asks (codes "x") (codes "1s"))
unfolding read_from
value_behind_name = refl

any_order : reading (codes "schedule" ∷ codes "--period=1s" ∷ codes "--now" ∷ codes "x" ∷ []) ≡ Some (asks (codes "x") (codes "1s"))
unfolding read_from
any_order = refl

second_equals_is_value : reading (codes "schedule" ∷ codes "--now=a=b" ∷ []) ≡ Some (asks (codes "a=b") [])
unfolding read_from
second_equals_is_value = refl

empty_value_is_value : reading (codes "schedule" ∷ codes "--now=" ∷ []) ≡ Some (asks [] [])
unfolding read_from
empty_value_is_value = refl

hyphen_in_attached_value : reading (codes "schedule" ∷ codes "--now=-3s" ∷ []) ≡ Some (asks (codes "-3s") [])
unfolding read_from
hyphen_in_attached_value = refl

hyphen_begins_no_value : reading (codes "schedule" ∷ codes "--now" ∷ codes "-3s" ∷ []) ≡ None
unfolding read_from
hyphen_begins_no_value = refl

now_is_needed : reading (codes "schedule" ∷ codes "--period=1s" ∷ []) ≡ None
unfolding read_from
now_is_needed = refl

option_once : reading (codes "schedule" ∷ codes "--now=x" ∷ codes "--now=x" ∷ []) ≡ None
unfolding read_from
option_once = refl

value_is_missing : reading (codes "schedule" ∷ codes "--now" ∷ []) ≡ None
unfolding read_from
value_is_missing = refl

hyphens_alone : reading (codes "schedule" ∷ codes "--now=x" ∷ codes "--" ∷ []) ≡ None
unfolding read_from
hyphens_alone = refl

help_has_no_reading : reading (codes "schedule" ∷ codes "--now=x" ∷ codes "--help" ∷ []) ≡ None
unfolding read_from
help_has_no_reading = refl

count_has_leading_zeros : reading (codes "schedule" ∷ codes "--now=" ∷ codes "--count=003" ∷ []) ≡ Some (Schedule (record { now = []; due = []; period = []; ttl = []; count = 3 }))
unfolding read_from
count_has_leading_zeros = refl

count_from_one : reading (codes "schedule" ∷ codes "--now=" ∷ codes "--count=0" ∷ []) ≡ None
unfolding read_from
count_from_one = refl

count_to_1000 : reading (codes "schedule" ∷ codes "--now=" ∷ codes "--count=1001" ∷ []) ≡ None
unfolding read_from
count_to_1000 = refl

count_is_not_empty : reading (codes "schedule" ∷ codes "--now=" ∷ codes "--count=" ∷ []) ≡ None
unfolding read_from
count_is_not_empty = refl

both_options_of_drill : reading (codes "drill" ∷ codes "--steps" ∷ codes "0020" ∷ codes "--seed=0" ∷ []) ≡ Some (Drill (record { seed = 0; steps = 20 }))
unfolding read_from
both_options_of_drill = refl

drill_needs_its_seed : reading (codes "drill" ∷ codes "--steps=1" ∷ []) ≡ None
unfolding read_from
drill_needs_its_seed = refl

steps_to_200000 : reading (codes "drill" ∷ codes "--seed=1" ∷ codes "--steps=200001" ∷ []) ≡ None
unfolding read_from
steps_to_200000 = refl

seed_below_2_to_the_64 : reading (codes "drill" ∷ codes "--seed=18446744073709551616" ∷ codes "--steps=1" ∷ []) ≡ None
unfolding read_from
seed_below_2_to_the_64 = refl

seed_is_not_empty : reading (codes "drill" ∷ codes "--seed=" ∷ codes "--steps=1" ∷ []) ≡ None
unfolding read_from
seed_is_not_empty = refl

-- `placement` at the journal `j` and at 1.2.3.4:5
abbrev places : Bool → Option ℕ → Said
places is_new sessions = Placement (record { server = record { journal = codes "j"; listen = record { ip = 16909060; port = 5 }; is_new = is_new; sessions = sessions; connections = 4096 }; http = None; standby = None })

placement_alone : reading (codes "placement" ∷ codes "--journal" ∷ codes "j" ∷ codes "--listen=1.2.3.4:5" ∷ []) ≡ Some (places false None)
unfolding read_from part_reading port_reading
placement_alone = refl

flag_before_option : reading (codes "placement" ∷ codes "--new" ∷ codes "--journal=j" ∷ codes "--sessions" ∷ codes "012" ∷ codes "--listen=1.2.3.4:5" ∷ []) ≡ Some (places true (Some 12))
unfolding read_from part_reading port_reading
flag_before_option = refl

flag_has_no_value : reading (codes "placement" ∷ codes "--journal=j" ∷ codes "--new=true" ∷ codes "--listen=1.2.3.4:5" ∷ []) ≡ None
unfolding read_from part_reading port_reading
flag_has_no_value = refl

flag_once : reading (codes "placement" ∷ codes "--new" ∷ codes "--journal=j" ∷ codes "--new" ∷ codes "--listen=1.2.3.4:5" ∷ []) ≡ None
unfolding read_from part_reading port_reading
flag_once = refl

flag_takes_no_word : reading (codes "placement" ∷ codes "--journal=j" ∷ codes "--listen=1.2.3.4:5" ∷ codes "--new" ∷ codes "true" ∷ []) ≡ None
unfolding read_from part_reading port_reading
flag_takes_no_word = refl

sessions_from_one : reading (codes "placement" ∷ codes "--journal=j" ∷ codes "--listen=1.2.3.4:5" ∷ codes "--sessions=0" ∷ []) ≡ None
unfolding read_from part_reading port_reading
sessions_from_one = refl

journal_is_not_empty : reading (codes "placement" ∷ codes "--journal=" ∷ codes "--listen=1.2.3.4:5" ∷ []) ≡ None
unfolding read_from part_reading port_reading
journal_is_not_empty = refl

address_has_a_port : reading (codes "placement" ∷ codes "--journal=j" ∷ codes "--listen=1.2.3.4" ∷ []) ≡ None
unfolding read_from part_reading port_reading
address_has_a_port = refl

placement_with_state :
    reading (codes "placement" ∷ codes "--http=0.0.0.1:80" ∷ codes "--journal=j" ∷ codes "--listen=1.2.3.4:5" ∷ [])
    ≡ Some (Placement (record { server = record { journal = codes "j"; listen = record { ip = 16909060; port = 5 }; is_new = false; sessions = None; connections = 4096 }; http = Some (record { ip = 1; port = 80 }); standby = None }))
unfolding read_from part_reading port_reading
placement_with_state = refl

placement_with_standby :
    reading (codes "placement" ∷ codes "--journal=j" ∷ codes "--standby" ∷ codes "0.0.0.2:90" ∷ codes "--listen=1.2.3.4:5" ∷ [])
    ≡ Some (Placement (record { server = record { journal = codes "j"; listen = record { ip = 16909060; port = 5 }; is_new = false; sessions = None; connections = 4096 }; http = None; standby = Some (record { ip = 2; port = 90 }) }))
unfolding read_from part_reading port_reading
placement_with_standby = refl

standby_has_an_address : reading (codes "placement" ∷ codes "--journal=j" ∷ codes "--standby=" ∷ codes "--listen=1.2.3.4:5" ∷ []) ≡ None
unfolding read_from part_reading port_reading
standby_has_an_address = refl

standby_alone :
    reading (codes "standby" ∷ codes "--journal=j" ∷ codes "--listen" ∷ codes "1.2.3.4:5" ∷ [])
    ≡ Some (Standby (record { journal = codes "j"; listen = record { ip = 16909060; port = 5 }; sessions = None }))
unfolding read_from part_reading port_reading
standby_alone = refl

standby_with_sessions :
    reading (codes "standby" ∷ codes "--sessions=02" ∷ codes "--journal=j" ∷ codes "--listen=1.2.3.4:5" ∷ [])
    ≡ Some (Standby (record { journal = codes "j"; listen = record { ip = 16909060; port = 5 }; sessions = Some 2 }))
unfolding read_from part_reading port_reading
standby_with_sessions = refl

standby_has_no_flag : reading (codes "standby" ∷ codes "--new" ∷ codes "--journal=j" ∷ codes "--listen=1.2.3.4:5" ∷ []) ≡ None
unfolding read_from part_reading port_reading
standby_has_no_flag = refl

store_of_one_connection :
    reading (codes "store" ∷ codes "--journal=j" ∷ codes "--connections" ∷ codes "1" ∷ codes "--listen=1.2.3.4:5" ∷ [])
    ≡ Some (Store (record { journal = codes "j"; listen = record { ip = 16909060; port = 5 }; is_new = false; sessions = None; connections = 1 }))
unfolding read_from part_reading port_reading
store_of_one_connection = refl

connections_to_4096 : reading (codes "placement" ∷ codes "--journal=j" ∷ codes "--listen=1.2.3.4:5" ∷ codes "--connections=4096" ∷ []) ≡ Some (places false None)
unfolding read_from part_reading port_reading
connections_to_4096 = refl

connections_not_above : reading (codes "placement" ∷ codes "--journal=j" ∷ codes "--listen=1.2.3.4:5" ∷ codes "--connections=4097" ∷ []) ≡ None
unfolding read_from part_reading port_reading
connections_not_above = refl

connections_from_one : reading (codes "placement" ∷ codes "--journal=j" ∷ codes "--listen=1.2.3.4:5" ∷ codes "--connections=0" ∷ []) ≡ None
unfolding read_from part_reading port_reading
connections_from_one = refl

store_has_no_state : reading (codes "store" ∷ codes "--http=0.0.0.1:80" ∷ codes "--journal=j" ∷ codes "--listen=1.2.3.4:5" ∷ []) ≡ None
unfolding read_from part_reading port_reading
store_has_no_state = refl

-- `sidecar` of the application `a`, at five places, with this word for its node and these words behind the others
abbrev sidecar_line : Text → List Text → List Text
sidecar_line node more =
    codes "sidecar" ∷ node ∷ codes "--app-id=a" ∷ codes "--app=0.0.0.1:2" ∷ codes "--listen=0.0.0.3:4" ∷ codes "--peer=0.0.0.5:6"
    ∷ codes "--placement=0.0.0.7:8" ∷ codes "--store=0.0.0.9:10" ∷ more

-- what they say with the node `n`
abbrev seats : Option Address → Text → ℕ → Option ℕ → ℕ → Said
seats placement2 space parts sessions connections = Sidecar (record {
  node = codes "n";
  app = codes "a";
  space = space;
  app_at = record { ip = 1; port = 2 };
  listen = record { ip = 3; port = 4 };
  peer = record { ip = 5; port = 6 };
  placement = record { ip = 7; port = 8 };
  placement2 = placement2;
  store = record { ip = 9; port = 10 };
  parts = parts;
  sessions = sessions;
  connections = connections;
})

sidecar_alone : reading (sidecar_line (codes "--node=n") []) ≡ Some (seats None (codes "default") 4 None 4096)
unfolding read_from part_reading port_reading
sidecar_alone = refl

sidecar_with_all : reading (sidecar_line (codes "--node=n") (codes "--parts=016" ∷ codes "--space" ∷ codes "b" ∷ codes "--sessions=7" ∷ codes "--connections=02" ∷ [])) ≡ Some (seats None (codes "b") 16 (Some 7) 2)
unfolding read_from part_reading port_reading
sidecar_with_all = refl

sidecar_of_two_placements : reading (sidecar_line (codes "--node=n") (codes "--placement2" ∷ codes "0.0.0.11:12" ∷ [])) ≡ Some (seats (Some (record { ip = 11; port = 12 })) (codes "default") 4 None 4096)
unfolding read_from part_reading port_reading
sidecar_of_two_placements = refl

second_placement_is_an_address : reading (sidecar_line (codes "--node=n") (codes "--placement2=x" ∷ [])) ≡ None
unfolding read_from part_reading port_reading
second_placement_is_an_address = refl

sidecar_needs_its_node : reading (sidecar_line (codes "--parts=1") []) ≡ None
unfolding read_from part_reading port_reading
sidecar_needs_its_node = refl

node_has_no_capital : reading (sidecar_line (codes "--node=N") []) ≡ None
unfolding read_from part_reading port_reading
node_has_no_capital = refl

parts_from_one : reading (sidecar_line (codes "--node=n") (codes "--parts=0" ∷ [])) ≡ None
unfolding read_from part_reading port_reading
parts_from_one = refl

parts_to_16 : reading (sidecar_line (codes "--node=n") (codes "--parts=17" ∷ [])) ≡ None
unfolding read_from part_reading port_reading
parts_to_16 = refl

space_is_not_empty : reading (sidecar_line (codes "--node=n") (codes "--space=" ∷ [])) ≡ None
unfolding read_from part_reading port_reading
space_is_not_empty = refl

placement_without_reading : is_placement (codes "placement" ∷ codes "--help" ∷ []) ≡ true
placement_without_reading = refl

replay_takes_no_memory : has_options (codes "replay" ∷ []) ≡ false
replay_takes_no_memory = refl
