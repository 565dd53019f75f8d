-- Worked examples of requests, and of what is told of a room.
use Rattle.std.proofs.Common.{◌≡◌, refl, [], ◌∷◌, Some, None, codes}
use Rattle.std.specs.Fmt.{digits}
use Rattle.json.specs.Print.{escape_byte}
use Rattle.call_names.specs.Texts.{ip_text, address_text}
use Rattle.place_table.specs.declared.host.HostInfo.{HostInfo}
use Rattle.place_table.specs.declared.ack_stage.AckStage.TheVariants.{Update, Unlock}
use Rattle.placement_node.specs.declared.reply.Awaited.{Awaited}
use Rattle.placement_node.specs.declared.reply.RoomSeen.{RoomSeen}
use Rattle.placement_sessions.specs.declared.route.Asked.TheVariants.{State, Rounds}
use Rattle.placement_sessions.specs.Routes.{asked_at}
use Rattle.placement_sessions.specs.States.{state_text, rounds_text}
use Rattle.placement_sessions.specs.StateTexts.{asked_text}

-- ---- requests

state_of_default : asked_at (codes "/placement/state") ≡ Some (State (codes "default"))
state_of_default = refl

rounds_of_default : asked_at (codes "/placement/rounds") ≡ Some (Rounds (codes "default"))
rounds_of_default = refl

rounds_of_blue : asked_at (codes "/placement/rounds?space=blue") ≡ Some (Rounds (codes "blue"))
rounds_of_blue = refl

no_space : asked_at (codes "/placement/rounds?space=") ≡ None
no_space = refl

other_path : asked_at (codes "/placement/rounds/") ≡ None
other_path = refl

-- ---- texts

abbrev host : HostInfo
host = record { member = record { space = codes "default"; node = codes "a"; boot = 3 }; app = codes "shop"; address = record { ip = 2130706433; port = 5001 }; kinds = codes "counter" ∷ [] }

state : state_text (host ∷ []) 8 ≡ codes "{\"hostList\":[{\"actorTypes\":[\"counter\"],\"appId\":\"shop\",\"name\":\"a\"}],\"tableVersion\":8}"
unfolding digits escape_byte
state = refl

abbrev one : Awaited
one = record { node = codes "a"; boot = 3; address = record { ip = 2130706433; port = 5001 } }

abbrev other : Awaited
other = record { node = codes "b"; boot = 12; address = record { ip = 167772161; port = 80 } }

update_waits : rounds_text (Some (record { version = 8; stage = Update; awaited = one ∷ other ∷ [] })) 8
    ≡ codes "{\"round\":{\"stage\":\"update\",\"version\":8,\"waitsFor\":[{\"address\":\"127.0.0.1:5001\",\"boot\":3,\"name\":\"a\"},{\"address\":\"10.0.0.1:80\",\"boot\":12,\"name\":\"b\"}]},\"tableVersion\":8}"
unfolding digits escape_byte ip_text address_text
update_waits = refl

no_round : rounds_text None 7 ≡ codes "{\"round\":null,\"tableVersion\":7}"
unfolding digits escape_byte
no_round = refl

-- a space without a room
abbrev blue : RoomSeen
blue = record { space = codes "blue"; members = host ∷ []; version = 8; round = Some (record { version = 8; stage = Unlock; awaited = [] }) }

green_rounds : asked_text (Rounds (codes "green")) (blue ∷ []) ≡ codes "{\"round\":null,\"tableVersion\":0}"
unfolding digits escape_byte
green_rounds = refl
