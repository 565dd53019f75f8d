-- What the placement tells of a room over HTTP: the bodies of the responses. The first after `GET /placement/state` of
-- Dapr's placement service; the second own.
use Rattle.std.specs.Prelude.{ℕ, List, [], ◌∷◌, ◌++◌, map, codes, decimal, Option, Some, None}
use Rattle.call_names.specs.Texts.{address_text}
use Rattle.json_text.specs.Texts.{at_key, in_braces, in_brackets}
use Rattle.place_table.specs.declared.ack_stage.AckStage.{AckStage}
use Rattle.place_table.specs.declared.ack_stage.AckStage.TheVariants.{Lock, Update, Unlock}
use Rattle.place_table.specs.declared.host.HostInfo.{HostInfo}
use Rattle.placement_node.specs.declared.reply.Awaited.{Awaited}
use Rattle.placement_node.specs.declared.reply.RoundSeen.{RoundSeen}

-- a name in quotes: no byte of a name is escaped in JSON
abbrev pub in_quotes : List ℕ → List ℕ
in_quotes name = 34 ∷ (name ++ 34 ∷ [])

-- `{"actorTypes":["counter"],"appId":"shop","name":"a"}`
abbrev pub host_text : HostInfo → List ℕ
host_text h =
    in_braces (at_key (codes "actorTypes") (in_brackets (map in_quotes h.kinds)) ∷ at_key (codes "appId") (in_quotes h.app) ∷ at_key (codes "name") (in_quotes h.member.node) ∷ [])

-- the hosts of a room in their order, and the last version that it used
abbrev pub state_text : List HostInfo → ℕ → List ℕ
state_text hosts version = in_braces (at_key (codes "hostList") (in_brackets (map host_text hosts)) ∷ at_key (codes "tableVersion") (decimal version) ∷ [])

-- ---- rounds

abbrev pub stage_name : AckStage → List ℕ
stage_name Lock = codes "lock"
stage_name Update = codes "update"
stage_name Unlock = codes "unlock"

-- `{"address":"127.0.0.1:5001","boot":3,"name":"a"}`
abbrev pub awaited_text : Awaited → List ℕ
awaited_text a =
    in_braces (at_key (codes "address") (in_quotes (address_text a.address)) ∷ at_key (codes "boot") (decimal a.boot) ∷ at_key (codes "name") (in_quotes a.node) ∷ [])

-- `{"stage":"update","version":8,"waitsFor":[..]}`, or `null` if no round runs
abbrev pub round_text : Option RoundSeen → List ℕ
round_text None = codes "null"
round_text (Some r) =
    in_braces (at_key (codes "stage") (in_quotes (stage_name r.stage)) ∷ at_key (codes "version") (decimal r.version) ∷ at_key (codes "waitsFor") (in_brackets (map awaited_text r.awaited)) ∷ [])

-- the round of a room, and the last version that the room used
abbrev pub rounds_text : Option RoundSeen → ℕ → List ℕ
rounds_text round version = in_braces (at_key (codes "round") (round_text round) ∷ at_key (codes "tableVersion") (decimal version) ∷ [])
