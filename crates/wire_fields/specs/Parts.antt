-- Names, numbers in ranges, members, actors, hosts. Own.
use Rattle.std.specs.Prelude.{◌≡◌, ℕ, ◌^◌, Bool, true, false, ◌&&◌, ◌==◌, nat_lt, nat_le, bytes_eq, List, [], ◌∷◌, Option, Some, None, is_none, option_map}
use Rattle.std.specs.Ordering.{nat_cmp, is_lt}
use Rattle.std.specs.Cmp.Lexicographic.{slice_cmp}
use Rattle.actor_names.specs.declared.error.NameError.{NameError}
use Rattle.actor_names.specs.declared.member.Member.{Member}
use Rattle.actor_names.specs.declared.actor_key.ActorKey.{ActorKey}
use Rattle.actor_names.specs.Names.{space_fault, node_fault, app_id_fault, actor_type_fault, actor_id_fault, record_name_fault}
use Rattle.place_table.specs.declared.host.HostInfo.{HostInfo}
use Rattle.place_table.specs.declared.ack_stage.AckStage.{AckStage}
use Rattle.place_table.specs.declared.ack_stage.AckStage.TheVariants as stages
use Rattle.wire_fields.specs.Fields.{Reading, Field, byte, number16, number32, number64, nothing, both, seen, only, as_one, sized, counted, in_any_order, row, row_of, tagged, maybe}

-- ---- names

-- a name with a given form, behind its length of one byte
abbrev pub named : (List ℕ → Option NameError) → Field (List ℕ)
named fault = only (sized byte) (λ name. is_none (fault name))

unfoldable pub space_name : Field (List ℕ)
space_name = named space_fault

unfoldable pub node_name : Field (List ℕ)
node_name = named node_fault

unfoldable pub app_name : Field (List ℕ)
app_name = named app_id_fault

unfoldable pub type_name : Field (List ℕ)
type_name = named actor_type_fault

unfoldable pub id_name : Field (List ℕ)
id_name = named actor_id_fault

unfoldable pub record_name : Field (List ℕ)
record_name = named record_name_fault

-- ---- numbers in ranges

abbrev pub at_most : ℕ → Field ℕ → Field ℕ
at_most most f = only f (λ n. nat_le n most)

-- a version, or the greatest boot of a node, 0 if there is none
unfoldable pub counter : Field ℕ
counter = at_most (2 ^ 62) number64

abbrev pub within : ℕ → ℕ → Field ℕ → Field ℕ
within least most f = only f (λ n. nat_le least n && nat_le n most)

-- a boot
unfoldable pub boot : Field ℕ
boot = within 1 (2 ^ 62) number64

-- this number and no other
abbrev pub fixed : ℕ → Field (Unit {0})
fixed n = seen (only number64 (λ m. m == n)) (λ u. n) (λ m. tt)

-- a number of 8 bytes that fits 4
unfoldable pub small : Field ℕ
small = at_most 4294967295 number64

-- whether something is so
abbrev pub flag_tag : Bool → ℕ
flag_tag false = 0
flag_tag true = 1

abbrev pub flag_rows : List (ℕ × Reading Bool)
flag_rows = (0, row nothing (λ u. false)) ∷ (1, row nothing (λ u. true)) ∷ []

unfoldable pub flag : Field Bool
flag = tagged flag_tag (λ b. []) (λ b. Unit {0}) (row_of flag_rows)

-- ---- members, actors, hosts

-- a node of a space: space name, node name
unfoldable pub node_place : Field (List ℕ × List ℕ)
node_place = both space_name node_name

abbrev pub member_parts : Member → (List ℕ × List ℕ) × ℕ
member_parts m = ((m.space, m.node), m.boot)

abbrev pub member_of : (List ℕ × List ℕ) × ℕ → Member
member_of p = record { space = p.0.0; node = p.0.1; boot = p.1 }

-- space name, node name, boot
unfoldable pub member : Field Member
member = seen (both node_place boot) member_parts member_of

abbrev pub actor_parts : ActorKey → List ℕ × (List ℕ × List ℕ)
actor_parts a = (a.space, (a.kind, a.id))

abbrev pub actor_of : List ℕ × (List ℕ × List ℕ) → ActorKey
actor_of p = record { space = p.0; kind = p.1.0; id = p.1.1 }

-- space name, type name, id name
unfoldable pub actor : Field ActorKey
actor = seen (both space_name (both type_name id_name)) actor_parts actor_of

-- at most 32 types
unfoldable pub types : Field (List (List ℕ))
types = counted (at_most 32 byte) (in_any_order type_name)

abbrev pub app_parts : HostInfo → List ℕ × (ℕ × (ℕ × List (List ℕ)))
app_parts h = (h.app, (h.address.ip, (h.address.port, h.kinds)))

abbrev pub host_parts : HostInfo → Member × (List ℕ × (ℕ × (ℕ × List (List ℕ))))
host_parts h = (h.member, app_parts h)

abbrev pub host_of : Member × (List ℕ × (ℕ × (ℕ × List (List ℕ)))) → HostInfo
host_of p = record { member = p.0; app = p.1.0; address = record { ip = p.1.1.0; port = p.1.1.1.0 }; kinds = p.1.1.1.1 }

-- application name, address, count, types
unfoldable pub host_app : Field (List ℕ × (ℕ × (ℕ × List (List ℕ))))
host_app = both app_name (both number32 (both number16 types))

-- member, application name, address, count, types
unfoldable pub host : Field HostInfo
host = seen (both member host_app) host_parts host_of

-- whether a node may follow the member before it: it is of the same space, and comes later
abbrev pub place_follows : Option Member → List ℕ × List ℕ → Bool
place_follows None p = true
place_follows (Some m) p = is_lt (slice_cmp nat_cmp m.node p.1) && bytes_eq m.space p.0

-- a member whose node may follow that of the member before it: the order is tested as soon as the node is read
unfoldable pub member_after : Option Member → Field Member
member_after before = seen (both (only node_place (place_follows before)) boot) member_parts member_of

unfoldable pub host_after : Option Member → Field HostInfo
host_after before = seen (both (member_after before) host_app) host_parts host_of

abbrev pub host_member : HostInfo → Member
host_member h = h.member

abbrev pub host_behind : Option HostInfo → Field HostInfo
host_behind before = host_after (option_map host_member before)

-- at most 256 hosts of one space in byte order of their nodes, no node twice
unfoldable pub hosts : Field (List HostInfo)
hosts = counted (at_most 256 number16) host_behind

-- ---- the stage of a round

abbrev pub stage_tag : AckStage → ℕ
stage_tag stages.Lock = 1
stage_tag stages.Update = 2
stage_tag stages.Unlock = 3

abbrev pub stage_rows : List (ℕ × Reading AckStage)
stage_rows = (1, row nothing (λ u. stages.Lock)) ∷ (2, row nothing (λ u. stages.Update)) ∷ (3, row nothing (λ u. stages.Unlock)) ∷ []

unfoldable pub stage : Field AckStage
stage = tagged stage_tag (λ s. []) (λ s. Unit {0}) (row_of stage_rows)
