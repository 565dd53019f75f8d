-- Worked examples of the definitions.
use Rattle.std.proofs.Common.{◌≡◌, ℕ, List, [], ◌∷◌, ◌++◌, Some, None, refl}
use Rattle.std.specs.Prelude.{codes}
use Rattle.actor_names.specs.declared.member.Member.{Member}
use Rattle.place_table.specs.declared.host.HostInfo.{HostInfo}
use Rattle.wire_fields.specs.Fields.{byte, number16, number32, number64, many_at}
use Rattle.wire_fields.specs.Parts.{space_name, node_name, app_name, type_name, counter, boot, types, host_app}
use Rattle.placement_payloads.specs.Payloads.{local_place, local_member, local_app, local_host, change, entry, entries, payload, old_form, payload_reading}

-- a number of eight bytes that fits one
abbrev wide : ℕ → List ℕ
wide n = 0 ∷ 0 ∷ 0 ∷ 0 ∷ 0 ∷ 0 ∷ 0 ∷ n ∷ []

-- the start of a payload of one entry, and the space `s`
abbrev of_one : List ℕ
of_one = 2 ∷ 0 ∷ 1 ∷ 1 ∷ 115 ∷ []

abbrev member_one : List ℕ → Member
member_one space = record { space = space; node = codes "a"; boot = 1 }

abbrev host_one : HostInfo
host_one = record {
  member = member_one (codes "s");
  app = codes "p";
  address = record { ip = 2130706433; port = 80 };
  kinds = codes "t" ∷ codes "u" ∷ [];
}

-- no entries
abbrev nothing_changed : List ℕ
nothing_changed = 2 ∷ 0 ∷ 0 ∷ []

nothing_is_spelled : payload.spell [] ≡ nothing_changed
unfolding payload entries number16
nothing_is_spelled = refl

nothing_is_read : payload_reading nothing_changed ≡ Some []
unfolding payload entries number16 many_at
nothing_is_read = refl

-- nobody joined or was removed; the next version is 5
abbrev only_version : List ℕ
only_version = of_one ++ 0 ∷ 0 ∷ 0 ∷ wide 5

version_is_spelled : payload.spell ((codes "s", record { joined = None; removed = []; next_version = 5 }) ∷ []) ≡ only_version
unfolding payload entries entry change local_host local_member space_name counter byte number16 number64
version_is_spelled = refl

version_is_read : payload_reading only_version ≡ Some ((codes "s", record { joined = None; removed = []; next_version = 5 }) ∷ [])
unfolding payload entries entry change local_host local_member space_name counter byte number16 number64 many_at
version_is_read = refl

-- the host `a` in its boot 1, of the application `p` at 127.0.0.1:80, with the types `t` and `u`
abbrev one_joined : List ℕ
one_joined = of_one ++ 1 ∷ 1 ∷ 97 ∷ wide 1 ++ 1 ∷ 112 ∷ 127 ∷ 0 ∷ 0 ∷ 1 ∷ 0 ∷ 80 ∷ 2 ∷ 1 ∷ 116 ∷ 1 ∷ 117 ∷ 0 ∷ 0 ∷ wide 6

joined_is_spelled : payload.spell ((codes "s", record { joined = Some host_one; removed = []; next_version = 6 }) ∷ []) ≡ one_joined
unfolding payload entries entry change local_host local_app local_place local_member host_app space_name node_name boot app_name types type_name counter byte number16 number32 number64
joined_is_spelled = refl

joined_is_read : payload_reading one_joined ≡ Some ((codes "s", record { joined = Some host_one; removed = []; next_version = 6 }) ∷ [])
unfolding payload entries entry change local_host local_app local_place local_member host_app space_name node_name boot app_name types type_name counter byte number16 number32 number64 many_at
joined_is_read = refl

-- a member was removed
abbrev one_removed : List ℕ
one_removed = 0 ∷ 0 ∷ 1 ∷ 1 ∷ 97 ∷ wide 1 ++ wide 7

removed_is_spelled : payload.spell ((codes "s", record { joined = None; removed = member_one (codes "s") ∷ []; next_version = 7 }) ∷ []) ≡ of_one ++ one_removed
unfolding payload entries entry change local_host local_place local_member space_name node_name boot counter byte number16 number64
removed_is_spelled = refl

removed_is_read : payload_reading (of_one ++ one_removed) ≡ Some ((codes "s", record { joined = None; removed = member_one (codes "s") ∷ []; next_version = 7 }) ∷ [])
unfolding payload entries entry change local_host local_place local_member space_name node_name boot counter byte number16 number64 many_at
removed_is_read = refl

-- the same change in the old form
old_form_is_read : payload_reading one_removed ≡ Some ((codes "default", record { joined = None; removed = member_one (codes "default") ∷ []; next_version = 7 }) ∷ [])
unfolding old_form change local_host local_place local_member node_name boot counter byte number16 number64 many_at
old_form_is_read = refl

-- a byte behind the last entry
byte_behind : payload_reading (only_version ++ 0 ∷ []) ≡ None
unfolding payload entries entry change local_host local_member space_name counter byte number16 number64 many_at
byte_behind = refl

-- another first byte
third_form : payload_reading (3 ∷ 0 ∷ 0 ∷ []) ≡ None
unfolding payload
third_form = refl
