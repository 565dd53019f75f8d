-- Payloads of the placement's journal: how the changes of rooms are spelled, and how they are read. Own.
use Rattle.std.specs.Prelude.{◌≡◌, ℕ, nat_le, if◌then◌else◌, List, [], ◌∷◌, ◌++◌, Option, Some, None, option_map, Result, Ok, Err}
use Rattle.actor_names.specs.Names.{default_space}
use Rattle.actor_names.specs.declared.member.Member.{Member}
use Rattle.place_table.specs.declared.host.HostInfo.{HostInfo}
use Rattle.round_core.specs.Records.{RecordOf}
use Rattle.wire_fields.specs.Fields.{Field, ◌>>=◌, number16, both, seen, counted, in_any_order, row, row_of, tagged, maybe, whole}
use Rattle.wire_fields.specs.Parts.{space_name, node_name, at_most, counter, boot, app_parts, host_app}

-- ---- fields of fields

-- one field, and then the one that belongs behind its value
abbrev pub followed : {A B : Type 0} → Field A → (A → Field B) → Field (A × B)
followed f g = record {
  spell = λ p. f.spell p.0 ++ (g p.0).spell p.1;
  Fits = λ p. f.Fits p.0 × (g p.0).Fits p.1;
  at = λ bytes. f.at bytes >>= λ x. (g x.0).at x.1 >>= λ y. Ok ((x.0, y.0), y.1);
}

-- the same bytes for other values, of which only those fit that their parts determine
abbrev pub seen_in : {A B : Type 0} → Field A → (B → A) → (A → B) → (B → Type 0) → Field B
seen_in f parts made IsIn = record {
  spell = λ b. f.spell (parts b);
  Fits = λ b. f.Fits (parts b) × IsIn b;
  at = λ bytes. f.at bytes >>= λ x. Ok (made x.0, x.1);
}

-- ---- members and hosts of a space that is named before

abbrev pub member_local : Member → List ℕ × ℕ
member_local m = (m.node, m.boot)

abbrev pub member_in : List ℕ → List ℕ × ℕ → Member
member_in space p = record { space = space; node = p.0; boot = p.1 }

-- node name, boot
unfoldable pub local_place : Field (List ℕ × ℕ)
local_place = both node_name boot

-- a member of this space
unfoldable pub local_member : List ℕ → Field Member
local_member space = seen_in local_place member_local (member_in space) (λ m. m.space ≡ space)

abbrev pub host_local : HostInfo → (List ℕ × ℕ) × (List ℕ × (ℕ × (ℕ × List (List ℕ))))
host_local h = (member_local h.member, app_parts h)

abbrev pub host_in : List ℕ → (List ℕ × ℕ) × (List ℕ × (ℕ × (ℕ × List (List ℕ)))) → HostInfo
host_in space p = record { member = member_in space p.0; app = p.1.0; address = record { ip = p.1.1.0; port = p.1.1.1.0 }; kinds = p.1.1.1.1 }

-- node name, boot, application name, address, count, types
unfoldable pub local_app : Field ((List ℕ × ℕ) × (List ℕ × (ℕ × (ℕ × List (List ℕ)))))
local_app = both local_place host_app

-- a host of this space
unfoldable pub local_host : List ℕ → Field HostInfo
local_host space = seen_in local_app host_local (host_in space) (λ h. h.member.space ≡ space)

-- ---- changes of rooms

abbrev pub change_parts : RecordOf → Option HostInfo × (List Member × ℕ)
change_parts r = (r.joined, (r.removed, r.next_version))

abbrev pub change_of : Option HostInfo × (List Member × ℕ) → RecordOf
change_of p = record { joined = p.0; removed = p.1.0; next_version = p.1.1 }

-- a change of the room of this space: the host that joined, if there is one, a count, the members that were removed,
-- the next version
unfoldable pub change : List ℕ → Field RecordOf
change space = seen (both (maybe (local_host space)) (both (counted number16 (in_any_order (local_member space))) counter)) change_parts change_of

-- a space, and the change of its room
abbrev pub Entry : Type 0
Entry = List ℕ × RecordOf

unfoldable pub entry : Field Entry
entry = followed space_name change

-- a count of at most 64, and then the entries: no placement has more rooms
unfoldable pub entries : Field (List Entry)
entries = counted (at_most 64 number16) (in_any_order entry)

-- ---- payloads

-- 2, and then the entries
unfoldable pub payload : Field (List Entry)
payload = tagged (λ es. 2) entries.spell entries.Fits (row_of ((2, row entries (λ es. es)) ∷ []))

-- what comes before the entries
unfoldable pub payload_start : ℕ → List ℕ
payload_start count = 2 ∷ number16.spell count

abbrev pub value_of : {A : Type 0} → Result A ℕ → Option A
value_of (Ok a) = Some a
value_of (Err left) = None

-- the value of which these bytes are the spelling, if there is one
abbrev pub exactly : {A : Type 0} → Field A → List ℕ → Option A
exactly f bytes = value_of (whole f.at bytes)

-- the old form: a change of the room of `default`, without a first byte of its own
unfoldable pub old_form : Field RecordOf
old_form = change default_space

abbrev pub in_default : RecordOf → List Entry
in_default r = (default_space, r) ∷ []

-- the entries of a payload, if it has a reading: in the old form if it begins with 0 or 1
abbrev pub payload_reading : List ℕ → Option (List Entry)
payload_reading [] = None
payload_reading (b ∷ rest) = if nat_le b 1 then option_map in_default (exactly old_form (b ∷ rest)) else exactly payload (b ∷ rest)
