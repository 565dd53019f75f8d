-- The texts of addresses, of members and of the names of forwarded calls. Own.
use Rattle.std.specs.Prelude.{◌≡◌, ◌≤◌, ℕ, ◌/◌, ◌%◌, ◌^◌, if◌then◌else◌, bytes_eq, List, [], ◌++◌, codes, decimal, None}
use Rattle.actor_names.specs.Names.{default_space, space_fault, node_fault}
use Rattle.actor_names.specs.declared.address.Address.{Address}
use Rattle.actor_names.specs.declared.member.Member.{Member}
use Rattle.call_names.specs.declared.name.CallName.{CallName}

-- the four bytes of an IPv4 address in decimal, the highest first
unfoldable pub ip_text : ℕ → List ℕ
ip_text ip = decimal (ip / 2 ^ 24 % 256) ++ codes "." ++ decimal (ip / 2 ^ 16 % 256) ++ codes "." ++ decimal (ip / 2 ^ 8 % 256) ++ codes "." ++ decimal (ip % 256)

-- `A.B.C.D:PORT`
unfoldable pub address_text : Address → List ℕ
address_text a = ip_text a.ip ++ codes ":" ++ decimal a.port

-- a space and a colon; `default` isn't written
abbrev pub space_text : List ℕ → List ℕ
space_text space = if bytes_eq space default_space then [] else space ++ codes ":"

-- `NODE/BOOT` or `SPACE:NODE/BOOT`
abbrev pub member_text : Member → List ℕ
member_text m = space_text m.space ++ m.node ++ codes "/" ++ decimal m.boot

-- `MEMBER PART NUMBER`
abbrev pub call_text : CallName → List ℕ
call_text c = member_text c.origin ++ codes " " ++ decimal c.part ++ codes " " ++ decimal c.number

-- a name with the names and numbers that such values have: the law of what is read ranges over all values
pub record IsCallName (c : CallName) : Type 0 where
  pub space : space_fault c.origin.space ≡ None
  pub node : node_fault c.origin.node ≡ None
  pub boot_counts : 1 ≤ c.origin.boot
  pub boot_fits : c.origin.boot ≤ 2 ^ 62
  pub part_fits : c.part ≤ 255
  pub number_fits : c.number ≤ 2 ^ 62
