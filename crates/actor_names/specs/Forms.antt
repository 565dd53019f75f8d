-- The forms of addresses and of members, said without a reader: which bytes stand there, and what they are worth. Own.
use Rattle.std.specs.Prelude.{◌≡◌, ℕ, ◌+◌, ◌*◌, ◌^◌, ◌≤◌, List, ◌∷◌, ◌++◌, None, decimal}
use Rattle.actor_names.specs.declared.address.Address.{Address}
use Rattle.actor_names.specs.Names.{node_fault, space_fault, default_space}

-- `A.B.C.D:PORT` as std prints the five numbers, the first four up to 255 and the port up to 65535; the first number is
-- the highest byte
pub record AddressText (x : Address) (text : List ℕ) : Type 0 where
  pub a : ℕ
  pub b : ℕ
  pub c : ℕ
  pub d : ℕ
  pub a_fits : a ≤ 255
  pub b_fits : b ≤ 255
  pub c_fits : c ≤ 255
  pub d_fits : d ≤ 255
  pub port_fits : x.port ≤ 65535
  pub ip_is : x.ip ≡ ((a * 256 + b) * 256 + c) * 256 + d
  pub text_is : text ≡ decimal a ++ (46 ∷ (decimal b ++ (46 ∷ (decimal c ++ (46 ∷ (decimal d ++ (58 ∷ decimal x.port)))))))

-- a node, `/` and a boot from 1 to 2^62 as std prints it; before them a space and `:`, or nothing for the space `default`
pub data MemberText (space node : List ℕ) (boot : ℕ) (text : List ℕ) : Type 0 where
  Local : space ≡ default_space → node_fault node ≡ None → 1 ≤ boot → boot ≤ 2 ^ 62 → text ≡ node ++ (47 ∷ decimal boot) → MemberText space node boot text
  Spaced : space_fault space ≡ None → node_fault node ≡ None → 1 ≤ boot → boot ≤ 2 ^ 62 → text ≡ space ++ (58 ∷ (node ++ (47 ∷ decimal boot))) → MemberText space node boot text
