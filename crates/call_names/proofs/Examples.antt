-- Worked examples of the names of calls and of addresses, and of their texts.
use Rattle.std.proofs.Common.{◌≡◌, refl, Some, None, codes}
use Rattle.std.specs.Fmt.{digits}
use Rattle.call_names.specs.declared.name.CallName.{CallName}
use Rattle.call_names.specs.Texts.{ip_text, address_text, call_text}
use Rattle.call_names.specs.Readings.{call_reading}

abbrev call : CallName
call = record { origin = record { space = codes "shop"; node = codes "a"; boot = 2 }; part = 3; number = 4611686018427387904 }

written : call_text call ≡ codes "shop:a/2 3 4611686018427387904"
unfolding digits
written = refl

read : call_reading (codes "shop:a/2 3 4611686018427387904") ≡ Some call
unfolding call_reading
read = refl

-- a member without a space is of the space `default`; number 0 has a reading
in_default : call_reading (codes "a/1 255 0") ≡ Some (record { origin = record { space = codes "default"; node = codes "a"; boot = 1 }; part = 255; number = 0 })
unfolding call_reading
in_default = refl

no_such_part : call_reading (codes "a/1 256 7") ≡ None
unfolding call_reading
no_such_part = refl

number_too_great : call_reading (codes "a/1 0 4611686018427387905") ≡ None
unfolding call_reading
number_too_great = refl

two_spaces : call_reading (codes "a/1  0 7") ≡ None
unfolding call_reading
two_spaces = refl

no_number : call_reading (codes "a/1 0") ≡ None
unfolding call_reading
no_number = refl

-- ---- addresses

local : address_text (record { ip = 2130706433; port = 50005 }) ≡ codes "127.0.0.1:50005"
unfolding digits ip_text address_text
local = refl

least : address_text (record { ip = 0; port = 0 }) ≡ codes "0.0.0.0:0"
unfolding digits ip_text address_text
least = refl

greatest : address_text (record { ip = 4294967295; port = 65535 }) ≡ codes "255.255.255.255:65535"
unfolding digits ip_text address_text
greatest = refl
