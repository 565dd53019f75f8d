-- Worked examples of the definitions.
use Rattle.std.proofs.Common.{◌≡◌, [], Some, None, refl}
use Rattle.std.specs.Prelude.{Ok, codes, replicate}
use Rattle.actor_names.specs.declared.error.NameError.TheVariants.{Empty, TooLong, BadByte}
use Rattle.actor_names.specs.Names.{actor_type_fault, actor_id_fault, chain_id_fault, key_fault, space_in, local_in}
use Rattle.actor_names.specs.Numerals.{member_fault}
use Rattle.actor_names.specs.Addresses.{address_reading, address_fault, part_reading, port_reading}

type_of_all_classes : actor_type_fault (codes "Order.v2_a-b") ≡ None
type_of_all_classes = refl

type_without_bytes : actor_type_fault [] ≡ Some Empty
type_without_bytes = refl

type_past_its_length : actor_type_fault (replicate 65 97) ≡ Some (TooLong 65)
type_past_its_length = refl

type_with_a_colon : actor_type_fault (codes "ab:c") ≡ Some (BadByte 2)
type_with_a_colon = refl

id_with_a_slash : actor_id_fault (codes "a/b") ≡ Some (BadByte 1)
id_with_a_slash = refl

chain_with_a_slash : chain_id_fault (codes "a/b~") ≡ None
chain_with_a_slash = refl

key_of_two_parts : key_fault (codes "counter/7") ≡ None
key_of_two_parts = refl

key_without_a_slash : key_fault (codes "counter") ≡ Some (BadByte 7)
key_without_a_slash = refl

key_with_two_slashes : key_fault (codes "counter/7/8") ≡ Some (BadByte 9)
key_with_two_slashes = refl

key_without_an_id : key_fault (codes "counter/") ≡ Some Empty
key_without_an_id = refl

key_with_a_space : key_fault (codes "blue:counter/7:a") ≡ None
key_with_a_space = refl

space_of_a_key : space_in (codes "blue:counter/7:a") ≡ codes "blue"
space_of_a_key = refl

text_behind_a_space : local_in (codes "blue:counter/7:a") ≡ codes "counter/7:a"
text_behind_a_space = refl

key_with_a_colon_in_its_id : space_in (codes "counter/a:b") ≡ codes "default"
key_with_a_colon_in_its_id = refl

key_with_a_fault_behind_its_space : key_fault (codes "blue:count er/7") ≡ Some (BadByte 10)
key_with_a_fault_behind_its_space = refl

key_with_an_empty_space : key_fault (codes ":counter/7") ≡ Some Empty
key_with_an_empty_space = refl

member_with_a_space : member_fault (codes "blue:n/1") ≡ None
member_with_a_space = refl

member_with_a_space_and_no_node : member_fault (codes "blue:/1") ≡ Some Empty
member_with_a_space_and_no_node = refl

member_of_two_parts : member_fault (codes "n-1/4611686018427387904") ≡ None
member_of_two_parts = refl

member_with_boot_zero : member_fault (codes "n/0") ≡ Some (BadByte 2)
member_with_boot_zero = refl

member_with_a_byte_too_many : member_fault (codes "n/7a") ≡ Some (BadByte 3)
member_with_a_byte_too_many = refl

address_of_five_numbers : address_reading (codes "1.2.3.4:5") ≡ Ok (record { ip = 16909060; port = 5 })
unfolding part_reading port_reading
address_of_five_numbers = refl

address_without_a_port : address_fault (codes "1.2.3.4") ≡ Some (BadByte 7)
unfolding part_reading port_reading
address_without_a_port = refl

address_with_a_leading_zero : address_fault (codes "1.02.3.4:5") ≡ Some (BadByte 3)
unfolding part_reading port_reading
address_with_a_leading_zero = refl
