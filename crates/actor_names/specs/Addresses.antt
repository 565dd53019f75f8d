-- Addresses: four numbers up to 255 joined by `.`, then `:` and a port. Own.
use Rattle.std.specs.Prelude.{ℕ, ◌+◌, ◌*◌, ◌==◌, if◌then◌else◌, List, [], ◌∷◌, length, drop, Option, Some, None, Result, Ok, Err}
use Rattle.actor_names.specs.declared.error.NameError.{NameError}
use Rattle.actor_names.specs.declared.error.NameError.TheVariants.{BadByte}
use Rattle.actor_names.specs.declared.address.Address.{Address}
use Rattle.actor_names.specs.declared.address.Part.{Part}
use Rattle.lists_and_limits.specs.Decimals.{number_of}
use Rattle.actor_names.specs.Numerals.{numeral_of}

-- reads a later piece with what an earlier one read; the first fault is the answer
abbrev pub then_read : {A B : Type 0} → Result A NameError → (A → Result B NameError) → Result B NameError
then_read (Ok read) next = next read
then_read (Err fault) next = Err fault

-- a number that is missing or out of range is a fault at its first place; a byte other than `joint` after it, or none,
-- is a fault at that byte's place
abbrev pub joined : ℕ → ℕ → ℕ → List ℕ → Option ℕ → Result Part NameError
joined joint start end rest None = Err (BadByte start)
joined joint start end [] (Some number) = Err (BadByte end)
joined joint start end (b ∷ bs) (Some number) = if b == joint then Ok (record { number = number; next = end + 1 }) else Err (BadByte end)

-- a number up to 255 and the byte `joint`, in a text that begins at `start` of the whole
unfoldable pub part_reading : ℕ → ℕ → List ℕ → Result Part NameError
part_reading joint start text = joined joint start (start + length (numeral_of text)) (drop (length (numeral_of text)) text) (number_of 255 (numeral_of text))

-- the same for a number that ends the text
abbrev pub ended : ℕ → ℕ → List ℕ → Option ℕ → Result ℕ NameError
ended start end rest None = Err (BadByte start)
ended start end [] (Some number) = Ok number
ended start end (b ∷ bs) (Some number) = Err (BadByte end)

-- a port, a number up to 65535 that ends the text
unfoldable pub port_reading : ℕ → List ℕ → Result ℕ NameError
port_reading start text = ended start (start + length (numeral_of text)) (drop (length (numeral_of text)) text) (number_of 65535 (numeral_of text))

-- the address that a text stands for, or its first fault; the first number is the highest byte
abbrev pub address_reading : List ℕ → Result Address NameError
address_reading text =
    then_read (part_reading 46 0 text) (λ a.
    then_read (part_reading 46 a.next (drop a.next text)) (λ b.
    then_read (part_reading 46 b.next (drop b.next text)) (λ c.
    then_read (part_reading 58 c.next (drop c.next text)) (λ d.
    then_read (port_reading d.next (drop d.next text)) (λ port.
    Ok (record { ip = ((a.number * 256 + b.number) * 256 + c.number) * 256 + d.number; port = port }))))))

-- the first fault of a text that should be an address
abbrev pub fault_of : {A : Type 0} → Result A NameError → Option NameError
fault_of (Ok read) = None
fault_of (Err fault) = Some fault

abbrev pub address_fault : List ℕ → Option NameError
address_fault text = fault_of (address_reading text)
