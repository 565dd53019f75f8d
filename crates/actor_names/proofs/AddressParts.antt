-- What a number of an address, from `start` to `end`, says about its text.
use Rattle.std.proofs.Common.{◌≡◌, ◌≢◌, ℕ, ◌+◌, ◌-◌, ◌<◌, ◌≤◌, List, [], length, get_or, take, drop, drop-cons, arith, Option, Some, None, Ok, Err, refl, eq-eqb}
use Rattle.std.proofs.lemmas.Bool.{ne_eqb}
use Rattle.std.proofs.lemmas.Grind.{common_steps}
use Rattle.actor_names.specs.declared.error.NameError.TheVariants.{BadByte}
use Rattle.lists_and_limits.specs.Decimals.{number_of}
use Rattle.actor_names.specs.Numerals.{numeral_of}
use Rattle.actor_names.specs.Addresses.{part_reading, port_reading, joined, ended}
use Rattle.actor_names.proofs.Numerals.{number_of-piece}

module _ (start end : ℕ) (text : List ℕ) (found : Option ℕ) (ends : end ≡ start + length (numeral_of (drop start text))) where
  rest : drop (length (numeral_of (drop start text))) (drop start text) ≡ drop end text
  rest = grind (arith, common_steps)

  part_reading-piece : (joint : ℕ) → found ≡ number_of 255 (take (end - start) (drop start text)) → part_reading joint start (drop start text) ≡ joined joint start end (drop end text) found
  unfolding part_reading
  part_reading-piece joint is = rw (number_of-piece 255 start end text found ends is, rest, ← ends) refl

  port_reading-piece : found ≡ number_of 65535 (take (end - start) (drop start text)) → port_reading start (drop start text) ≡ ended start end (drop end text) found
  unfolding port_reading
  port_reading-piece is = rw (number_of-piece 65535 start end text found ends is, rest, ← ends) refl

  past_end : length text ≤ end → drop end text ≡ []
  past_end past = grind (arith, common_steps)

  pub part-none : (joint : ℕ) → found ≡ number_of 255 (take (end - start) (drop start text)) → found ≡ None → Err (BadByte start) ≡ part_reading joint start (drop start text)
  part-none joint is none = rw (part_reading-piece joint is, none) refl

  pub part-ended : (joint number : ℕ) → found ≡ number_of 255 (take (end - start) (drop start text)) → found ≡ Some number → length text ≤ end → Err (BadByte end) ≡ part_reading joint start (drop start text)
  part-ended joint number is some past = rw (part_reading-piece joint is, some, past_end past) refl

  pub part-other : (joint number : ℕ) → found ≡ number_of 255 (take (end - start) (drop start text)) → found ≡ Some number → end < length text → get_or text end 0 ≢ joint → Err (BadByte end) ≡ part_reading joint start (drop start text)
  part-other joint number is some below other = rw (part_reading-piece joint is, some, drop-cons text end 0, ne_eqb (get_or text end 0) joint other) refl

  pub part-joined : (joint number : ℕ) → found ≡ number_of 255 (take (end - start) (drop start text)) → found ≡ Some number → end < length text → get_or text end 0 ≡ joint → Ok (record { number = number; next = end + 1 }) ≡ part_reading joint start (drop start text)
  part-joined joint number is some below same = rw (part_reading-piece joint is, some, drop-cons text end 0, eq-eqb (get_or text end 0) joint same) refl

  pub port-none : found ≡ number_of 65535 (take (end - start) (drop start text)) → found ≡ None → Err (BadByte start) ≡ port_reading start (drop start text)
  port-none is none = rw (port_reading-piece is, none) refl

  pub port-late : (number : ℕ) → found ≡ number_of 65535 (take (end - start) (drop start text)) → found ≡ Some number → end < length text → Err (BadByte end) ≡ port_reading start (drop start text)
  port-late number is some below = rw (port_reading-piece is, some, drop-cons text end 0) refl

  pub port-read : (number : ℕ) → found ≡ number_of 65535 (take (end - start) (drop start text)) → found ≡ Some number → length text ≤ end → Ok number ≡ port_reading start (drop start text)
  port-read number is some past = rw (port_reading-piece is, some, past_end past) refl
