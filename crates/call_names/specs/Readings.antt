-- How the name of a forwarded call is read. Own.
use Rattle.std.specs.Prelude.{ℕ, ◌+◌, ◌==◌, List, take, drop, position, Option, Some, None, option_map, option_and_then, unwrap_or}
use Rattle.lists_and_limits.specs.Decimals.{number_of}
use Rattle.lists_and_limits.specs.Limits.{last_number}
use Rattle.actor_names.specs.declared.error.NameError.{NameError}
use Rattle.actor_names.specs.declared.member.Member.{Member}
use Rattle.actor_names.specs.Names.{before_slash, after_slash, space_in, local_in}
use Rattle.actor_names.specs.Numerals.{member_fault}
use Rattle.call_names.specs.declared.name.CallName.{CallName}

-- what stands before and behind the first space
abbrev pub cut : List ℕ → Option (List ℕ × List ℕ)
cut text = option_map (λ n. (take n text, drop (n + 1) text)) (position (λ b. b == 32) text)

-- a value whose text has no fault
abbrev pub sound : {A : Type 0} → Option NameError → A → Option A
sound None x = Some x
sound (Some fault) x = None

-- the member that a text names
abbrev pub member_in : List ℕ → Option Member
member_in text = sound (member_fault text) (record {
  space = space_in text;
  node = before_slash (local_in text);
  boot = unwrap_or (option_and_then (number_of last_number) (after_slash (local_in text))) 0;
})

-- a name, from the texts of its member, its part and its number
abbrev pub call_of : List ℕ → List ℕ → List ℕ → Option CallName
call_of m p n =
    option_and_then (λ origin.
    option_and_then (λ part.
    option_map (λ number. record { origin = origin; part = part; number = number })
    (number_of last_number n)) (number_of 255 p)) (member_in m)

-- `MEMBER PART NUMBER`, with one space between them: a part from 0 to 255, and a number from 0 to 2^62
unfoldable pub call_reading : List ℕ → Option CallName
call_reading text =
    option_and_then (λ (m, more).
    option_and_then (λ (p, n). call_of m p n)
    (cut more)) (cut text)
