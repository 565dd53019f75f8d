-- How a text is read: its bytes, and whether they are UTF-8.
use Rattle.std.proofs.Common.{◌≡◌, ℕ, Bool, true, false, List, length, Result, Ok, Err, refl}
use Rattle.std.specs.Str.{IsUtf8, is_utf8}
use Rattle.std.proofs.lemmas.Str.{IsUtf8-from_is_utf8, is_utf8-from_IsUtf8}
use Rattle.wire_fields.specs.declared.fault.Fault.{Fault}
use Rattle.wire_fields.specs.declared.fault.Fault.TheVariants as faults
use Rattle.wire_fields.specs.Fields.{Field, number16, sized, only}
use Rattle.wire_fields.specs.Gives.{Fails}
use Rattle.wire_fields.specs.Records.{text}

is_utf8-from_not : (bs : List ℕ) → ¬ (IsUtf8 bs) → is_utf8 bs ≡ false
is_utf8-from_not bs broken = elim (is_utf8 bs) as (λ b. is_utf8 bs ≡ b → b ≡ false) [ true ↦ λ e. absurd (broken (IsUtf8-from_is_utf8 bs e)) | false ↦ λ e. refl ] refl

only_passes : {A : Type 0} (f : Field A) (test : A → Bool) (bytes : List ℕ) (x : A × List ℕ) → f.at bytes ≡ Ok x → test x.0 ≡ true → (only f test).at bytes ≡ Ok x
only_passes f test bytes x read passes = rw (read, passes) refl

only_refuses : {A : Type 0} (f : Field A) (test : A → Bool) (bytes : List ℕ) (x : A × List ℕ) → f.at bytes ≡ Ok x → test x.0 ≡ false → (only f test).at bytes ≡ Err (length bytes)
only_refuses f test bytes x read refused = rw (read, refused) refl

only_fails : {A : Type 0} (f : Field A) (test : A → Bool) (bytes : List ℕ) (e : Fault) → Fails e (f.at bytes) → Fails e ((only f test).at bytes)
only_fails f test bytes faults.Memory failed = tt
only_fails f test bytes (faults.Field left) failed = rw failed refl

pub text_read : (bytes bs rest : List ℕ) → (sized number16).at bytes ≡ Ok (bs, rest) → IsUtf8 bs → text.at bytes ≡ Ok (bs, rest)
unfolding text
text_read bytes bs rest read utf8 = only_passes (sized number16) is_utf8 bytes (bs, rest) read (is_utf8-from_IsUtf8 bs utf8)

pub text_refused : (bytes bs rest : List ℕ) → (sized number16).at bytes ≡ Ok (bs, rest) → ¬ (IsUtf8 bs) → text.at bytes ≡ Err (length bytes)
unfolding text
text_refused bytes bs rest read broken = only_refuses (sized number16) is_utf8 bytes (bs, rest) read (is_utf8-from_not bs broken)

pub text_fails : (bytes : List ℕ) (e : Fault) → Fails e ((sized number16).at bytes) → Fails e (text.at bytes)
unfolding text
text_fails bytes e failed = only_fails (sized number16) is_utf8 bytes e failed
