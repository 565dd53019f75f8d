-- The most bytes that each field of a placement's frames can have.
use Rattle.std.proofs.Common.{◌≡◌, ℕ, ◌+◌, ◌*◌, ◌≤◌, Bool, true, false, if◌then◌else◌, List, [], ◌∷◌, length, Option, Some, None, refl, sym, subst, arith, length-append}
use Rattle.std.specs.Prelude.{nat_le, nat_lt, ◌==◌, is_none, option_map}
use Rattle.std.proofs.Math.Nat.{suc-mul}
use Rattle.std.proofs.lemmas.Bool.Decides.{nat_tests}
use Rattle.std.specs.Int.{w16, w32, w64, to_be_bytes}
use Rattle.actor_names.specs.declared.error.NameError.{NameError}
use Rattle.actor_names.specs.declared.error.NameError.TheVariants.{TooLong, Empty, BadByte}
use Rattle.actor_names.specs.Names.{text_fault, first_bad, is_node_byte, is_type_byte, space_fault, node_fault, app_id_fault, actor_type_fault}
use Rattle.place_table.specs.declared.host.HostInfo.{HostInfo}
use Rattle.wire_fields.specs.Fields.{Field, byte, number16, number32, number64, spell_all, AllFit, both, counted, in_any_order}
use Rattle.wire_fields.specs.Parts.{named, at_most, space_name, node_name, app_name, type_name, counter, boot, small, stage, node_place, member_parts, member, types, host_app, host_parts, host, host_member, host_behind, hosts}
use Rattle.wire_fields.proofs.PartLaws.{host_after-spell, host_from_after}
use Rattle.frame_wire.specs.declared.refusal.Refusal.TheVariants as refusals
use Rattle.frame_wire.specs.Refusals.{refusal}

-- no value that fits the field has more bytes
abbrev pub IsWithin : {A : Type 0} → ℕ → Field A → Type 0
IsWithin {A} most f = (x : A) → f.Fits x → length (f.spell x) ≤ most

-- ---- fields of fields

pub both_within : {A B : Type 0} (m n : ℕ) (f : Field A) (g : Field B) → IsWithin m f → IsWithin n g → IsWithin (m + n) (both f g)
both_within m n f g l r x fits = omega (arith, length-append (f.spell x.0) (g.spell x.1), l x.0 fits.0, r x.1 fits.1)

-- values that each have at most `most` bytes, whatever stands before them
all_within : {A : Type 0} (most : ℕ) (f : Option A → Field A) → ((before : Option A) (x : A) → (f before).Fits x → length ((f None).spell x) ≤ most)
    → (before : Option A) (xs : List A) → AllFit f before xs → length (spell_all (f None).spell xs) ≤ length xs * most
all_within most f each before [] fits = omega arith
all_within most f each before (x ∷ xs) fits =
    omega (arith, suc-mul (length xs) most, length-append ((f None).spell x) (spell_all (f None).spell xs), each before x fits.0, all_within most f each (Some x) xs fits.1)

counted_within : {A : Type 0} (size most : ℕ) (count : Field ℕ) (f : Option A → Field A) → IsWithin size count
    → ((before : Option A) (x : A) → (f before).Fits x → length ((f None).spell x) ≤ most)
    → (xs : List A) → (counted count f).Fits xs → length ((counted count f).spell xs) ≤ size + length xs * most
counted_within size most count f c each xs fits =
    omega (arith, length-append (count.spell (length xs)) (spell_all (f None).spell xs), c (length xs) fits.0, all_within most f each None xs fits.1)

few_of : (most : ℕ) (f : Field ℕ) (n : ℕ) → (at_most most f).Fits n → n ≤ most
few_of most f n fits = let few : nat_le n most ≡ true = fits.1 in grind (arith, nat_tests)

-- ---- numbers

byte_within : IsWithin 1 byte
unfolding byte
byte_within n fits = omega arith

number16_within : IsWithin 2 number16
unfolding number16
number16_within n fits = let e : length (to_be_bytes w16 n) ≡ 2 = refl in omega (arith, e)

number32_within : IsWithin 4 number32
unfolding number32
number32_within n fits = let e : length (to_be_bytes w32 n) ≡ 4 = refl in omega (arith, e)

number64_within : IsWithin 8 number64
unfolding number64
number64_within n fits = let e : length (to_be_bytes w64 n) ≡ 8 = refl in omega (arith, e)

pub counter_within : IsWithin 8 counter
unfolding counter
counter_within n fits = number64_within n fits.0

boot_within : IsWithin 8 boot
unfolding boot
boot_within n fits = number64_within n fits.0

small_within : IsWithin 8 small
unfolding small
small_within n fits = number64_within n fits.0

-- ---- names

no_name_fault : (fault : Option NameError) → is_none fault ≡ true → fault ≡ None
no_name_fault None e = refl
no_name_fault (Some f) e = absurd cc

text_short : (ok : ℕ → Bool) (most : ℕ) (text : List ℕ) → text_fault ok most text ≡ None → length text ≤ most
text_short ok most text e = go (length text == 0) (nat_lt most (length text)) refl e
  where
    go : (empty long : Bool) → nat_lt most (length text) ≡ long → (if empty then Some Empty else (if long then Some (TooLong (length text)) else option_map (λ n. BadByte n) (first_bad ok text))) ≡ None → length text ≤ most
    go true long is none = absurd cc
    go false true is none = absurd cc
    go false false is none = grind (arith, nat_tests)

named_within : (fault : List ℕ → Option NameError) → ((text : List ℕ) → fault text ≡ None → length text ≤ 64) → IsWithin 65 (named fault)
unfolding byte
named_within fault short text fits = omega (arith, short text (no_name_fault (fault text) fits.1))

space_within : IsWithin 65 space_name
unfolding space_name
space_within = named_within space_fault (λ text e. text_short is_node_byte 64 text e)

node_within : IsWithin 65 node_name
unfolding node_name
node_within = named_within node_fault (λ text e. text_short is_node_byte 64 text e)

app_within : IsWithin 65 app_name
unfolding app_name
app_within = named_within app_id_fault (λ text e. text_short is_node_byte 64 text e)

type_within : IsWithin 65 type_name
unfolding type_name
type_within = named_within actor_type_fault (λ text e. text_short is_type_byte 64 text e)

-- ---- members and hosts

node_place_within : IsWithin 130 node_place
unfolding node_place
node_place_within = both_within 65 65 space_name node_name space_within node_within

pub member_within : IsWithin 138 member
unfolding member
member_within m fits = both_within 130 8 node_place boot node_place_within boot_within (member_parts m) fits

types_within : IsWithin 2081 types
unfolding types
types_within kinds fits =
    let counts : IsWithin 1 (at_most 32 byte) = λ n f. byte_within n f.0 in
    omega (arith, few_of 32 byte (length kinds) fits.0, counted_within 1 65 (at_most 32 byte) (in_any_order type_name) counts (λ before kind f. type_within kind f) kinds fits)

host_app_within : IsWithin 2152 host_app
unfolding host_app
host_app_within =
    both_within 65 2087 app_name (both number32 (both number16 types)) app_within
    (both_within 4 2083 number32 (both number16 types) number32_within (both_within 2 2081 number16 types number16_within types_within))

pub host_within : IsWithin 2290 host
unfolding host
host_within h fits = both_within 138 2152 member host_app member_within host_app_within (host_parts h) fits

-- a host behind another has no other spelling
behind_within : (before : Option HostInfo) (h : HostInfo) → (host_behind before).Fits h → length ((host_behind None).spell h) ≤ 2290
behind_within before h fits =
    subst (λ (bytes : List ℕ). length bytes ≤ 2290) (sym (host_after-spell None h)) (host_within h (host_from_after (option_map host_member before) h fits))

pub hosts_within : IsWithin 586242 hosts
unfolding hosts
hosts_within hs fits =
    let counts : IsWithin 2 (at_most 256 number16) = λ n f. number16_within n f.0 in
    omega (arith, few_of 256 number16 (length hs) fits.0, counted_within 2 2290 (at_most 256 number16) host_behind counts behind_within hs fits)

-- ---- stages and refusals

pub stage_within : IsWithin 1 stage
unfolding stage
stage_within s fits = omega arith

pub refusal_within : IsWithin 9 refusal
unfolding refusal
refusal_within (refusals.StaleBoot greatest) fits = let n = counter_within greatest fits in omega (arith, n)
refusal_within (refusals.NodeBusy b) fits = let n = counter_within b fits in omega (arith, n)
refusal_within (refusals.NotMember greatest) fits = let n = counter_within greatest fits in omega (arith, n)
refusal_within (refusals.Full members) fits = let n = small_within members fits in omega (arith, n)
refusal_within refusals.DiskFault fits = let n = number64_within 0 fits.0 in omega (arith, n)
refusal_within refusals.Reopen fits = let n = number64_within 0 fits.0 in omega (arith, n)
refusal_within refusals.OutOfMemory fits = let n = number64_within 0 fits.0 in omega (arith, n)
refusal_within (refusals.JournalFull len) fits = let n = number64_within len fits in omega (arith, n)
refusal_within (refusals.SpacesFull spaces) fits = let n = small_within spaces fits in omega (arith, n)
