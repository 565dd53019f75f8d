-- A text of a member is read as its space, node and boot, and no other text is without a fault.
use Rattle.std.proofs.Common.{◌≡◌, ℕ, suc, ◌+◌, ◌^◌, ◌<◌, ◌≤◌, ◌==◌, Bool, true, false, List, [], ◌∷◌, ◌++◌, length, take, drop, add-one, arith, lit<, Option, Some, None, option_map, if◌then◌else◌, inl, inr, refl, ap, sym, subst, ◌∙◌}
use Rattle.std.specs.Prelude.{nat_lt, decimal, option_and_then}
use Rattle.std.proofs.lemmas.Bool.Decides.{eqb_tells}
use Rattle.lists_and_limits.specs.Decimals.{number_of}
use Rattle.lists_and_limits.specs.Limits.{last_number}
use Rattle.lists_and_limits.proofs.DecimalTexts.{decimal-number_of, number_of-decimal}
use Rattle.actor_names.specs.declared.error.NameError.{NameError}
use Rattle.actor_names.specs.declared.error.NameError.TheVariants.{Empty, TooLong, BadByte}
use Rattle.actor_names.specs.Names.{is_node_byte, first_bad, node_fault, space_fault, default_space, before_slash, after_slash, second_fault, placed_from, first_of_two, space_end, space_at, space_in, local_at, local_in, spaced_fault_at}
use Rattle.actor_names.specs.Numerals.{boot_fault, local_member_fault, member_fault}
use Rattle.actor_names.specs.Forms.{MemberText, Local, Spaced}
use Rattle.actor_names.proofs.Numerals.{number_fault-none, IsNumber}
use Rattle.actor_names.proofs.Slashes.{after_slash-some, has_slash, second_sound}
use Rattle.actor_names.proofs.DecimalPieces.{number_parts, number_fault-whole}

-- ---- bytes of nodes and spaces

not_slash : (b : ℕ) → is_node_byte b ≡ true → (b == 47) ≡ false
not_slash b good = elim (eqb_tells b 47) [
  | inl same ↦ let is_node : ℕ → Bool = λ k. is_node_byte k in cc (ap is_node same.1)
  | inr other ↦ other.0
]

not_colon : (b : ℕ) → is_node_byte b ≡ true → (b == 58) ≡ false
not_colon b good = elim (eqb_tells b 58) [
  | inl same ↦ let is_node : ℕ → Bool = λ k. is_node_byte k in cc (ap is_node same.1)
  | inr other ↦ other.0
]

sound_parts : (empty long : Bool) (n : ℕ) (found : Option ℕ) → (if empty then Some Empty else (if long then Some (TooLong n) else option_map (λ k. BadByte k) found)) ≡ None → found ≡ None
sound_parts true long n found is = cc
sound_parts false true n found is = cc
sound_parts false false n None is = refl
sound_parts false false n (Some k) is = cc

-- each byte may be in a node
all_good : (text : List ℕ) → node_fault text ≡ None → first_bad is_node_byte text ≡ None
all_good text is = sound_parts (length text == 0) (nat_lt 64 (length text)) (length text) (first_bad is_node_byte text) is

bad_cons : (good : Bool) (found : Option ℕ) → (if good then option_map (λ n. n + 1) found else Some 0) ≡ None → (good ≡ true) × (found ≡ None)
bad_cons true None is = (refl, refl)
bad_cons true (Some n) is = cc
bad_cons false found is = cc

good_parts : (b : ℕ) (bs : List ℕ) → first_bad is_node_byte (b ∷ bs) ≡ None → (is_node_byte b ≡ true) × (first_bad is_node_byte bs ≡ None)
good_parts b bs is = bad_cons (is_node_byte b) (first_bad is_node_byte bs) is

before-node : (node rest : List ℕ) → first_bad is_node_byte node ≡ None → before_slash (node ++ (47 ∷ rest)) ≡ node
before-node [] rest good = refl
before-node (b ∷ bs) rest good =
    let parts = good_parts b bs good in
    rw (not_slash b parts.0) (ap (λ (t : List ℕ). b ∷ t) (before-node bs rest parts.1))

after-node : (node rest : List ℕ) → first_bad is_node_byte node ≡ None → after_slash (node ++ (47 ∷ rest)) ≡ Some rest
after-node [] rest good = refl
after-node (b ∷ bs) rest good =
    let parts = good_parts b bs good in
    rw (not_slash b parts.0) (after-node bs rest parts.1)

-- no space ends in a text whose first byte that no node has is a slash
no_space : (node rest : List ℕ) → first_bad is_node_byte node ≡ None → space_end (node ++ (47 ∷ rest)) ≡ None
no_space [] rest good = refl
no_space (b ∷ bs) rest good =
    let parts = good_parts b bs good in
    rw (not_colon b parts.0, not_slash b parts.0, no_space bs rest parts.1) refl

space_ends : (space rest : List ℕ) → first_bad is_node_byte space ≡ None → space_end (space ++ (58 ∷ rest)) ≡ Some (length space)
space_ends [] rest good = refl
space_ends (b ∷ bs) rest good =
    let parts = good_parts b bs good in
    let more : (n : ℕ) → Some (n + 1) ≡ Some (suc n) = λ n. ap (λ (k : ℕ). Some k) (add-one n) in
    rw (not_colon b parts.0, not_slash b parts.0, space_ends bs rest parts.1) (more (length bs))

take_front : (xs ys : List ℕ) → take (length xs) (xs ++ ys) ≡ xs
take_front [] ys = refl
take_front (x ∷ xs) ys = ap (λ (t : List ℕ). x ∷ t) (take_front xs ys)

drop_next : (xs : List ℕ) (y : ℕ) (ys : List ℕ) → drop (suc (length xs)) (xs ++ (y ∷ ys)) ≡ ys
drop_next [] y ys = refl
drop_next (x ∷ xs) y ys = drop_next xs y ys

-- ---- a text of the form is read

neither : (first later : Option NameError) → first ≡ None → later ≡ None → first_of_two first later ≡ None
neither first later is_first is_later = rw (is_first, is_later) refl

placed : (start : ℕ) (fault : Option NameError) → fault ≡ None → option_map (placed_from start) fault ≡ None
placed start fault is = rw is refl

-- what is read of a text behind its space
record ReadsLocal (node : List ℕ) (boot : ℕ) (text : List ℕ) : Type 0 where
  sound : local_member_fault text ≡ None
  node_is : before_slash text ≡ node
  boot_is : option_and_then (number_of (2 ^ 62)) (after_slash text) ≡ Some boot

local_read : (node digits : List ℕ) (boot : ℕ) → node_fault node ≡ None → 1 ≤ boot → number_of (2 ^ 62) digits ≡ Some boot → ReadsLocal node boot (node ++ (47 ∷ digits))
local_read node digits boot is_node least read =
    let text : List ℕ = node ++ (47 ∷ digits) in
    let good = all_good node is_node in
    let before : before_slash text ≡ node = before-node node digits good in
    let after : after_slash text ≡ Some digits = after-node node digits good in
    let boot_sound : boot_fault digits ≡ None = number_fault-whole 1 last_number boot digits read least in
    let second : second_fault boot_fault text (after_slash text) ≡ None = ap (λ (o : Option (List ℕ)). second_fault boot_fault text o) after ∙ placed (length (before_slash text) + 1) (boot_fault digits) boot_sound in
    record {
      sound = neither (node_fault (before_slash text)) (second_fault boot_fault text (after_slash text)) (ap (λ (t : List ℕ). node_fault t) before ∙ is_node) second;
      node_is = before;
      boot_is = ap (λ (o : Option (List ℕ)). option_and_then (number_of (2 ^ 62)) o) after ∙ read;
    }

-- what is read of a text, if its space ends as found
abbrev Reads : List ℕ → List ℕ → ℕ → List ℕ → Type 0
Reads space node boot text = (member_fault text ≡ None) × (space_in text ≡ space) × (before_slash (local_in text) ≡ node) × (option_and_then (number_of (2 ^ 62)) (after_slash (local_in text)) ≡ Some boot)

abbrev ReadsAt : List ℕ → List ℕ → ℕ → List ℕ → Option ℕ → Type 0
ReadsAt space node boot text found = (spaced_fault_at local_member_fault text found ≡ None) × (space_at text found ≡ space) × (before_slash (local_at text found) ≡ node) × (option_and_then (number_of (2 ^ 62)) (after_slash (local_at text found)) ≡ Some boot)

reads_found : (space node : List ℕ) (boot : ℕ) (text : List ℕ) (found : Option ℕ) → space_end text ≡ found → ReadsAt space node boot text found → Reads space node boot text
reads_found space node boot text found is read = subst (λ (o : Option ℕ). ReadsAt space node boot text o) (sym is) read

printed : (boot : ℕ) → boot ≤ 2 ^ 62 → number_of (2 ^ 62) (decimal boot) ≡ Some boot
printed boot most = let fits : 2 ^ 62 < 2 ^ 64 = lit< tt in number_of-decimal (2 ^ 62) boot most (omega arith)

local_form : (node : List ℕ) (boot : ℕ) → node_fault node ≡ None → 1 ≤ boot → boot ≤ 2 ^ 62 → Reads default_space node boot (node ++ (47 ∷ decimal boot))
local_form node boot is_node least most =
    let read = local_read node (decimal boot) boot is_node least (printed boot most) in
    reads_found default_space node boot (node ++ (47 ∷ decimal boot)) None (no_space node (decimal boot) (all_good node is_node)) (read.sound, refl, read.node_is, read.boot_is)

spaced_form : (space node : List ℕ) (boot : ℕ) → space_fault space ≡ None → node_fault node ≡ None → 1 ≤ boot → boot ≤ 2 ^ 62 → Reads space node boot (space ++ (58 ∷ (node ++ (47 ∷ decimal boot))))
spaced_form space node boot is_space is_node least most =
    let behind : List ℕ = node ++ (47 ∷ decimal boot) in
    let text : List ℕ = space ++ (58 ∷ behind) in
    let n : ℕ = length space in
    let read = local_read node (decimal boot) boot is_node least (printed boot most) in
    let front : take n text ≡ space = take_front space (58 ∷ behind) in
    let back : drop (n + 1) text ≡ behind = ap (λ (k : ℕ). drop k text) (add-one n) ∙ drop_next space 58 behind in
    let fault : local_member_fault (drop (n + 1) text) ≡ None = ap (λ (t : List ℕ). local_member_fault t) back ∙ read.sound in
    let fault_space : space_fault (take n text) ≡ None = ap (λ (t : List ℕ). space_fault t) front ∙ is_space in
    reads_found space node boot text (Some n) (space_ends space behind (all_good space is_space)) (
      neither (space_fault (take n text)) (option_map (placed_from (n + 1)) (local_member_fault (drop (n + 1) text))) fault_space (placed (n + 1) (local_member_fault (drop (n + 1) text)) fault),
      front,
      ap (λ (t : List ℕ). before_slash t) back ∙ read.node_is,
      ap (λ (t : List ℕ). option_and_then (number_of (2 ^ 62)) (after_slash t)) back ∙ read.boot_is,
    )

pub member-form : (space node : List ℕ) (boot : ℕ) (text : List ℕ) → MemberText space node boot text → (member_fault text ≡ None) × (space_in text ≡ space) × (before_slash (local_in text) ≡ node) × (option_and_then (number_of (2 ^ 62)) (after_slash (local_in text)) ≡ Some boot)
member-form space node boot text (Local is_space is_node least most is) =
    subst (λ (t : List ℕ). Reads space node boot t) (sym is) (subst (λ (s : List ℕ). Reads s node boot (node ++ (47 ∷ decimal boot))) (sym is_space) (local_form node boot is_node least most))
member-form space node boot text (Spaced is_space is_node least most is) =
    subst (λ (t : List ℕ). Reads space node boot t) (sym is) (spaced_form space node boot is_space is_node least most)

-- ---- a text without a fault has the form

neither_first : (first later : Option NameError) → first_of_two first later ≡ None → first ≡ None
neither_first None later is = refl
neither_first (Some e) later is = cc

neither_later : (first later : Option NameError) → first_of_two first later ≡ None → later ≡ None
neither_later None later is = is
neither_later (Some e) later is = cc

unplaced : (start : ℕ) (fault : Option NameError) → option_map (placed_from start) fault ≡ None → fault ≡ None
unplaced start None is = refl
unplaced start (Some e) is = cc

slash_cut : (text rest : List ℕ) → after_slash text ≡ Some rest → text ≡ before_slash text ++ (47 ∷ rest)
slash_cut [] rest is = cc
slash_cut (b ∷ bs) rest is = elim (eqb_tells b 47) [
  | inl same ↦
      let some : Some bs ≡ Some rest = (rw same.0 at is) in
      let rests : bs ≡ rest = cc in
      rw same.0 (ap (λ (k : ℕ). k ∷ bs) same.1 ∙ ap (λ (t : List ℕ). 47 ∷ t) rests)
  | inr other ↦
      let later : after_slash bs ≡ Some rest = (rw other.0 at is) in
      let cut : bs ≡ before_slash bs ++ (47 ∷ rest) = slash_cut bs rest later in
      rw other.0 (ap (λ (t : List ℕ). b ∷ t) cut)
]

mapped_some : (found : Option ℕ) (n : ℕ) → option_map (λ k. k + 1) found ≡ Some n → (m : ℕ) × (found ≡ Some m) × (suc m ≡ n)
mapped_some None n is = cc
mapped_some (Some m) n is = let same : m + 1 ≡ n = cc in (m, refl, sym (add-one m) ∙ same)

space_cut : (text : List ℕ) (n : ℕ) → space_end text ≡ Some n → text ≡ take n text ++ (58 ∷ drop (suc n) text)
space_cut [] n is = cc
space_cut (b ∷ bs) n is = elim (eqb_tells b 58) [
  | inl colon ↦
      let first : Some 0 ≡ Some n = (rw colon.0 at is) in
      let start : 0 ≡ n = cc in
      subst (λ (k : ℕ). b ∷ bs ≡ take k (b ∷ bs) ++ (58 ∷ drop (suc k) (b ∷ bs))) start (ap (λ (k : ℕ). k ∷ bs) colon.1)
  | inr other ↦ elim (eqb_tells b 47) [
    | inl slash ↦ let none : None ≡ Some n = (rw (other.0, slash.0) at is) in cc
    | inr plain ↦
        let later : option_map (λ k. k + 1) (space_end bs) ≡ Some n = (rw (other.0, plain.0) at is) in
        let next = mapped_some (space_end bs) n later in
        subst (λ (k : ℕ). b ∷ bs ≡ take k (b ∷ bs) ++ (58 ∷ drop (suc k) (b ∷ bs))) next.2 (ap (λ (t : List ℕ). b ∷ t) (space_cut bs next.0 next.1))
  ]
]

-- the form of a text that has no space before it
record LocalForm (text : List ℕ) : Type 0 where
  boot : ℕ
  is_node : node_fault (before_slash text) ≡ None
  least : 1 ≤ boot
  most : boot ≤ 2 ^ 62
  text_is : text ≡ before_slash text ++ (47 ∷ decimal boot)
  boot_is : option_and_then (number_of (2 ^ 62)) (after_slash text) ≡ Some boot

local_sound : (text : List ℕ) → local_member_fault text ≡ None → LocalForm text
local_sound text sound =
    let rest : List ℕ = drop (length (before_slash text) + 1) text in
    let after : after_slash text ≡ Some rest = after_slash-some text (has_slash text (node_fault (before_slash text)) boot_fault sound) in
    let boot_sound : boot_fault rest ≡ None = second_sound text rest (node_fault (before_slash text)) boot_fault sound (sym after) in
    let number : IsNumber 1 last_number rest = number_fault-none 1 4611686018427387904 rest boot_sound in
    let digits : rest ≡ decimal number.value = decimal-number_of last_number number.value rest (lit< tt) number.reads in
    record {
      boot = number.value;
      is_node = neither_first (node_fault (before_slash text)) (second_fault boot_fault text (after_slash text)) sound;
      least = number.least;
      most = (number_parts last_number number.value rest number.reads).1;
      text_is = slash_cut text rest after ∙ ap (λ (t : List ℕ). before_slash text ++ (47 ∷ t)) digits;
      boot_is = ap (λ (o : Option (List ℕ)). option_and_then (number_of (2 ^ 62)) o) after ∙ number.reads;
    }

-- the form of a text whose space ends as found
abbrev FormAt : List ℕ → Option ℕ → Type 0
FormAt text found = (boot : ℕ) × MemberText (space_at text found) (before_slash (local_at text found)) boot text × (option_and_then (number_of (2 ^ 62)) (after_slash (local_at text found)) ≡ Some boot)

form_at : (text : List ℕ) (found : Option ℕ) → space_end text ≡ found → spaced_fault_at local_member_fault text found ≡ None → FormAt text found
form_at text None is sound = let local = local_sound text sound in (local.boot, Local refl local.is_node local.least local.most local.text_is, local.boot_is)
form_at text (Some n) is sound =
    let behind : List ℕ = drop (n + 1) text in
    let later : local_member_fault behind ≡ None = unplaced (n + 1) (local_member_fault behind) (neither_later (space_fault (take n text)) (option_map (placed_from (n + 1)) (local_member_fault behind)) sound) in
    let is_space : space_fault (take n text) ≡ None = neither_first (space_fault (take n text)) (option_map (placed_from (n + 1)) (local_member_fault behind)) sound in
    let local = local_sound behind later in
    let next : drop (suc n) text ≡ behind = ap (λ (k : ℕ). drop k text) (sym (add-one n)) in
    let text_is = space_cut text n is ∙ ap (λ (t : List ℕ). take n text ++ (58 ∷ t)) (next ∙ local.text_is) in
    (local.boot, Spaced is_space local.is_node local.least local.most text_is, local.boot_is)

pub member-only : (text : List ℕ) → member_fault text ≡ None → (boot : ℕ) × MemberText (space_in text) (before_slash (local_in text)) boot text × (option_and_then (number_of (2 ^ 62)) (after_slash (local_in text)) ≡ Some boot)
member-only text sound = form_at text (space_end text) refl sound
