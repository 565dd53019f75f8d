-- The text of a forwarded call's name is read as that name. Also: texts without a space, cut at the first one, and the
-- texts of members.
use Rattle.std.proofs.Common.{◌≡◌, ◌∙◌, ℕ, suc, ◌+◌, ◌^◌, ◌<◌, ◌≤◌, ◌==◌, ◌&&◌, not, Bool, true, false, List, [], ◌∷◌, ◌++◌, length, take, drop, append_assoc, add-one, arith, lit<, Option, Some, None, option_map, if◌then◌else◌, inl, inr, refl, ap}
use Rattle.std.specs.Prelude.{nat_lt, decimal, codes, position, bytes_eq, option_and_then}
use Rattle.std.specs.List.{list_all, position_from}
use Rattle.std.proofs.lemmas.Fmt.{digits_decimal}
use Rattle.std.proofs.lemmas.Bool.Decides.{eqb_tells}
use Rattle.std.proofs.lemmas.Iterator.Adapters.{position_from-zero}
use Rattle.std.proofs.lemmas.List.Folds.{list_all-append}
use Rattle.std.proofs.lemmas.Slice.Eq.{bytes_eq-Decides}
use Rattle.lists_and_limits.specs.Decimals.{is_digit, number_of}
use Rattle.lists_and_limits.proofs.DecimalTexts.{decimal_model, number_of-decimal}
use Rattle.actor_names.specs.declared.error.NameError.TheVariants.{Empty, TooLong, BadByte}
use Rattle.actor_names.specs.declared.member.Member.{Member}
use Rattle.actor_names.specs.Names.{is_node_byte, first_bad, node_fault, space_fault, default_space, before_slash, after_slash, space_in, local_in}
use Rattle.actor_names.specs.Numerals.{member_fault}
use Rattle.actor_names.specs.Forms.{MemberText, Local, Spaced}
use Rattle.call_names.specs.declared.name.CallName.{CallName}
use Rattle.call_names.specs.Texts.{space_text, member_text, call_text, IsCallName}
use Rattle.call_names.specs.Readings.{cut, member_in, call_of, call_reading}

-- ---- texts without a space

abbrev pub HasNoSpace : List ℕ → Type 0
HasNoSpace text = list_all (λ b. not (b == 32)) text ≡ true

both : (a b : Bool) → (a && b) ≡ true → (a ≡ true) × (b ≡ true)
both true b is = (refl, is)
both false b is = cc

and_true : (a b : Bool) → a ≡ true → b ≡ true → (a && b) ≡ true
and_true a b p q = rw (p, q) refl

no_space_append : (xs ys : List ℕ) → HasNoSpace xs → HasNoSpace ys → HasNoSpace (xs ++ ys)
no_space_append xs ys p q = list_all-append (λ b. not (b == 32)) xs ys ∙ and_true _ _ p q

-- bytes that pass a test which no space passes
passing : (test : ℕ → Bool) → test 32 ≡ false → (b : ℕ) → test b ≡ true → not (b == 32) ≡ true
passing test none b good = elim (eqb_tells b 32) [
  | inl same ↦ cc (ap test same.1)
  | inr other ↦ rw other.0 refl
]

all_passing : (test : ℕ → Bool) → test 32 ≡ false → (text : List ℕ) → list_all test text ≡ true → HasNoSpace text
all_passing test none [] all = refl
all_passing test none (b ∷ bs) all =
    let parts = both (test b) (list_all test bs) all in
    and_true _ _ (passing test none b parts.0) (all_passing test none bs parts.1)

pub decimal_no_space : (n : ℕ) → n < 2 ^ 64 → HasNoSpace (decimal n)
decimal_no_space n fits = all_passing is_digit refl (decimal n) (digits_decimal decimal_model n fits)

bad_cons : (good : Bool) (found : Option ℕ) → (if good then option_map (λ n. n + 1) found else Some 0) ≡ None → (good ≡ true) × (found ≡ None)
bad_cons true None is = (refl, refl)
bad_cons true (Some n) is = cc
bad_cons false found is = cc

none_bad : (test : ℕ → Bool) (text : List ℕ) → first_bad test text ≡ None → list_all test text ≡ true
none_bad test [] is = refl
none_bad test (b ∷ bs) is =
    let parts = bad_cons (test b) (first_bad test bs) is in
    and_true _ _ parts.0 (none_bad test bs parts.1)

sound_parts : (empty long : Bool) (n : ℕ) (found : Option ℕ) → (if empty then Some Empty else (if long then Some (TooLong n) else option_map (λ k. BadByte k) found)) ≡ None → found ≡ None
sound_parts true long n found is = cc
sound_parts false true n found is = cc
sound_parts false false n None is = refl
sound_parts false false n (Some k) is = cc

pub node_no_space : (text : List ℕ) → node_fault text ≡ None → HasNoSpace text
node_no_space text is = all_passing is_node_byte refl text (none_bad is_node_byte text (sound_parts (length text == 0) (nat_lt 64 (length text)) (length text) (first_bad is_node_byte text) is))

-- ---- a text is cut at its first space

take_front : (xs ys : List ℕ) → take (length xs) (xs ++ ys) ≡ xs
take_front [] ys = refl
take_front (x ∷ xs) ys = ap (λ (t : List ℕ). x ∷ t) (take_front xs ys)

drop_next : (xs : List ℕ) (y : ℕ) (ys : List ℕ) → drop (suc (length xs)) (xs ++ (y ∷ ys)) ≡ ys
drop_next [] y ys = refl
drop_next (x ∷ xs) y ys = drop_next xs y ys

spaced_from : (n : ℕ) (xs ys : List ℕ) → HasNoSpace xs → position_from (λ b. b == 32) n (xs ++ (32 ∷ ys)) ≡ Some (n + length xs)
spaced_from n [] ys none = ap (λ (k : ℕ). Some k) (let h : n ≡ n + 0 = omega arith in h)
spaced_from n (x ∷ xs) ys none =
    let parts = both (not (x == 32)) (list_all (λ b. not (b == 32)) xs) none in
    passed (x == 32) parts.0 (spaced_from (n + 1) xs ys parts.1 ∙ ap (λ (k : ℕ). Some k) (let h : n + 1 + length xs ≡ n + length (x ∷ xs) = omega arith in h))
  where
    passed : (b : Bool) {r : Option ℕ} → not b ≡ true → position_from (λ b. b == 32) (n + 1) (xs ++ (32 ∷ ys)) ≡ r → (if b then Some n else position_from (λ b. b == 32) (n + 1) (xs ++ (32 ∷ ys))) ≡ r
    passed true h e = cc
    passed false h e = e

space_at : (xs ys : List ℕ) → HasNoSpace xs → position (λ b. b == 32) (xs ++ (32 ∷ ys)) ≡ Some (length xs)
space_at xs ys none = position_from-zero (λ b. b == 32) (xs ++ (32 ∷ ys)) ∙ spaced_from 0 xs ys none ∙ ap (λ (k : ℕ). Some k) (let h : 0 + length xs ≡ length xs = omega arith in h)

pub cut_at : (xs ys : List ℕ) → HasNoSpace xs → cut (xs ++ (32 ∷ ys)) ≡ Some (xs, ys)
cut_at xs ys none =
    let text : List ℕ = xs ++ (32 ∷ ys) in
    let back : drop (length xs + 1) text ≡ ys = ap (λ (k : ℕ). drop k text) (add-one (length xs)) ∙ drop_next xs 32 ys in
    ap (λ (found : Option ℕ). option_map (λ n. (take n text, drop (n + 1) text)) found) (space_at xs ys none)
    ∙ ap (λ (front : List ℕ). Some (front, drop (length xs + 1) text)) (take_front xs (32 ∷ ys))
    ∙ ap (λ (rest : List ℕ). Some (xs, rest)) back

-- ---- members

-- pieces behind one another, from the left and from the right
pub behind : (front : List ℕ) (joint : ℕ) (piece rest : List ℕ) → ((front ++ (joint ∷ [])) ++ piece) ++ rest ≡ front ++ (joint ∷ (piece ++ rest))
behind front joint piece rest = append_assoc (front ++ (joint ∷ [])) piece rest ∙ append_assoc front (joint ∷ []) (piece ++ rest)

local_text : (front node boot : List ℕ) → ((front ++ node) ++ (47 ∷ [])) ++ boot ≡ front ++ (node ++ (47 ∷ boot))
local_text front node boot = append_assoc (front ++ node) (47 ∷ []) boot ∙ append_assoc front node (47 ∷ boot)

member_form_by : (default_ : Bool) (m : Member) → bytes_eq m.space default_space ≡ default_ → space_fault m.space ≡ None → node_fault m.node ≡ None → 1 ≤ m.boot → m.boot ≤ 2 ^ 62
    → MemberText m.space m.node m.boot ((((if default_ then [] else (m.space ++ (58 ∷ []))) ++ m.node) ++ (47 ∷ [])) ++ decimal m.boot)
member_form_by true m is space node low high = Local ((bytes_eq-Decides m.space default_space).0 is) node low high (local_text [] m.node (decimal m.boot))
member_form_by false m is space node low high =
    Spaced space node low high (local_text (m.space ++ (58 ∷ [])) m.node (decimal m.boot) ∙ append_assoc m.space (58 ∷ []) (m.node ++ (47 ∷ decimal m.boot)))

pub member_form : (m : Member) → space_fault m.space ≡ None → node_fault m.node ≡ None → 1 ≤ m.boot → m.boot ≤ 2 ^ 62 → MemberText m.space m.node m.boot (member_text m)
member_form m space node low high = member_form_by (bytes_eq m.space default_space) m refl space node low high

space_text_no_space : (default_ : Bool) (space : List ℕ) → space_fault space ≡ None → HasNoSpace (if default_ then [] else space ++ codes ":")
space_text_no_space true space is = refl
space_text_no_space false space is = no_space_append space (codes ":") (node_no_space space is) refl

pub member_no_space : (m : Member) → space_fault m.space ≡ None → node_fault m.node ≡ None → m.boot ≤ 2 ^ 62 → HasNoSpace (member_text m)
member_no_space m space node high =
    let big : 2 ^ 62 < 2 ^ 64 = lit< tt in
    no_space_append ((space_text m.space ++ m.node) ++ (47 ∷ [])) (decimal m.boot)
    (no_space_append (space_text m.space ++ m.node) (47 ∷ [])
    (no_space_append (space_text m.space) m.node (space_text_no_space (bytes_eq m.space default_space) m.space space) (node_no_space m.node node)) refl)
    (decimal_no_space m.boot (omega arith))

-- how a member's text is read
abbrev pub ReadsMembers : Type 0
ReadsMembers = (space node : List ℕ) (boot : ℕ) (text : List ℕ) → MemberText space node boot text → (member_fault text ≡ None) × (space_in text ≡ space) × (before_slash (local_in text) ≡ node) × (option_and_then (number_of (2 ^ 62)) (after_slash (local_in text)) ≡ Some boot)

pub member_read : (m : Member) (text : List ℕ) → ReadsMembers → MemberText m.space m.node m.boot text → member_in text ≡ Some m
member_read m text reads form =
    let r = reads m.space m.node m.boot text form in
    rw (r.0, r.1, r.2, r.3) refl

-- ---- names of calls

part_read : (part : ℕ) → part ≤ 255 → number_of 255 (decimal part) ≡ Some part
part_read part high = let big : 255 < 2 ^ 64 = lit< tt in number_of-decimal 255 part high (omega arith)

number_read : (number : ℕ) → number ≤ 2 ^ 62 → number_of (2 ^ 62) (decimal number) ≡ Some number
number_read number high = let big : 2 ^ 62 < 2 ^ 64 = lit< tt in number_of-decimal (2 ^ 62) number high (omega arith)

-- the three texts, each behind a space
spaced : (m p n : List ℕ) → (((m ++ (32 ∷ [])) ++ p) ++ (32 ∷ [])) ++ n ≡ m ++ (32 ∷ (p ++ (32 ∷ n)))
spaced m p n = append_assoc ((m ++ (32 ∷ [])) ++ p) (32 ∷ []) n ∙ behind m 32 p (32 ∷ n)

texts_read : (m p n : List ℕ) → HasNoSpace m → HasNoSpace p → call_reading (m ++ (32 ∷ (p ++ (32 ∷ n)))) ≡ call_of m p n
unfolding call_reading
texts_read m p n in_m in_p = rw (cut_at m (p ++ (32 ∷ n)) in_m, cut_at p n in_p) refl

name_parts : (c : CallName) → ReadsMembers → IsCallName c → call_of (member_text c.origin) (decimal c.part) (decimal c.number) ≡ Some c
name_parts c members t =
    let m = member_read c.origin (member_text c.origin) members (member_form c.origin t.space t.node t.boot_counts t.boot_fits) in
    let p = part_read c.part t.part_fits in
    let n = number_read c.number t.number_fits in
    rw (m, p, n) refl

pub call_read : ReadsMembers → (c : CallName) → IsCallName c → call_reading (call_text c) ≡ Some c
call_read members c t =
    let big : 255 < 2 ^ 64 = lit< tt in
    let part = t.part_fits in
    ap call_reading (spaced (member_text c.origin) (decimal c.part) (decimal c.number))
    ∙ texts_read (member_text c.origin) (decimal c.part) (decimal c.number) (member_no_space c.origin t.space t.node t.boot_fits) (decimal_no_space c.part (omega arith))
    ∙ name_parts c members t
