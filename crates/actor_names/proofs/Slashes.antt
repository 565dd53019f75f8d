-- A text cut at its first `/`.
use Rattle.std.proofs.Common.{◌≡◌, ℕ, suc, ◌+◌, ◌<◌, ◌≤◌, ◌==◌, nat_lt, Bool, true, false, List, [], ◌∷◌, length, get_or, take, drop, add-one, arith, Option, Some, None, option_map, if◌then◌else◌, refl, ap, sym, subst, ◌∙◌, inl, inr}
use Rattle.std.proofs.lemmas.Bool.Decides.{eqb_tells, nat_tests}
use Rattle.std.proofs.lemmas.Bool.{cases_lt}
use Rattle.actor_names.specs.declared.error.NameError.{NameError}
use Rattle.actor_names.proofs.FirstBad.{found_from, found_from-start}
use Rattle.actor_names.specs.Names.{first_bad, is_type_byte, before_slash, after_slash, local_key_fault, second_fault, actor_id_fault, actor_type_fault, first_of_two, placed_from}

-- by cases: whether the first byte is a slash
cut_cons : (b : ℕ) (bs : List ℕ) (test : Bool) → take (length (before_slash bs)) bs ≡ before_slash bs → take (length (if test then [] else b ∷ before_slash bs)) (b ∷ bs) ≡ (if test then [] else b ∷ before_slash bs)
cut_cons b bs true rest = refl
cut_cons b bs false rest = ap (λ xs. b ∷ xs) rest

-- the first bytes of the text, as many as come before the slash, are the bytes before the slash
pub take-before_slash : (text : List ℕ) → take (length (before_slash text)) text ≡ before_slash text
take-before_slash [] = refl
take-before_slash (b ∷ bs) = cut_cons b bs (b == 47) (take-before_slash bs)

short_cons : (b : ℕ) (bs : List ℕ) (test : Bool) → length (before_slash bs) ≤ length bs → length (if test then [] else b ∷ before_slash bs) ≤ length (b ∷ bs)
short_cons b bs true rest = omega arith
short_cons b bs false rest = omega arith

pub length-before_slash-le : (text : List ℕ) → length (before_slash text) ≤ length text
length-before_slash-le [] = omega arith
length-before_slash-le (b ∷ bs) = short_cons b bs (b == 47) (length-before_slash-le bs)

rest_cons : (b : ℕ) (bs : List ℕ) (test : Bool) → (length (before_slash bs) < length bs → after_slash bs ≡ Some (drop (length (before_slash bs) + 1) bs)) → length (if test then [] else b ∷ before_slash bs) < length (b ∷ bs) → (if test then Some bs else after_slash bs) ≡ Some (drop (length (if test then [] else b ∷ before_slash bs) + 1) (b ∷ bs))
rest_cons b bs true rest below = refl
rest_cons b bs false rest below = rest (omega arith) ∙ rw (add-one, add-one) refl

-- the text has a slash if the bytes before it are fewer than all
pub after_slash-some : (text : List ℕ) → length (before_slash text) < length text → after_slash text ≡ Some (drop (length (before_slash text) + 1) text)
after_slash-some [] below = absurd (omega arith)
after_slash-some (b ∷ bs) below = rest_cons b bs (b == 47) (after_slash-some bs) below

none_cons : (b : ℕ) (bs : List ℕ) (test : Bool) → (length bs ≤ length (before_slash bs) → after_slash bs ≡ None) → length (b ∷ bs) ≤ length (if test then [] else b ∷ before_slash bs) → (if test then Some bs else after_slash bs) ≡ None
none_cons b bs true rest past = absurd (omega arith)
none_cons b bs false rest past = rest (omega arith)

pub after_slash-none : (text : List ℕ) → length text ≤ length (before_slash text) → after_slash text ≡ None
after_slash-none [] past = refl
after_slash-none (b ∷ bs) past = none_cons b bs (b == 47) (after_slash-none bs) past

-- `n` bytes come before the slash, and each may be in a type
pub record IsKindAt (text : List ℕ) (n : ℕ) : Type 0 where
  pub ends : length (before_slash text) ≡ n
  pub passes : first_bad is_type_byte (before_slash text) ≡ None

no_slash : (b : ℕ) → is_type_byte b ≡ true → (b == 47) ≡ false
no_slash b good = elim (eqb_tells b 47) [
  | inl same ↦ let is_type : ℕ → Bool = λ k. is_type_byte k in cc (ap is_type same.1)
  | inr other ↦ other.0
]

kind_at_slash : (b : ℕ) (bs : List ℕ) → b ≡ 47 → IsKindAt (b ∷ bs) 0
kind_at_slash b bs slash = record { ends = rw slash refl; passes = rw slash refl }

stops_cons : (b : ℕ) (bs : List ℕ) (n : ℕ) (good : Bool) (found : Option ℕ) → is_type_byte b ≡ good → ((m : ℕ) → found ≡ Some m → get_or bs m 0 ≡ 47 → IsKindAt bs m) → (if good then option_map (λ k. k + 1) found else Some 0) ≡ Some n → get_or (b ∷ bs) n 0 ≡ 47 → IsKindAt (b ∷ bs) n
stops_cons b bs n true None is rest at slash = cc
stops_cons b bs n true (Some m) is rest at slash =
    let same : m + 1 ≡ n = cc in
    let next : suc m ≡ n = sym (add-one m) ∙ same in
    let there : get_or bs m 0 ≡ 47 = (rw (← next) at slash) in
    let kind : IsKindAt bs m = rest m refl there in
    let other : (b == 47) ≡ false = no_slash b is in
    record {
      ends = rw other (ap suc kind.ends ∙ next);
      passes = rw other (rw (is, kind.passes) refl);
    }
stops_cons b bs n false found is rest at slash =
    let first : 0 ≡ n = cc in
    let P : ℕ → Type 0 = λ k. IsKindAt (b ∷ bs) k in
    subst P first (kind_at_slash b bs (rw (← first) at slash))

-- if the first byte that no type may have is a slash, it ends the type
pub kind_ends : (text : List ℕ) (n : ℕ) → first_bad is_type_byte text ≡ Some n → get_or text n 0 ≡ 47 → IsKindAt text n
kind_ends [] n at slash = cc
kind_ends (b ∷ bs) n at slash = stops_cons b bs n (is_type_byte b) (first_bad is_type_byte bs) refl (kind_ends bs) at slash

-- the same for the loop's result
pub kind_found : (text : List ℕ) (n : ℕ) (found : Option ℕ) → found ≡ found_from is_type_byte text 0 → found ≡ Some n → get_or text n 0 ≡ 47 → IsKindAt text n
kind_found text n found walked is slash = kind_ends text n (sym (found_from-start is_type_byte text) ∙ sym walked ∙ is) slash

-- if the type has no fault, the text's fault is that of its id
pub local_key_fault-kind : (text : List ℕ) (n : ℕ) → IsKindAt text n → 0 < n → n ≤ 64 → local_key_fault text ≡ second_fault actor_id_fault text (after_slash text)
local_key_fault-kind text n kind low high =
    let some : (length (before_slash text) == 0) ≡ false = grind (arith, nat_tests) in
    let short : nat_lt 64 (length (before_slash text)) ≡ false = grind (arith, nat_tests) in
    rw (some, short, kind.passes) refl

first_none : (first later : Option NameError) → first_of_two first later ≡ None → later ≡ None
first_none None later none = none
first_none (Some e) later none = cc

unplaced : (start : ℕ) (fault : Option NameError) → option_map (placed_from start) fault ≡ None → fault ≡ None
unplaced start None none = refl
unplaced start (Some e) none = cc

-- a text of two pieces without a fault has a slash
pub has_slash : (text : List ℕ) (first : Option NameError) (fault : List ℕ → Option NameError) → first_of_two first (second_fault fault text (after_slash text)) ≡ None → length (before_slash text) < length text
has_slash text first fault sound = elim (cases_lt (length (before_slash text)) (length text)) [
  | inl below ↦ below
  | inr past ↦
      let none : after_slash text ≡ None = after_slash-none text past in
      let last : second_fault fault text (after_slash text) ≡ None = first_none first _ sound in
      let missing : second_fault fault text None ≡ None = (rw none at last) in
      cc
]

-- if a text of two pieces has no fault, its second piece has none
pub second_sound : (text rest : List ℕ) (first : Option NameError) (fault : List ℕ → Option NameError) → first_of_two first (second_fault fault text (after_slash text)) ≡ None → Some rest ≡ after_slash text → fault rest ≡ None
second_sound text rest first fault sound is =
    let last : second_fault fault text (after_slash text) ≡ None = first_none first _ sound in
    let placed : option_map (placed_from (length (before_slash text) + 1)) (fault rest) ≡ None = (rw (← is) at last) in
    unplaced (length (before_slash text) + 1) (fault rest) placed

-- a key without a fault has a slash
pub local_key_has_slash : (text : List ℕ) → local_key_fault text ≡ None → length (before_slash text) < length text
local_key_has_slash text sound = has_slash text (actor_type_fault (before_slash text)) actor_id_fault sound

-- the fault of the second piece if there is a slash
pub second_fault-slash : (text : List ℕ) (fault : List ℕ → Option NameError) → length (before_slash text) < length text → second_fault fault text (after_slash text) ≡ option_map (placed_from (length (before_slash text) + 1)) (fault (drop (length (before_slash text) + 1) text))
second_fault-slash text fault below = rw (after_slash-some text below)
