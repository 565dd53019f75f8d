-- Payloads are read as they are spelled.
use Rattle.std.proofs.Common.{◌≡◌, ◌⊎◌, inl, inr, ℕ, Bool, true, false, cond, List, [], ◌∷◌, ◌++◌, length, Option, Some, None, option_map, Result, Ok, Err, refl, sym, ap, subst, ◌∙◌, append_assoc, lit<}
use Rattle.std.specs.Prelude.{nat_le}
use Rattle.actor_names.specs.Names.{default_space}
use Rattle.actor_names.specs.declared.member.Member.{Member}
use Rattle.place_table.specs.declared.host.HostInfo.{HostInfo}
use Rattle.round_core.specs.Records.{RecordOf}
use Rattle.wire_fields.specs.Fields.{Field, ◌>>=◌, byte, number16, row, row_of, maybe_tag, maybe_fields, spell_all, whole}
use Rattle.wire_fields.specs.Parts.{space_name, counter, host_app}
use Rattle.wire_fields.proofs.FieldLaws.{IsBytes, IsField, Takes, Takes-then, bind_ok, ok_is, number16_law, number32_law, both_law, seen_law, only_law, counted_law, maybe_law, row_takes, row_again, AllTake, RowsAgain, rows_take, tagged_law, whole_takes, whole_again}
use Rattle.wire_fields.proofs.PartLaws.{space_name_law, node_name_law, app_name_law, counter_law, boot_law, types_law}
use Rattle.placement_payloads.specs.Laws.{ReadsPayload, ReadsOldForm, SpellsPayload, FitsAgain, SpellsOne, BeginsEntries}
use Rattle.placement_payloads.specs.Payloads.{followed, seen_in, member_local, member_in, local_place, local_member, host_local, host_in, local_app, local_host, change_parts, change_of, change, Entry, entry, entries, payload, payload_start, value_of, exactly, old_form, in_default, payload_reading}

-- ---- fields of fields

followed_takes : {A B : Type 0} (f : Field A) (g : A → Field B) → IsField f → ((a : A) → IsField (g a)) → (bytes : List ℕ) (x : (A × B) × List ℕ) → IsBytes bytes → (followed f g).at bytes ≡ Ok x → Takes bytes ((followed f g).spell x.0) x.1 × (followed f g).Fits x.0
followed_takes {A = A} {B = B} f g F G bytes x fits e =
    let a = bind_ok (f.at bytes) (λ u. (g u.0).at u.1 >>= λ y. Ok ((u.0, y.0), y.1)) x e in
    let b = bind_ok ((g a.0.0).at a.0.1) (λ y. Ok ((a.0.0, y.0), y.1)) x a.2 in
    let t = F.takes bytes a.0 fits a.1 in
    let u = (G a.0.0).takes a.0.1 b.0 t.0.rest_fits b.1 in
    let made = Takes-then bytes (f.spell a.0.0) a.0.1 ((g a.0.0).spell b.0.0) b.0.1 t.0 u.0 in
    subst (λ (y : (A × B) × List ℕ). Takes bytes ((followed f g).spell y.0) y.1 × (followed f g).Fits y.0) (ok_is ((a.0.0, b.0.0), b.0.1) x b.2) (made, (t.1, u.1))

followed_again : {A B : Type 0} (f : Field A) (g : A → Field B) → IsField f → ((a : A) → IsField (g a)) → (p : A × B) (rest : List ℕ) → (followed f g).Fits p → (followed f g).at ((followed f g).spell p ++ rest) ≡ Ok (p, rest)
followed_again f g F G p rest h =
    let regrouped : (f.spell p.0 ++ (g p.0).spell p.1) ++ rest ≡ f.spell p.0 ++ ((g p.0).spell p.1 ++ rest) = append_assoc (f.spell p.0) ((g p.0).spell p.1) rest in
    ap (followed f g).at regrouped ∙ rw (F.again p.0 ((g p.0).spell p.1 ++ rest) h.0, (G p.0).again p.1 rest h.1) refl

pub followed_law : {A B : Type 0} {f : Field A} {g : A → Field B} → IsField f → ((a : A) → IsField (g a)) → IsField (followed f g)
followed_law {f = f} {g = g} F G = record { takes = followed_takes f g F G; again = followed_again f g F G }

seen_in_takes :
    {A B : Type 0} (f : Field A) (parts : B → A) (made : A → B) (IsIn : B → Type 0) → IsField f → ((a : A) → parts (made a) ≡ a) → ((a : A) → IsIn (made a))
    → (bytes : List ℕ) (x : B × List ℕ) → IsBytes bytes → (seen_in f parts made IsIn).at bytes ≡ Ok x → Takes bytes (f.spell (parts x.0)) x.1 × (seen_in f parts made IsIn).Fits x.0
seen_in_takes {A = A} {B = B} f parts made IsIn F back is_in bytes x fits e =
    let a = bind_ok (f.at bytes) (λ u. Ok (made u.0, u.1)) x e in
    let t = F.takes bytes a.0 fits a.1 in
    let there : Takes bytes (f.spell (parts (made a.0.0))) a.0.1 × f.Fits (parts (made a.0.0)) = subst (λ (v : A). Takes bytes (f.spell v) a.0.1 × f.Fits v) (sym (back a.0.0)) t in
    subst (λ (y : B × List ℕ). Takes bytes (f.spell (parts y.0)) y.1 × (seen_in f parts made IsIn).Fits y.0) (ok_is (made a.0.0, a.0.1) x a.2) (there.0, (there.1, is_in a.0.0))

seen_in_again :
    {A B : Type 0} (f : Field A) (parts : B → A) (made : A → B) (IsIn : B → Type 0) → IsField f → ((b : B) → IsIn b → made (parts b) ≡ b)
    → (b : B) (rest : List ℕ) → (seen_in f parts made IsIn).Fits b → (seen_in f parts made IsIn).at (f.spell (parts b) ++ rest) ≡ Ok (b, rest)
seen_in_again {A = A} {B = B} f parts made IsIn F same b rest h = rw (F.again (parts b) rest h.0) (ap (λ (v : B). Ok (v, rest)) (same b h.1))

pub seen_in_law :
    {A B : Type 0} {f : Field A} (parts : B → A) (made : A → B) (IsIn : B → Type 0) → IsField f → ((a : A) → parts (made a) ≡ a) → ((a : A) → IsIn (made a)) → ((b : B) → IsIn b → made (parts b) ≡ b)
    → IsField (seen_in f parts made IsIn)
seen_in_law {f = f} parts made IsIn F back is_in same = record { takes = seen_in_takes f parts made IsIn F back is_in; again = seen_in_again f parts made IsIn F same }

-- ---- members and hosts

local_place_law : IsField local_place
unfolding local_place
local_place_law = both_law node_name_law boot_law

again_member : (space : List ℕ) (m : Member) → m.space ≡ space → member_in space (member_local m) ≡ m
again_member space m e = ap (λ (s : List ℕ). member_in s (member_local m)) (sym e)

pub local_member_law : (space : List ℕ) → IsField (local_member space)
unfolding local_member
local_member_law space = seen_in_law member_local (member_in space) (λ m. m.space ≡ space) local_place_law (λ p. refl) (λ p. refl) (again_member space)

local_app_law : IsField local_app
unfolding local_app host_app
local_app_law = both_law local_place_law (both_law app_name_law (both_law number32_law (both_law number16_law types_law)))

again_host : (space : List ℕ) (h : HostInfo) → h.member.space ≡ space → host_in space (host_local h) ≡ h
again_host space h e = ap (λ (s : List ℕ). host_in s (host_local h)) (sym e)

pub local_host_law : (space : List ℕ) → IsField (local_host space)
unfolding local_host
local_host_law space = seen_in_law host_local (host_in space) (λ h. h.member.space ≡ space) local_app_law (λ p. refl) (λ p. refl) (again_host space)

-- ---- entries

pub change_law : (space : List ℕ) → IsField (change space)
unfolding change
change_law space =
    seen_law change_parts change_of (both_law (maybe_law (local_host_law space)) (both_law (counted_law number16_law (λ b. local_member_law space) (λ b m. refl)) counter_law)) (λ p h. refl) (λ r. refl)

pub entry_law : IsField entry
unfolding entry
entry_law = followed_law space_name_law change_law

pub entries_law : IsField entries
unfolding entries
entries_law = counted_law (only_law _ number16_law) (λ b. entry_law) (λ b e. refl)

-- ---- payloads

abbrev tag_of : List Entry → ℕ
tag_of es = 2

payload_takes : AllTake tag_of entries.spell entries.Fits ((2, row entries (λ es. es)) ∷ [])
payload_takes = (row_takes tag_of entries.spell entries.Fits 2 (λ es. es) entries_law (λ es. refl) (λ es. refl) (λ es h. h), tt)

payload_again : RowsAgain tag_of entries.spell entries.Fits (row_of ((2, row entries (λ es. es)) ∷ []))
payload_again es rest h = row_again (λ (l : List Entry). l) entries_law es rest h

pub payload_law : IsField payload
unfolding payload
payload_law = tagged_law tag_of entries.spell entries.Fits (row_of ((2, row entries (λ es. es)) ∷ [])) (rows_take tag_of entries.spell entries.Fits ((2, row entries (λ es. es)) ∷ []) payload_takes) payload_again

pub old_form_law : IsField old_form
unfolding old_form
old_form_law = change_law default_space

pub begins_entries : BeginsEntries
unfolding payload entries payload_start
begins_entries es = refl

-- ---- what is read

pub reads_payload : ReadsPayload
unfolding payload
reads_payload es fits = ap value_of (whole_again payload_law es fits)

tag_is_old : (joined : Option HostInfo) → nat_le (maybe_tag joined) 1 ≡ true
tag_is_old None = refl
tag_is_old (Some h) = refl

reads_begun : (bytes rest : List ℕ) (b : ℕ) (r : RecordOf) → bytes ≡ b ∷ rest → nat_le b 1 ≡ true → whole old_form.at bytes ≡ Ok r → payload_reading bytes ≡ Some (in_default r)
reads_begun [] rest b r is old read = absurd cc
reads_begun (d ∷ bytes) rest b r is old read =
    let first : nat_le d 1 ≡ true = let e : d ≡ b = cc in ap (λ n. nat_le n 1) e ∙ old in
    rw (first, read) refl

old_first : (r : RecordOf) → (rest : List ℕ) × (old_form.spell r ≡ maybe_tag r.joined ∷ rest)
unfolding old_form change
old_first r = (_, refl)

pub reads_old_form : ReadsOldForm
reads_old_form r fits =
    let first = old_first r in
    reads_begun (old_form.spell r) first.0 (maybe_tag r.joined) r first.1 (tag_is_old r.joined) (whole_again old_form_law r fits)

-- ---- only spellings are read

some_is : {A : Type 0} (x y : A) → Some x ≡ Some y → x ≡ y
some_is x y e = cc

value_some : {A : Type 0} (r : Result A ℕ) (a : A) → value_of r ≡ Some a → r ≡ Ok a
value_some {A = A} (Ok b) a e = ap (λ (v : A). Ok v) (some_is b a e)
value_some (Err left) a e = absurd cc

mapped_some : {A B : Type 0} (made : A → B) (o : Option A) (b : B) → option_map made o ≡ Some b → (a : A) × ((b ≡ made a) × (o ≡ Some a))
mapped_some made None b e = absurd cc
mapped_some made (Some a) b e = (a, (sym (some_is (made a) b e), refl))

spells_either :
    (old : Bool) (bytes : List ℕ) (es : List Entry) → IsBytes bytes → cond old (option_map in_default (exactly old_form bytes)) (exactly payload bytes) ≡ Some es
    → ((bytes ≡ payload.spell es) × payload.Fits es) ⊎ ((r : RecordOf) × ((es ≡ in_default r) × (bytes ≡ old_form.spell r) × old_form.Fits r))
spells_either true bytes es fits e =
    let m = mapped_some in_default (exactly old_form bytes) es e in
    let t = whole_takes old_form_law bytes m.0 fits (value_some (whole old_form.at bytes) m.0 m.1.1) in
    inr (m.0, (m.1.0, t.0, t.1))
spells_either false bytes es fits e = inl (whole_takes payload_law bytes es fits (value_some (whole payload.at bytes) es e))

pub spells_payload : SpellsPayload
spells_payload [] es fits e = absurd cc
spells_payload (b ∷ rest) es fits e = spells_either (nat_le b 1) (b ∷ rest) es fits e

fits_old : (r : RecordOf) → old_form.Fits r → payload.Fits (in_default r)
unfolding payload entries entry old_form space_name number16 byte
fits_old r h = ((lit< tt, refl), (((lit< tt, refl), h), tt))

pub fits_again : FitsAgain
fits_again bytes es fits e =
    elim (spells_payload bytes es fits e) [
      | inl p ↦ p.1
      | inr o ↦ subst (λ (l : List Entry). payload.Fits l) (sym o.1.0) (fits_old o.0 o.1.2)
    ]

pub spells_one : SpellsOne
spells_one es fs E F e = some_is es fs (sym (reads_payload es E) ∙ ap payload_reading e ∙ reads_payload fs F)

-- ---- writing

regrouped : (x s j m v : List ℕ) → (((x ++ s) ++ j) ++ m) ++ v ≡ x ++ (s ++ (j ++ (m ++ v)))
regrouped x s j m v = simp append_assoc

-- an entry is written part by part
pub entry_written :
    (space : List ℕ) (r : RecordOf) (members : List Member) (before a b c d : List ℕ) → members ≡ r.removed
    → a ≡ before ++ space_name.spell space
    → b ≡ a ++ maybe_tag r.joined ∷ maybe_fields (λ h. local_app.spell (host_local h)) r.joined
    → c ≡ b ++ (number16.spell (length members) ++ spell_all (λ m. local_place.spell (member_local m)) members)
    → d ≡ c ++ counter.spell r.next_version
    → d ≡ before ++ entry.spell (space, r)
unfolding entry change local_host local_member
entry_written space r members before a b c d is one two three four =
    let j : List ℕ = maybe_tag r.joined ∷ maybe_fields (λ h. local_app.spell (host_local h)) r.joined in
    let written : List Member → List ℕ = λ ms. number16.spell (length ms) ++ spell_all (λ m. local_place.spell (member_local m)) ms in
    let v : List ℕ = counter.spell r.next_version in
    four ∙ ap (λ (l : List ℕ). l ++ v) (three ∙ ap (λ (ms : List Member). b ++ written ms) is ∙ ap (λ (l : List ℕ). l ++ written r.removed) (two ∙ ap (λ (l : List ℕ). l ++ j) one)) ∙ regrouped before (space_name.spell space) j (written r.removed) v
