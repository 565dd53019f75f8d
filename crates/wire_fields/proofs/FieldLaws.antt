-- A value that a field reads was spelled that way and fits, and a value that fits is read again from its spelling.
use Rattle.std.proofs.Common.{◌≡◌, ℕ, zero, suc, ◌+◌, ◌^◌, ◌<◌, ◌≤◌, Bool, true, false, cond, ltb, List, [], ◌∷◌, ◌++◌, length, get_or, take, drop, Option, Some, None, Result, Ok, Err, refl, sym, ap, subst, ◌∙◌, append_assoc, arith, inl, inr}
use Rattle.std.specs.Int.{Width, w16, w32, w64, byte_len, from_be_bytes, to_be_bytes}
use Rattle.std.proofs.lemmas.Bool.{cases_lt, ltb-false, le-ltb, eqb-true}
use Rattle.std.proofs.lemmas.List.{take_at, drop_at, take-append-drop, length-append, length-take, get_or-drop, get_or-take, get_or_past, append-nil, nil_from_length}
use Rattle.std.proofs.lemmas.Nat.{be_bytes_2, be_bytes_4, be_bytes_8, from_be_bytes-to_be_bytes_2, from_be_bytes-to_be_bytes_4, from_be_bytes-to_be_bytes_8, div-add-mod', div-mul-add, mod-mul-add}
use Rattle.std.specs.Prelude.{◌==◌, ◌/◌, ◌%◌, ◌*◌, if◌then◌else◌}
use Rattle.wire_fields.specs.Fields.{Reading, Field, ◌>>=◌, fails_here, byte_at, byte, number, number16, number32, number64, nothing, both, seen, only, sized, halves, joined, number128, whole, spell_all, AllFit, many_at, counted, made_of, row, row_of, by_row, tagged_at, tagged, maybe_tag, maybe_fields, MaybeFits, maybe_rows, maybe, as_one_at, as_one}

abbrev pub IsBytes : List ℕ → Type 0
IsBytes bytes = (i : ℕ) → get_or bytes i 0 < 256

pub IsBytes-drop : (n : ℕ) (bytes : List ℕ) → IsBytes bytes → IsBytes (drop n bytes)
IsBytes-drop n bytes h i = rw get_or-drop (h (n + i))

pub IsBytes-take : (n : ℕ) (bytes : List ℕ) → IsBytes bytes → IsBytes (take n bytes)
IsBytes-take n bytes h i =
    elim (cases_lt i n) [
      | inl lt ↦ rw (get_or-take n bytes i 0 lt) (h i)
      | inr le ↦ rw (get_or_past (take n bytes) i 0 (omega (arith, length-take n bytes))) (omega arith)
    ]

pub IsBytes-rest : (b : ℕ) (bytes : List ℕ) → IsBytes (b ∷ bytes) → IsBytes bytes
IsBytes-rest b bytes h i = h (suc i)

-- the value of a step that didn't fail
pub bind_ok : {A B : Type 0} (r : Result A ℕ) (f : A → Result B ℕ) (y : B) → (r >>= f) ≡ Ok y → (x : A) × (r ≡ Ok x) × (f x ≡ Ok y)
bind_ok (Ok x) f y e = (x, refl, e)
bind_ok (Err d) f y e = absurd cc

-- a test that didn't fail
pub guard_ok : {A : Type 0} (b : Bool) (d : ℕ) (r : Result A ℕ) (y : A) → cond b (Err d) r ≡ Ok y → (b ≡ false) × (r ≡ Ok y)
guard_ok true d r y e = absurd cc
guard_ok false d r y e = (refl, e)

pub passed_ok : {A : Type 0} (b : Bool) (d : ℕ) (r : Result A ℕ) (y : A) → cond b r (Err d) ≡ Ok y → (b ≡ true) × (r ≡ Ok y)
passed_ok true d r y e = (refl, e)
passed_ok false d r y e = absurd cc

abbrev done : {A : Type 0} → A → Result A ℕ
done x = Ok x

pub ok_is : {A : Type 0} (x y : A) → done x ≡ done y → x ≡ y
ok_is x y e = cc

-- what a reader took from the start of the bytes
pub record Takes (bytes text rest : List ℕ) : Type 0 where
  pub parts : bytes ≡ text ++ rest
  pub rest_fits : IsBytes rest

pub Takes-then : (a x b y c : List ℕ) → Takes a x b → Takes b y c → Takes a (x ++ y) c
Takes-then a x b y c p q = record { parts = p.parts ∙ ap (λ (t : List ℕ). x ++ t) q.parts ∙ sym (append_assoc x y c); rest_fits = q.rest_fits }

-- the reading of a field and its spelling are inverse to each other
pub record IsField {A : Type 0} (f : Field A) : Type 0 where
  pub takes : (bytes : List ℕ) (x : A × List ℕ) → IsBytes bytes → f.at bytes ≡ Ok x → Takes bytes (f.spell x.0) x.1 × f.Fits x.0
  pub again : (a : A) (rest : List ℕ) → f.Fits a → f.at (f.spell a ++ rest) ≡ Ok (a, rest)

-- ---- numbers

byte_takes : (bytes : List ℕ) (x : ℕ × List ℕ) → IsBytes bytes → byte_at bytes ≡ Ok x → Takes bytes (x.0 ∷ []) x.1 × (x.0 < 256)
byte_takes [] x fits e = absurd cc
byte_takes (b ∷ bytes) x fits e =
    subst (λ (y : ℕ × List ℕ). Takes (b ∷ bytes) (y.0 ∷ []) y.1 × (y.0 < 256)) (ok_is (b, bytes) x e) (record { parts = refl; rest_fits = IsBytes-rest b bytes fits }, fits 0)

pub byte_law : IsField byte
unfolding byte
byte_law = record { takes = byte_takes; again = λ n rest h. refl }

pub record IsWide (w : Width) (limit : ℕ) : Type 0 where
  pub len : (n : ℕ) → length (to_be_bytes w n) ≡ byte_len w
  pub back : (bytes : List ℕ) → length bytes ≡ byte_len w → IsBytes bytes → to_be_bytes w (from_be_bytes w bytes) ≡ bytes
  pub again : (n : ℕ) → n < limit → from_be_bytes w (to_be_bytes w n) ≡ n
  pub below : (bytes : List ℕ) → IsBytes bytes → from_be_bytes w bytes < limit

wide16 : IsWide w16 (2 ^ 16)
wide16 = record {
  len = λ n. refl;
  back = λ bytes len fits. be_bytes_2 bytes _ len fits refl;
  again = λ n lt. from_be_bytes-to_be_bytes_2 n lt;
  below = λ bytes fits. omega (arith, fits 0, fits 1);
}

pub wide32 : IsWide w32 (2 ^ 32)
wide32 = record {
  len = λ n. refl;
  back = λ bytes len fits. be_bytes_4 bytes _ len fits refl;
  again = λ n lt. from_be_bytes-to_be_bytes_4 n lt;
  below = λ bytes fits. omega (arith, fits 0, fits 1, fits 2, fits 3);
}

wide64 : IsWide w64 (2 ^ 64)
wide64 = record {
  len = λ n. refl;
  back = λ bytes len fits. be_bytes_8 bytes _ len fits refl;
  again = λ n lt. from_be_bytes-to_be_bytes_8 n lt;
  below = λ bytes fits. omega (arith, fits 0, fits 1, fits 2, fits 3, fits 4, fits 5, fits 6, fits 7);
}

number_takes : (w : Width) (limit : ℕ) (wide : IsWide w limit) (bytes : List ℕ) (x : ℕ × List ℕ) → IsBytes bytes → (number w limit).at bytes ≡ Ok x → Takes bytes (to_be_bytes w x.0) x.1 × (x.0 < limit)
number_takes w limit wide bytes x fits e =
    let g = guard_ok (ltb (length bytes) (byte_len w)) (length bytes) (Ok (from_be_bytes w (take (byte_len w) bytes), drop (byte_len w) bytes)) x e in
    let long : byte_len w ≤ length bytes = ltb-false _ _ g.0 in
    let front : to_be_bytes w (from_be_bytes w (take (byte_len w) bytes)) ≡ take (byte_len w) bytes = wide.back (take (byte_len w) bytes) (omega (arith, length-take (byte_len w) bytes)) (IsBytes-take (byte_len w) bytes fits) in
    let made : Takes bytes (to_be_bytes w (from_be_bytes w (take (byte_len w) bytes))) (drop (byte_len w) bytes) = record { parts = rw front (sym (take-append-drop (byte_len w) bytes)); rest_fits = IsBytes-drop (byte_len w) bytes fits } in
    subst (λ (y : ℕ × List ℕ). Takes bytes (to_be_bytes w y.0) y.1 × (y.0 < limit)) (ok_is _ x g.1) (made, wide.below (take (byte_len w) bytes) (IsBytes-take (byte_len w) bytes fits))

number_again : (w : Width) (limit : ℕ) (wide : IsWide w limit) (n : ℕ) (rest : List ℕ) → n < limit → (number w limit).at (to_be_bytes w n ++ rest) ≡ Ok (n, rest)
number_again w limit wide n rest lt =
    let len = wide.len n in
    let long : ltb (length (to_be_bytes w n ++ rest)) (byte_len w) ≡ false = le-ltb _ _ (omega (arith, length-append (to_be_bytes w n) rest)) in
    rw (long, take_at (to_be_bytes w n) rest (byte_len w) len, drop_at (to_be_bytes w n) rest (byte_len w) len, wide.again n lt) refl

pub number16_law : IsField number16
unfolding number16
number16_law = record { takes = number_takes w16 (2 ^ 16) wide16; again = number_again w16 (2 ^ 16) wide16 }

pub number32_law : IsField number32
unfolding number32
number32_law = record { takes = number_takes w32 (2 ^ 32) wide32; again = number_again w32 (2 ^ 32) wide32 }

pub number64_law : IsField number64
unfolding number64
number64_law = record { takes = number_takes w64 (2 ^ 64) wide64; again = number_again w64 (2 ^ 64) wide64 }

-- ---- fields of fields

nothing_takes : (bytes : List ℕ) (x : Unit {0} × List ℕ) → IsBytes bytes → done (tt, bytes) ≡ Ok x → Takes bytes [] x.1 × Unit {0}
nothing_takes bytes x fits e = subst (λ (y : Unit {0} × List ℕ). Takes bytes [] y.1 × Unit {0}) (ok_is (tt, bytes) x e) (record { parts = refl; rest_fits = fits }, tt)

pub nothing_law : IsField nothing
nothing_law = record { takes = nothing_takes; again = λ u rest h. refl }

both_takes : {A B : Type 0} (f : Field A) (g : Field B) → IsField f → IsField g → (bytes : List ℕ) (x : (A × B) × List ℕ) → IsBytes bytes → (both f g).at bytes ≡ Ok x → Takes bytes ((both f g).spell x.0) x.1 × (both f g).Fits x.0
both_takes {A = A} {B = B} f g F G bytes x fits e =
    let a = bind_ok (f.at bytes) (λ u. g.at u.1 >>= λ y. Ok ((u.0, y.0), y.1)) x e in
    let b = bind_ok (g.at a.0.1) (λ y. Ok ((a.0.0, y.0), y.1)) x a.2 in
    let t = F.takes bytes a.0 fits a.1 in
    let u = G.takes a.0.1 b.0 t.0.rest_fits b.1 in
    let made = Takes-then bytes (f.spell a.0.0) a.0.1 (g.spell b.0.0) b.0.1 t.0 u.0 in
    subst (λ (y : (A × B) × List ℕ). Takes bytes ((both f g).spell y.0) y.1 × (both f g).Fits y.0) (ok_is ((a.0.0, b.0.0), b.0.1) x b.2) (made, (t.1, u.1))

both_again : {A B : Type 0} (f : Field A) (g : Field B) → IsField f → IsField g → (p : A × B) (rest : List ℕ) → (both f g).Fits p → (both f g).at ((both f g).spell p ++ rest) ≡ Ok (p, rest)
both_again f g F G p rest h =
    let regrouped : (f.spell p.0 ++ g.spell p.1) ++ rest ≡ f.spell p.0 ++ (g.spell p.1 ++ rest) = append_assoc (f.spell p.0) (g.spell p.1) rest in
    ap (both f g).at regrouped ∙ rw (F.again p.0 (g.spell p.1 ++ rest) h.0, G.again p.1 rest h.1) refl

pub both_law : {A B : Type 0} {f : Field A} {g : Field B} → IsField f → IsField g → IsField (both f g)
both_law {f = f} {g = g} F G = record { takes = both_takes f g F G; again = both_again f g F G }

seen_takes : {A B : Type 0} (f : Field A) (parts : B → A) (made : A → B) → IsField f → ((a : A) → f.Fits a → parts (made a) ≡ a) → (bytes : List ℕ) (x : B × List ℕ) → IsBytes bytes → (seen f parts made).at bytes ≡ Ok x → Takes bytes (f.spell (parts x.0)) x.1 × f.Fits (parts x.0)
seen_takes {A = A} {B = B} f parts made F back bytes x fits e =
    let a = bind_ok (f.at bytes) (λ u. Ok (made u.0, u.1)) x e in
    let t = F.takes bytes a.0 fits a.1 in
    let there : Takes bytes (f.spell (parts (made a.0.0))) a.0.1 × f.Fits (parts (made a.0.0)) = subst (λ (v : A). Takes bytes (f.spell v) a.0.1 × f.Fits v) (sym (back a.0.0 t.1)) t in
    subst (λ (y : B × List ℕ). Takes bytes (f.spell (parts y.0)) y.1 × f.Fits (parts y.0)) (ok_is (made a.0.0, a.0.1) x a.2) there

seen_again : {A B : Type 0} (f : Field A) (parts : B → A) (made : A → B) → IsField f → ((b : B) → made (parts b) ≡ b) → (b : B) (rest : List ℕ) → f.Fits (parts b) → (seen f parts made).at (f.spell (parts b) ++ rest) ≡ Ok (b, rest)
seen_again {A = A} {B = B} f parts made F same b rest h = rw (F.again (parts b) rest h) (ap (λ (v : B). Ok (v, rest)) (same b))

pub seen_law : {A B : Type 0} {f : Field A} (parts : B → A) (made : A → B) → IsField f → ((a : A) → f.Fits a → parts (made a) ≡ a) → ((b : B) → made (parts b) ≡ b) → IsField (seen f parts made)
seen_law {f = f} parts made F back same = record { takes = seen_takes f parts made F back; again = seen_again f parts made F same }

only_takes : {A : Type 0} (f : Field A) (test : A → Bool) → IsField f → (bytes : List ℕ) (x : A × List ℕ) → IsBytes bytes → (only f test).at bytes ≡ Ok x → Takes bytes (f.spell x.0) x.1 × (only f test).Fits x.0
only_takes {A = A} f test F bytes x fits e =
    let a = bind_ok (f.at bytes) (λ u. cond (test u.0) (Ok u) (Err (length bytes))) x e in
    let p = passed_ok (test a.0.0) (length bytes) (Ok a.0) x a.2 in
    let t = F.takes bytes a.0 fits a.1 in
    subst (λ (y : A × List ℕ). Takes bytes (f.spell y.0) y.1 × (only f test).Fits y.0) (ok_is a.0 x p.1) (t.0, (t.1, p.0))

pub only_law : {A : Type 0} {f : Field A} (test : A → Bool) → IsField f → IsField (only f test)
only_law {f = f} test F = record { takes = only_takes f test F; again = λ a rest h. rw (F.again a rest h.0, h.1) refl }

one_ok : {A : Type 0} (left : ℕ) (r : Result A ℕ) (x : A) → as_one_at left r ≡ Ok x → r ≡ Ok x
one_ok left (Ok y) x e = e
one_ok left (Err part) x e = absurd cc

pub as_one_law : {A : Type 0} {f : Field A} → IsField f → IsField (as_one f)
as_one_law {f = f} F = record { takes = λ bytes x fits e. F.takes bytes x fits (one_ok (length bytes) (f.at bytes) x e); again = λ a rest h. rw (F.again a rest h) refl }

sized_takes : (f : Field ℕ) → IsField f → (bytes : List ℕ) (x : List ℕ × List ℕ) → IsBytes bytes → (sized f).at bytes ≡ Ok x → Takes bytes ((sized f).spell x.0) x.1 × (sized f).Fits x.0
sized_takes f F bytes x fits e =
    let b = bind_ok (f.at bytes) (λ n. cond (ltb (length n.1) n.0) (Err (length bytes)) (Ok (take n.0 n.1, drop n.0 n.1))) x e in
    let n = b.0 in
    let t = F.takes bytes n fits b.1 in
    let g = guard_ok (ltb (length n.1) n.0) (length bytes) (Ok (take n.0 n.1, drop n.0 n.1)) x b.2 in
    let long : n.0 ≤ length n.1 = ltb-false _ _ g.0 in
    let len : length (take n.0 n.1) ≡ n.0 = omega (arith, length-take n.0 n.1) in
    let second : Takes n.1 (take n.0 n.1) (drop n.0 n.1) = record { parts = sym (take-append-drop n.0 n.1); rest_fits = IsBytes-drop n.0 n.1 t.0.rest_fits } in
    let whole = Takes-then bytes (f.spell n.0) n.1 (take n.0 n.1) (drop n.0 n.1) t.0 second in
    let there : Takes bytes (f.spell (length (take n.0 n.1)) ++ take n.0 n.1) (drop n.0 n.1) × f.Fits (length (take n.0 n.1)) = subst (λ (k : ℕ). Takes bytes (f.spell k ++ take n.0 n.1) (drop n.0 n.1) × f.Fits k) (sym len) (whole, t.1) in
    subst (λ (p : List ℕ × List ℕ). Takes bytes ((sized f).spell p.0) p.1 × (sized f).Fits p.0) (ok_is (take n.0 n.1, drop n.0 n.1) x g.1) there

sized_again : (f : Field ℕ) → IsField f → (text rest : List ℕ) → f.Fits (length text) → (sized f).at ((f.spell (length text) ++ text) ++ rest) ≡ Ok (text, rest)
sized_again f F text rest h =
    let long : ltb (length (text ++ rest)) (length text) ≡ false = le-ltb _ _ (omega (arith, length-append text rest)) in
    ap (sized f).at (append_assoc (f.spell (length text)) text rest) ∙ rw (F.again (length text) (text ++ rest) h, long, take_at text rest (length text) refl, drop_at text rest (length text) refl) refl

pub sized_law : {f : Field ℕ} → IsField f → IsField (sized f)
sized_law {f = f} F = record { takes = sized_takes f F; again = sized_again f F }

-- ---- a number of 16 bytes

halves-joined : (p : ℕ × ℕ) → p.1 < 18446744073709551616 → halves (joined p) ≡ p
halves-joined p lt =
    ap (λ (n : ℕ). (n, joined p % 18446744073709551616)) (div-mul-add p.0 18446744073709551616 p.1 lt)
    ∙ ap (λ (n : ℕ). (p.0, n)) (mod-mul-add p.0 18446744073709551616 p.1 lt)

pub number128_law : IsField number128
unfolding number128 number64
number128_law =
    seen_law halves joined (as_one_law (both_law number64_law number64_law)) (λ p h. halves-joined p h.1) (λ n. div-add-mod' n 18446744073709551616)

-- ---- lists

-- the fields behind different values spell alike
abbrev pub SpellsAlike : {A : Type 0} → (Option A → Field A) → Type 0
SpellsAlike {A = A} f = (before : Option A) (a : A) → (f before).spell a ≡ (f None).spell a

many_takes :
    {A : Type 0} (f : Option A → Field A) → ((b : Option A) → IsField (f b)) → SpellsAlike f → (n : ℕ) (before : Option A) (bytes : List ℕ) (x : List A × List ℕ)
    → IsBytes bytes → many_at f before n bytes ≡ Ok x → Takes bytes (spell_all (f None).spell x.0) x.1 × AllFit f before x.0 × (length x.0 ≡ n)
unfolding many_at
many_takes {A = A} f F alike zero before bytes x fits e =
    subst (λ (y : List A × List ℕ). Takes bytes (spell_all (f None).spell y.0) y.1 × AllFit f before y.0 × (length y.0 ≡ 0)) (ok_is ([], bytes) x e) (record { parts = refl; rest_fits = fits }, tt, refl)
many_takes {A = A} f F alike (suc n) before bytes x fits e =
    let a = bind_ok ((f before).at bytes) (λ u. many_at f (Some u.0) n u.1 >>= λ xs. Ok (u.0 ∷ xs.0, xs.1)) x e in
    let b = bind_ok (many_at f (Some a.0.0) n a.0.1) (λ xs. Ok (a.0.0 ∷ xs.0, xs.1)) x a.2 in
    let t = (F before).takes bytes a.0 fits a.1 in
    let first : Takes bytes ((f None).spell a.0.0) a.0.1 = subst (λ (l : List ℕ). Takes bytes l a.0.1) (alike before a.0.0) t.0 in
    let u = many_takes f F alike n (Some a.0.0) a.0.1 b.0 first.rest_fits b.1 in
    let made = Takes-then bytes ((f None).spell a.0.0) a.0.1 (spell_all (f None).spell b.0.0) b.0.1 first u.0 in
    subst (λ (y : List A × List ℕ). Takes bytes (spell_all (f None).spell y.0) y.1 × AllFit f before y.0 × (length y.0 ≡ suc n)) (ok_is (a.0.0 ∷ b.0.0, b.0.1) x b.2) (made, (t.1, u.1), ap suc u.2)

many_again :
    {A : Type 0} (f : Option A → Field A) → ((b : Option A) → IsField (f b)) → SpellsAlike f → (before : Option A) (xs : List A) (rest : List ℕ)
    → AllFit f before xs → many_at f before (length xs) (spell_all (f None).spell xs ++ rest) ≡ Ok (xs, rest)
unfolding many_at
many_again f F alike before [] rest h = refl
many_again {A = A} f F alike before (x ∷ xs) rest h =
    let behind : List ℕ = spell_all (f None).spell xs ++ rest in
    let one : (f before).at ((f None).spell x ++ behind) ≡ Ok (x, behind) = subst (λ (l : List ℕ). (f before).at (l ++ behind) ≡ Ok (x, behind)) (alike before x) ((F before).again x behind h.0) in
    ap (many_at f before (suc (length xs))) (append_assoc ((f None).spell x) (spell_all (f None).spell xs) rest)
    ∙ rw (one, many_again f F alike (Some x) xs rest h.1) refl

counted_takes :
    {A : Type 0} (count : Field ℕ) (f : Option A → Field A) → IsField count → ((b : Option A) → IsField (f b)) → SpellsAlike f → (bytes : List ℕ) (x : List A × List ℕ)
    → IsBytes bytes → (counted count f).at bytes ≡ Ok x → Takes bytes ((counted count f).spell x.0) x.1 × (counted count f).Fits x.0
counted_takes count f C F alike bytes x fits e =
    let a = bind_ok (count.at bytes) (λ n. many_at f None n.0 n.1) x e in
    let t = C.takes bytes a.0 fits a.1 in
    let u = many_takes f F alike a.0.0 None a.0.1 x t.0.rest_fits a.2 in
    let made = Takes-then bytes (count.spell a.0.0) a.0.1 (spell_all (f None).spell x.0) x.1 t.0 u.0 in
    let there : Takes bytes (count.spell (length x.0) ++ spell_all (f None).spell x.0) x.1 × count.Fits (length x.0) = subst (λ (k : ℕ). Takes bytes (count.spell k ++ spell_all (f None).spell x.0) x.1 × count.Fits k) (sym u.2) (made, t.1) in
    (there.0, (there.1, u.1))

counted_again :
    {A : Type 0} (count : Field ℕ) (f : Option A → Field A) → IsField count → ((b : Option A) → IsField (f b)) → SpellsAlike f → (xs : List A) (rest : List ℕ)
    → (counted count f).Fits xs → (counted count f).at ((counted count f).spell xs ++ rest) ≡ Ok (xs, rest)
counted_again count f C F alike xs rest h =
    ap (counted count f).at (append_assoc (count.spell (length xs)) (spell_all (f None).spell xs) rest)
    ∙ rw (C.again (length xs) (spell_all (f None).spell xs ++ rest) h.0, many_again f F alike None xs rest h.1) refl

pub counted_law : {A : Type 0} {count : Field ℕ} {f : Option A → Field A} → IsField count → ((b : Option A) → IsField (f b)) → SpellsAlike f → IsField (counted count f)
counted_law {count = count} {f = f} C F alike = record { takes = counted_takes count f C F alike; again = counted_again count f C F alike }

-- ---- a first byte that tells the fields behind it

-- what a row reads has the row's tag, was spelled that way, and fits
abbrev pub RowTakes : {B : Type 0} → (B → ℕ) → (B → List ℕ) → (B → Type 0) → ℕ → Reading B → Type 0
RowTakes {B = B} tag fields Fits t r = (bytes : List ℕ) (x : B × List ℕ) → IsBytes bytes → r bytes ≡ Ok x → (tag x.0 ≡ t) × Takes bytes (fields x.0) x.1 × Fits x.0

pub row_takes :
    {A B : Type 0} {f : Field A} (tag : B → ℕ) (fields : B → List ℕ) (Fits : B → Type 0) (t : ℕ) (made : A → B) → IsField f
    → ((a : A) → tag (made a) ≡ t) → ((a : A) → fields (made a) ≡ f.spell a) → ((a : A) → f.Fits a → Fits (made a)) → RowTakes tag fields Fits t (row f made)
row_takes {A = A} {B = B} {f = f} tag fields Fits t made F tag_is fields_is fits_is bytes x fits e =
    let a = bind_ok (f.at bytes) (λ u. Ok (made u.0, u.1)) x e in
    let u = F.takes bytes a.0 fits a.1 in
    let there : Takes bytes (fields (made a.0.0)) a.0.1 = subst (λ (l : List ℕ). Takes bytes l a.0.1) (sym (fields_is a.0.0)) u.0 in
    subst (λ (y : B × List ℕ). (tag y.0 ≡ t) × Takes bytes (fields y.0) y.1 × Fits y.0) (ok_is (made a.0.0, a.0.1) x a.2) (tag_is a.0.0, there, fits_is a.0.0 u.1)

pub row_again : {A B : Type 0} {f : Field A} (made : A → B) → IsField f → (a : A) (rest : List ℕ) → f.Fits a → row f made (f.spell a ++ rest) ≡ Ok (made a, rest)
row_again {f = f} made F a rest h = rw (F.again a rest h) refl

-- what a reading gives, put into other values
pub made_takes :
    {A B : Type 0} (tag : A → ℕ) (fields : A → List ℕ) (Fits : A → Type 0) (tag' : B → ℕ) (fields' : B → List ℕ) (Fits' : B → Type 0) (t : ℕ) (read : Reading A) (made : A → B)
    → ((a : A) → tag' (made a) ≡ tag a) → ((a : A) → fields' (made a) ≡ fields a) → ((a : A) → Fits a → Fits' (made a))
    → RowTakes tag fields Fits t read → RowTakes tag' fields' Fits' t (made_of read made)
made_takes {A = A} {B = B} tag fields Fits tag' fields' Fits' t read made tag_is fields_is fits_is taken bytes x fits e =
    let a = bind_ok (read bytes) (λ u. Ok (made u.0, u.1)) x e in
    let u = taken bytes a.0 fits a.1 in
    let there : Takes bytes (fields' (made a.0.0)) a.0.1 = subst (λ (l : List ℕ). Takes bytes l a.0.1) (sym (fields_is a.0.0)) u.1 in
    subst (λ (y : B × List ℕ). (tag' y.0 ≡ t) × Takes bytes (fields' y.0) y.1 × Fits' y.0) (ok_is (made a.0.0, a.0.1) x a.2) (tag_is a.0.0 ∙ u.0, there, fits_is a.0.0 u.2)

-- each row of a table reads what has the row's tag
abbrev pub AllTake : {B : Type 0} → (B → ℕ) → (B → List ℕ) → (B → Type 0) → List (ℕ × Reading B) → Type 0
AllTake tag fields Fits [] = Unit {0}
AllTake tag fields Fits (r ∷ rs) = RowTakes tag fields Fits r.0 r.1 × AllTake tag fields Fits rs

abbrev pub TableTakes : {B : Type 0} → (B → ℕ) → (B → List ℕ) → (B → Type 0) → (ℕ → Option (Reading B)) → Type 0
TableTakes {B = B} tag fields Fits rows = (t : ℕ) (r : Reading B) → rows t ≡ Some r → RowTakes tag fields Fits t r

some_is : {A : Type 0} (x y : A) → Some x ≡ Some y → x ≡ y
some_is x y e = cc

step_takes :
    {B : Type 0} (tag : B → ℕ) (fields : B → List ℕ) (Fits : B → Type 0) (t k : ℕ) (b : Bool) (first : Reading B) (others : Option (Reading B)) (r : Reading B)
    → (t == k) ≡ b → RowTakes tag fields Fits k first → (others ≡ Some r → RowTakes tag fields Fits t r) → cond b (Some first) others ≡ Some r → RowTakes tag fields Fits t r
step_takes {B = B} tag fields Fits t k true first others r is taken more e = subst (λ (q : Reading B). RowTakes tag fields Fits t q) (some_is first r e) (subst (λ (n : ℕ). RowTakes tag fields Fits n first) (sym (eqb-true t k is)) taken)
step_takes {B = B} tag fields Fits t k false first others r is taken more e = more e

pub rows_take : {B : Type 0} (tag : B → ℕ) (fields : B → List ℕ) (Fits : B → Type 0) (rows : List (ℕ × Reading B)) → AllTake tag fields Fits rows → TableTakes tag fields Fits (row_of rows)
rows_take tag fields Fits [] all t r e = absurd cc
rows_take tag fields Fits (q ∷ qs) all t r e = step_takes tag fields Fits t q.0 (t == q.0) q.1 (row_of qs t) r refl all.0 (λ found. rows_take tag fields Fits qs all.1 t r found) e

by_row_takes :
    {B : Type 0} (tag : B → ℕ) (fields : B → List ℕ) (Fits : B → Type 0) (t : ℕ) (found : Option (Reading B)) (bytes : List ℕ) (x : B × List ℕ)
    → ((r : Reading B) → found ≡ Some r → RowTakes tag fields Fits t r) → IsBytes (t ∷ bytes) → by_row t found bytes ≡ Ok x → Takes (t ∷ bytes) (tag x.0 ∷ fields x.0) x.1 × Fits x.0
by_row_takes tag fields Fits t None bytes x table fits e = absurd cc
by_row_takes tag fields Fits t (Some r) bytes x table fits e =
    let u = table r refl bytes x (IsBytes-rest t bytes fits) e in
    (record { parts = rw u.0 (ap (λ (l : List ℕ). t ∷ l) u.1.parts); rest_fits = u.1.rest_fits }, u.2)

tagged_takes :
    {B : Type 0} (tag : B → ℕ) (fields : B → List ℕ) (Fits : B → Type 0) (rows : ℕ → Option (Reading B)) → TableTakes tag fields Fits rows
    → (bytes : List ℕ) (x : B × List ℕ) → IsBytes bytes → tagged_at rows bytes ≡ Ok x → Takes bytes (tag x.0 ∷ fields x.0) x.1 × Fits x.0
tagged_takes tag fields Fits rows table [] x fits e = absurd cc
tagged_takes tag fields Fits rows table (t ∷ bytes) x fits e = by_row_takes tag fields Fits t (rows t) bytes x (λ r found. table t r found) fits e

-- the row of each value reads it again
abbrev pub RowsAgain : {B : Type 0} → (B → ℕ) → (B → List ℕ) → (B → Type 0) → (ℕ → Option (Reading B)) → Type 0
RowsAgain {B = B} tag fields Fits rows = (b : B) (rest : List ℕ) → Fits b → by_row (tag b) (rows (tag b)) (fields b ++ rest) ≡ Ok (b, rest)

pub tagged_law :
    {B : Type 0} (tag : B → ℕ) (fields : B → List ℕ) (Fits : B → Type 0) (rows : ℕ → Option (Reading B)) → TableTakes tag fields Fits rows → RowsAgain tag fields Fits rows → IsField (tagged tag fields Fits rows)
tagged_law tag fields Fits rows table again = record { takes = tagged_takes tag fields Fits rows table; again = again }

-- ---- a value that may be missing

maybe_again : {A : Type 0} (f : Field A) → IsField f → RowsAgain maybe_tag (maybe_fields f.spell) (MaybeFits f.Fits) (row_of (maybe_rows f))
maybe_again {A = A} f F None rest h = refl
maybe_again {A = A} f F (Some a) rest h = row_again (λ (v : A). Some v) F a rest h

pub maybe_law : {A : Type 0} {f : Field A} → IsField f → IsField (maybe f)
maybe_law {A = A} {f = f} F =
    let tag : Option A → ℕ = maybe_tag in
    let fields : Option A → List ℕ = maybe_fields f.spell in
    let Fits : Option A → Type 0 = MaybeFits f.Fits in
    let all : AllTake tag fields Fits (maybe_rows f) = (row_takes tag fields Fits 0 (λ u. None) nothing_law (λ u. refl) (λ u. refl) (λ u h. tt), (row_takes tag fields Fits 1 (λ a. Some a) F (λ a. refl) (λ a. refl) (λ a h. h), tt)) in
    tagged_law tag fields Fits (row_of (maybe_rows f)) (rows_take tag fields Fits (maybe_rows f) all) (maybe_again f F)

-- ---- bytes that are one field and nothing else

pub whole_takes : {A : Type 0} {f : Field A} → IsField f → (bytes : List ℕ) (a : A) → IsBytes bytes → whole f.at bytes ≡ Ok a → (bytes ≡ f.spell a) × f.Fits a
whole_takes {A = A} {f = f} F bytes a fits e =
    let r = bind_ok (f.at bytes) (λ x. cond (length x.1 == 0) (Ok x.0) (Err (length x.1))) a e in
    let p = passed_ok (length r.0.1 == 0) (length r.0.1) (Ok r.0.0) a r.2 in
    let t = F.takes bytes r.0 fits r.1 in
    let nothing_left : r.0.1 ≡ [] = nil_from_length r.0.1 (eqb-true _ _ p.0) in
    let is : bytes ≡ f.spell r.0.0 = t.0.parts ∙ ap (λ (l : List ℕ). f.spell r.0.0 ++ l) nothing_left ∙ append-nil (f.spell r.0.0) in
    subst (λ (b : A). (bytes ≡ f.spell b) × f.Fits b) (ok_is r.0.0 a p.1) (is, t.1)

pub whole_again : {A : Type 0} {f : Field A} → IsField f → (a : A) → f.Fits a → whole f.at (f.spell a) ≡ Ok a
whole_again {A = A} {f = f} F a fits =
    let all : f.at (f.spell a) ≡ Ok (a, []) = ap f.at (sym (append-nil (f.spell a))) ∙ F.again a [] fits in
    rw all refl
