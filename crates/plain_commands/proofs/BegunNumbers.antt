-- The script's numbers of the calls that parts begin, and lists of turns that begin.
use Rattle.std.proofs.Common.{◌≡◌, ℕ, true, ◌+◌, List, [], ◌∷◌, ◌++◌, length, Option, None, Some, refl, sym, ap, ◌∙◌, inl, inr, arith, append_assoc}
use Rattle.std.specs.Prelude.{zero, suc, ◌==◌, ◌&&◌, map, slice_get}
use Rattle.std.proofs.lemmas.Bool.{and_parts, and_from, cond_both, cond-true, eqb-true, eq-eqb}
use Rattle.actor_names.specs.declared.member.Member.{Member}
use Rattle.actor_names.specs.declared.actor_key.ActorKey.{ActorKey}
use Rattle.turn_core.specs.CellSound.{In}
use Rattle.part_model.specs.Marks.{PartMark, TurnBegan, TurnEnded, BecameActive, BecameInactive, PartOpened, begun_calls}
use Rattle.cluster_model.specs.World.{CallPlace, TraceMark, call_at, next_number, script_number, tagged, the_call}
use Rattle.cluster_model.proofs.AskedLines.{the_call-some}
use Rattle.cluster_model.proofs.Histories.{some_same}
use Rattle.plain_commands.specs.Begins.{BegunTurn, AreInStep, begun_by, begun_in, listed}

-- ---- the number of a call that was taken

same_call : (c d : CallPlace) → c.place ≡ d.place → c.call ≡ d.call → c ≡ d
same_call c d a b = λ i. record { place = a i; call = b i }

script_number-at : (cs : List (Option CallPlace)) (n i : ℕ) (c : CallPlace) → slice_get cs i ≡ Some (Some c) → ((j : ℕ) → slice_get cs j ≡ Some (Some c) → j ≡ i) → script_number cs n c.place c.call ≡ n + i
script_number-at [] n i c at one = absurd (cc)
script_number-at (None ∷ cs) n zero c at one = absurd (cc)
script_number-at (None ∷ cs) n (suc i) c at one =
    let more = script_number-at cs (suc n) i c at (λ j e. let h = one (suc j) e in omega arith) in
    omega arith
script_number-at (Some d ∷ cs) n zero c at one =
    let s : d ≡ c = some_same d c (some_same (Some d) (Some c) at) in
    let test : ((d.place == c.place) && (d.call == c.call)) ≡ true = and_from _ _ (eq-eqb d.place c.place (ap (λ (z : CallPlace). z.place) s)) (eq-eqb d.call c.call (ap (λ (z : CallPlace). z.call) s)) in
    cond-true ((d.place == c.place) && (d.call == c.call)) n (script_number cs (suc n) c.place c.call) test ∙ (let z : n ≡ n + 0 = omega arith in z)
script_number-at (Some d ∷ cs) n (suc i) c at one =
    let more = script_number-at cs (suc n) i c at (λ j e. let h = one (suc j) e in omega arith) in
    cond_both ((d.place == c.place) && (d.call == c.call)) _ _ (λ (r : ℕ). r ≡ n + suc i)
    (λ t.
    let h = and_parts (d.place == c.place) (d.call == c.call) t in
    let s : d ≡ c = same_call d c (eqb-true d.place c.place h.0) (eqb-true d.call c.call h.1) in
    absurd (let z = one 0 (ap Some (ap Some s)) in omega arith))
    (λ _. omega arith)

-- if one number has the call, it is that number
pub script_number-is : (cs : List (Option CallPlace)) (number : ℕ) (c : CallPlace) → call_at cs number ≡ Some c → ((j : ℕ) → call_at cs j ≡ Some c → j ≡ number) → script_number cs 1 c.place c.call ≡ number
script_number-is cs zero c at one = absurd (cc)
script_number-is cs (suc i) c at one =
    let n = script_number-at cs 1 i c (the_call-some (slice_get cs i) c at) (λ j e. let h = one (suc j) (ap the_call e) in omega arith) in
    omega arith

-- ---- turns that begin in a part's marks

pub In-tags : (m : Member) (x : PartMark) (xs : List PartMark) → In x xs → In (record { member = m; what = x }) (tagged m xs)
In-tags m x [] i = absurd i
In-tags m x (y ∷ xs) (inl e) = inl (ap (λ (z : PartMark). let t : TraceMark = record { member = m; what = z } in t) e)
In-tags m x (y ∷ xs) (inr i) = inr (In-tags m x xs i)

pub begun_in-tagged : (m : Member) (xs : List PartMark) → length (begun_in (tagged m xs)) ≡ length (begun_calls xs)
begun_in-tagged m [] = refl
begun_in-tagged m (TurnBegan key call chain ∷ xs) = ap suc (begun_in-tagged m xs)
begun_in-tagged m (TurnEnded key call ∷ xs) = begun_in-tagged m xs
begun_in-tagged m (BecameActive key version ∷ xs) = begun_in-tagged m xs
begun_in-tagged m (BecameInactive key ∷ xs) = begun_in-tagged m xs
begun_in-tagged m (PartOpened number version ∷ xs) = begun_in-tagged m xs

-- if no call begins, no turn does
pub begun_in-none : (m : Member) (xs : List PartMark) → begun_calls xs ≡ [] → begun_in (tagged m xs) ≡ []
begun_in-none m [] e = refl
begun_in-none m (TurnBegan key call chain ∷ xs) e = absurd (cc)
begun_in-none m (TurnEnded key call ∷ xs) e = begun_in-none m xs e
begun_in-none m (BecameActive key version ∷ xs) e = begun_in-none m xs e
begun_in-none m (BecameInactive key ∷ xs) e = begun_in-none m xs e
begun_in-none m (PartOpened number version ∷ xs) e = begun_in-none m xs e

pub begun_in-append : (xs ys : List TraceMark) → begun_in (xs ++ ys) ≡ begun_in xs ++ begun_in ys
begun_in-append [] ys = refl
begun_in-append (x ∷ xs) ys = ap (λ (z : List BegunTurn). begun_by x.member x.what ++ z) (begun_in-append xs ys) ∙ sym (append_assoc (begun_by x.member x.what) (begun_in xs) (begun_in ys))

-- if each call that begins has a number, the numbers are in step with the turns
pub in_step : (IsNumber : ℕ → BegunTurn → Type 0) (number : ℕ → ℕ) (m : Member) (xs : List PartMark)
    → ((key : ActorKey) (call : ℕ) (chain : Option (List ℕ)) → In (TurnBegan key call chain) xs → IsNumber (number call) (record { member = m; key = key; call = call; chain = chain }))
    → AreInStep IsNumber (map number (begun_calls xs)) (begun_in (tagged m xs))
in_step IsNumber number m [] h = tt
in_step IsNumber number m (TurnBegan key call chain ∷ xs) h = (h key call chain (inl refl), in_step IsNumber number m xs (λ k n c i. h k n c (inr i)))
in_step IsNumber number m (TurnEnded key call ∷ xs) h = in_step IsNumber number m xs (λ k n c i. h k n c (inr i))
in_step IsNumber number m (BecameActive key version ∷ xs) h = in_step IsNumber number m xs (λ k n c i. h k n c (inr i))
in_step IsNumber number m (BecameInactive key ∷ xs) h = in_step IsNumber number m xs (λ k n c i. h k n c (inr i))
in_step IsNumber number m (PartOpened n version ∷ xs) h = in_step IsNumber number m xs (λ k n c i. h k n c (inr i))

-- the script's number of a next call, as a line prints it
pub listed-next : (cs : List (Option CallPlace)) (place : ℕ) (next : Option ℕ) → map (script_number cs 1 place) (listed next) ≡ listed (next_number cs place next)
listed-next cs place None = refl
listed-next cs place (Some n) = refl
