-- The place of a call that a part began among the calls of the script.
use Rattle.std.proofs.Common.{◌≡◌, ◌≢◌, ℕ, ◌+◌, ◌-◌, ◌<◌, ◌≤◌, Bool, true, false, cond, List, [], ◌∷◌, ◌++◌, length, get_or, Option, None, Some, refl, sym, ap, ◌∙◌, subst, arith, Bor}
use Rattle.std.specs.Prelude.{zero, suc, ◌&&◌, ◌==◌, slice_get, option_map, unwrap_or, is_some}
use Rattle.std.specs.Option.{option_copied}
use Rattle.std.specs.HashMap.{HashMap, get}
use Rattle.std.proofs.lemmas.Bool.{and_parts, eqb-true}
use Rattle.std.proofs.lemmas.Option.{slice_get-get_or}
use Rattle.cluster_model.specs.World.{CallPlace, script_number, the_call, call_at}
use Rattle.cluster_parts.specs.declared.calls.CallAt.{CallAt}
use Rattle.cluster_parts.specs.CallIndex.{call_place, calls_of, first_call, same_pair, IsIndexed}

or_else : Option ℕ → Option ℕ → Option ℕ
or_else None b = b
or_else (Some a) b = Some a

calls-slice_get : (cs : List (Option CallAt)) (n : ℕ) → slice_get (calls_of cs) n ≡ option_map (option_map call_place) (slice_get cs n)
calls-slice_get [] n = refl
calls-slice_get (c ∷ cs) zero = refl
calls-slice_get (c ∷ cs) (suc n) = calls-slice_get cs n

pub call_found : (cs : List (Option CallAt)) (call : ℕ) (x : Option CallAt) → call ≢ 0 → call ≤ length cs → x ≡ get_or cs (call - 1) x → option_map call_place x ≡ call_at (calls_of cs) call
call_found cs zero x some within e = absurd (some refl)
call_found cs (suc n) x some within e =
    let less : suc n - 1 ≡ n = omega arith in
    let at : x ≡ get_or cs n x = subst (λ (k : ℕ). x ≡ get_or cs k x) less e in
    let here : slice_get cs n ≡ Some x = slice_get-get_or cs n x (omega arith) ∙ ap (λ (y : Option CallAt). Some y) (sym at) in
    sym (ap the_call (calls-slice_get cs n ∙ ap (λ (y : Option (Option CallAt)). option_map (option_map call_place) y) here))

pub no_call : (cs : List (Option CallAt)) (call : ℕ) → call ≡ 0 → call_at (calls_of cs) call ≡ None
no_call cs zero e = refl
no_call cs (suc n) e = absurd (omega arith)

pub call_past : (cs : List (Option CallAt)) (call : ℕ) → length cs < call → call_at (calls_of cs) call ≡ None
call_past cs zero e = refl
call_past cs (suc n) e = ap the_call (calls-slice_get cs n ∙ ap (λ (y : Option (Option CallAt)). option_map (option_map call_place) y) (past cs n (omega arith)))
  where
    past : (cs : List (Option CallAt)) (n : ℕ) → length cs ≤ n → slice_get cs n ≡ None
    past [] n l = refl
    past (c ∷ cs) zero l = absurd (omega arith)
    past (c ∷ cs) (suc n) l = past cs n (omega arith)

first_call-append : (cs : List (Option CallPlace)) (x : Option CallPlace) (n p q : ℕ) → first_call (cs ++ x ∷ []) n p q ≡ or_else (first_call cs n p q) (first_call (x ∷ []) (n + length cs) p q)
unfolding or_else
first_call-append [] x n p q = ap (λ (k : ℕ). first_call (x ∷ []) k p q) (omega arith)
first_call-append (None ∷ cs) x n p q = first_call-append cs x (suc n) p q ∙ ap (λ (k : ℕ). or_else (first_call cs (suc n) p q) (first_call (x ∷ []) k p q)) (omega arith)
first_call-append (Some c ∷ cs) x n p q = go (first_call-append cs x (suc n) p q) ((c.place == p) && (c.call == q))
  where
    go : first_call (cs ++ x ∷ []) (suc n) p q ≡ or_else (first_call cs (suc n) p q) (first_call (x ∷ []) (suc n + length cs) p q) → (t : Bool) → cond t (Some n) (first_call (cs ++ x ∷ []) (suc n) p q) ≡ or_else (cond t (Some n) (first_call cs (suc n) p q)) (first_call (x ∷ []) (n + suc (length cs)) p q)
    go more true = refl
    go more false = more ∙ ap (λ (k : ℕ). or_else (first_call cs (suc n) p q) (first_call (x ∷ []) k p q)) (omega arith)

-- the number of the script is that of the index, 0 if there is none
pub number_indexed : (cs : List (Option CallPlace)) (n p q : ℕ) → script_number cs n p q ≡ unwrap_or (first_call cs n p q) 0
number_indexed [] n p q = refl
number_indexed (None ∷ cs) n p q = number_indexed cs (suc n) p q
number_indexed (Some c ∷ cs) n p q = go (number_indexed cs (suc n) p q) ((c.place == p) && (c.call == q))
  where
    go : script_number cs (suc n) p q ≡ unwrap_or (first_call cs (suc n) p q) 0 → (t : Bool) → cond t n (script_number cs (suc n) p q) ≡ unwrap_or (cond t (Some n) (first_call cs (suc n) p q)) 0
    go more true = refl
    go more false = more

or_none : (a : Option ℕ) → or_else a None ≡ a
unfolding or_else
or_none None = refl
or_none (Some a) = refl

-- a call that was refused is in no index
pub indexed_none : {S : Type 0} (cs : List (Option CallPlace)) (m : HashMap (ℕ × ℕ) ℕ S) → IsIndexed cs m → IsIndexed (cs ++ None ∷ []) m
unfolding or_else
indexed_none cs m h p q = h p q ∙ sym (first_call-append cs None 1 p q ∙ or_none (first_call cs 1 p q))

same_first : (cs : List (Option CallPlace)) (p q a b : ℕ) → same_pair (p, q) (a, b) ≡ true → first_call cs 1 a b ≡ first_call cs 1 p q
same_first cs p q a b t = (let h = and_parts (p == a) (q == b) t in ap (λ (x : ℕ). first_call cs 1 x b) (sym (eqb-true p a h.0)) ∙ ap (λ (x : ℕ). first_call cs 1 p x) (sym (eqb-true q b h.1)))

-- a call that isn't in the index is put there
pub indexed_put : {S : Type 0} (cs : List (Option CallPlace)) (m n : HashMap (ℕ × ℕ) ℕ S) (p q : ℕ) → IsIndexed cs m → first_call cs 1 p q ≡ None →
    ((k : ℕ × ℕ) → get same_pair n k ≡ cond (same_pair (p, q) k) (Some (1 + length cs)) (get same_pair m k)) → IsIndexed (cs ++ Some (record { place = p; call = q }) ∷ []) n
unfolding or_else
indexed_put cs m n p q h absent puts a b = puts (a, b) ∙ ap (λ (o : Option ℕ). cond (same_pair (p, q) (a, b)) (Some (1 + length cs)) o) (h a b) ∙ go (same_pair (p, q) (a, b)) refl ∙ sym (first_call-append cs (Some (record { place = p; call = q })) 1 a b)
  where
    go : (t : Bool) → same_pair (p, q) (a, b) ≡ t → cond t (Some (1 + length cs)) (first_call cs 1 a b) ≡ or_else (first_call cs 1 a b) (cond t (Some (1 + length cs)) None)
    go true e = sym (ap (λ (o : Option ℕ). or_else o (Some (1 + length cs))) (same_first cs p q a b e ∙ absent))
    go false e = sym (or_none (first_call cs 1 a b))

-- one that is there stays
pub indexed_keep : {S : Type 0} (cs : List (Option CallPlace)) (m : HashMap (ℕ × ℕ) ℕ S) (p q k : ℕ) → IsIndexed cs m → first_call cs 1 p q ≡ Some k → IsIndexed (cs ++ Some (record { place = p; call = q }) ∷ []) m
unfolding or_else
indexed_keep cs m p q k h present a b = h a b ∙ go (same_pair (p, q) (a, b)) refl ∙ sym (first_call-append cs (Some (record { place = p; call = q })) 1 a b)
  where
    go : (t : Bool) → same_pair (p, q) (a, b) ≡ t → first_call cs 1 a b ≡ or_else (first_call cs 1 a b) (cond t (Some (1 + length cs)) None)
    go true e = (let s = same_first cs p q a b e ∙ present in s ∙ sym (ap (λ (o : Option ℕ). or_else o (Some (1 + length cs))) s))
    go false e = sym (or_none (first_call cs 1 a b))

pub length-calls : (cs : List (Option CallAt)) → length (calls_of cs) ≡ length cs
length-calls [] = refl
length-calls (c ∷ cs) = ap (λ (n : ℕ). suc n) (length-calls cs)

pub calls-push : (cs : List (Option CallAt)) (x : Option CallAt) → calls_of (cs ++ x ∷ []) ≡ calls_of cs ++ option_map call_place x ∷ []
calls-push [] x = refl
calls-push (c ∷ cs) x = ap (λ (ds : List (Option CallPlace)). option_map call_place c ∷ ds) (calls-push cs x)

none_copied : (o : Option (Bor ℕ)) → is_some o ≡ false → option_copied o ≡ None
none_copied None e = refl
none_copied (Some b) e = absurd (cc)

-- what was found absent is absent
pub first_absent : (o : Option (Bor ℕ)) (b : Option ℕ) → is_some o ≡ false → option_copied o ≡ b → b ≡ None
first_absent o b e f = sym f ∙ none_copied o e

some_copied : (o : Option (Bor ℕ)) → is_some o ≡ true → (k : ℕ) × (option_copied o ≡ Some k)
some_copied None e = absurd (cc)
some_copied (Some b) e = (b.now, refl)

pub first_present : (o : Option (Bor ℕ)) (b : Option ℕ) → is_some o ≡ true → option_copied o ≡ b → (k : ℕ) × (b ≡ Some k)
first_present o b e f = (let h = some_copied o e in (h.0, sym f ∙ h.1))
