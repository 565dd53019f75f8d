-- The depths of types against the places of the types.
use Rattle.std.proofs.Common.{◌≡◌, ℕ, Bool, true, false, List, [], ◌∷◌, ◌++◌, length, get_or, Option, None, Some, is_some, refl, ap, arith}
use Rattle.std.specs.Str.{bytes_eq}
use Rattle.solo_run.specs.Interner.{place_in}
use Rattle.solo_run.specs.World.{depth_of, has_depth}
use Rattle.solo_run.specs.TypesTold.{depths_told}
use Rattle.solo_run.proofs.PlaceLemmas.{place_cases, no_place_cases}

pub depth_of-place : (kind : List ℕ) (kinds : List (List ℕ)) (depths : List ℕ) (i d : ℕ) → length depths ≡ length kinds → place_in kind kinds ≡ Some i
    → depth_of kind (depths_told kinds depths) ≡ get_or depths i d
depth_of-place kind [] depths i d each h = absurd (cc)
depth_of-place kind (k ∷ ks) [] i d each h = absurd (omega arith)
depth_of-place kind (k ∷ ks) (x ∷ xs) i d each h =
    place_cases kind k ks i (depth_of kind (depths_told (k ∷ ks) (x ∷ xs)) ≡ get_or (x ∷ xs) i d) h
    (λ e z. rw (e, z))
    (λ b. rw (b.other, b.shift) (depth_of-place kind ks xs b.place d (omega arith) b.here))

pub depth_of-none : (kind : List ℕ) (kinds : List (List ℕ)) (depths : List ℕ) → place_in kind kinds ≡ None → depth_of kind (depths_told kinds depths) ≡ 0
depth_of-none kind [] depths h = refl
depth_of-none kind (k ∷ ks) [] h = refl
depth_of-none kind (k ∷ ks) (x ∷ xs) h =
    no_place_cases kind k ks (depth_of kind (depths_told (k ∷ ks) (x ∷ xs)) ≡ 0) h (λ e p. rw e (depth_of-none kind ks xs p))

pub has_depth-place : (kind : List ℕ) (kinds : List (List ℕ)) (depths : List ℕ) → length depths ≡ length kinds → has_depth kind (depths_told kinds depths) ≡ is_some (place_in kind kinds)
has_depth-place kind [] depths each = refl
has_depth-place kind (k ∷ ks) [] each = absurd (omega arith)
has_depth-place kind (k ∷ ks) (x ∷ xs) each = by (bytes_eq kind k) refl (place_in kind ks) refl (has_depth-place kind ks xs (omega arith))
  where
    by : (b : Bool) → bytes_eq kind k ≡ b → (r : Option ℕ) → place_in kind ks ≡ r → has_depth kind (depths_told ks xs) ≡ is_some (place_in kind ks)
        → has_depth kind (depths_told (k ∷ ks) (x ∷ xs)) ≡ is_some (place_in kind (k ∷ ks))
    by true e r p ih = rw e
    by false e None p ih = rw (e, ih, p)
    by false e (Some n) p ih = rw (e, ih, p)

pub depths_told-push : (kinds : List (List ℕ)) (depths : List ℕ) (kind : List ℕ) (depth : ℕ) → length depths ≡ length kinds
    → depths_told (kinds ++ kind ∷ []) (depths ++ depth ∷ []) ≡ depths_told kinds depths ++ record { kind = kind; depth = depth } ∷ []
depths_told-push [] [] kind depth each = refl
depths_told-push [] (x ∷ xs) kind depth each = absurd (omega arith)
depths_told-push (k ∷ ks) [] kind depth each = absurd (omega arith)
depths_told-push (k ∷ ks) (x ∷ xs) kind depth each = ap (λ rest. record { kind = k; depth = x } ∷ rest) (depths_told-push ks xs kind depth (omega arith))
