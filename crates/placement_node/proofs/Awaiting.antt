-- The members that a round waits for, up to a place.
use Rattle.std.proofs.Common.{◌≡◌, ◌<◌, ◌≤◌, ◌+◌, ℕ, zero, suc, Bool, true, false, cond, List, [], ◌∷◌, ◌++◌, length, take, get_or, Some, refl, sym, ap, ◌∙◌, arith}
use Rattle.std.specs.List.{slice_get}
use Rattle.std.proofs.lemmas.List.{append-nil}
use Rattle.place_table.specs.declared.host.HostInfo.{HostInfo}
use Rattle.member_roster.specs.Members.{Joined, hosts_of}
use Rattle.placement_node.specs.declared.reply.Awaited.{Awaited}
use Rattle.placement_node.specs.Replies.{awaited, awaited_of}

one_more : (i : ℕ) → suc i ≡ i + 1
one_more i = omega arith

-- there is an element below the end
pub found : {A : Type 0} (xs : List A) (i : ℕ) → i < length xs → (x : A) × (slice_get xs i ≡ Some x)
found [] i lt = absurd (omega arith)
found (x ∷ xs) zero lt = (x, refl)
found (x ∷ xs) (suc i) lt = found xs i (omega arith)

abbrev only_if : Bool → Joined → List Awaited
only_if pending j = cond pending (awaited j.host ∷ []) []

awaited_suc : (js : List Joined) (i : ℕ) (j : Joined) → slice_get js i ≡ Some j → awaited_of (take (suc i) js) ≡ awaited_of (take i js) ++ only_if j.pending j
awaited_suc [] i j e = absurd cc
awaited_suc (x ∷ js) zero j e = let same : x ≡ j = cc in ap (λ (z : Joined). only_if z.pending z) same
awaited_suc (x ∷ js) (suc i) j e = go x.pending (awaited_suc js i j e)
  where
    go : (b : Bool) → awaited_of (take (suc i) js) ≡ awaited_of (take i js) ++ only_if j.pending j
        → cond b (awaited x.host ∷ awaited_of (take (suc i) js)) (awaited_of (take (suc i) js)) ≡ cond b (awaited x.host ∷ awaited_of (take i js)) (awaited_of (take i js)) ++ only_if j.pending j
    go true ih = ap (λ (l : List Awaited). awaited x.host ∷ l) ih
    go false ih = ih

awaited_next : (js : List Joined) (i : ℕ) (j : Joined) (b : Bool) → slice_get js i ≡ Some j → j.pending ≡ b → awaited_of (take i js) ++ only_if b j ≡ awaited_of (take (i + 1) js)
awaited_next js i j b e p = ap (λ (t : Bool). awaited_of (take i js) ++ only_if t j) (sym p) ∙ sym (awaited_suc js i j e) ∙ ap (λ (k : ℕ). awaited_of (take k js)) (one_more i)

-- the member at the place is awaited, or it isn't
pub awaited_more : (js : List Joined) (i : ℕ) (j : Joined) → slice_get js i ≡ Some j → j.pending ≡ true → awaited_of (take i js) ++ awaited j.host ∷ [] ≡ awaited_of (take (i + 1) js)
awaited_more js i j e p = awaited_next js i j true e p

pub awaited_kept : (js : List Joined) (i : ℕ) (j : Joined) → slice_get js i ≡ Some j → j.pending ≡ false → awaited_of (take i js) ≡ awaited_of (take (i + 1) js)
awaited_kept js i j e p = sym (append-nil (awaited_of (take i js))) ∙ awaited_next js i j false e p

pub awaited_all : (js : List Joined) (i : ℕ) → length js ≤ i → awaited_of (take i js) ≡ awaited_of js
awaited_all js i past = ap awaited_of (take_past js i past)
  where
    take_past : (xs : List Joined) (i : ℕ) → length xs ≤ i → take i xs ≡ xs
    take_past [] zero past = refl
    take_past [] (suc i) past = refl
    take_past (x ∷ xs) zero past = absurd (omega arith)
    take_past (x ∷ xs) (suc i) past = ap (λ (l : List Joined). x ∷ l) (take_past xs i (omega arith))

-- the host at a place is that of the member there
pub host_found : (js : List Joined) (i : ℕ) (j : Joined) (d : HostInfo) → slice_get js i ≡ Some j → get_or (hosts_of js) i d ≡ j.host
host_found [] i j d e = absurd cc
host_found (x ∷ js) zero j d e = let same : x ≡ j = cc in ap (λ (z : Joined). z.host) same
host_found (x ∷ js) (suc i) j d e = host_found js i j d e
