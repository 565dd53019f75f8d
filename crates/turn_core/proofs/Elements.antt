-- Elements of lists with one element less.
use Rattle.std.proofs.Common.{◌≡◌, ℕ, ◌≤◌, List, [], ◌∷◌, length, refl, ap, inl, inr, arith}
use Rattle.std.specs.Prelude.{◌==◌}
use Rattle.std.proofs.lemmas.Bool.{cond_both, eqb-true}
use Rattle.turn_core.specs.declared.cell.Turn.{Turn}
use Rattle.turn_core.specs.declared.cell.Waiter.{Waiter}
use Rattle.turn_core.specs.Cell.{without_turn, without_waiter, without_first_unmoved, all_moved}
use Rattle.turn_core.specs.CellSound.{In}
pub use Rattle.lists_and_limits.proofs.Elements.{In-left, In-last, In-push}

pub In-without_turn : (call : ℕ) (ts : List Turn) (t : Turn) → In t (without_turn call ts) → In t ts
In-without_turn call [] t h = h
In-without_turn call (u ∷ ts) t h =
    let more = In-without_turn call ts t in
    cond_both (call == u.call) _ _ (λ r. In t r → In t (u ∷ ts)) (λ _ i. inr i) (λ _. elim [ inl e ↦ inl e | inr i ↦ inr (more i) ]) h

-- the turn of another call stays
pub In-without_other : (call : ℕ) (ts : List Turn) (t : Turn) → (call ≡ t.call → ⊥) → In t ts → In t (without_turn call ts)
In-without_other call [] t other h = h
In-without_other call (u ∷ ts) t other h =
    let more = In-without_other call ts t other in
    cond_both (call == u.call) _ _ (λ r. In t r)
    (λ same. elim h [ inl e ↦ absurd (other (let p = eqb-true call u.call same in let q = ap (λ (z : Turn). z.call) e in cc)) | inr i ↦ i ])
    (λ _. elim h [ inl e ↦ inl e | inr i ↦ inr (more i) ])

pub length-without_turn : (call : ℕ) (ts : List Turn) → length (without_turn call ts) ≤ length ts
length-without_turn call [] = omega arith
length-without_turn call (u ∷ ts) =
    let more = length-without_turn call ts in
    cond_both (call == u.call) _ _ (λ r. length r ≤ length (u ∷ ts)) (λ _. omega arith) (λ _. omega arith)

pub In-without_waiter : (call : ℕ) (ws : List Waiter) (w : Waiter) → In w (without_waiter call ws) → In w ws
In-without_waiter call [] w h = h
In-without_waiter call (v ∷ ws) w h =
    let more = In-without_waiter call ws w in
    cond_both (call == v.call) _ _ (λ r. In w r → In w (v ∷ ws)) (λ _ i. inr i) (λ _. elim [ inl e ↦ inl e | inr i ↦ inr (more i) ]) h

pub In-without_first : (ws : List Waiter) (w : Waiter) → In w (without_first_unmoved ws) → In w ws
In-without_first [] w h = h
In-without_first (v ∷ ws) w h =
    let more = In-without_first ws w in
    cond_both v.moved _ _ (λ r. In w r → In w (v ∷ ws)) (λ _. elim [ inl e ↦ inl e | inr i ↦ inr (more i) ]) (λ _ i. inr i) h

pub chain-all_moved : (ws : List Waiter) (w : Waiter) → In w (all_moved ws) → (v : Waiter) × In v ws × (v.chain ≡ w.chain)
chain-all_moved [] w i = absurd i
chain-all_moved (v ∷ ws) w (inl e) = (v, inl refl, let q = ap (λ (z : Waiter). z.chain) e in cc)
chain-all_moved (v ∷ ws) w (inr i) = let m = chain-all_moved ws w i in (m.0, inr m.1, m.2)
