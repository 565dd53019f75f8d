use Rattle.std.proofs.Common.{◌≡◌, ℕ, ◌+◌, ◌<◌, ◌%◌, [], ◌∷◌, None, refl, ap, ◌∙◌, arith}
use Rattle.std.specs.Prelude.{zero, suc}
use Rattle.std.proofs.lemmas.Fmt.{decimal_digit}
use Rattle.std.proofs.lemmas.Bool.{false≢true}
use Rattle.actor_names.specs.Names.{node_fault}
use Rattle.world_drill.proofs.names.node_of.Goals as goal

named : (d : ℕ) → d < 4 → node_fault (110 ∷ (48 + d) ∷ []) ≡ None
named zero h = refl
named (suc zero) h = refl
named (suc (suc zero)) h = refl
named (suc (suc (suc zero))) h = refl
named (suc (suc (suc (suc d)))) h = absurd (omega arith)

pub unreachable-requires : goal.unreachable-requires
unreachable-requires c =
    let d = c.args.a % 4 in
    let l : d < 4 = omega arith in
    let e : node_fault c.marked.result ≡ None = ap node_fault (c.marked.ensures ∙ ap (λ t. 110 ∷ t) (decimal_digit d (omega arith))) ∙ named d l in
    let h = c.in-Err.ensures.refused in
    false≢true (rw e at h)
