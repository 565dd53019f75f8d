use Rattle.std.proofs.Common.{◌≡◌, ◌++◌, ℕ, List, None, ◌∙◌, sym, subst, arith, IfOk}
use Rattle.actor_names.specs.Names.{chain_id_fault, node_fault, HasForm}
use Rattle.part_core.proofs.MadeChains.{chain_formed}
use Rattle.part_core.proofs.chains.made_chain.Goals as goal

pub chain_in-requires : goal.chain_in-requires
chain_in-requires c =
    let node = c.in_ok-text.ensures.items ∙ c.as_slice.ensures.value in
    let rest = c.as_bytes.ensures.value ∙ c.in_ok-numbers.ensures.ok in
    let form = subst (λ (t : List ℕ). HasForm node_fault t) c.as_slice.ensures.value c.as_slice.ensures.form in
    subst (λ (t : List ℕ). chain_id_fault t ≡ None)
    (sym (c.as_slice-2.ensures.value ∙ c.in_ok-extend_from_slice.ensures.items ∙ (λ i. node i ++ rest i)))
    (chain_formed c.args.member.now c.args.part c.args.n form (omega arith) (omega arith) (omega arith))

pub returns : goal.returns
returns c =
    let node = c.in_ok-text.ensures.items ∙ c.as_slice.ensures.value in
    let rest = c.as_bytes.ensures.value ∙ c.in_ok-numbers.ensures.ok in
    subst (λ (t : List ℕ). IfOk c.chain_in.result (λ chain. chain ≡ t))
    (c.as_slice-2.ensures.value ∙ c.in_ok-extend_from_slice.ensures.items ∙ (λ i. node i ++ rest i))
    c.chain_in.ensures
