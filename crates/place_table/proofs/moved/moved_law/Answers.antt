use Rattle.std.proofs.Common.{◌≡◌, ◌≢◌, ◌↔◌, sym, ◌∙◌, subst, List, [], ◌∷◌, ◌++◌, IsTrue, IsPermutation}
use Rattle.place_table.specs.declared.host.HostInfo.{HostInfo}
use Rattle.place_table.specs.Hosts.{given_owner}
use Rattle.place_table.proofs.Moves.{given_permuted, given_to_new, moves_same}
use Rattle.place_table.proofs.moved.moved_law.Goals as goal

differ : (c : goal.After-drop-before-inside-2) → IsTrue c.has_moved.result ↔ (given_owner c.args.space.now (c.args.hosts.now ++ c.args.more.now ∷ []) c.args.key.now ≢ given_owner c.args.space.now c.args.hosts.now c.args.key.now)
differ c =
    let both : c.as_slice.result.now ≡ c.args.hosts.now ++ c.args.more.now ∷ [] = c.as_slice.ensures.value ∙ c.in_ok-both.ensures in
    let larger : IsPermutation (c.args.hosts.now ++ c.args.more.now ∷ []) c.in_ok-after.after.hosts = subst (λ (hs : List HostInfo). IsPermutation hs c.in_ok-after.after.hosts) both c.in_ok-after.ensures.hosts in
    moves_same (given_owner c.in_ok-after.after.space c.in_ok-after.after.hosts c.args.key.now) _ (given_owner c.in_ok-before.before.space c.in_ok-before.before.hosts c.args.key.now) _
    (sym (given_permuted c.args.space.now c.in_ok-after.after.space (c.args.hosts.now ++ c.args.more.now ∷ []) c.in_ok-after.after.hosts c.args.key.now (sym c.in_ok-after.ensures.space) larger))
    (sym (given_permuted c.args.space.now c.in_ok-before.before.space c.args.hosts.now c.in_ok-before.before.hosts c.args.key.now (sym c.in_ok-before.ensures.space) c.in_ok-before.ensures.hosts))
    c.has_moved.ensures

pub returns-clause-moved : goal.returns-clause-moved
returns-clause-moved c = differ c

pub returns-clause-law : goal.returns-clause-law
returns-clause-law c = λ moved. given_to_new c.args.space.now c.args.hosts.now c.args.more.now c.args.key.now ((differ c).0 moved)
