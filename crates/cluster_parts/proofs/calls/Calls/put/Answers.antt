use Rattle.std.proofs.Common.{◌≡◌, ◌+◌, ◌++◌, ◌∷◌, [], ℕ, List, sym, ap, ◌∙◌, length, arith, subst, cond}
use Rattle.std.specs.Prelude.{Option, None, Some}
use Rattle.std.specs.HashMap.{get}
use Rattle.cluster_model.specs.World.{CallPlace}
use Rattle.cluster_parts.specs.declared.calls.CallAt.{CallAt}
use Rattle.cluster_parts.specs.declared.calls.Calls.TheInside.{Inside}
use Rattle.cluster_parts.specs.CallIndex.{calls_of, first_call, same_pair, IsIndexed}
use Rattle.cluster_parts.proofs.CallNumbers.{indexed_put, indexed_keep, calls-push, length-calls, first_absent, first_present}
use Rattle.cluster_parts.proofs.calls.Calls.put.Goals.{then-is_none, else-is_none}
use Rattle.cluster_parts.proofs.calls.Calls.put.Goals as goal

pub invariant_of-self : goal.invariant_of-self
invariant_of-self c =
    let cs = calls_of c.self.inside.items.items in
    let after : List (Option CallPlace) = cs ++ Some (record { place = c.args.place; call = c.args.call }) ∷ [] in
    let pushed : calls_of c.push.new.self.items ≡ calls_of (c.if-is_none.self-inside.items.items ++ Some (record { place = c.args.place; call = c.args.call }) ∷ []) =
    ap (λ (xs : List (Option CallAt)). calls_of xs) (rw c.unwrap-2.ensures at c.push.ensures.items) in
    let one : Option CallAt = Some (record { place = c.args.place; call = c.args.call }) in
    let P : Inside → Type 0 = λ i. IsIndexed (calls_of (i.items.items ++ one ∷ [])) i.numbers in
    subst (λ (xs : List (Option CallPlace)). IsIndexed xs c.if-is_none.self-inside.numbers) (sym pushed)
    (elim c.if-is_none.branch [
      | then-is_none w ↦
          let absent : first_call cs 1 c.args.place c.args.call ≡ None = first_absent c.get.result _ w.if-is_none.ensures (c.get.ensures.value ∙ c.self.invariant c.args.place c.args.call) in
          let up = rw w.unwrap.ensures at w.insert-kept.ensures.updates in
          let number : c.len.result + 1 ≡ 1 + length cs = omega (arith, length-calls c.self.inside.items.items) in
          subst P (sym w.self-inside-is) (λ a b.
          indexed_put cs c.self.inside.numbers w.insert-kept.new.self c.args.place c.args.call c.self.invariant absent
          (λ k. up.0 k ∙ ap (λ (n : ℕ). cond (same_pair (c.args.place, c.args.call) k) (Some n) (get same_pair c.self.inside.numbers k)) number) a b
          ∙ ap (λ (xs : List (Option CallPlace)). first_call xs 1 a b) (sym (calls-push c.self.inside.items.items one)))
      | else-is_none w ↦
          let found = first_present c.get.result _ w.if-is_none.ensures (c.get.ensures.value ∙ c.self.invariant c.args.place c.args.call) in
          subst P (sym w.self-inside-is) (λ a b.
          indexed_keep cs c.self.inside.numbers c.args.place c.args.call found.0 c.self.invariant found.1 a b
          ∙ ap (λ (xs : List (Option CallPlace)). first_call xs 1 a b) (sym (calls-push c.self.inside.items.items one)))
    ])
