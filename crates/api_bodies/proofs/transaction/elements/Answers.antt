use Rattle.std.proofs.Common.{◌≡◌, ◌<◌, List, [], ◌∷◌, ◌++◌, length, Some, sym, ap, ◌∙◌, arith}
use Rattle.json_text.specs.Values.{JsonValue, item_at}
use Rattle.api_bodies.specs.Transactions.{elements}
use Rattle.api_bodies.proofs.Elements.{array-counted, item-there, take-elements}
use Rattle.api_bodies.proofs.transaction.elements.Goals as goal

pub loop-index-init : goal.loop-index-init
loop-index-init c =
    record {
      taken = c.new-items.ensures.items;
      many = (array-counted c.args.whole.now c.in-Some.count (sym c.in-Some.ensures)).1;
    }

pub unwrap-item-requires : goal.unwrap-item-requires
unwrap-item-requires c =
    let below : c.loop-index.index < length (elements c.args.whole.now) = omega (arith, c.loop-index.invariant.many, c.loop-index-test.true) in
    rw c.item.ensures (item-there c.args.whole.now c.loop-index.index below)

pub loop-index-preserved : goal.loop-index-preserved
loop-index-preserved c =
    let found : item_at c.loop-index.index c.args.whole.now ≡ Some c.unwrap-item.result = sym c.item.ensures ∙ c.unwrap-item.ensures in
    let one_more = take-elements c.args.whole.now c.loop-index.index c.unwrap-item.result found in
    let pushed : c.push.new.self.items ≡ c.loop-index.items.items ++ c.unwrap-item.result ∷ [] = c.in_ok-push.ensures.items in
    record {
      taken = pushed ∙ ap (λ (xs : List JsonValue). xs ++ c.unwrap-item.result ∷ []) c.loop-index.invariant.taken ∙ sym one_more;
      many = c.loop-index.invariant.many;
    }
