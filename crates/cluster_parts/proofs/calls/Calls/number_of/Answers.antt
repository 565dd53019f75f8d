use Rattle.std.proofs.Common.{◌≡◌, ℕ, sym, ap, ◌∙◌}
use Rattle.std.specs.Prelude.{Option, None, Some, unwrap_or}
use Rattle.cluster_model.specs.World.{script_number}
use Rattle.cluster_parts.specs.CallIndex.{CallsView, calls_of, first_call}
use Rattle.cluster_parts.proofs.CallNumbers.{number_indexed}
use Rattle.cluster_parts.proofs.calls.Calls.number_of.Goals as goal

pub returns-in-Some : goal.returns-in-Some
returns-in-Some c =
    let cs = calls_of c.self.inside.items.items in
    let found : Some c.in-Some.number.now ≡ first_call cs 1 c.args.place c.args.call = c.in-Some.ensures.value ∙ c.self.invariant c.args.place c.args.call in
    ap (λ (o : Option ℕ). unwrap_or o 0) found ∙ sym (number_indexed cs 1 c.args.place c.args.call) ∙ ap (λ (v : CallsView). script_number v.calls 1 c.args.place c.args.call) c.self.view_is

pub returns-in-None : goal.returns-in-None
returns-in-None c =
    let cs = calls_of c.self.inside.items.items in
    let found : ◌≡◌ {A = Option ℕ} None (first_call cs 1 c.args.place c.args.call) = c.in-None.ensures.value ∙ c.self.invariant c.args.place c.args.call in
    ap (λ (o : Option ℕ). unwrap_or o 0) found ∙ sym (number_indexed cs 1 c.args.place c.args.call) ∙ ap (λ (v : CallsView). script_number v.calls 1 c.args.place c.args.call) c.self.view_is
