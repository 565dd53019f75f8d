use Rattle.std.proofs.Common.{◌≡◌, ◌++◌, ◌∷◌, [], ℕ, List, length, sym, ap, ◌∙◌, arith}
use Rattle.std.specs.Prelude.{Option, None, Some, MatchOption}
use Rattle.cluster_model.specs.Messages.{Message, Asks}
use Rattle.world_run.specs.declared.kept.Kept.{Kept}
use Rattle.world_run.specs.Post.{PostView, told_tables}
use Rattle.world_run.proofs.Posts.{Withdrawn, withdrawn, snoc_same}
use Rattle.world_run.proofs.post.Post.withdraw.Goals as goal

empty : (o : Option Kept) (a b : ℕ) (P : Type 0) (Q : Kept → Type 0) → MatchOption o ((a ≡ 0) × P) Q → b ≡ a → MatchOption o (b ≡ 0) (λ _. Unit {0})
empty None a b P Q h e = e ∙ h.0
empty (Some x) a b P Q h e = tt

taken : (c : goal.Joined-pop) (front : List Message) → c.args.self.now.messages ≡ front ++ Asks c.requires.1.0 ∷ [] → Withdrawn (told_tables c.self.inside.tables.items c.self.inside.pending c.self.inside.placement.state) c.self.inside.last c.pop.new.self.items front
taken c front e =
    withdrawn (told_tables c.self.inside.tables.items c.self.inside.pending c.self.inside.placement.state) c.self.inside.last c.self.inside.messages.items c.pop.new.self.items c.pop.result front c.requires.1.0 c.self.invariant
    (ap (λ (v : PostView). v.messages) c.self.view_is ∙ e) c.pop.ensures.items (empty c.pop.result _ (length c.self.inside.messages.items) _ _ c.pop.ensures.cases (omega (arith, c.self.inside.messages.ok.0)))

pub invariant_of-self : goal.invariant_of-self
invariant_of-self c = (taken c c.requires.0 c.requires.1.1).kept

pub returns : goal.returns
returns c ms x e =
    let same = snoc_same ms c.requires.0 x (Asks c.requires.1.0) (sym e ∙ c.requires.1.1) in
    let messages = (taken c c.requires.0 c.requires.1.1).messages ∙ sym same.0 in
    (λ i. record { placement = (c.self.view_is i).placement; messages = messages i })
