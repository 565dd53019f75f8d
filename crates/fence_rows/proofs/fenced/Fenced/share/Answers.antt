use Rattle.std.proofs.Common.{◌≡◌, true, List, sym, subst, ◌∙◌}
use Rattle.store_core.specs.Store.{StoreState}
use Rattle.store_core.specs.Lists.{AnswersAll}
use Rattle.fence_rows.specs.declared.event.FencedEvent.{FencedEvent}
use Rattle.fence_rows.specs.Together.{are_commands, fence_rules}
use Rattle.fence_rows.proofs.Lists.{may_share}
use Rattle.fence_rows.proofs.fenced.Fenced.share.Goals as goal

pub commands-requires-clause-may : goal.commands-requires-clause-may
commands-requires-clause-may g c =
    may_share c.args.asks.now.items c.requires.asks
    (subst (λ (xs : List FencedEvent). are_commands xs ≡ true) c.as_slice.ensures.value (sym c.are_commands.ensures ∙ c.if-not-are_commands.false))

pub returns-clause-shares : goal.returns-clause-shares
returns-clause-shares g c shares = record {
  all = subst (λ (s : StoreState). AnswersAll fence_rules s c.args.asks.now.items c.commands.new.answers.items c.commands.new.self) c.self.view_is (c.commands.ensures.answers shares);
  may =
      may_share c.args.asks.now.items c.requires.asks
      (subst (λ (xs : List FencedEvent). are_commands xs ≡ true) c.as_slice.ensures.value (sym c.are_commands.ensures ∙ c.if-not-are_commands.false));
  short = c.commands.ensures.short shares;
  fits = c.commands.ensures.fits;
}
