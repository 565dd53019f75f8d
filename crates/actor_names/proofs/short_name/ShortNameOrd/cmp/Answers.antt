use Rattle.std.proofs.Common.{◌∙◌, sym}
use Rattle.actor_names.proofs.SameTexts.{same_texts_equal}
use Rattle.actor_names.proofs.short_name.ShortNameOrd.cmp.Goals as goal

pub returns-then-eq : goal.returns-then-eq
returns-then-eq g c = same_texts_equal c.args.self.now c.args.other.now (sym c.eq.ensures ∙ c.if-eq.true)
