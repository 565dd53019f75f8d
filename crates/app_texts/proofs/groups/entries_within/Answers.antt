use Rattle.std.proofs.Common.{◌≡◌, ◌∙◌, ◌≤◌, ◌+◌, ap, sym, subst, ℕ, List, [], ◌∷◌, ◌++◌, Some, None, arith}
use Rattle.std.proofs.lemmas.Grind.{common_steps}
use Rattle.json_text.specs.Values.{item_at, count_in}
use Rattle.app_texts.specs.declared.config_key.ConfigKey.TheVariants.{EntitiesConfig}
use Rattle.app_texts.specs.TypeGroups.{TypeGroup}
use Rattle.app_texts.specs.Groups.{entry_reading, list_reading}
use Rattle.app_texts.proofs.Listed.{goes_on, fails_on, ends_early, ends, read_from}
use Rattle.app_texts.proofs.groups.entries_within.Goals as goal

pub returns-in_default-item : goal.returns-in_default-item
returns-in_default-item c =
    let none : item_at c.loop-index.index c.args.value.now ≡ None = sym c.item.ensures ∙ c.in_default-item.is in
    sym c.loop-index.invariant ∙ ends_early entry_reading c.args.value.now c.loop-index.index c.loop-index.groups.items none

pub loop-index-preserved : goal.loop-index-preserved
loop-index-preserved c =
    let there : item_at c.loop-index.index c.args.value.now ≡ Some c.in-Some-item.item = sym c.in-Some-item.ensures in
    let more = goes_on entry_reading c.args.value.now c.in-Some-item.item c.loop-index.index c.loop-index.groups.items c.in-Ok.group there c.in-Ok.ensures in
    let pushed : c.push.new.self.items ≡ c.loop-index.groups.items ++ c.in-Ok.group ∷ [] = grind (arith, common_steps) in
    subst (λ (xs : List TypeGroup). read_from entry_reading xs (c.loop-index.index + 1) c.args.value.now ≡ list_reading EntitiesConfig entry_reading c.args.value.now) (sym pushed) (sym more ∙ c.loop-index.invariant)

pub returns : goal.returns
returns c =
    let counted : count_in c.args.value.now ≡ Some c.in-Some.count = sym c.in-Some.ensures in
    let all : c.loop-index.index ≡ c.in-Some.count = omega arith in
    sym c.loop-index.invariant ∙ ap (λ (n : ℕ). read_from entry_reading c.loop-index.groups.items n c.args.value.now) all ∙ ends entry_reading c.args.value.now c.in-Some.count c.loop-index.groups.items counted

pub returns-in-Err : goal.returns-in-Err
returns-in-Err c = fails_on entry_reading c.args.value.now c.in-Some-item.item c.loop-index.index c.loop-index.groups.items _ c.in-Err.fault c.loop-index.invariant (sym c.in-Some-item.ensures) c.in-Err.ensures
