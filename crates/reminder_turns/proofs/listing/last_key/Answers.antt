use Rattle.std.proofs.Common.{◌≡◌, ◌∙◌, List, [], ◌∷◌, length, None, sym, ap, arith}
use Rattle.frame_wire.specs.declared.store_answer.DueEntry.{DueEntry}
use Rattle.reminder_turns.specs.Outcomes.{last_key}
use Rattle.reminder_turns.proofs.Pages.{last_key-push}
use Rattle.reminder_turns.proofs.listing.last_key.Goals as goal

none_key : (items entries : List DueEntry) → items ≡ entries → length items ≡ 0 → None ≡ last_key entries
none_key [] entries is e = ap (λ (xs : List DueEntry). last_key xs) is
none_key (x ∷ items) entries is e = absurd (omega arith)

pub returns-in-None : goal.returns-in-None
returns-in-None c =
    let none = rw c.in-None.is at c.pop.ensures.cases in
    let empty = none.0 in
    let short : length c.into_vec-entries.result.items ≡ 0 = omega arith in
    none_key _ c.args.entries c.into_vec-entries.ensures short

pub returns : goal.returns
returns c =
    let popped = rw c.in-Some.is at c.pop.ensures.items in
    sym (ap (λ (xs : List DueEntry). last_key xs) (sym c.into_vec-entries.ensures ∙ popped) ∙ last_key-push c.pop.new.self.items c.in-Some.last)
