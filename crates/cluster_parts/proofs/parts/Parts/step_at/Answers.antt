use Rattle.std.proofs.Common.{◌≡◌, ◌<◌, ◌+◌, ℕ, List, length, set, Some, sym, ap, refl, ◌∙◌, subst, arith}
use Rattle.std.proofs.lemmas.List.{length-map}
use Rattle.std.proofs.lemmas.Option.{slice_get-get_or}
use Rattle.part_model.specs.Part.{PartState}
use Rattle.part_model.specs.Rooms.{PartView}
use Rattle.cluster_parts.specs.declared.tally.Tally.{Tally}
use Rattle.cluster_parts.specs.Views.{PartsView, state_in, states_of, capped, tally_of, is_ended, closes, StepsAt}
use Rattle.cluster_parts.proofs.Steps.{steps_at, step_laid, written}
use Rattle.cluster_parts.proofs.parts.Parts.step_at.Goals as goal

within : (vs : List PartView) (old : PartsView) (at : ℕ) → old.parts ≡ states_of vs → at < length old.parts → at < length vs
within vs old at e l = subst (λ (n : ℕ). at < n) (ap (λ (ps : List PartState). length ps) e ∙ length-map vs state_in) l

pub invariant_of-self : goal.invariant_of-self
invariant_of-self c =
    let v : PartView = c.index_mut-part.result.now in
    let vs = c.self.inside.items.items in
    let l = within vs c.args.self.now c.args.at (ap (λ (z : PartsView). z.parts) (sym c.self.view_is)) c.requires.place in
    let here = slice_get-get_or vs c.args.at v l ∙ ap (λ (u : PartView). Some u) (sym c.index_mut-part.ensures.value) in
    step_laid c.self.inside.per c.self.inside.homes.items c.args.event c.step-reply.result vs c.args.at v c.step-reply.new.self c.self.invariant here c.step-reply.ensures.gives c.step-reply.ensures.sound

pub returns-clause-step : goal.returns-clause-step
returns-clause-step c p e =
    let v : PartView = c.index_mut-part.result.now in
    let vs = c.self.inside.items.items in
    let l = within vs c.args.self.now c.args.at (ap (λ (z : PartsView). z.parts) (sym c.self.view_is)) c.requires.place in
    let here = slice_get-get_or vs c.args.at v l ∙ ap (λ (u : PartView). Some u) (sym c.index_mut-part.ensures.value) in
    let old : PartsView = record { per = c.self.inside.per; boots = length c.self.inside.homes.items; parts = states_of vs; begun = c.self.inside.begun; ended = c.self.inside.ended } in
    let t : Tally = tally_of (closes c.args.event) (is_ended c.step-reply.result) (length c.step-reply.new.self.recent) in
    let s : StepsAt c.args.event c.step-reply.result c.args.at old (written old (states_of (set vs c.args.at c.step-reply.new.self)) t) =
    steps_at c.args.event c.step-reply.result c.args.at old vs v c.step-reply.new.self refl (omega arith) (omega arith) here c.step-reply.ensures.gives in
    let tally : c.tally_of-tally.result ≡ t =
    c.tally_of-tally.ensures ∙ (λ i. tally_of (c.closes-closes.ensures i) (is_ended c.step-reply.result) (length (c.calls.ensures i))) in
    let begun : c.saturating_add-self-inside.result ≡ capped (old.begun + t.began) = c.saturating_add-self-inside.ensures ∙ ap (λ (z : Tally). capped (old.begun + z.began)) tally in
    let ended : c.saturating_add-self-inside-2.result ≡ capped (old.ended + t.ended) = c.saturating_add-self-inside-2.ensures ∙ ap (λ (z : Tally). capped (old.ended + z.ended)) tally in
    let new : PartsView = record old { parts = states_of (set vs c.args.at c.step-reply.new.self); begun = c.saturating_add-self-inside.result; ended = c.saturating_add-self-inside-2.result } in
    let same : written old (states_of (set vs c.args.at c.step-reply.new.self)) t ≡ new = (λ i. record old { parts = states_of (set vs c.args.at c.step-reply.new.self); begun = sym begun i; ended = sym ended i }) in
    subst (λ (o : PartsView). StepsAt c.args.event c.step-reply.result c.args.at o new) c.self.view_is
    (subst (λ (n : PartsView). StepsAt c.args.event c.step-reply.result c.args.at old n) same s) p e
