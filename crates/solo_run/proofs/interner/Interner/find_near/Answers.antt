use Rattle.std.proofs.Common.{◌≡◌, ℕ, List, map, Some, sym, ap, ◌∙◌}
use Rattle.std.specs.Option.{option_map}
use Rattle.std.specs.List.{slice_get}
use Rattle.std.proofs.lemmas.Option.{slice_get-map}
use Rattle.std.proofs.lemmas.Slice.Eq.{bytes_eq-Decides}
use Rattle.solo_run.proofs.PlaceLemmas.{place_of}
use Rattle.solo_run.proofs.interner.Interner.find_near.Goals as goal

pub returns-in-Some : goal.returns-in-Some
returns-in-Some c =
    let near = c.args.near in
    let text = c.args.text.now in
    let is_text = (bytes_eq-Decides c.as_slice.result.now text).0 (sym c.eq.ensures ∙ c.if-eq.true) in
    let same = sym c.as_slice.ensures.value ∙ is_text in
    let there : slice_get (map (λ t. t.items) c.self.inside.texts.keys) near ≡ Some text =
    slice_get-map (λ t. t.items) c.self.inside.texts.keys near ∙ ap (option_map (λ t. t.items)) (sym c.in-Some.ensures.key) ∙ ap (λ (t : List ℕ). Some t) same in
    sym (place_of c.args.self.now text near c.len-count.ensures.distinct (ap (λ (ts : List (List ℕ)). slice_get ts near) (sym c.self.view_is) ∙ there))
