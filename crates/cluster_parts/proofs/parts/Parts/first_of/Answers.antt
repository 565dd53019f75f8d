use Rattle.std.proofs.Common.{◌≡◌, ℕ, ◌-◌, ◌*◌, Bool, true, false, not, ◌&&◌, refl, List, length, Some, sym, ap, ◌∙◌, subst, arith}
use Rattle.std.specs.Prelude.{bytes_eq}
use Rattle.std.proofs.lemmas.Bool.{not-false, true≢false, and_parts, and_from}
use Rattle.std.proofs.lemmas.List.{length-map}
use Rattle.std.proofs.lemmas.Option.{slice_get-get_or}
use Rattle.std.proofs.lemmas.Slice.Eq.{bytes_eq-Decides}
use Rattle.cluster_parts.specs.declared.home.Home.{Home}
use Rattle.cluster_parts.specs.Layout.{HasNone, IsFirst}
use Rattle.cluster_parts.specs.Views.{PartsView, state_in, states_of}
use Rattle.cluster_parts.proofs.Blocks.{none_earlier, none_later, none_other, found_first, place_below}
use Rattle.cluster_parts.proofs.Scans.{first-within}
use Rattle.cluster_parts.proofs.parts.Parts.first_of.Goals.{then-boot-eq0-via-then-boot-eq0, then-boot-eq0-via-else-boot-eq0+then-boot-len}
use Rattle.cluster_parts.proofs.parts.Parts.first_of.Goals as goal

-- what `!=` of two homes says
abbrev same_home : Home → Home → Bool
same_home a b = bytes_eq a.space b.space && bytes_eq a.node b.node

differs : (r : Bool) (a b : Home) → r ≡ not (same_home a b) → r ≡ true → a ≡ b → ⊥
differs r a b e t q =
    true≢false (sym t ∙ e ∙ ap not (subst (λ (h : Home). same_home a h ≡ true) q (and_from _ _ ((bytes_eq-Decides a.space a.space).1 refl) ((bytes_eq-Decides a.node a.node).1 refl))))

agrees : (r : Bool) (a b : Home) → r ≡ not (same_home a b) → r ≡ false → a ≡ b
agrees r a b e f =
    let h = and_parts (bytes_eq a.space b.space) (bytes_eq a.node b.node) (not-false (same_home a b) (sym e ∙ f)) in
    let p = (bytes_eq-Decides a.space b.space).0 h.0 in
    let q = (bytes_eq-Decides a.node b.node).0 h.1 in
    λ i. record { space = p i; node = q i }

pub returns-then-boot-eq0 : goal.returns-then-boot-eq0
returns-then-boot-eq0 c =
    let m = c.args.member.now in
    let nodes = c.self.inside.homes.items in
    let ps = states_of c.self.inside.items.items in
    let none : HasNone m c.args.self.now.parts = subst (λ (v : PartsView). HasNone m v.parts) c.self.view_is
    (elim c.then-boot-eq0.branch [
      | then-boot-eq0-via-then-boot-eq0 w ↦ none_earlier m c.self.inside.per 1 nodes ps c.self.invariant.laid (omega arith)
      | then-boot-eq0-via-else-boot-eq0+then-boot-len w ↦ none_later m c.self.inside.per 1 (m.boot - 1) nodes ps c.self.invariant.laid (omega arith) (omega arith)
    ]) in
    record { found = none; fits = tt }

pub returns-then-ne : goal.returns-then-ne
returns-then-ne c =
    let m = c.args.member.now in
    let nodes = c.self.inside.homes.items in
    let ps = states_of c.self.inside.items.items in
    let node : Home = c.index.result.now in
    let here = slice_get-get_or nodes (m.boot - 1) node (omega arith) ∙ ap (λ (u : Home). Some u) (sym c.index.ensures) in
    let none : HasNone m c.args.self.now.parts = subst (λ (v : PartsView). HasNone m v.parts) c.self.view_is
    (none_other m c.self.inside.per 1 (m.boot - 1) nodes ps node c.self.invariant.laid (omega arith) here
    (λ q. differs c.ne.result node c.home_of.result c.ne.ensures c.if-ne.true (sym q ∙ sym c.home_of.ensures))) in
    record { found = none; fits = tt }

pub overflow_mul-result : goal.overflow_mul-result
overflow_mul-result c =
    omega (arith, place_below c.self.inside.per (c.args.member.now.boot - 1) c.self.inside.homes.items (states_of c.self.inside.items.items) c.self.invariant.laid (omega arith), length-map c.self.inside.items.items state_in, c.self.inside.items.ok.0)

pub returns : goal.returns
returns c =
    let m = c.args.member.now in
    let nodes = c.self.inside.homes.items in
    let ps = states_of c.self.inside.items.items in
    let node : Home = c.index.result.now in
    let here = slice_get-get_or nodes (m.boot - 1) node (omega arith) ∙ ap (λ (u : Home). Some u) (sym c.index.ensures) in
    let first : IsFirst c.args.self.now.parts m c.args.self.now.per ((m.boot - 1) * c.self.inside.per) = subst (λ (v : PartsView). IsFirst v.parts m v.per ((m.boot - 1) * c.self.inside.per)) c.self.view_is
    (found_first m c.self.inside.per 1 (m.boot - 1) nodes ps c.self.invariant.many c.self.invariant.laid (omega arith) (here ∙ ap (λ (u : Home). Some u) (agrees c.ne.result node c.home_of.result c.ne.ensures c.if-ne.false ∙ c.home_of.ensures))) in
    let many : length ps ≡ length c.args.self.now.parts = ap (λ (v : PartsView). length v.parts) c.self.view_is in
    record { found = first; fits = omega (arith, first-within c.args.self.now.parts m c.args.self.now.per ((m.boot - 1) * c.self.inside.per) first, many, length-map c.self.inside.items.items state_in, c.self.inside.items.ok.0) }
