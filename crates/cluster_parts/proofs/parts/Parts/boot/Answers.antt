use Rattle.std.proofs.Common.{◌≡◌, ℕ, ◌++◌, ◌∷◌, [], List, length, sym, ap, ◌∙◌, subst}
use Rattle.std.specs.Prelude.{suc}
use Rattle.std.proofs.lemmas.List.{map-append}
use Rattle.part_model.specs.Rooms.{PartView}
use Rattle.cluster_model.specs.World.{settings_for, new_parts}
use Rattle.part_model.specs.Part.{PartState}
use Rattle.cluster_parts.specs.declared.home.Home.{Home}
use Rattle.cluster_parts.specs.Layout.{home_of, AreLaidOut}
use Rattle.cluster_parts.specs.Views.{PartsView, state_in, states_of}
use Rattle.cluster_parts.proofs.Makings.{boot_laid}
use Rattle.cluster_parts.proofs.parts.Parts.boot.Goals as goal

pub invariant_of-self-2 : goal.invariant_of-self-2
invariant_of-self-2 c =
    let nodes : c.push.new.self.items ≡ c.self.inside.homes.items ++ home_of c.args.member.now ∷ [] = (rw c.unwrap.ensures at c.push.ensures.items) ∙ (λ i. c.in_ok-reserve.ensures.items i ++ c.home_of-home.ensures i ∷ []) in
    let ks = settings_for c.args.settings.now c.args.kinds.now in
    let parts : states_of c.append.new.self.items ≡ states_of c.self.inside.items.items ++ new_parts c.args.member.now ks 0 c.self.inside.per =
    ap (λ (vs : List PartView). states_of vs) c.in_ok-append.ensures.items ∙ map-append state_in c.self.inside.items.items c.in_ok-made.made.items
    ∙ ap (λ (ps : List PartState). states_of c.self.inside.items.items ++ ps) c.in_ok-made.ensures in
    let boot : c.args.member.now.boot ≡ suc (length c.self.inside.homes.items) = c.requires.next ∙ ap (λ (v : PartsView). suc v.boots) (sym c.self.view_is) in
    subst (λ (ns : List Home). AreLaidOut c.self.inside.per ns (states_of c.append.new.self.items)) (sym nodes)
    (subst (λ (ps : List PartState). AreLaidOut c.self.inside.per (c.self.inside.homes.items ++ home_of c.args.member.now ∷ []) ps) (sym parts)
    (boot_laid c.self.inside.per c.self.inside.homes.items (states_of c.self.inside.items.items) c.args.member.now ks c.self.invariant boot))
