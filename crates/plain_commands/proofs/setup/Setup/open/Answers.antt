use Rattle.std.proofs.Common.{◌≡◌, List, sym, ap, subst, ◌∙◌, map}
use Rattle.part_model.specs.declared.settings.TypeSettings.{TypeSettings}
use Rattle.part_model.specs.Settings.{AreShallow}
use Rattle.cluster_model.specs.World.{opening_cluster}
use Rattle.world_run.specs.Worlds.{view_of}
use Rattle.plain_commands.specs.Scripts.{Setup, settings_of}
use Rattle.plain_commands.specs.SetupTold.{timed, type_depth}
use Rattle.plain_commands.proofs.SetupLemmas.{timed_shallow, timed_types}
use Rattle.plain_commands.proofs.setup.Setup.open.Goals as goal

pub new-requires-2-clause-shallow : goal.new-requires-2-clause-shallow
new-requires-2-clause-shallow c =
    let timed_now = c.from_vec.ensures ∙ c.set_times.ensures ∙ ap (λ v. map (timed c.self.inside.idle_ms c.self.inside.drain_ms) v.items) c.replace-kinds.ensures.value in
    subst AreShallow (sym timed_now) (timed_shallow c.self.inside.idle_ms c.self.inside.drain_ms c.self.inside.kinds.items c.self.invariant.2)

pub returns : goal.returns
returns c =
    let timed_now = c.from_vec.ensures ∙ c.set_times.ensures ∙ ap (λ v. map (timed c.self.inside.idle_ms c.self.inside.drain_ms) v.items) c.replace-kinds.ensures.value in
    let s : Setup = record { parts = c.self.inside.parts; depths = map type_depth c.self.inside.kinds.items; idle = c.self.inside.idle_ms; drain = c.self.inside.drain_ms } in
    c.new-2.ensures
    ∙ ap (λ (ks : List TypeSettings). view_of (opening_cluster (record { parts = c.self.inside.parts; kinds = ks; idle_ms = c.self.inside.idle_ms; drain_ms = c.self.inside.drain_ms }))) (timed_now ∙ timed_types s c.self.inside.kinds.items)
    ∙ ap (λ (z : Setup). view_of (opening_cluster (settings_of z))) c.self.view_is
