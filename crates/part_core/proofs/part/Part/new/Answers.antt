use Rattle.std.proofs.Common.{◌≡◌, ℕ, List, [], ◌∷◌, ap, arith}
use Rattle.std.specs.List.Sorted.{SwapsInRange, apply_swaps}
use Rattle.place_table.specs.declared.host.HostInfo.{HostInfo}
use Rattle.part_model.specs.declared.stage.Stage.TheVariants.{Locked}
use Rattle.part_model.specs.Part.{no_table}
use Rattle.part_core.specs.Actors.{ActorsState}
use Rattle.part_core.proofs.part.Part.new.Goals as goal

nothing_moved : (hosts : List HostInfo) (moves : List (ℕ × ℕ)) → SwapsInRange 0 moves → hosts ≡ apply_swaps [] moves → hosts ≡ []
nothing_moved hosts [] r e = e
nothing_moved hosts (m ∷ ms) r e = absurd (omega (arith, r.0))

pub returns-in-Ok : goal.returns-in-Ok
returns-in-Ok c =
    let p = c.in-Ok.ensures.hosts in
    let hosts = nothing_moved c.in-Ok.table.hosts p.moves p.below p.is in
    let actors = c.new-actors.ensures in
    let actors_drawn = ap (λ (a : ActorsState). a.drawn) actors in
    let actors_cells = ap (λ (a : ActorsState). a.cells) actors in
    let actors_recent = ap (λ (a : ActorsState). a.recent) actors in
    let table : c.in-Ok.table ≡ no_table c.args.settings.member.space = (λ i. record { space = c.in-Ok.ensures.space i; version = c.in-Ok.ensures.version i; hosts = hosts i }) in
    (λ i. record {
      state = record {
        member = c.args.settings.member;
        number = c.args.settings.part;
        kinds = c.args.settings.kinds;
        stage = Locked;
        seen = 0;
        opened = 0;
        table = table i;
        since = 0;
        drawn = actors_drawn i;
        cells = actors_cells i;
      };
      recent = actors_recent i;
    })
