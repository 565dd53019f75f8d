use Rattle.std.proofs.Common.{ℕ, Option, sym, ap, ◌∙◌}
use Rattle.std.specs.Option.{option_copied}
use Rattle.place_table.specs.declared.host.HostInfo.{HostInfo}
use Rattle.part_model.specs.declared.event.Reply.TheVariants as replies
use Rattle.part_model.specs.Part.{refused, ask_owned}
use Rattle.part_core.specs.Actors.{state_of}
use Rattle.part_core.proofs.asking.enter_owned.Goals as goal

pub returns-in-None : goal.returns-in-None
returns-in-None c =
    λ chain a full.
    ap (λ (o : Option HostInfo). ask_owned full (state_of c.args.standing.now a) c.args.cell.now chain o) (sym c.owner_host.ensures ∙ ap option_copied c.in-None.is)
    ∙ ap (λ (v : ℕ). refused (state_of c.args.standing.now a) (replies.NoHost v)) (sym c.version-version.ensures)
