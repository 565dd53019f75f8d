-- A turn that begins by its event.
use Rattle.std.proofs.Common.{◌≡◌, ℕ, List, [], ◌∷◌, Option, ◌∙◌, sym, ap, inr}
use Rattle.actor_names.specs.declared.actor_key.ActorKey.{ActorKey}
use Rattle.part_model.specs.declared.event.PartEvent.{PartEvent}
use Rattle.sidecar_node.specs.Entries.{PartEntry}
use Rattle.sidecar_node.specs.Turns.{Said, Begins, BeginsBy, ask_of}

pub begins_by : (key : ActorKey) (chain : Option (List ℕ)) (least : Option ℕ) (shown now : ℕ) (event : PartEvent) (es : List PartEntry) (said : Said)
    → event ≡ ask_of key chain least now → shown ≡ now → BeginsBy event es said → Begins key chain least shown es said
begins_by key chain least shown now event [] said e at b = inr b
begins_by key chain least shown now event (x ∷ es) said e at b = (b.0 ∙ (e ∙ ap (ask_of key chain least) (sym at)), b.1)
