use Rattle.part_model.specs.Part.{new_part}
use Rattle.part_model.proofs.PartTables.{new_part_sound}
use Rattle.part_model.proofs.PartReplays.{part_replays}
use Rattle.part_model.proofs.PartBegins.{part_begins}
use Rattle.part_model.proofs.PartTurns.{run_told, part_isolated}
use Rattle.part_model.proofs.law.part_turns_law.Goals as goal

pub returns : goal.returns
returns c =
    record {
      isolated = λ owner m number kinds events key. part_isolated owner m number kinds events key;
      told = λ owner m number kinds events key. run_told owner (new_part m number kinds) events key (new_part_sound owner m number kinds);
      replayed = λ owner p event sound. part_replays owner p event sound;
      begins = λ owner p event sound. part_begins owner p event sound;
    }
