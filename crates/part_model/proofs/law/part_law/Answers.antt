use Rattle.std.proofs.Common.{refl}
use Rattle.part_model.specs.Part.{new_part}
use Rattle.part_model.proofs.PartTables.{new_part_sound, part_stepped}
use Rattle.part_model.proofs.PartTells.{part_honest}
use Rattle.part_model.proofs.PartLaws.{part_sound, new_part_tied, new_part_within, run_tied, run_within, run_owns, truly_drained, drained_told}
use Rattle.part_model.proofs.law.part_law.Goals as goal

pub returns : goal.returns
returns c =
    record {
      idle = λ owner m number kinds events. (let s = part_sound owner m number kinds events in s.no_idle_waiter);
      sound = λ owner m number kinds events. part_sound owner m number kinds events;
      tied = λ owner m number kinds events. run_tied owner (new_part m number kinds) events (new_part_sound owner m number kinds) (new_part_tied owner m number kinds);
      within = λ owner m number kinds events range. run_within owner (new_part m number kinds) events (new_part_sound owner m number kinds) range (new_part_within owner m number kinds);
      owns = λ owner m number kinds events. run_owns owner (new_part m number kinds) events (new_part_sound owner m number kinds) tt;
      stepped = λ owner p event sound. part_stepped owner p event sound;
      tells = λ owner p event. (let h = part_honest owner p event in h.tells);
      drained = λ owner p. (truly_drained owner p p.stage refl, drained_told owner p);
      refused = λ owner p event refusal. (let h = part_honest owner p event in h.as_was refusal);
    }
