use Rattle.std.proofs.Common.{◌≡◌, append-nil, arith}
use Rattle.std.proofs.lemmas.Grind.{common_steps}
use Rattle.script_text.specs.ClusterWords.{pieces_of}
use Rattle.script_text.proofs.PieceLemmas.{boot_types_sound}
use Rattle.script_text.proofs.boot_types.make_boot_types.Goals as goal

pub returns-clause-types : goal.returns-clause-types
returns-clause-types c =
    let made : pieces_of c.args.text.now ≡ c.from_vec.result = grind (arith, common_steps, append-nil) in
    rw made at (boot_types_sound c.args.text.now c.requires)
