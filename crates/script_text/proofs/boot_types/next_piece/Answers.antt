use Rattle.std.proofs.lemmas.List.{take_rest}
use Rattle.script_text.proofs.PieceLemmas.{pieces_split, one_piece}
use Rattle.script_text.proofs.boot_types.next_piece.Goals as goal

pub returns-in-Some-clause-pieces : goal.returns-in-Some-clause-pieces
returns-in-Some-clause-pieces c = rw take_rest (pieces_split c.args.text.now c.in-Some.end c.in-Some.ensures.found)

pub returns-in-None-clause-pieces : goal.returns-in-None-clause-pieces
returns-in-None-clause-pieces c = one_piece c.args.text.now c.in-None.ensures.missing
