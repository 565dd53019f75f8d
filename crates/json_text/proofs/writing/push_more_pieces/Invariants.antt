use Rattle.std.proofs.Common.{◌≡◌, ◌++◌, drop, map}
use Rattle.json_text.specs.Texts.{after_commas}
use Rattle.json_text.specs.Written.{piece_text}
use Rattle.json_text.proofs.writing.push_more_pieces.Given as goal

-- the text so far and what is left make the whole text
abbrev pub invariant-loop-piece : goal.invariant-loop-piece
invariant-loop-piece l = l.out.items ++ after_commas (map piece_text (drop l.piece-index l.pieces)) ≡ l.fn.out.items ++ after_commas (map piece_text l.pieces)
