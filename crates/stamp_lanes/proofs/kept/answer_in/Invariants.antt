use Rattle.std.proofs.Common.{◌≡◌, drop}
use Rattle.stamp_lanes.specs.Kept.{kept_answer}
use Rattle.stamp_lanes.proofs.kept.answer_in.Given as goal

abbrev pub invariant-loop-k : goal.invariant-loop-k
invariant-loop-k l = kept_answer l.number l.kept ≡ kept_answer l.number (drop l.k-index l.kept)
