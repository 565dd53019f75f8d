use Rattle.std.proofs.Common.{◌≡◌, ◌≤◌, drop}
use Rattle.http_edge.specs.Fields.{length_of, number_from}
use Rattle.http_edge.proofs.fields.read_length.Given as goal

-- the number so far and the digits that are left make the whole number
abbrev pub invariant-loop-byte : goal.invariant-loop-byte
invariant-loop-byte l =
    record { whole : number_from l.number (drop l.byte-index l.text) ≡ length_of l.text; small : l.number ≤ 1000000000000000000 }
