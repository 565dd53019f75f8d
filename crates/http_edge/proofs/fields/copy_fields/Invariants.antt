use Rattle.std.proofs.Common.{◌≡◌, take, map}
use Rattle.httparse.specs.Spans.{header_bytes}
use Rattle.http_edge.specs.Requests.{pair_of}
use Rattle.http_edge.proofs.fields.copy_fields.Given as goal

-- the fields so far are copied
abbrev pub invariant-loop-span : goal.invariant-loop-span
invariant-loop-span l = map pair_of l.fields.items ≡ map (header_bytes l.bytes) (take l.span-index l.spans)
