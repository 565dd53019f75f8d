use Rattle.std.proofs.Common.{◌≡◌, drop, map}
use Rattle.httparse.specs.Spans.{header_bytes}
use Rattle.http_edge.specs.Fields.{says_close}
use Rattle.http_edge.proofs.fields.says_close.Given as goal

-- no field so far says `close`
abbrev pub invariant-loop-span : goal.invariant-loop-span
invariant-loop-span l = says_close (map (header_bytes l.bytes) (drop l.span-index l.spans)) ≡ says_close (map (header_bytes l.bytes) l.spans)
