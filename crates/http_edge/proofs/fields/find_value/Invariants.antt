use Rattle.std.proofs.Common.{◌≡◌, ◌++◌, length, drop, map}
use Rattle.std.specs.Prelude.{IfSome}
use Rattle.httparse.specs.Spans.{header_bytes, IsWithin}
use Rattle.http_edge.specs.Fields.{values_of}
use Rattle.http_edge.specs.Steps.{option_span}
use Rattle.http_edge.proofs.fields.find_value.Given as goal

-- the value that was found, and those of the fields not looked at yet
abbrev pub invariant-loop-span : goal.invariant-loop-span
invariant-loop-span l =
    record {
      values : values_of l.name (map (header_bytes l.bytes) l.spans) ≡ option_span l.bytes l.found ++ values_of l.name (map (header_bytes l.bytes) (drop l.span-index l.spans));
      within : IfSome l.found (IsWithin (length l.bytes));
    }
