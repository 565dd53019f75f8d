use Rattle.std.proofs.Common.{◌≡◌}
use Rattle.std.specs.List.{list_any}
use Rattle.std.specs.Str.{bytes_eq}
use Rattle.std.specs.Option.{option_copied}
use Rattle.script_text.specs.LinesTold.{pieces_left_of, bytes_left_of}
use Rattle.script_text.proofs.boot_types.is_among.Given as goal

abbrev pub invariant-loop-left : goal.invariant-loop-left
invariant-loop-left l = list_any (bytes_eq l.piece) (pieces_left_of (option_copied l.rest)) ≡ list_any (bytes_eq l.piece) (pieces_left_of (option_copied l.left))

abbrev pub decreases-loop-left : goal.decreases-loop-left
decreases-loop-left l = bytes_left_of (option_copied l.left)
