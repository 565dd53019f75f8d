use Rattle.std.proofs.Common.{◌≡◌, ◌≤◌}
use Rattle.std.specs.Option.{option_copied}
use Rattle.script_text.specs.ClusterWords.{are_boot_types, are_types_behind}
use Rattle.script_text.specs.LinesTold.{pieces_left_of, bytes_left_of}
use Rattle.script_text.proofs.boot_types.are_boot_types.Given as goal

abbrev pub invariant-loop-left : goal.invariant-loop-left
invariant-loop-left l = record {
  few : l.count ≤ 32;
  tested : are_boot_types l.text ≡ are_types_behind l.count (pieces_left_of (option_copied l.left));
}

abbrev pub decreases-loop-left : goal.decreases-loop-left
decreases-loop-left l = bytes_left_of (option_copied l.left)
