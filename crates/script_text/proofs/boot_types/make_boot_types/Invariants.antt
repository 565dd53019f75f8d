use Rattle.std.proofs.Common.{◌≡◌, ◌++◌, true}
use Rattle.std.specs.List.{list_all}
use Rattle.std.specs.Option.{option_copied}
use Rattle.script_text.specs.ClusterWords.{is_type, pieces_of}
use Rattle.script_text.specs.LinesTold.{pieces_left_of, bytes_left_of}
use Rattle.script_text.proofs.boot_types.make_boot_types.Given as goal

abbrev pub invariant-loop-left : goal.invariant-loop-left
invariant-loop-left l = record {
  all : pieces_of l.text ≡ l.items.items ++ pieces_left_of (option_copied l.left);
  types : list_all is_type (pieces_left_of (option_copied l.left)) ≡ true;
}

abbrev pub decreases-loop-left : goal.decreases-loop-left
decreases-loop-left l = bytes_left_of (option_copied l.left)
