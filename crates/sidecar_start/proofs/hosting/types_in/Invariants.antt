use Rattle.std.proofs.Common.{◌≡◌, take, map, None}
use Rattle.wire_fields.specs.Fields.{in_any_order, AllFit}
use Rattle.wire_fields.specs.Parts.{type_name}
use Rattle.sidecar_start.specs.Starting.{kind_in}
use Rattle.sidecar_start.proofs.hosting.types_in.Given as goal

abbrev pub invariant-loop-settings : goal.invariant-loop-settings
invariant-loop-settings l = record {
  same : l.items.items ≡ map kind_in (take l.settings-index l.settings-items);
  fits : AllFit (in_any_order type_name) None l.items.items;
}
