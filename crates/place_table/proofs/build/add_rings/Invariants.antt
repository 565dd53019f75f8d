use Rattle.std.proofs.Common.{◌≡◌, ℕ, List, true, take, All}
use Rattle.std.specs.List.{list_any}
use Rattle.std.specs.Str.{bytes_eq}
use Rattle.place_table.specs.Tables.{is_known, IsRingOf}
use Rattle.place_table.proofs.build.add_rings.Given as goal

abbrev pub invariant-loop-kind : goal.invariant-loop-kind
invariant-loop-kind l = All (λ r. IsRingOf l.hosts r.kind r.slots.items) l.rings.items × ((k : List ℕ) → list_any (λ x. bytes_eq x k) (take l.kind-index l.kinds) ≡ true → is_known k l.rings.items ≡ true) × ((k : List ℕ) → is_known k l.fn.rings.items ≡ true → is_known k l.rings.items ≡ true)
