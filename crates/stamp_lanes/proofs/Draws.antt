-- What is known where a boot is drawn: no refusal, the counter, and the count of nodes.
use Rattle.std.proofs.Common.{◌≡◌, ℕ, ◌+◌, ◌<◌, ◌≤◌, ◌^◌, min, nat_le, ◌&&◌, Bool, true, false, List, length, Option, Some, None, is_some, refl, sym, ap, ◌∙◌, arith}
use Rattle.std.specs.Option.{is_none}
use Rattle.std.proofs.lemmas.Bool.Decides.{nat_tests}
use Rattle.stamp_lanes.specs.declared.error.BootError.{BootError}
use Rattle.stamp_lanes.specs.declared.error.BootError.TheVariants.{NodesFull, Spent}
use Rattle.stamp_lanes.specs.declared.node.NodeLanes.{NodeLanes}
use Rattle.stamp_lanes.specs.Stamps.{node_at, greatest_boot, draw_fault, spent_fault, IsSound}
use Rattle.stamp_lanes.specs.Prepared.{spare_of}

module _ (nodes : List NodeLanes) (greatest count : ℕ) (s : IsSound nodes greatest count) where
  pub count_le : count ≤ 65536
  count_le = let c = s.counted in omega arith

  -- the count is at its end exactly if there are 65,536 nodes
  pub full-is : nat_le 65536 count ≡ nat_le 65536 (length nodes)
  full-is = let c = s.counted in grind (arith, nat_tests)

not-spent : (g : ℕ) → spent_fault g ≡ None → g < 2 ^ 62
not-spent g h = go (nat_le (2 ^ 62) g) refl
  where
    go : (b : Bool) → nat_le (2 ^ 62) g ≡ b → g < 2 ^ 62
    go true t = absurd (let n : Some Spent ≡ None = rw t at h in cc)
    go false t = grind (arith, nat_tests)

pub may-draw : (space node : List ℕ) (nodes : List NodeLanes) → draw_fault space node nodes ≡ None → greatest_boot nodes < 2 ^ 62
may-draw space node nodes h = go (is_none (node_at space node nodes) && nat_le 65536 (length nodes)) refl
  where
    go : (b : Bool) → (is_none (node_at space node nodes) && nat_le 65536 (length nodes)) ≡ b → greatest_boot nodes < 2 ^ 62
    go true t = absurd (let n : Some (NodesFull 65536) ≡ None = rw t at h in cc)
    go false t = not-spent (greatest_boot nodes) (rw t at h)

-- ---- the room for an acceptance

pub room-lane : {A : Type 0} (a : Option A) → 1 ≤ spare_of a → is_some a ≡ true
room-lane None h = absurd (omega arith)
room-lane (Some x) h = refl

pub none-is : {A : Type 0} (o : Option A) → is_some o ≡ false → o ≡ None
none-is None h = refl
none-is (Some x) h = absurd (cc)
