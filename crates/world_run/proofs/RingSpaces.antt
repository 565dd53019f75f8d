-- By the ring, no table gives an actor of another space an owner.
use Rattle.std.proofs.Common.{◌≡◌, Bool, true, false, Option, None, Some, refl}
use Rattle.std.specs.Prelude.{bytes_eq, option_and_then, if◌then◌else◌}
use Rattle.std.proofs.lemmas.Slice.Eq.{bytes_eq-Decides}
use Rattle.actor_names.specs.declared.actor_key.ActorKey.{ActorKey}
use Rattle.place_table.specs.declared.host.HostInfo.{HostInfo}
use Rattle.place_table.specs.Hosts.{PlacementTable, host_of, owner_of, table_owner}
use Rattle.part_model.specs.Part.{ring_owner}
use Rattle.cluster_model.specs.Spaces.{KeepsToSpace}

table_keeps : (t : PlacementTable) (k : ActorKey) (h : HostInfo) → table_owner t k ≡ Some h → k.space ≡ t.space
table_keeps t k h = go (bytes_eq k.space t.space) refl
  where
    go : (b : Bool) → bytes_eq k.space t.space ≡ b → option_and_then (host_of t.hosts) (if b then owner_of t.hosts k else None) ≡ Some h → k.space ≡ t.space
    go true same e = (bytes_eq-Decides k.space t.space).0 same
    go false other e = absurd (cc)

pub ring_keeps : KeepsToSpace ring_owner
unfolding ring_owner
ring_keeps t k h e = table_keeps t k h e
