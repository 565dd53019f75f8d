-- When two members or two keys are the same, and the order of keys: by space, type, then id. Own.
use Rattle.std.specs.Prelude.{Bool, ◌&&◌, ◌==◌, bytes_eq}
use Rattle.std.specs.declared.cmp.Ordering.{Ordering}
use Rattle.std.specs.Ordering.{nat_cmp, ordering_then, is_lt}
use Rattle.std.specs.Cmp.Lexicographic.{slice_cmp}
use Rattle.actor_names.specs.declared.member.Member.{Member}
use Rattle.actor_names.specs.declared.actor_key.ActorKey.{ActorKey}

abbrev pub same_member : Member → Member → Bool
same_member a b = bytes_eq a.space b.space && (bytes_eq a.node b.node && (a.boot == b.boot))

abbrev pub same_key : ActorKey → ActorKey → Bool
same_key a b = bytes_eq a.space b.space && (bytes_eq a.kind b.kind && bytes_eq a.id b.id)

abbrev pub key_cmp : ActorKey → ActorKey → Ordering
key_cmp a b = ordering_then (slice_cmp nat_cmp a.space b.space) (ordering_then (slice_cmp nat_cmp a.kind b.kind) (slice_cmp nat_cmp a.id b.id))

abbrev pub key_before : ActorKey → ActorKey → Bool
key_before a b = is_lt (key_cmp a b)
