-- A list of members, with the room that is kept for it. Own.
use Rattle.std.specs.Prelude.{ℕ, List}
use Rattle.actor_names.specs.declared.member.Member.{Member}

pub record Listed : Type 0 where
  pub members : List Member
  pub capacity : ℕ
