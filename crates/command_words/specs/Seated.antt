-- What is known of words of `sidecar` that have a reading.
use Rattle.std.specs.Prelude.{◌≡◌, ◌≤◌, None}
use Rattle.actor_names.specs.Names.{node_fault, app_id_fault, space_fault}
use Rattle.command_words.specs.Reading.{Seating, most_parts}

-- the readers of names accept the three texts, and there are 1 to 16 parts
pub record IsSeated (s : Seating) : Type 0 where
  pub node : node_fault s.node ≡ None
  pub app : app_id_fault s.app ≡ None
  pub space : space_fault s.space ≡ None
  pub from_one : 1 ≤ s.parts
  pub to_most : s.parts ≤ most_parts
