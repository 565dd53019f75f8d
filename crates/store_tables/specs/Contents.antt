-- What a store contains after the commands that it accepted. Own.
use Rattle.std.specs.Prelude.{ℕ, List, [], ◌∷◌, Option, None, Some, option_and_then}
use Rattle.frame_wire.specs.declared.store_command.StoreCommand.{StoreCommand}
use Rattle.store_tables.specs.Tables.{Tables, no_tables, Outcome, Told, Accepted, store_outcome}

-- a command with its moment, in milliseconds since 1970
pub record Timed : Type 0 where
  pub now : ℕ
  pub command : StoreCommand

abbrev pub outcome_of : Tables → Timed → Outcome
outcome_of t c = store_outcome t c.command c.now

-- the tables that an accepted command leaves
abbrev pub accepted_in : Outcome → Option Tables
accepted_in (Told answer) = None
accepted_in (Accepted answer after) = Some after

-- The tables after these commands, one after another. None if one isn't accepted by what the ones before it left.
abbrev pub after_accepted : List Timed → Tables → Option Tables
after_accepted [] t = Some t
after_accepted (c ∷ cs) t = option_and_then (λ after. after_accepted cs after) (accepted_in (outcome_of t c))

-- what a store contains that accepted these commands
abbrev pub contents : List Timed → Option Tables
contents cs = after_accepted cs no_tables
