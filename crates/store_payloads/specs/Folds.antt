-- What payloads lead to: a row of a snapshot sets its entry, and a command acts. Own.
use Rattle.std.specs.Prelude.{ℕ, Bool, true, false, ◌&&◌, if◌then◌else◌, List, [], ◌∷◌, Option, None, Some, option_map}
use Rattle.frame_wire.specs.declared.store_command.StoreCommand.{StoreCommand}
use Rattle.store_tables.specs.declared.row.TableRow.{TableRow}
use Rattle.store_tables.specs.declared.row.RowKey.{RowKey}
use Rattle.store_tables.specs.Tables.{Tables, no_tables, store_outcome}
use Rattle.store_tables.specs.Contents.{accepted_in}
use Rattle.store_tables.specs.Rows.{key_of, is_behind, restored}
use Rattle.store_payloads.specs.declared.payload.PayloadBody.{PayloadBody}
use Rattle.store_payloads.specs.declared.payload.PayloadBody.TheVariants.{Command, Row}
use Rattle.store_payloads.specs.declared.payload.StorePayload.{StorePayload}
use Rattle.store_payloads.specs.declared.fold.FoldPlace.{FoldPlace}
use Rattle.store_payloads.specs.declared.fold.FoldPlace.TheVariants.{Rows, Commands}
use Rattle.store_payloads.specs.FirstForm.{reading_in}

-- the tables, and where the next payload comes
pub record Folded : Type 0 where
  pub tables : Tables
  pub place : FoldPlace

-- rows come only in a snapshot, in order, each key once, and before any command
abbrev pub may_come : FoldPlace → RowKey → Bool
may_come Commands k = false
may_come (Rows last) k = is_behind last k

abbrev pub with_set : TableRow → Tables → Folded
with_set r t = record { tables = t; place = Rows (Some (key_of r)) }

-- a row sets its entry, if it comes where it may and is taken in
abbrev pub after_set : TableRow → Folded → Option Folded
after_set r f = if may_come f.place (key_of r) then option_map (with_set r) (restored r f.tables) else None

abbrev pub with_act : Tables → Folded
with_act t = record { tables = t; place = Commands }

-- a command acts, if it is accepted at its moment
abbrev pub after_act : StoreCommand → ℕ → Folded → Option Folded
after_act c now f = option_map with_act (accepted_in (store_outcome f.tables c now))

abbrev pub after_body : PayloadBody → ℕ → Folded → Option Folded
after_body (Command c) now f = after_act c now f
after_body (Row r) now f = after_set r f

-- what one more payload leads to; None if it has no reading here
abbrev pub folded : Option StorePayload → Folded → Option Folded
folded None f = None
folded (Some p) f = after_body p.body p.now f

-- the same for payloads one after another, of the first form or of today's
abbrev pub fold_from : Bool → Option Folded → List (List ℕ) → Option Folded
fold_from is_first None payloads = None
fold_from is_first (Some f) [] = Some f
fold_from is_first (Some f) (p ∷ ps) = fold_from is_first (folded (reading_in is_first p) f) ps

-- before the first payload; in a snapshot rows come first
abbrev pub start : Bool → Folded
start true = record { tables = no_tables; place = Rows None }
start false = record { tables = no_tables; place = Commands }

abbrev pub tables_in : Option Folded → Option Tables
tables_in None = None
tables_in (Some f) = Some f.tables

-- the tables that payloads lead to, of the first form or of today's, behind a Generation or without one
abbrev pub folded_tables : Bool → Bool → List (List ℕ) → Option Tables
folded_tables is_first is_snapshot payloads = tables_in (fold_from is_first (Some (start is_snapshot)) payloads)
