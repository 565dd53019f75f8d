-- The JSON value for which a value of `serde_json` stands.
use Rattle.std.specs.Prelude.{◌≤◌}
use Rattle.serde_json.specs.Data as data_
use Rattle.serde_json.specs.Data.{Num, unsigned, negative, float, Data, depth}
use Rattle.serde_json.specs.Read.{max_depth}
use Rattle.serde_json.specs.View.{view}
use Rattle.serde_json.specs.declared.value.Value.{Value}
use Rattle.json_text.specs.Values as own
use Rattle.json_text.specs.Values.{JsonValue}

abbrev pub number_of : Num → JsonValue
number_of (unsigned n) = own.natural n
number_of (negative z) = own.negative z
number_of (float x) = own.other_number

abbrev mutual
  pub json_of : Data → JsonValue
  json_of data_.null = own.null
  json_of (data_.boolean b) = own.truth b
  json_of (data_.number n) = number_of n
  json_of (data_.string s) = own.text s
  json_of (data_.array ds) = own.array (items_of ds)
  json_of (data_.object ms) = own.object (members_of ms)

  pub items_of : data_.Items → own.Items
  items_of data_.no_items = own.no_items
  items_of (data_.item d ds) = own.item (json_of d) (items_of ds)

  pub members_of : data_.Members → own.Members
  members_of data_.no_members = own.no_members
  members_of (data_.member k d ms) = own.member k (json_of d) (members_of ms)

abbrev pub value_of : Value → JsonValue
value_of v = json_of (view v)

-- arrays and objects nest no deeper than in a text that can be read
abbrev pub IsShallow : Value → Type 0
IsShallow v = depth (view v) ≤ max_depth
