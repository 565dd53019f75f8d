use Rattle.std.proofs.Common.{◌≡◌, take, map}
use Rattle.place_table.specs.Tables.{row_items, places_of}
use Rattle.place_table.proofs.build.all_places.Given as goal

abbrev pub invariant-loop-host : goal.invariant-loop-host
invariant-loop-host l = map row_items l.rows.items ≡ map places_of (take l.host-index l.hosts)
