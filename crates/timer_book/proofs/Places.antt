-- The order of places.
use Rattle.std.specs.Cmp.{IsTotalOrder}
use Rattle.std.proofs.lemmas.Cmp.{nat_list_cmp_total, lists_total}
use Rattle.timer_book.specs.Entries.{place_cmp}

-- the order of keys and names is total
pub total : IsTotalOrder place_cmp
total = lists_total nat_list_cmp_total
