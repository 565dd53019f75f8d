-- The book as it is kept, and what contracts see of it. Own.
use Rattle.std.specs.Prelude.{◌<◌, vec_len, vec_capacity}
use Rattle.lease_core.specs.declared.book.Book.{Book}
use Rattle.lease_core.specs.Book.{LeaseBook}

abbrev pub book_of : Book → LeaseBook
book_of b = record { clock = b.clock; members = b.members.items; sent = b.sent.items; askers = b.askers.items }

-- there is room for one more member, message and call
abbrev pub HasRoom : Book → Type 0
HasRoom b = (vec_len b.members < vec_capacity b.members) × (vec_len b.sent < vec_capacity b.sent) × (vec_len b.askers < vec_capacity b.askers)
