use Rattle.std.proofs.Common.{length}
use Rattle.lease_core.specs.Books.{book_of}
use Rattle.lease_core.proofs.Loops.{noted_is}
use Rattle.lease_core.proofs.book.Book.note.Goals as goal

pub returns : goal.returns
returns c =
    noted_is (book_of c.args.self.now) c.args.begun c.args.sent c.args.boot (length c.args.world.now.messages) (length c.args.world.now.calls) c.messages.result c.calls.result c.add_begun.new.members.items c.add_sent.new.kept.items c.add_asker.new.askers.items c.add_begun.ensures c.add_sent.ensures c.add_asker.ensures c.messages.ensures c.calls.ensures
