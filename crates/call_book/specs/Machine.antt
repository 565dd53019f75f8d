-- A book of forwarded calls as a machine. Own.
use Rattle.std.specs.Prelude.{◌≡◌}
use Rattle.call_book.specs.declared.event.BookEvent.{BookEvent}
use Rattle.call_book.specs.declared.event.BookReply.{BookReply}
use Rattle.call_book.specs.declared.event.BookReply.TheVariants as replies
use Rattle.call_book.specs.Replies.{TakesMemory}
use Rattle.call_book.specs.Book.{CallBookState, call_book_step}

-- The answer and the book are those of the step; or the answer takes memory, there was none, and the book is as before.
abbrev pub IsStepOf : BookReply × CallBookState → CallBookState → BookReply → CallBookState → Type 0
IsStepOf step old replies.OutOfMemory new = TakesMemory step.0 × (new ≡ old)
IsStepOf step old reply new = (reply ≡ step.0) × (new ≡ step.1)

-- what a book answers to an event, and what the event leaves
abbrev pub BookMoves : CallBookState → BookEvent → BookReply → CallBookState → Type 0
BookMoves old event reply new = IsStepOf (call_book_step old event) old reply new
