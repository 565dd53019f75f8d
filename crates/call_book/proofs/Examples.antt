-- Worked examples of the definitions.
use Rattle.std.proofs.Common.{◌≡◌, List, [], ◌∷◌, refl}
use Rattle.std.specs.Prelude.{codes}
use Rattle.http_edge.specs.declared.message.HttpResponse.{HttpResponse}
use Rattle.actor_names.specs.declared.member.Member.{Member}
use Rattle.actor_names.specs.Names.{default_space}
use Rattle.call_book.specs.declared.event.BookEvent.{BookEvent}
use Rattle.call_book.specs.declared.event.BookEvent.TheVariants as events
use Rattle.call_book.specs.declared.event.BookReply.{BookReply}
use Rattle.call_book.specs.declared.event.BookReply.TheVariants as replies
use Rattle.call_book.specs.Book.{CallBookState, new_book, call_book_step}

a1 : Member
a1 = record { space = default_space; node = codes "a"; boot = 1 }

a2 : Member
a2 = record { space = default_space; node = codes "a"; boot = 2 }

b1 : Member
b1 = record { space = default_space; node = codes "b"; boot = 1 }

answer : HttpResponse
answer = record { status = 200; fields = []; body = codes "47" }

abbrev replies_to : CallBookState → List BookEvent → List BookReply
replies_to book [] = []
replies_to book (e ∷ es) = (call_book_step book e).0 ∷ replies_to (call_book_step book e).1 es

-- A call is new once, is told Running until its Finish, and then gets its answer; a later boot of its node ends all that.
forwarded_call_is_answered_once : replies_to new_book (events.Begin a1 0 7 ∷ events.Begin a1 0 7 ∷ events.Finish a1 0 7 answer ∷ events.Finish a1 0 7 answer ∷ events.Begin a1 0 7 ∷ events.Begin a2 0 7 ∷ events.Begin a1 0 7 ∷ []) ≡ replies.New ∷ replies.Running ∷ replies.Finished ∷ replies.NotBegun ∷ replies.Kept answer ∷ replies.New ∷ replies.OldBoot 2 ∷ []
unfolding a1 a2 answer
forwarded_call_is_answered_once = refl

-- each part of each node has numbers of its own
lanes_are_apart : replies_to new_book (events.Begin a1 0 7 ∷ events.Begin a1 1 7 ∷ events.Begin b1 0 7 ∷ events.Begin a1 0 8 ∷ []) ≡ replies.New ∷ replies.New ∷ replies.New ∷ replies.New ∷ []
unfolding a1 b1
lanes_are_apart = refl

-- numbers begin at 1
number_zero_is_too_old : replies_to new_book (events.Begin a1 0 0 ∷ events.Begin a1 0 1 ∷ events.Begin a2 0 0 ∷ events.Begin a1 0 1 ∷ []) ≡ replies.TooOld 0 ∷ replies.New ∷ replies.TooOld 0 ∷ replies.Running ∷ []
unfolding a1 a2
number_zero_is_too_old = refl

-- a Finish of an earlier boot finishes nothing
old_boot_finishes_nothing : replies_to new_book (events.Begin a1 0 7 ∷ events.Begin a2 0 7 ∷ events.Finish a1 0 7 answer ∷ events.Begin a2 0 7 ∷ []) ≡ replies.New ∷ replies.New ∷ replies.NotBegun ∷ replies.Running ∷ []
unfolding a1 a2 answer
old_boot_finishes_nothing = refl
