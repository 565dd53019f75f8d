-- Replies of a book. Own.
use Rattle.std.specs.Prelude.{◌≡◌}
use Rattle.call_book.specs.declared.entry.CallStage.{CallStage}
use Rattle.call_book.specs.declared.entry.CallStage.TheVariants as stages
use Rattle.call_book.specs.declared.event.BookReply.{BookReply}
use Rattle.call_book.specs.declared.event.BookReply.TheVariants as replies

-- what a repeat of a call at this stage is answered
abbrev pub stage_reply : CallStage → BookReply
stage_reply stages.Running = replies.Running
stage_reply (stages.Kept response) = replies.Kept response
stage_reply (stages.Gone status) = replies.Gone status

-- a new call takes memory, and so does the copy of a kept response
abbrev pub TakesMemory : BookReply → Type 0
TakesMemory replies.New = Unit {0}
TakesMemory (replies.Kept response) = Unit {0}
TakesMemory reply = ⊥

-- the reply is the expected one, or that one takes memory and there was none
abbrev pub IsAnswer : BookReply → BookReply → Type 0
IsAnswer expected replies.OutOfMemory = TakesMemory expected
IsAnswer expected reply = reply ≡ expected
