-- What each refusal is answered with. Own; the codes are in the manner of Dapr's.
use Rattle.std.specs.Prelude.{ℕ, List, [], ◌∷◌, ◌++◌, codes, decimal, Option, Some, None}
use Rattle.http_edge.specs.declared.error.EdgeError.{EdgeError}
use Rattle.http_edge.specs.declared.error.EdgeError.TheVariants as edge
use Rattle.timer_book.specs.declared.error.TimerError.{TimerError}
use Rattle.timer_book.specs.declared.error.TimerError.TheVariants as timer
use Rattle.schedule_text.specs.declared.error.ScheduleError.{ScheduleError}
use Rattle.schedule_text.specs.declared.error.ScheduleError.TheVariants as schedule
use Rattle.actors_api.specs.declared.refusal.ApiName.{ApiName}
use Rattle.actors_api.specs.declared.refusal.ApiName.TheVariants.{«Type», Id, Method, Key, Name, Chain, Least, Call}
use Rattle.actors_api.specs.declared.refusal.ApiRefusal.{ApiRefusal}
use Rattle.actors_api.specs.declared.refusal.ApiRefusal.TheVariants.{NoRoute, WrongMethod, BadName, MalformedBody, OtherNumber, TooLarge, BadSchedule, OutOfMemory, MalformedHead, HeadTooLong, Chunked, BodyTooLong, NotActive, TimersFull, NoReminder, NoHost, Depth, QueueFull, PartFull, Aborted, Stopped, Moved, NotRising, Behind, AppFault, PeerFault, StoreFault, AppReply, PeerReply, StoreReply, StoreRefused, CallRunning, AnswerGone, CallOld, CallBoot, CallLanes, BookFull, Spent}

-- the status of a refusal, its code and its text
pub record RefusalRow : Type 0 where
  pub status : ℕ
  pub code : List ℕ
  pub text : List ℕ

abbrev pub row : ℕ → List ℕ → List ℕ → RefusalRow
row status code text = record { status = status; code = code; text = text }

-- the word for what is named
abbrev pub name_word : ApiName → List ℕ
name_word «Type» = codes "type"
name_word Id = codes "id"
name_word Method = codes "method"
name_word Key = codes "key"
name_word Name = codes "name"
name_word Chain = codes "chain"
name_word Least = codes "least"
name_word Call = codes "call"

-- A schedule's fault as the command `schedule` prints it, with its place. Reading a schedule takes no memory, so the
-- last is never sent.
abbrev pub schedule_word : ScheduleError → List ℕ
schedule_word (schedule.BadMoment at) = codes "bad-moment " ++ decimal at
schedule_word (schedule.BadDuration at) = codes "bad-duration " ++ decimal at
schedule_word schedule.Negative = codes "negative"
schedule_word schedule.ZeroRepeats = codes "zero-repeats"
schedule_word schedule.OutOfRange = codes "out-of-range"
schedule_word schedule.OutOfMemory = codes "out-of-memory"

-- the numbers, a space before each
abbrev pub spaced_numbers : List ℕ → List ℕ
spaced_numbers [] = []
spaced_numbers (n ∷ ns) = codes " " ++ decimal n ++ spaced_numbers ns

-- the row of each refusal
abbrev pub refusal_row : ApiRefusal → RefusalRow
refusal_row NoRoute = row 404 (codes "ERR_NO_ROUTE") (codes "no such route")
refusal_row WrongMethod = row 405 (codes "ERR_METHOD") (codes "method not allowed here")
refusal_row (BadName what) = row 400 (codes "ERR_BAD_NAME") (codes "bad " ++ name_word what)
refusal_row MalformedBody = row 400 (codes "ERR_MALFORMED_BODY") (codes "malformed body")
refusal_row OtherNumber = row 400 (codes "ERR_FRACTION_NUMBER") (codes "number is not a 64-bit integer")
refusal_row (TooLarge index) = row 400 (codes "ERR_TOO_LARGE") (codes "operation " ++ decimal index)
refusal_row (BadSchedule fault) = row 400 (codes "ERR_SCHEDULE") (codes "refused " ++ schedule_word fault)
refusal_row OutOfMemory = row 503 (codes "ERR_OUT_OF_MEMORY") (codes "out of memory")
refusal_row MalformedHead = row 400 (codes "ERR_MALFORMED_HEAD") (codes "malformed head")
refusal_row HeadTooLong = row 431 (codes "ERR_HEAD_TOO_LONG") (codes "head above 16384 bytes")
refusal_row Chunked = row 501 (codes "ERR_CHUNKED") (codes "chunked bodies are not served")
refusal_row BodyTooLong = row 413 (codes "ERR_BODY_TOO_LONG") (codes "body above 4194304 bytes")
refusal_row NotActive = row 400 (codes "ERR_ACTOR_INSTANCE_MISSING") (codes "actor is not active here")
refusal_row TimersFull = row 500 (codes "ERR_TIMERS_FULL") (codes "actor has 1024 timers")
refusal_row NoReminder = row 404 (codes "ERR_REMINDER_NOT_FOUND") (codes "no such reminder")
refusal_row (NoHost version) = row 500 (codes "ERR_ACTOR_NO_HOST") (codes "no host in version " ++ decimal version)
refusal_row (Depth turns) = row 500 (codes "ERR_ACTOR_STACK_DEPTH") (decimal turns ++ codes " turns are open")
refusal_row QueueFull = row 500 (codes "ERR_ACTOR_QUEUE_FULL") (codes "1024 calls wait")
refusal_row PartFull = row 500 (codes "ERR_PART_FULL") (codes "65536 actors")
refusal_row Aborted = row 500 (codes "ERR_ACTOR_ABORTED") (codes "turn was ended")
refusal_row Stopped = row 500 (codes "ERR_SIDECAR_STOPPED") (codes "sidecar stopped")
refusal_row (Moved versions) = row 500 (codes "ERR_ACTOR_MOVED") (codes "moved at" ++ spaced_numbers versions)
refusal_row (NotRising last version) = row 500 (codes "ERR_PEER_VERSION") (codes "version " ++ decimal version ++ codes " after " ++ decimal last)
refusal_row (Behind seen) = row 500 (codes "ERR_PEER_BEHIND") (codes "seen " ++ decimal seen)
refusal_row AppFault = row 500 (codes "ERR_APP_FAULT") (codes "link failed")
refusal_row PeerFault = row 500 (codes "ERR_PEER_FAULT") (codes "link failed")
refusal_row StoreFault = row 500 (codes "ERR_STORE_FAULT") (codes "link failed")
refusal_row AppReply = row 500 (codes "ERR_APP_REPLY") (codes "unreadable reply")
refusal_row PeerReply = row 500 (codes "ERR_PEER_REPLY") (codes "unreadable reply")
refusal_row StoreReply = row 500 (codes "ERR_STORE_REPLY") (codes "unreadable reply")
refusal_row (StoreRefused code) = row 500 (codes "ERR_STORE_REFUSED") (codes "store code " ++ decimal code)
refusal_row CallRunning = row 500 (codes "ERR_CALL_RUNNING") (codes "call is running")
refusal_row (AnswerGone status) = row 500 (codes "ERR_ANSWER_GONE") (codes "answered " ++ decimal status)
refusal_row (CallOld floor) = row 500 (codes "ERR_CALL_OLD") (codes "floor " ++ decimal floor)
refusal_row (CallBoot boot) = row 500 (codes "ERR_CALL_BOOT") (codes "boot " ++ decimal boot)
refusal_row CallLanes = row 500 (codes "ERR_CALL_LANES") (codes "4096 lanes")
refusal_row BookFull = row 500 (codes "ERR_BOOK_FULL") (codes "4096 calls run")
refusal_row Spent = row 500 (codes "ERR_SPENT") (codes "counter spent")

-- what a connection's error is answered with, if it is
abbrev pub edge_refusal : EdgeError → Option ApiRefusal
edge_refusal edge.BadHead = Some MalformedHead
edge_refusal edge.HeadTooLong = Some HeadTooLong
edge_refusal edge.TooManyFields = Some MalformedHead
edge_refusal edge.Chunked = Some Chunked
edge_refusal edge.BadLength = Some MalformedHead
edge_refusal (edge.BodyTooLong n) = Some BodyTooLong
edge_refusal (edge.CutShort n) = None
edge_refusal edge.ConnFault = None
edge_refusal edge.OutOfMemory = Some OutOfMemory

-- what a timer that isn't set is answered with
abbrev pub timer_refusal : TimerError → ApiRefusal
timer_refusal timer.Full = TimersFull
timer_refusal timer.Spent = Spent
timer_refusal timer.OutOfMemory = OutOfMemory
