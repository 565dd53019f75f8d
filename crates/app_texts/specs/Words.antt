-- The words of refusals, which are the error codes of their bodies. Own, but for those of Dapr's Actors API.
use Rattle.std.specs.Prelude.{ℕ, List, [], ◌∷◌, codes, Option, find, bytes_eq}
use Rattle.app_texts.specs.declared.word.RefusalWord.{RefusalWord}
use Rattle.app_texts.specs.declared.word.RefusalWord.TheVariants.{NoRoute, WrongMethod, MalformedHead, HeadTooLong, Chunked, BodyTooLong, BadName, MalformedBody, FractionNumber, Schedule, TooLarge, InstanceMissing, TimersFull, ReminderNotFound, NoHost, StackDepth, QueueFull, PartFull, Aborted, Stopped, Moved, PeerVersion, PeerBehind, AppFault, PeerFault, StoreFault, AppReply, PeerReply, StoreReply, StoreRefused, CallRunning, AnswerGone, CallOld, CallBoot, CallLanes, BookFull, Spent, OutOfMemory}

abbrev pub word_text : RefusalWord → List ℕ
word_text NoRoute = codes "ERR_NO_ROUTE"
word_text WrongMethod = codes "ERR_METHOD"
word_text MalformedHead = codes "ERR_MALFORMED_HEAD"
word_text HeadTooLong = codes "ERR_HEAD_TOO_LONG"
word_text Chunked = codes "ERR_CHUNKED"
word_text BodyTooLong = codes "ERR_BODY_TOO_LONG"
word_text BadName = codes "ERR_BAD_NAME"
word_text MalformedBody = codes "ERR_MALFORMED_BODY"
word_text FractionNumber = codes "ERR_FRACTION_NUMBER"
word_text Schedule = codes "ERR_SCHEDULE"
word_text TooLarge = codes "ERR_TOO_LARGE"
word_text InstanceMissing = codes "ERR_ACTOR_INSTANCE_MISSING"
word_text TimersFull = codes "ERR_TIMERS_FULL"
word_text ReminderNotFound = codes "ERR_REMINDER_NOT_FOUND"
word_text NoHost = codes "ERR_ACTOR_NO_HOST"
word_text StackDepth = codes "ERR_ACTOR_STACK_DEPTH"
word_text QueueFull = codes "ERR_ACTOR_QUEUE_FULL"
word_text PartFull = codes "ERR_PART_FULL"
word_text Aborted = codes "ERR_ACTOR_ABORTED"
word_text Stopped = codes "ERR_SIDECAR_STOPPED"
word_text Moved = codes "ERR_ACTOR_MOVED"
word_text PeerVersion = codes "ERR_PEER_VERSION"
word_text PeerBehind = codes "ERR_PEER_BEHIND"
word_text AppFault = codes "ERR_APP_FAULT"
word_text PeerFault = codes "ERR_PEER_FAULT"
word_text StoreFault = codes "ERR_STORE_FAULT"
word_text AppReply = codes "ERR_APP_REPLY"
word_text PeerReply = codes "ERR_PEER_REPLY"
word_text StoreReply = codes "ERR_STORE_REPLY"
word_text StoreRefused = codes "ERR_STORE_REFUSED"
word_text CallRunning = codes "ERR_CALL_RUNNING"
word_text AnswerGone = codes "ERR_ANSWER_GONE"
word_text CallOld = codes "ERR_CALL_OLD"
word_text CallBoot = codes "ERR_CALL_BOOT"
word_text CallLanes = codes "ERR_CALL_LANES"
word_text BookFull = codes "ERR_BOOK_FULL"
word_text Spent = codes "ERR_SPENT"
word_text OutOfMemory = codes "ERR_OUT_OF_MEMORY"

abbrev pub all_words : List RefusalWord
all_words =
    NoRoute ∷ WrongMethod ∷ MalformedHead ∷ HeadTooLong ∷ Chunked ∷ BodyTooLong ∷ BadName ∷ MalformedBody ∷ FractionNumber ∷ Schedule ∷ TooLarge ∷ InstanceMissing ∷ TimersFull ∷ ReminderNotFound ∷ NoHost ∷ StackDepth ∷ QueueFull ∷ PartFull ∷ Aborted ∷ Stopped ∷ Moved ∷ PeerVersion ∷ PeerBehind ∷ AppFault ∷ PeerFault ∷ StoreFault ∷ AppReply ∷ PeerReply ∷ StoreReply ∷ StoreRefused ∷ CallRunning ∷ AnswerGone ∷ CallOld ∷ CallBoot ∷ CallLanes ∷ BookFull ∷ Spent ∷ OutOfMemory ∷ []

-- the word that has this text
abbrev pub word_of : List ℕ → Option RefusalWord
word_of text = find (λ w. bytes_eq (word_text w) text) all_words
