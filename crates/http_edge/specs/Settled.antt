-- That the bytes that came decide the answer: own definitions.
use Rattle.std.specs.Prelude.{◌≡◌, ◌++◌, [], List, ℕ, Option, None, Result, Ok, Err}
use Rattle.actor_ports.specs.Traffic.{Traffic}
use Rattle.http_edge.specs.declared.message.HttpResponse.{HttpResponse}
use Rattle.http_edge.specs.declared.error.EdgeError.{EdgeError}
use Rattle.http_edge.specs.declared.error.EdgeError.TheVariants.{BadHead, HeadTooLong, TooManyFields, CutShort, ConnFault, OutOfMemory}
use Rattle.http_edge.specs.Replies.{HasReply, Breaks, HasNoReading}

-- bytes that may follow those of which an error tells: after CutShort none
abbrev pub MayFollow : EdgeError → List ℕ → Type 0
MayFollow (CutShort n) more = more ≡ []
MayFollow e more = Unit {0}

-- no reply begins the stream, whatever may follow it
abbrev pub HasNoReply : List ℕ → EdgeError → Type 0
HasNoReply stream e = (more : List ℕ) (before after : Option Traffic) (r : HttpResponse) → MayFollow e more → ¬ (HasReply (stream ++ more) before after r)

-- each reply that begins the stream is this one
abbrev pub IsOnlyReply : List ℕ → HttpResponse → Type 0
IsOnlyReply stream r = (before after : Option Traffic) (other : HttpResponse) → HasReply stream before after other → other ≡ r

-- the bytes leave no other answer: a reply is the only one, and by a named error there is none
abbrev pub Settles : List ℕ → Result HttpResponse EdgeError → Type 0
Settles stream (Ok r) = IsOnlyReply stream r
Settles stream (Err ConnFault) = Unit {0}
Settles stream (Err OutOfMemory) = Unit {0}
Settles stream (Err e) = HasNoReply stream e

-- an input, which is all that will come, begins with this reply
abbrev pub InputHasReply : List ℕ → HttpResponse → Type 0
InputHasReply input r = HasReply input None None r

-- an error of which the input tells, which is any but a fault and OutOfMemory
abbrev pub IsNamed : EdgeError → Type 0
IsNamed ConnFault = ⊥
IsNamed OutOfMemory = ⊥
IsNamed e = Unit {0}

-- the first bytes of an input have this cause of an error
pub record InputBreaks (input : List ℕ) (e : EdgeError) : Type 0 where
  pub stream : List ℕ
  pub more : List ℕ
  pub is : input ≡ stream ++ more
  pub behind : MayFollow e more
  pub cause : HasNoReading stream None None e

-- two errors are the same, or are left open: a head or trailer part with too many fields that is malformed or isn't whole
abbrev pub AgreesWith : EdgeError → EdgeError → Type 0
AgreesWith TooManyFields BadHead = Unit {0}
AgreesWith TooManyFields HeadTooLong = Unit {0}
AgreesWith TooManyFields (CutShort n) = Unit {0}
AgreesWith BadHead TooManyFields = Unit {0}
AgreesWith HeadTooLong TooManyFields = Unit {0}
AgreesWith (CutShort n) TooManyFields = Unit {0}
AgreesWith e f = e ≡ f

-- the error is one of which the input tells, and each of which it tells agrees with it; no reply begins the input
pub record IsErrorOf (input : List ℕ) (e : EdgeError) : Type 0 where
  pub breaks : InputBreaks input e
  pub agrees : (other : EdgeError) → IsNamed other → InputBreaks input other → AgreesWith e other
  pub no_reply : (r : HttpResponse) → ¬ (InputHasReply input r)

-- a reply is answered exactly if the input begins with one, and that one; a fault and OutOfMemory may come in its place
abbrev pub Decides : List ℕ → Result HttpResponse EdgeError → Type 0
Decides input (Ok r) = InputHasReply input r × ((other : HttpResponse) → InputHasReply input other → other ≡ r)
Decides input (Err ConnFault) = Unit {0}
Decides input (Err OutOfMemory) = Unit {0}
Decides input (Err e) = IsErrorOf input e

-- ---- as laws

-- why there is no reply, and a reply exclude each other, also after more bytes
abbrev pub CauseExcludesReply : Type 0
CauseExcludesReply =
    (stream more : List ℕ) (e : EdgeError) (before after : Option Traffic) (r : HttpResponse)
    → MayFollow e more → Breaks stream e → ¬ (HasReply (stream ++ more) before after r)

-- one stream begins with one reply
abbrev pub HasOneReply : Type 0
HasOneReply = (stream : List ℕ) (a b c d : Option Traffic) (r s : HttpResponse) → HasReply stream a b r → HasReply stream c d s → r ≡ s

-- the causes of errors that one input has agree
abbrev pub GivesOneError : Type 0
GivesOneError = (input : List ℕ) (e f : EdgeError) → IsNamed e → IsNamed f → InputBreaks input e → InputBreaks input f → AgreesWith e f
