-- That an input decides what is read of it, however its bytes come: own definitions.
use Rattle.std.specs.Prelude.{◌≡◌, ◌⊎◌, ◌++◌, [], List, ℕ, length, Option, None, Result, Ok, Err}
use Rattle.httparse.specs.Grammar.{EndsInTarget}
use Rattle.http_edge.specs.declared.message.HttpRequest.{HttpRequest}
use Rattle.http_edge.specs.declared.error.EdgeError.{EdgeError}
use Rattle.http_edge.specs.declared.error.EdgeError.TheVariants.{BadHead, HeadTooLong, TooManyFields, CutShort, ConnFault, OutOfMemory}
use Rattle.http_edge.specs.Fields.{most_head}
use Rattle.http_edge.specs.Requests.{Gives}

-- an answer that the input gives, which is any but a fault and OutOfMemory
abbrev pub IsByInput : Result (Option HttpRequest) EdgeError → Type 0
IsByInput (Err ConnFault) = ⊥
IsByInput (Err OutOfMemory) = ⊥
IsByInput answer = Unit {0}

-- what may be behind the bytes of which an answer tells: nothing, if it tells that the input has ended
abbrev pub MayBeBehind : Result (Option HttpRequest) EdgeError → List ℕ → Type 0
MayBeBehind (Ok None) more = more ≡ []
MayBeBehind (Err (CutShort n)) more = more ≡ []
MayBeBehind answer more = Unit {0}

-- the first bytes of an input give this answer
pub record InputGives (input : List ℕ) (answer : Result (Option HttpRequest) EdgeError) : Type 0 where
  pub stream : List ℕ
  pub more : List ℕ
  pub kept : List ℕ
  pub is : input ≡ stream ++ more
  pub behind : MayBeBehind answer more
  pub gives : Gives stream kept None None answer

-- the second error may come in place of the first: for a head with too many fields that is malformed or isn't whole,
-- and for a malformed one that ends inside its target
abbrev pub LeavesOpen : List ℕ → EdgeError → EdgeError → Type 0
LeavesOpen input TooManyFields BadHead = Unit {0}
LeavesOpen input TooManyFields HeadTooLong = Unit {0}
LeavesOpen input TooManyFields (CutShort n) = Unit {0}
LeavesOpen input BadHead HeadTooLong = (front : List ℕ) × (rest : List ℕ) × (input ≡ front ++ rest) × (length front ≡ most_head) × EndsInTarget front
LeavesOpen input BadHead (CutShort n) = EndsInTarget input
LeavesOpen input e f = ⊥

-- two answers are the same, or are left open
abbrev pub Agrees : List ℕ → Result (Option HttpRequest) EdgeError → Result (Option HttpRequest) EdgeError → Type 0
Agrees input (Ok x) (Ok y) = x ≡ y
Agrees input (Err e) (Err f) = (e ≡ f) ⊎ (LeavesOpen input e f ⊎ LeavesOpen input f e)
Agrees input x y = ⊥

-- the answer is one that the input gives, and each that it gives agrees with it
abbrev pub IsAnswerTo : List ℕ → Result (Option HttpRequest) EdgeError → Type 0
IsAnswerTo input answer =
    IsByInput answer → InputGives input answer × ((other : Result (Option HttpRequest) EdgeError) → IsByInput other → InputGives input other → Agrees input answer other)

-- ---- as a law

-- all answers that one input gives agree
abbrev pub GivesOneAnswer : Type 0
GivesOneAnswer =
    (input : List ℕ) (answer other : Result (Option HttpRequest) EdgeError)
    → IsByInput answer → IsByInput other → InputGives input answer → InputGives input other → Agrees input answer other
