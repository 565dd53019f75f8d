-- Which lines of a script made the calls whose turns it runs, and under which chain. Own.
use Rattle.std.specs.Prelude.{◌≡◌, ℕ, ◌==◌, if◌then◌else◌, List, [], ◌∷◌, ◌++◌, slice_get, Option, None, Some, Result, Ok}
use Rattle.actor_names.specs.declared.member.Member.{Member}
use Rattle.actor_names.specs.declared.actor_key.ActorKey.{ActorKey}
use Rattle.turn_core.specs.declared.cell.Turn.{Turn}
use Rattle.turn_core.specs.declared.cell.Waiter.{Waiter}
use Rattle.turn_core.specs.CellSound.{In}
use Rattle.part_model.specs.declared.actor_cell.ActorCell.{ActorCell}
use Rattle.part_model.specs.Marks.{TurnBegan, TurnEnded}
use Rattle.part_model.specs.Part.{PartState, made_chain, chain_or}
use Rattle.part_model.specs.Settings.{settings_of}
use Rattle.world_events.specs.declared.event.WorldEvent.{WorldEvent}
use Rattle.world_events.specs.declared.event.WorldEvent.TheVariants as lines
use Rattle.world_events.specs.declared.outcome.Outcome.{Outcome}
use Rattle.world_events.specs.declared.outcome.Outcome.TheVariants as out
use Rattle.world_events.specs.declared.outcome.TurnOutcome.TheVariants as turn
use Rattle.world_events.specs.declared.error.WorldError.{WorldError}
use Rattle.cluster_model.specs.Messages.{Register, Asks}
use Rattle.cluster_model.specs.World.{ClusterState, CallPlace, TraceMark, call_at, host_of, settings_for}

-- a call, as the script's line makes it
pub record AskedCall : Type 0 where
  pub number : ℕ
  pub member : Member
  pub key : ActorKey
  pub chain : Option (List ℕ)  -- the identifier that the line names, if it names one

-- The call that a line makes, by what it prints: a `call` line that begins, or waits. No other line makes a call that
-- has a turn.
abbrev pub asked_by : WorldEvent → Result Outcome WorldError → List AskedCall
asked_by (lines.Call number m key least chain) (Ok (out.Turn (turn.Begun n))) = record { number = number; member = m; key = key; chain = chain } ∷ []
asked_by (lines.Call number m key least chain) (Ok (out.Turn (turn.Waits n place))) = record { number = number; member = m; key = key; chain = chain } ∷ []
asked_by event outcome = []

-- the calls that a script makes, from its lines and from what each of them prints
abbrev pub asked_calls : List WorldEvent → List (Result Outcome WorldError) → List AskedCall
asked_calls [] printed = []
asked_calls (e ∷ es) [] = []
asked_calls (e ∷ es) (o ∷ printed) = asked_by e o ++ asked_calls es printed

-- The chain of a call that a part took under a number of its own: none if the type's reentrancy is off, else the one
-- that the line names, and if it names none the one that the part makes from that number.
abbrev pub chain_under : PartState → ActorKey → ℕ → Option (List ℕ) → Option (List ℕ)
chain_under p k call named = if (settings_of p.kinds k.kind).depth == 0 then None else chain_or named (made_chain p.member p.number call)

-- The part of an actor among a number of parts is a parameter of what follows.
module _ (part_of : ActorKey → ℕ → ℕ) where
  -- A line of the script made this call of the actor at this member: the member's part of the actor took it under this
  -- number, and its chain is the one under which that line made it.
  pub record WasAsked (number_of_parts : ℕ) (parts : List PartState) (calls : List (Option CallPlace)) (asked : List AskedCall) (m : Member) (k : ActorKey) (call : ℕ) (chain : Option (List ℕ)) : Type 0 where
    pub number : ℕ
    pub named : Option (List ℕ)
    pub line : In (record { number = number; member = m; key = k; chain = named }) asked
    pub place : ℕ
    pub part : PartState
    pub stands : call_at calls number ≡ Some (record { place = place; call = call })
    pub found : slice_get parts place ≡ Some part
    pub of_member : part.member ≡ m
    pub of_key : part.number ≡ part_of k number_of_parts
    pub under : chain ≡ chain_under part k call named

  abbrev pub IsOfItsLine : ClusterState → List AskedCall → Member → ActorKey → ℕ → Option (List ℕ) → Type 0
  IsOfItsLine w asked m k call chain = WasAsked w.settings.parts w.parts w.calls asked m k call chain

  -- Each turn that ever began, each that is open and each call that waits was made by a line of the script, of that
  -- actor at that member, and has the chain under which the line made it. A number has one line, and each of a part's
  -- numbers has one number of the script.
  pub record TurnsAreAsked (w : ClusterState) (asked : List AskedCall) : Type 0 where
    pub began : (m : Member) (k : ActorKey) (call : ℕ) (chain : Option (List ℕ)) → In (record { member = m; what = TurnBegan k call chain }) w.marks → IsOfItsLine w asked m k call chain
    pub open_turns : (p : PartState) (c : ActorCell) (t : Turn) → In p w.parts → In c p.cells → In t c.inner.turns → IsOfItsLine w asked p.member c.key t.call t.chain
    pub waiting : (p : PartState) (c : ActorCell) (v : Waiter) → In p w.parts → In c p.cells → In v c.inner.queue → IsOfItsLine w asked p.member c.key v.call v.chain
    pub one_line : (a b : AskedCall) → In a asked → In b asked → a.number ≡ b.number → a ≡ b
    pub one_number : (i j : ℕ) (c : CallPlace) → call_at w.calls i ≡ Some c → call_at w.calls j ≡ Some c → i ≡ j

  -- Two turns that overlap, as their lines name them: one actor at one member, and one chain if both lines name one.
  pub record AreNamedAlike (w : ClusterState) (asked : List AskedCall) (m n : Member) (k : ActorKey) (a b : ℕ) (x y : Option (List ℕ)) : Type 0 where
    pub first : IsOfItsLine w asked m k a x
    pub second : IsOfItsLine w asked n k b y
    pub one_member : m ≡ n
    pub alike : (c d : List ℕ) → first.named ≡ Some c → second.named ≡ Some d → c ≡ d

  -- Two turns of one actor that overlap: the first hasn't ended before the second begins.
  abbrev pub OverlapsAreNamedAlike : ClusterState → List AskedCall → Type 0
  OverlapsAreNamedAlike w asked =
      (before middle after : List TraceMark) (m n : Member) (k : ActorKey) (a b : ℕ) (x y : Option (List ℕ)) →
      w.marks ≡ before ++ record { member = m; what = TurnBegan k a x } ∷ (middle ++ record { member = n; what = TurnBegan k b y } ∷ after) →
      (In (record { member = m; what = TurnEnded k a }) middle → ⊥) → AreNamedAlike w asked m n k a b x y

-- Each part has the settings of the types with which its member asked to be registered, those of its `boot` line.
abbrev pub PartsHaveSettings : ClusterState → Type 0
PartsHaveSettings w = (p : PartState) → In p w.parts → (kinds : List (List ℕ)) × In (Asks (Register (host_of p.member kinds))) w.messages × (p.kinds ≡ settings_for w.settings kinds)

-- Each turn that ended began before, on the same member and for the same actor.
abbrev pub EndedHadBegun : List TraceMark → Type 0
EndedHadBegun marks =
    (before after : List TraceMark) (m : Member) (k : ActorKey) (call : ℕ) → marks ≡ before ++ record { member = m; what = TurnEnded k call } ∷ after →
    (chain : Option (List ℕ)) × In (record { member = m; what = TurnBegan k call chain }) before
