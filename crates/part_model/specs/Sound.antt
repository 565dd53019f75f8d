-- What stays true of a part, whatever happens to it. Own.
use Rattle.std.specs.Prelude.{◌≡◌, ◌≤◌, ◌+◌, ◌^◌, ℕ, true, false, List, [], ◌∷◌, length, Option, None, Some, IfSome}
use Rattle.actor_names.specs.declared.actor_key.ActorKey.{ActorKey}
use Rattle.place_table.specs.declared.host.HostInfo.{HostInfo}
use Rattle.place_table.specs.Hosts.{PlacementTable}
use Rattle.turn_core.specs.declared.cell.Turn.{Turn}
use Rattle.turn_core.specs.declared.cell.Waiter.{Waiter}
use Rattle.turn_core.specs.Cell.{CellState, is_in_cell}
use Rattle.turn_core.specs.CellSound.{In, IsCellSound}
use Rattle.part_model.specs.declared.settings.TypeSettings.{TypeSettings}
use Rattle.part_model.specs.declared.stage.Stage.{Stage}
use Rattle.part_model.specs.declared.stage.Stage.TheVariants.{Locked, Updated, Open, Stopped}
use Rattle.part_model.specs.declared.actor_cell.ActorCell.{ActorCell}
use Rattle.part_model.specs.Receipts.{PartReply}
use Rattle.part_model.specs.declared.event.Reply.TheVariants as replies
use Rattle.part_model.specs.Receipts.{ReceiptState}
use Rattle.part_model.specs.Settings.{settings_of}
use Rattle.part_model.specs.Cells.{is_kept}
use Rattle.part_model.specs.Order.{AreInOrder}
use Rattle.part_model.specs.Part.{PartState, is_own, receipt_of, most_cells, most_drawn}

-- how many holds there are
abbrev pub total_holds : List ActorCell → ℕ
total_holds [] = 0
total_holds (c ∷ cs) = c.inner.holds + total_holds cs

-- every call in the queue is moved
abbrev pub HasNoWaiter : CellState → Type 0
HasNoWaiter c = (w : Waiter) → In w c.queue → w.moved ≡ true

-- What is true of one cell: its turns are sound; if a turn is open, it is active; if it is closing, it is active and
-- has no open turn and no hold.
pub record IsActorSound (c : ActorCell) : Type 0 where
  pub sound : IsCellSound c.inner
  pub open_active : (t : Turn) → In t c.inner.turns → c.active ≡ true
  pub closing_active : c.closing ≡ true → c.active ≡ true
  pub closing_free : c.closing ≡ true → c.inner.turns ≡ []
  pub closing_unheld : c.closing ≡ true → c.inner.holds ≡ 0

-- The limits of a part: 65,536 cells, and 2^62 numbers. Each call that is open or waits has a number that was drawn,
-- and stands in the cell of one actor alone. Each cell has the depth of its type.
pub record IsWithinLimits (kinds : List TypeSettings) (drawn : ℕ) (cells : List ActorCell) : Type 0 where
  pub few : length cells ≤ most_cells
  pub drawn_within : drawn ≤ most_drawn
  pub drawn_calls : (c : ActorCell) (call : ℕ) → In c cells → is_in_cell call c.inner ≡ true → (1 ≤ call) × (call ≤ drawn)
  pub apart : (c d : ActorCell) (call : ℕ) → In c cells → In d cells → is_in_cell call c.inner ≡ true → is_in_cell call d.inner ≡ true → c.key ≡ d.key
  pub depths : (c : ActorCell) → In c cells → (settings_of kinds c.key.kind).depth ≡ c.inner.depth

-- no version that a part knows is above 2^62
pub record AreVersionsWithin (p : PartState) : Type 0 where
  pub seen_within : p.seen ≤ 2 ^ 62
  pub opened_within : p.opened ≤ 2 ^ 62
  pub table_within : p.table.version ≤ 2 ^ 62

-- the receipt in a reply, if there is one
abbrev pub receipt_in : PartReply → Option ReceiptState
receipt_in (replies.TableStep receipt changed) = Some receipt
receipt_in (replies.Opened receipt begun moved) = Some receipt
receipt_in (replies.NotDrained receipt) = Some receipt
receipt_in (replies.Ticked receipt ended) = Some receipt
receipt_in (replies.StoppedNow receipt) = Some receipt
receipt_in _ = None

module _ (owner : PlacementTable → ActorKey → Option HostInfo) where
  -- In a foreign cell every waiting call is moved; and so it is in any cell that has no open turn and isn't
  -- closing.
  pub record IsWorkDone (p : PartState) (c : ActorCell) : Type 0 where
    pub foreign : is_own owner p c.key ≡ false → HasNoWaiter c.inner
    pub free : c.inner.turns ≡ [] → c.closing ≡ false → HasNoWaiter c.inner

  abbrev pub NoIdleWaiterAt : Stage → PartState → Type 0
  NoIdleWaiterAt Open p = (c : ActorCell) → In c p.cells → IsWorkDone p c
  NoIdleWaiterAt Locked p = Unit {0}
  NoIdleWaiterAt Updated p = Unit {0}
  NoIdleWaiterAt Stopped p = Unit {0}

  -- an open part leaves no call waiting that could run
  abbrev pub NoIdleWaiter : PartState → Type 0
  NoIdleWaiter p = NoIdleWaiterAt p.stage p

  -- each active actor belongs to this member by the installed table
  abbrev pub OwnsActive : PartState → Type 0
  OwnsActive p = (c : ActorCell) → In c p.cells → c.active ≡ true → is_own owner p c.key ≡ true

  abbrev pub OwnsWhenOpenAt : Stage → PartState → Type 0
  OwnsWhenOpenAt Open p = OwnsActive p
  OwnsWhenOpenAt Locked p = Unit {0}
  OwnsWhenOpenAt Updated p = Unit {0}
  OwnsWhenOpenAt Stopped p = Unit {0}

  -- in an open part no active actor is foreign
  abbrev pub OwnsWhenOpen : PartState → Type 0
  OwnsWhenOpen p = OwnsWhenOpenAt p.stage p

  abbrev pub HasNoCellAt : Stage → PartState → Type 0
  HasNoCellAt Stopped p = p.cells ≡ []
  HasNoCellAt Locked p = Unit {0}
  HasNoCellAt Updated p = Unit {0}
  HasNoCellAt Open p = Unit {0}

  -- a stopped part has no cell
  abbrev pub IsEmptyWhenStopped : PartState → Type 0
  IsEmptyWhenStopped p = HasNoCellAt p.stage p

  -- a receipt in a reply is that of this state
  abbrev pub TellsState : PartReply → PartState → Type 0
  TellsState reply p = IfSome (receipt_in reply) (λ r. r ≡ receipt_of owner p)

  pub record IsPartSound (p : PartState) : Type 0 where
    pub in_order : AreInOrder p.cells
    pub each_sound : (c : ActorCell) → In c p.cells → IsActorSound c
    pub each_kept : (c : ActorCell) → In c p.cells → is_kept c ≡ true
    pub limits : IsWithinLimits p.kinds p.drawn p.cells
    pub holds_drawn : total_holds p.cells ≤ p.drawn
    pub no_idle_waiter : NoIdleWaiter p
    pub stopped_empty : IsEmptyWhenStopped p
