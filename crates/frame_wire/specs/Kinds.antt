-- The kinds of frames and their bytes. Own.
use Rattle.std.specs.Prelude.{ℕ, List, [], ◌∷◌, Option, Some, None, option_map}
use Rattle.wire_fields.specs.Fields.{row_of}
use Rattle.frame_wire.specs.declared.kind.Kind.{Kind}
use Rattle.frame_wire.specs.declared.kind.Kind.TheVariants.{Register, Beat, Ack, Leave, Lock, Update, Unlock, Idle, Refused, Gone, FencedTx, MirrorWrite, MirrorCut, MirrorSync, MirrorDone, MirrorFault, Command, Answer}
use Rattle.frame_wire.specs.declared.store_kind.CommandKind.{CommandKind}
use Rattle.frame_wire.specs.declared.store_kind.CommandKind.TheVariants as commands
use Rattle.frame_wire.specs.declared.store_kind.AnswerKind.{AnswerKind}
use Rattle.frame_wire.specs.declared.store_kind.AnswerKind.TheVariants as answers

-- between a member and the placement, and between a placement and its standby; and a transaction with an epoch, from a member to the store
abbrev pub kinds : List (ℕ × Kind)
kinds =
    (1, Register)
    ∷ (2, Beat)
    ∷ (3, Ack)
    ∷ (4, Leave)
    ∷ (16, Lock)
    ∷ (17, Update)
    ∷ (18, Unlock)
    ∷ (19, Idle)
    ∷ (20, Refused)
    ∷ (21, Gone)
    ∷ (40, FencedTx)
    ∷ (64, MirrorWrite)
    ∷ (65, MirrorCut)
    ∷ (66, MirrorSync)
    ∷ (67, MirrorDone)
    ∷ (68, MirrorFault)
    ∷ []

-- from a member to the store: the commands that a journal keeps
abbrev pub command_kinds : List (ℕ × CommandKind)
command_kinds =
    (32, commands.Boot)
    ∷ (33, commands.Tx)
    ∷ (34, commands.Get)
    ∷ (35, commands.PutReminder)
    ∷ (36, commands.GetReminder)
    ∷ (37, commands.DeleteReminder)
    ∷ (38, commands.Due)
    ∷ (39, commands.Fired)
    ∷ []

-- from the store to a member
abbrev pub answer_kinds : List (ℕ × AnswerKind)
answer_kinds =
    (48, answers.Booted)
    ∷ (49, answers.Done)
    ∷ (50, answers.Value)
    ∷ (51, answers.NotThere)
    ∷ (52, answers.ReminderIs)
    ∷ (53, answers.DueList)
    ∷ (54, answers.NextIs)
    ∷ (55, answers.Refused)
    ∷ []

-- the kind that a byte means, if it means one
unfoldable pub command_kind_of : ℕ → Option CommandKind
command_kind_of b = row_of command_kinds b

unfoldable pub answer_kind_of : ℕ → Option AnswerKind
answer_kind_of b = row_of answer_kinds b

abbrev pub first_of : {A : Type 0} → Option A → Option A → Option A
first_of None y = y
first_of (Some x) y = Some x

abbrev pub store_kind_of : ℕ → Option Kind
store_kind_of b = first_of (option_map (λ k. Command k) (command_kind_of b)) (option_map (λ k. Answer k) (answer_kind_of b))

unfoldable pub kind_of : ℕ → Option Kind
kind_of b = first_of (row_of kinds b) (store_kind_of b)

abbrev pub command_byte : CommandKind → ℕ
command_byte commands.Boot = 32
command_byte commands.Tx = 33
command_byte commands.Get = 34
command_byte commands.PutReminder = 35
command_byte commands.GetReminder = 36
command_byte commands.DeleteReminder = 37
command_byte commands.Due = 38
command_byte commands.Fired = 39

abbrev pub answer_byte : AnswerKind → ℕ
answer_byte answers.Booted = 48
answer_byte answers.Done = 49
answer_byte answers.Value = 50
answer_byte answers.NotThere = 51
answer_byte answers.ReminderIs = 52
answer_byte answers.DueList = 53
answer_byte answers.NextIs = 54
answer_byte answers.Refused = 55

abbrev pub byte_of : Kind → ℕ
byte_of Register = 1
byte_of Beat = 2
byte_of Ack = 3
byte_of Leave = 4
byte_of Lock = 16
byte_of Update = 17
byte_of Unlock = 18
byte_of Idle = 19
byte_of Refused = 20
byte_of Gone = 21
byte_of FencedTx = 40
byte_of MirrorWrite = 64
byte_of MirrorCut = 65
byte_of MirrorSync = 66
byte_of MirrorDone = 67
byte_of MirrorFault = 68
byte_of (Command k) = command_byte k
byte_of (Answer k) = answer_byte k
