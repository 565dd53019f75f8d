-- What `collect` and `may_leave` answer. Own.
use Rattle.std.specs.Prelude.{ℕ, Bool, List, Option, None, Some}
use Rattle.std.specs.declared.result.Result.{Result}
use Rattle.std.specs.declared.result.Result.TheVariants.{Ok, Err}
use Rattle.actor_names.specs.declared.member.Member.{Member}
use Rattle.part_model.specs.Receipts.{ReceiptState}
use Rattle.part_model.specs.declared.ack.Ack.{Ack}
use Rattle.part_model.specs.Acks.{collected, are_stopped, other_place}
use Rattle.member_core.specs.declared.ack.CollectError.{CollectError}
use Rattle.member_core.specs.declared.ack.CollectError.TheVariants.{OtherReceipt}

-- the answer if every receipt is of the member's part of its place; otherwise the first other one is refused
abbrev pub answer_of : {A : Type 0} → A → Option ℕ → Result A CollectError
answer_of answer None = Ok answer
answer_of answer (Some at) = Err (OtherReceipt at)

abbrev pub collect_answer : Member → List ReceiptState → Result (Option Ack) CollectError
collect_answer m rs = answer_of (collected rs) (other_place m 0 rs)

abbrev pub leave_answer : Member → List ReceiptState → Result Bool CollectError
leave_answer m rs = answer_of (are_stopped rs) (other_place m 0 rs)
