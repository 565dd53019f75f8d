-- What a receipt says about a part. Own.
use Rattle.std.specs.Prelude.{ℕ}
use Rattle.actor_names.specs.declared.member.Member.{Member}
use Rattle.part_model.specs.declared.stage.SeenStage.{SeenStage}
use Rattle.part_model.specs.declared.event.Reply.{Reply}

pub record ReceiptState : Type 0 where
  pub member : Member
  pub part : ℕ
  pub version : ℕ  -- the greatest version seen
  pub opened : ℕ  -- the version at which the part opened last, 0 before it first opened
  pub stage : SeenStage

-- a reply, with what its receipt says
abbrev pub PartReply : Type 0
PartReply = Reply ReceiptState
