use Rattle.std.proofs.Common.{subst}
use Rattle.placement_sessions.proofs.Framed.{IsMessage, reply_is_message}
use Rattle.placement_sessions.proofs.placement.PlacementFramesAnswersFramesGatePlacementNode.answer.Goals as goal

pub unreachable-requires : goal.unreachable-requires
unreachable-requires g c = subst IsMessage c.in-Seen.is (reply_is_message c.args.reply c.requires).0

pub unreachable-requires-in-Ticked : goal.unreachable-requires-in-Ticked
unreachable-requires-in-Ticked g c = subst IsMessage c.in-Ticked.is (reply_is_message c.args.reply c.requires).0
