use Rattle.std.proofs.Common.{List, Some, ap, sym, ◌∙◌}
use Rattle.actors_api.specs.Responses.{json_response}
use Rattle.placement_node.specs.declared.reply.NodeReply.{NodeReply}
use Rattle.placement_node.specs.declared.reply.RoomSeen.{RoomSeen}
use Rattle.placement_sessions.specs.StateTexts.{asked_text, look_response}
use Rattle.placement_sessions.proofs.state_response.look_response.Goals as goal

pub returns-in-Seen : goal.returns-in-Seen
returns-in-Seen c =
    let asked = c.args.asked.now in (
      json_response 200 (asked_text asked c.as_slice.result.now),
      ap (λ (r : NodeReply). look_response r asked) c.in-Seen.is ∙ ap (λ (rooms : List RoomSeen). Some (json_response 200 (asked_text asked rooms))) (sym c.as_slice.ensures),
      c.room_response.ensures,
    )
