use Rattle.std.specs.Int.{w64, to_be_bytes}
use Rattle.store_payloads.specs.Fields.{lane_fields, table_row}
use Rattle.store_payloads.proofs.Written.{payload_written}
use Rattle.store_payloads.proofs.writing.put_lane_row.Goals as goal

pub returns : goal.returns
unfolding table_row
returns c = payload_written c.args.out.now.items (to_be_bytes w64 c.args.now) (lane_fields.spell (c.args.member.now, (c.args.lane.now.part, (c.args.lane.now.floor, c.args.lane.now.kept)))) c.put_head.new.out.items c.put_lane_fields.new.out.items 130 c.in_ok-put_head.ensures c.in_ok-put_lane_fields.ensures
