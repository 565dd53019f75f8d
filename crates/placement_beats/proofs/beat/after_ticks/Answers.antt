use Rattle.std.proofs.Common.{ℕ, length, sym, subst, arith}
use Rattle.frame_wire.specs.declared.frame.Frame.TheVariants as frames
use Rattle.frame_wire.specs.Frames.{payload}
use Rattle.place_table.specs.declared.host.HostInfo.{HostInfo}
use Rattle.placement_beats.specs.Replies.{reply_fault}
use Rattle.placement_beats.specs.Beats.{Hears}
use Rattle.sidecar_node.specs.Nodes.{host_of, part_gates}
use Rattle.placement_beats.proofs.Laws.{all_report}
use Rattle.placement_beats.proofs.Turns.{is_frame, after_err, after_ok, failed_cause, ok_calm, hears_calm, exchange_of, sent_of}
use Rattle.placement_beats.proofs.beat.after_ticks.Goals as goal

pub heartbeat-beat-requires-clause-host : goal.heartbeat-beat-requires-clause-host
heartbeat-beat-requires-clause-host g c κs within = subst (λ (h : HostInfo). payload.Fits (frames.Register h)) (sym c.host.ensures) c.requires.host

pub heartbeat-beat-requires-clause-some : goal.heartbeat-beat-requires-clause-some
heartbeat-beat-requires-clause-some g c κs within =
    let all = all_report c.args.ticks.now c.requires.none in
    let each = c.requires.each in
    let many = c.parts-parts.ensures.many in
    let some = c.parts-parts.ensures.some in
    omega arith

pub returns-in-Err-clause-beats : goal.returns-in-Err-clause-beats
returns-in-Err-clause-beats g c =
    after_err (host_of c.args.node.now) _ c.args.ticks.now _ c.args.book.now c.args.seats.now _ _ c.heartbeat-beat.result.got c.in-Err.end c.failed_end.result c.in-Err.is
    (exchange_of c.host.result.now c.args.node.now _ _ _ _ _ c.host.ensures c.heartbeat-beat.ensures.exchanges) c.failed_end.ensures

pub returns-in-Err-clause-cause : goal.returns-in-Err-clause-cause
returns-in-Err-clause-cause g c = failed_cause _ _ c.heartbeat-beat.result.got c.in-Err.end c.failed_end.result c.in-Err.is c.heartbeat-beat.ensures.cause c.failed_end.ensures

pub hear-requires-clause-frame : goal.hear-requires-clause-frame
hear-requires-clause-frame g c = is_frame _ _ _ c.heartbeat-beat.result.got c.in-Ok.reply c.in-Ok.is c.heartbeat-beat.ensures.exchanges

pub returns-in-Ok-clause-beats : goal.returns-in-Ok-clause-beats
returns-in-Ok-clause-beats g c =
    let host = host_of c.args.node.now in
    let parts : ℕ = length (part_gates c.args.node.now) in
    after_ok host parts c.args.ticks.now _ c.args.book.now c.hear.new.book c.args.seats.now c.hear.new.seats _ _ c.heartbeat-beat.result.got c.heartbeat-beat.result.ack c.in-Ok.reply c.hear.result c.in-Ok.is
    (exchange_of c.host.result.now c.args.node.now _ _ _ _ _ c.host.ensures c.heartbeat-beat.ensures.exchanges)
    (sent_of c.host.result.now c.args.node.now _ _ _ _ c.host.ensures c.heartbeat-beat.ensures.ack)
    (subst (λ (n : ℕ). Hears host.member.space parts (reply_fault host.member.space c.in-Ok.reply) c.heartbeat-beat.result.ack c.in-Ok.reply n c.args.book.now c.hear.new.book c.args.seats.now c.hear.new.seats c.hear.result) (sym c.now_ms-now.ensures.shows) c.hear.ensures.hears)

pub returns-in-Ok-clause-cause : goal.returns-in-Ok-clause-cause
returns-in-Ok-clause-cause g c =
    let host = host_of c.args.node.now in
    hears_calm host.member.space (length (part_gates c.args.node.now)) (reply_fault host.member.space c.in-Ok.reply) c.heartbeat-beat.result.ack c.in-Ok.reply c.now_ms-now.result c.args.book.now c.hear.new.book c.args.seats.now c.hear.new.seats c.hear.result _ _ (ok_calm _ _ c.heartbeat-beat.result.got c.in-Ok.reply c.in-Ok.is c.heartbeat-beat.ensures.cause) c.hear.ensures.hears
