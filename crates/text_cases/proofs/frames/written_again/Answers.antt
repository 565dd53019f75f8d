use Rattle.std.proofs.Common.{◌≡◌, None, sym, ap, subst}
use Rattle.frame_wire.specs.Streams.{ReaderState, AllFrames}
use Rattle.text_cases.proofs.Ready.{frames_ready}
use Rattle.text_cases.proofs.frames.written_again.Goals as goal

pub loop-init : goal.loop-init
loop-init c =
    let start : c.new-reader.result.failed ≡ None = ap (λ (r : ReaderState). r.failed) c.new-reader.ensures in
    let none : AllFrames c.new-reader.result.ready = subst (λ (r : ReaderState). AllFrames r.ready) (sym c.new-reader.ensures) tt in
    let one = c.in_ok-feed.ensures.fed start in
    let two = c.in_ok-feed-2.ensures.fed one.4 in
    frames_ready c.feed.new.self c.args.second.now c.feed-2.new.self two (frames_ready c.new-reader.result c.args.first.now c.feed.new.self one none)
