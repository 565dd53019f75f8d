use Rattle.std.proofs.Common.{subst, ap, ◌∙◌, refl, length}
use Rattle.frame_wire.specs.Streams.{Feeds, Takes, place, ReaderState, outcome}
use Rattle.frame_wire.proofs.Taking.{feeds_from}
use Rattle.frame_wire.proofs.reader.FrameReader.feed.Goals as goal

pub returns-clause-fed : goal.returns-clause-fed
returns-clause-fed c = λ none.
    let t = c.in_ok-front.ensures.taken in
    let old : ReaderState = record { ready = c.self.inside.ready.items; rest = c.self.inside.rest.items; at = c.self.inside.at; failed = c.self.inside.failed } in
    let new : ReaderState = record { ready = c.take_piece.new.ready.items; rest = c.take_piece.new.rest.items; at = c.place-self-inside.result; failed = c.in_ok-front.front.end } in
    let there : Takes old c.args.piece.now new c.in_ok-front.front.end = (t.0, t.1, c.place-self-inside.ensures ∙ ap (λ n. place c.self.inside.at n) t.2, t.3, refl) in
    rw c.outcome.ensures (subst (λ o. Feeds o c.args.piece.now new (outcome c.in_ok-front.front.end)) c.self.view_is (feeds_from old c.args.piece.now new c.in_ok-front.front.end there))
