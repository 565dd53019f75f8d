use Rattle.std.proofs.Common.{◌∙◌, ap, subst}
use Rattle.frame_wire.specs.declared.store_command.Stamp.{Stamp}
use Rattle.exchanges.specs.Replies.{place_at}
use Rattle.exchanges.specs.Asked.{IsFrameAsked}
use Rattle.sidecar_requests.specs.declared.ask.Wanted.{Wanted}
use Rattle.sidecar_requests.specs.Asks.{store_frame}
use Rattle.sidecar_requests.specs.Outcomes.{store_answer}
use Rattle.sidecar_requests.proofs.asking.serve_asked.Goals as goal

pub returns : goal.returns
returns g c =
    let x = c.ask_with-got.ensures in
    let got = c.ask_with-got.result in (
      x.0,
      record {
        got = got;
        exchange = subst (λ (s : Stamp). IsFrameAsked (store_frame c.args.actor s 0 c.args.ask) (place_at c.args.at.now) x.0 got) c.stamp_of-stamp.ensures x.1;
        answered = c.store_answer.ensures ∙ ap (λ (w : Wanted). store_answer w got) c.wanted-wanted.ensures;
      },
      x.2,
    )
