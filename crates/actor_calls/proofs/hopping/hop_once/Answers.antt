use Rattle.std.proofs.Common.{refl, sym, ap, ◌∙◌, inl, inr, []}
use Rattle.actor_calls.proofs.Acting.{none_kept}
use Rattle.actor_calls.proofs.hopping.hop_once.Goals as goal

pub returns-then-eq-clause-hop : goal.returns-then-eq-clause-hop
returns-then-eq-clause-hop g c =
    let a = c.ask_here.ensures.asked in
    let same = rw c.host.ensures at (sym c.eq.ensures ∙ c.if-eq.true) in (
      a.0,
      a.1,
      [],
      a.2,
      a.3,
      none_kept g.P.Dial.dialled g.P.Dial.dial_faults c.args.desk.now.links.peers c.ask_here.new.desk.links.peers c.ask_here.ensures.others.0,
      inl (same, refl, a.4),
    )

pub returns-clause-hop : goal.returns-clause-hop
returns-clause-hop g c =
    let f = c.forward.ensures.forwarded in
    let other = rw c.host.ensures at (sym c.eq.ensures ∙ c.if-eq.false) in (
      f.0,
      [],
      f.1,
      f.2,
      none_kept g.A.Dial.dialled g.A.Dial.dial_faults c.args.desk.now.links.app c.forward.new.desk.links.app c.forward.ensures.others.0,
      f.3,
      inr (other, ap g.K.Clock.shown c.forward.ensures.clock, refl, f.4),
    )
