use Rattle.std.proofs.Common.{◌≡◌, ◌∙◌, ◌⊎◌, ℕ, set, get_or, ◌-◌, ◌<◌, ap, inl, inr, length, arith}
use Rattle.lease_core.specs.declared.book.MemberClock.{MemberClock}
use Rattle.lease_core.proofs.Loops.{extended_out, extended_in}
use Rattle.lease_core.proofs.stepping.extend_lease.Goals as goal
use Rattle.lease_core.proofs.stepping.extend_lease.Goals.{then-sent-eq0-via-then-sent-eq0, then-sent-eq0-via-else-sent-eq0+then-sent-members}

pub returns-then-sent-eq0 : goal.returns-then-sent-eq0
returns-then-sent-eq0 c = extended_out c.args.members.now c.args.sent.boot c.args.sent.moment (elim c.then-sent-eq0.branch [
  | then-sent-eq0-via-then-sent-eq0 w ↦ inl (omega arith)
  | then-sent-eq0-via-else-sent-eq0+then-sent-members w ↦ inr (omega arith)
])

pub returns : goal.returns
returns c =
    let ms = c.args.members.now in
    let k = c.args.sent.boot - 1 in
    let m : MemberClock = get_or ms k c.index-members-sent.result in
    ap (λ (n : ℕ). set ms k (record { member = m.member; clock = m.clock; lease = n })) c.answered.ensures ∙ extended_in ms c.args.sent.boot c.args.sent.moment c.index-members-sent.result (λ e. omega arith) (omega arith)
