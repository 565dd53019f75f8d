use Rattle.std.proofs.Common.{◌≡◌, true, length}
use Rattle.schedule_text.specs.GoDurations.{terms_from}
use Rattle.schedule_text.proofs.go_duration.terms_at.Given as goal

abbrev pub invariant-loop-rest : goal.invariant-loop-rest
invariant-loop-rest l = terms_from true l.most l.sum l.rest ≡ terms_from true (length l.text) 0 l.text

abbrev pub decreases-loop-rest : goal.decreases-loop-rest
decreases-loop-rest l = l.most
