use Rattle.std.proofs.Common.{◌≡◌, ◌++◌, ℕ, get_or, take, append_assoc, append-nil, arith}
use Rattle.std.specs.Prelude.{codes, decimal}
use Rattle.std.proofs.lemmas.Slice.{pushed}
use Rattle.outcome_text.specs.Outcomes.{versions_text}
use Rattle.outcome_text.proofs.VersionLemmas.{versions_more}
use Rattle.outcome_text.proofs.restarts.append_versions.Goals as goal

pub loop-version-preserved : goal.loop-version-preserved
loop-version-preserved c =
    let i = c.loop-version.version-index in
    let version : ℕ = get_or c.args.versions.now i 0 in
    let text : c.as_slice.result.now ≡ codes " " ++ decimal version =
    rw (c.as_slice.ensures, c.put_word.ensures.text, c.put_number.ensures.text, c.clear.ensures, append-nil (decimal version)) in
    let now = pushed c.as_slice.result.now c.loop-version.invariant c.in_ok-extend_from_slice.was c.extend_from_slice.ensures.items in
    rw (now, text, versions_more c.args.versions.now i (omega (arith, c.loop-version-test.true)), append_assoc c.args.into.now.items (versions_text (take i c.args.versions.now)) (codes " " ++ decimal version))
