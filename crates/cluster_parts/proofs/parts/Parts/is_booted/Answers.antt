use Rattle.std.proofs.Common.{◌≡◌, ℕ, List}
use Rattle.std.specs.Prelude.{Option, None, Some, is_some, MatchOption}
use Rattle.std.proofs.Common.{sym, ◌∙◌}
use Rattle.actor_names.specs.declared.member.Member.{Member}
use Rattle.part_model.specs.Part.{PartState}
use Rattle.cluster_model.specs.World.{was_booted}
use Rattle.cluster_parts.specs.Layout.{HasNone, IsFirst}
use Rattle.cluster_parts.proofs.Scans.{booted-none, booted-first}
use Rattle.cluster_parts.proofs.parts.Parts.is_booted.Goals as goal

told : (o : Option ℕ) (ps : List PartState) (m : Member) (per : ℕ) → MatchOption o (HasNone m ps) (λ first. IsFirst ps m per first) → is_some o ≡ was_booted ps m
told None ps m per h = sym (booted-none m ps h)
told (Some first) ps m per h = sym (booted-first ps m per first h)

pub returns : goal.returns
returns c = c.is_some.ensures ∙ told c.first_of.result c.args.self.now.parts c.args.member.now c.args.self.now.per c.first_of.ensures.found
