use Rattle.std.proofs.Common.{sym, subst}
use Rattle.round_core.specs.Sound.{IsRoomSound}
use Rattle.round_core.specs.Views.{RoundState}
use Rattle.round_core.proofs.Sound.{until_sound}
use Rattle.round_core.proofs.restore.apply_record.Goals as goal

pub returns-then-not-remove_all-clause-sound : goal.returns-then-not-remove_all-clause-sound
returns-then-not-remove_all-clause-sound c = subst (λ (r : RoundState). IsRoomSound r.state) (sym c.remove_all.ensures.rest) (until_sound c.args.rounds.now.state c.as_slice.result.now c.requires.sound)

pub join_recorded-requires-clause-sound : goal.join_recorded-requires-clause-sound
join_recorded-requires-clause-sound c = subst (λ (r : RoundState). IsRoomSound r.state) (sym c.remove_all.ensures.rest) (until_sound c.args.rounds.now.state c.as_slice.result.now c.requires.sound)
