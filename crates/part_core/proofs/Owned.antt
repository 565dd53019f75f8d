-- An active actor of an open part belongs to its member.
use Rattle.std.proofs.Common.{◌≡◌, ℕ, Bool, true, not, List, Option, None, Some}
use Rattle.std.proofs.lemmas.Bool.{cond-true}
use Rattle.actor_names.specs.Same.{same_member}
use Rattle.place_table.specs.declared.host.HostInfo.{HostInfo}
use Rattle.turn_core.specs.CellSound.{In}
use Rattle.part_model.specs.declared.actor_cell.ActorCell.{ActorCell}
use Rattle.part_core.specs.declared.standing.Standing.{Standing}
use Rattle.part_model.specs.Part.{is_owned_by, ask_cell, ask_owned, ring_owner}
use Rattle.part_core.specs.Actors.{ActorsState, IsOwnIfActive, state_of}
use Rattle.part_model.specs.Sound.{OwnsWhenOpen}
use Rattle.part_model.proofs.PartLaws.{owns_open}
use Rattle.part_model.proofs.PartWrites.{open_stage}

pub own_if_active : (s : Standing) (a : ActorsState) (c : ActorCell) → OwnsWhenOpen ring_owner (state_of s a) → In c a.cells → IsOwnIfActive s c
own_if_active s a c owns i o active = owns_open ring_owner s.stage (state_of s a) (open_stage s.stage o) owns c i active

-- a call of an own actor asks its cell
pub owned_asks : (s : Standing) (a : ActorsState) (c : ActorCell) (chain : Option (List ℕ)) (full : Bool) (found : Option HostInfo) → is_owned_by s.member found ≡ true
    → ask_owned full (state_of s a) c chain found ≡ ask_cell full (state_of s a) c chain (not c.closing)
owned_asks s a c chain full None e = absurd (cc)
owned_asks s a c chain full (Some host) e = cond-true (same_member host.member s.member) _ _ e
