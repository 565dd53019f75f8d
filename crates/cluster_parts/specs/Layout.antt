-- Where the parts of a member are among those of all members. Own.
use Rattle.std.specs.Prelude.{◌≡◌, ℕ, zero, suc, ◌<◌, ◌≤◌, Bool, true, false, ◌&&◌, List, [], ◌∷◌, ◌++◌, map, length, Option, None, Some, slice_get}
use Rattle.actor_names.specs.declared.member.Member.{Member}
use Rattle.turn_core.specs.CellSound.{In}
use Rattle.actor_names.specs.Same.{same_member}
use Rattle.part_model.specs.Part.{PartState, is_stopped, ring_owner}
use Rattle.part_model.specs.Sound.{IsPartSound}
use Rattle.part_model.specs.Receipts.{ReceiptState}
use Rattle.part_model.specs.Acks.{other_place}
use Rattle.cluster_model.specs.World.{key_part, was_booted, receipts_of}
use Rattle.cluster_parts.specs.declared.home.Home.{Home}

-- whose part it is, and its number
pub record PartTag : Type 0 where
  pub member : Member
  pub number : ℕ

abbrev pub tag_of : PartState → PartTag
tag_of p = record { member = p.member; number = p.number }

abbrev pub tags_of : List PartState → List PartTag
tags_of ps = map tag_of ps

-- the given number of parts of a member, numbered from this number on
abbrev pub member_tags : Member → ℕ → ℕ → List PartTag
member_tags m i zero = []
member_tags m i (suc n) = record { member = m; number = i } ∷ member_tags m (suc i) n

-- the member of a space's node in this boot, and the home of a member
abbrev pub booted_at : Home → ℕ → Member
booted_at h boot = record { space = h.space; node = h.node; boot = boot }

abbrev pub home_of : Member → Home
home_of m = record { space = m.space; node = m.node }

-- the parts of the members with these homes, whose boots count up from this one
abbrev pub all_tags : ℕ → ℕ → List Home → List PartTag
all_tags per boot [] = []
all_tags per boot (h ∷ hs) = member_tags (booted_at h boot) 0 per ++ all_tags per (suc boot) hs

-- The parts are in order of boot, from 1, then number; each is sound.
pub record AreLaidOut (per : ℕ) (homes : List Home) (ps : List PartState) : Type 0 where
  pub many : 0 < per
  pub few : per ≤ 16
  pub laid : tags_of ps ≡ all_tags per 1 homes
  pub sound : (p : PartState) → In p ps → IsPartSound ring_owner p

-- none of these parts is the member's
abbrev pub HasNone : Member → List PartState → Type 0
HasNone m [] = Unit {0}
HasNone m (p ∷ ps) = (same_member m p.member ≡ false) × HasNone m ps

-- the member's parts are at this place and those after it, and nowhere else
pub record IsFirst (ps : List PartState) (m : Member) (per first : ℕ) : Type 0 where
  pub before : List PartState
  pub block : List PartState
  pub after : List PartState
  pub whole : ps ≡ before ++ (block ++ after)
  pub at : length before ≡ first
  pub none_before : HasNone m before
  pub none_after : HasNone m after
  pub own : tags_of block ≡ member_tags m 0 per
  pub some : 0 < per

abbrev pub with_found : Option PartState → List PartState → List PartState
with_found None ps = ps
with_found (Some p) ps = p ∷ ps

-- the given number of parts, from this place on
abbrev pub segment : List PartState → ℕ → ℕ → List PartState
segment ps at zero = []
segment ps at (suc n) = with_found (slice_get ps at) (segment ps (suc at) n)

-- each of these parts has stopped
abbrev pub are_all_stopped : List PartState → Bool
are_all_stopped [] = true
are_all_stopped (p ∷ ps) = is_stopped p.stage && are_all_stopped ps

-- the given number of places, from this one on
abbrev pub counted_from : ℕ → ℕ → List ℕ
counted_from n zero = []
counted_from n (suc k) = n ∷ counted_from (suc n) k

-- the receipts of a member that was booted
pub record AreReceipts (ps : List PartState) (m : Member) (rs : List ReceiptState) : Type 0 where
  pub booted : was_booted ps m ≡ true
  pub all : rs ≡ receipts_of ring_owner key_part ps m
  pub own : other_place m 0 rs ≡ None
  pub some : 0 < length rs
