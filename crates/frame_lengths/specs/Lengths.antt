-- How long a frame between a member and the placement can be. Own.
use Rattle.std.specs.Prelude.{ℕ}
use Rattle.frame_wire.specs.declared.frame.Frame.{Frame}
use Rattle.frame_wire.specs.declared.frame.Frame.TheVariants.{Register, Beat, Ack, Leave, Lock, Update, Unlock, Idle, Refused, Gone, FencedTx, Mirror, Mirrored, Command, Answer}

-- what a member asks of the placement, or is told by it
abbrev pub IsOfPlacement : Frame → Type 0
IsOfPlacement (Register h) = Unit {0}
IsOfPlacement (Beat m) = Unit {0}
IsOfPlacement (Ack m s version) = Unit {0}
IsOfPlacement (Leave m) = Unit {0}
IsOfPlacement (Lock version) = Unit {0}
IsOfPlacement (Update version hs) = Unit {0}
IsOfPlacement (Unlock version) = Unit {0}
IsOfPlacement Idle = Unit {0}
IsOfPlacement (Refused r) = Unit {0}
IsOfPlacement Gone = Unit {0}
IsOfPlacement (FencedTx epoch s a ops) = ⊥
IsOfPlacement (Mirror c) = ⊥
IsOfPlacement (Mirrored a) = ⊥
IsOfPlacement (Command c) = ⊥
IsOfPlacement (Answer a) = ⊥

-- a kind, a version, a count, and 256 hosts of 2,290 bytes: a host has a space, a node and an application id of at most 64
-- bytes, and 32 types of at most 64 bytes, each behind a byte that tells its length, and 17 bytes of numbers
abbrev pub most_bytes : ℕ
most_bytes = 586251
