-- Frames between a placement and its standby: calls on a disk, and their answers. Own.
use Rattle.std.specs.Prelude.{◌≡◌, ℕ, List, []}
use Rattle.wire_fields.specs.Fields.{Reading, Field, number32, number64, nothing, both, sized, row}
use Rattle.wire_fields.specs.Parts.{at_most}
use Rattle.frame_wire.specs.declared.kind.Kind.{Kind}
use Rattle.frame_wire.specs.declared.kind.Kind.TheVariants as kind
use Rattle.frame_wire.specs.declared.mirror.MirrorCommand.{MirrorCommand}
use Rattle.frame_wire.specs.declared.mirror.MirrorCommand.TheVariants.{Write, Cut, Sync}
use Rattle.frame_wire.specs.declared.mirror.MirrorAnswer.{MirrorAnswer}
use Rattle.frame_wire.specs.declared.mirror.MirrorAnswer.TheVariants.{Done, Fault}

-- the most bytes of one write
abbrev pub most_piece : ℕ
most_piece = 1048576

-- the bytes of one write
unfoldable pub piece : Field (List ℕ)
piece = sized (at_most most_piece number32)

abbrev pub mirror_kind : MirrorCommand → Kind
mirror_kind (Write at bytes) = kind.MirrorWrite
mirror_kind (Cut len) = kind.MirrorCut
mirror_kind Sync = kind.MirrorSync

abbrev pub mirror_fields : MirrorCommand → List ℕ
mirror_fields (Write at bytes) = (both number64 piece).spell (at, bytes)
mirror_fields (Cut len) = number64.spell len
mirror_fields Sync = []

abbrev pub MirrorFits : MirrorCommand → Type 0
MirrorFits (Write at bytes) = (both number64 piece).Fits (at, bytes)
MirrorFits (Cut len) = number64.Fits len
MirrorFits Sync = Unit {0}

abbrev pub mirrored_kind : MirrorAnswer → Kind
mirrored_kind Done = kind.MirrorDone
mirrored_kind Fault = kind.MirrorFault
