-- The frames that a reader has ready may be sent.
use Rattle.std.proofs.Common.{◌≡◌, ℕ, List, [], ◌∷◌, ◌++◌, None, sym, subst}
use Rattle.frame_wire.specs.declared.frame.Frame.{Frame}
use Rattle.frame_wire.specs.Streams.{ReaderState, AllFrames, Takes}

AllFrames-append : (fs gs : List Frame) → AllFrames fs → AllFrames gs → AllFrames (fs ++ gs)
AllFrames-append [] gs F G = G
AllFrames-append (f ∷ fs) gs F G = (F.0, AllFrames-append fs gs F.1 G)

pub frames_ready : (old : ReaderState) (piece : List ℕ) (new : ReaderState) → Takes old piece new None → AllFrames old.ready → AllFrames new.ready
frames_ready old piece new t all = subst AllFrames (sym t.1) (AllFrames-append old.ready t.0 all t.3.each)
