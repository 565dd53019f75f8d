-- Bytes that begin with no frame, whatever their connection has left.
use Rattle.std.proofs.Common.{◌≡◌, ◌∙◌, ℕ, List, [], ◌++◌, Option, Some, None, ap, inl, inr}
use Rattle.std.proofs.lemmas.List.{append-nil}
use Rattle.actor_ports.specs.Traffic.{Traffic}
use Rattle.frame_wire.specs.declared.error.FrameError.{FrameError}
use Rattle.frame_wire.specs.declared.frame.Frame.{Frame}
use Rattle.frame_wire.specs.Frames.{frame_bytes, IsFrame}
use Rattle.frame_wire.specs.Laws.{ReadsSpelling}
use Rattle.frame_wire.specs.Streams.{look, end_look}
use Rattle.exchanges.specs.FrameExchanges.{IsNoFrame}

-- nothing is said of what the connection has left
pub no_frame_alone : (bytes : List ℕ) (a b : Option Traffic) (at : ℕ) → IsNoFrame bytes a b at → IsNoFrame bytes None None at
no_frame_alone bytes a b at n = elim n [ inl f ↦ inl f | inr m ↦ inr (m.0, m.1, tt) ]

abbrev is_end : List ℕ → Type 0
is_end bytes = (e : Option FrameError) × (look 0 bytes ≡ end_look e)

no_frame_ends : (bytes : List ℕ) (a b : Option Traffic) (at : ℕ) → IsNoFrame bytes a b at → is_end bytes
no_frame_ends bytes a b at n = elim n [ inl f ↦ (Some f.0, f.1) | inr m ↦ (None, m.0) ]

no_whole : ReadsSpelling → (f : Frame) → IsFrame f → (e : Option FrameError) → look 0 (frame_bytes f ++ []) ≡ end_look e → ⊥
no_whole reads f fits None q = let r = reads 0 f [] fits in let h : ⊥ = cc in h
no_whole reads f fits (Some e) q = let r = reads 0 f [] fits in let h : ⊥ = cc in h

-- such bytes are no frame's spelling
pub not_spelled : ReadsSpelling → (f : Frame) → IsFrame f → (bytes : List ℕ) (a b : Option Traffic) (at : ℕ) → IsNoFrame bytes a b at → frame_bytes f ≡ bytes → ⊥
not_spelled reads f fits bytes a b at n is =
    let e = no_frame_ends bytes a b at n in
    let whole : frame_bytes f ++ [] ≡ bytes = append-nil (frame_bytes f) ∙ is in
    no_whole reads f fits e.0 (ap (look 0) whole ∙ e.1)
