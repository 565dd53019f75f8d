-- What was read over a link, and what it comes to.
use Rattle.std.proofs.Common.{◌≡◌, ◌<◌, ◌≤◌, ◌-◌, ◌∙◌, ℕ, List, [], ◌++◌, Option, None, Result, Ok, Err, sym, ap, subst}
use Rattle.actor_names.specs.declared.address.Address.{Address}
use Rattle.actor_ports.specs.Traffic.{Traffic, Counts}
use Rattle.http_edge.specs.Carry.{Carried}
use Rattle.http_edge.specs.declared.error.EdgeError.{EdgeError}
use Rattle.http_edge.specs.declared.error.EdgeError.TheVariants as edges
use Rattle.http_edge.specs.declared.message.HttpResponse.{HttpResponse}
use Rattle.http_edge.specs.Exchanges.{ExchangeGives}
use Rattle.http_edge.specs.Requests.{EdgeCause}
use Rattle.http_edge.specs.Settled.{Settles}
use Rattle.frame_wire.specs.declared.frame.Frame.{Frame}
use Rattle.frame_wire.specs.Frames.{frame_bytes}
use Rattle.frame_wire.specs.Laws.{ReadsSpelling, NoPrefix}
use Rattle.exchanges.specs.declared.frame_end.FrameEnd.{FrameEnd}
use Rattle.exchanges.specs.declared.frame_end.FrameEnd.TheVariants.{NoFrame, ConnFault, OutOfMemory}
use Rattle.exchanges.specs.FrameExchanges.{ExchangesFrame, EndCause}
use Rattle.exchanges.proofs.NoFrames.{no_frame_alone, not_spelled}
use Rattle.exchanges.proofs.Replied.{gives_alone}
use Rattle.app_texts.specs.declared.config.AppConfig.{AppConfig}
use Rattle.app_texts.specs.Texts.{config_text}
use Rattle.sidecar_start.specs.declared.end.StartEnd.{StartEnd}
use Rattle.sidecar_start.specs.Booting.{boot_in, FrameSettles, BootCarries}
use Rattle.sidecar_start.specs.Configuring.{ConfigComes, ConfigCarries}
use Rattle.sidecar_start.proofs.Tries.{link_rises}

-- ---- a frame

frame_alone : (text : List ℕ) (c : Carried) (a b : Option Traffic) (read : Result Frame FrameEnd) → ExchangesFrame text c a b read → ExchangesFrame text c None None read
frame_alone text c a b (Ok f) x = x
frame_alone text c a b (Err (NoFrame at)) x = (x.0, no_frame_alone c.read a b at x.1)
frame_alone text c a b (Err ConnFault) x = x
frame_alone text c a b (Err OutOfMemory) x = x

frame_settles : ReadsSpelling → NoPrefix → (text : List ℕ) (c : Carried) (a b : Option Traffic) (read : Result Frame FrameEnd) → ExchangesFrame text c a b read → FrameSettles c.read read
frame_settles reads one text c a b (Ok f) x = λ g fits is. (one g f [] [] fits x.1.0 (ap (λ (bytes : List ℕ). bytes ++ []) (sym is ∙ x.1.1))).0
frame_settles reads one text c a b (Err (NoFrame at)) x = λ g fits is. not_spelled reads g fits c.read a b at x.1 (sym is)
frame_settles reads one text c a b (Err ConnFault) x = tt
frame_settles reads one text c a b (Err OutOfMemory) x = tt

frame_rises : (read : Result Frame FrameEnd) (f0 f1 f2 l0 l1 : ℕ) → EndCause l0 l1 read → f0 ≤ f1 → l0 ≡ 0 → Counts f1 f2 l1 → read ≡ Err ConnFault → 0 < f2 - f0
frame_rises read f0 f1 f2 l0 l1 cause up z counts e =
    link_rises f0 f1 f2 l0 l1 up z (subst (λ (r : Result Frame FrameEnd). EndCause l0 l1 r) e cause) counts

pub boot_carries :
    ReadsSpelling → NoPrefix → (asked : Frame) (text : List ℕ) (c : Carried) (a b : Option Traffic) (read : Result Frame FrameEnd) (got : Result (Option ℕ) StartEnd) (f0 f1 f2 l0 l1 : ℕ)
    → text ≡ frame_bytes asked → ExchangesFrame text c a b read → got ≡ boot_in read → EndCause l0 l1 read → f0 ≤ f1 → l0 ≡ 0 → Counts f1 f2 l1
    → BootCarries asked c (f2 - f0) got
boot_carries reads one asked text c a b read got f0 f1 f2 l0 l1 is x by cause up z counts = record {
  read = read;
  gives = subst (λ (t : List ℕ). ExchangesFrame t c None None read) is (frame_alone text c a b read x);
  settles = frame_settles reads one text c a b read x;
  faults = frame_rises read f0 f1 f2 l0 l1 cause up z counts;
  comes = by;
}

-- ---- a reply

reply_rises : (read : Result HttpResponse EdgeError) (f0 f1 f2 l0 l1 : ℕ) → EdgeCause l0 l1 read → f0 ≤ f1 → l0 ≡ 0 → Counts f1 f2 l1 → read ≡ Err edges.ConnFault → 0 < f2 - f0
reply_rises read f0 f1 f2 l0 l1 cause up z counts e =
    link_rises f0 f1 f2 l0 l1 up z (subst (λ (r : Result HttpResponse EdgeError). EdgeCause l0 l1 r) e cause) counts

pub config_carries :
    (app : Address) (text : List ℕ) (c : Carried) (a b : Option Traffic) (read : Result HttpResponse EdgeError) (got : Result (Option AppConfig) StartEnd) (f0 f1 f2 l0 l1 : ℕ)
    → text ≡ config_text app → ExchangeGives text c a b read → Settles c.read read → ConfigComes read got → EdgeCause l0 l1 read → f0 ≤ f1 → l0 ≡ 0 → Counts f1 f2 l1
    → ConfigCarries app c (f2 - f0) got
config_carries app text c a b read got f0 f1 f2 l0 l1 is gives settles comes cause up z counts = record {
  read = read;
  carries = record { after = b; gives = subst (λ (t : List ℕ). ExchangeGives t c None b read) is (gives_alone text c a b read gives); settles = settles };
  faults = reply_rises read f0 f1 f2 l0 l1 cause up z counts;
  comes = comes;
}
