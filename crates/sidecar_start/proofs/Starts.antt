-- What a start comes to by its two runs of tries.
use Rattle.std.proofs.Common.{◌≡◌, ◌<◌, ◌≤◌, ◌+◌, ℕ, nat_le, Bool, true, false, if◌then◌else◌, List, [], ◌∷◌, ◌++◌, length, map, Option, Some, None, Result, Ok, Err, IfOk, IfErr, sym, refl, ap, subst, inl, inr, arith}
use Rattle.std.proofs.lemmas.Bool.{leb-true}
use Rattle.std.proofs.lemmas.List.{append-nil, length-map}
use Rattle.actor_names.specs.declared.address.Address.{Address}
use Rattle.actor_ports.specs.Traffic.{Place, Dialled}
use Rattle.http_edge.specs.Carry.{Carried}
use Rattle.http_edge.specs.declared.error.EdgeError.{EdgeError}
use Rattle.http_edge.specs.declared.error.EdgeError.TheVariants as edges
use Rattle.http_edge.specs.declared.message.HttpResponse.{HttpResponse}
use Rattle.json_text.specs.Values.{is_object}
use Rattle.part_model.specs.declared.settings.TypeSettings.{TypeSettings}
use Rattle.part_model.specs.Settings.{AreShallow}
use Rattle.schedule_text.specs.Reading.{◌>>=◌}
use Rattle.wire_fields.specs.Parts.{boot}
use Rattle.frame_wire.specs.declared.frame.Frame.{Frame}
use Rattle.frame_wire.specs.declared.frame.Frame.TheVariants.{Answer}
use Rattle.frame_wire.specs.declared.store_answer.StoreAnswer.TheVariants.{Booted, Refused}
use Rattle.frame_wire.specs.Frames.{payload, frame_bytes, IsFrame}
use Rattle.exchanges.specs.declared.frame_end.FrameEnd.{FrameEnd}
use Rattle.exchanges.specs.declared.frame_end.FrameEnd.TheVariants.{NoFrame, ConnFault}
use Rattle.exchanges.specs.declared.frame_end.FrameEnd.TheVariants as frame_ends
use Rattle.exchanges.specs.FrameExchanges.{ExchangesFrame}
use Rattle.exchanges.specs.Exchanges.{Exchange, Dialling, total_rise}
use Rattle.exchanges.specs.Replies.{place_at}
use Rattle.exchanges.proofs.Diallings.{dialling_then}
use Rattle.app_texts.specs.declared.config.AppConfig.{AppConfig}
use Rattle.app_texts.specs.declared.config_error.ConfigError.{ConfigError}
use Rattle.app_texts.specs.declared.config_error.ConfigError.TheVariants as errors
use Rattle.app_texts.specs.TypeGroups.{TypeGroup}
use Rattle.app_texts.specs.Config.{named, hosting, first_ones, treatment_or, settings_as, groups_reading, config_reading, ConfigOf}
use Rattle.sidecar_start.specs.declared.end.StartEnd.{StartEnd}
use Rattle.sidecar_start.specs.declared.end.StartEnd.TheVariants.{DialFault, OutOfMemory}
use Rattle.sidecar_start.specs.declared.hosting.Started.{Started}
use Rattle.sidecar_start.specs.declared.words.StartWords.{StartWords}
use Rattle.sidecar_start.specs.Tries.{Comes, IsTry, IsRun}
use Rattle.sidecar_start.specs.Booting.{boot_frame, boot_in, BootCarries}
use Rattle.sidecar_start.specs.Configuring.{config_in, ReplyComes, ConfigComes, ConfigCarries}
use Rattle.sidecar_start.specs.Starting.{started, ByConfig, ByBoot, IsStart}

-- ---- small steps

rises_behind : (xs ys : List Exchange) → 0 < total_rise ys → 0 < total_rise (xs ++ ys)
rises_behind [] ys up = up
rises_behind (x ∷ xs) ys up = let h = rises_behind xs ys up in omega arith

rise_then : (xs ys : List Exchange) → total_rise (xs ++ ys) ≡ total_rise xs + total_rise ys
rise_then [] ys = omega arith
rise_then (x ∷ xs) ys = let h = rise_then xs ys in omega arith

rises_before : (xs ys : List Exchange) → 0 < total_rise xs → 0 < total_rise (xs ++ ys)
rises_before xs ys up = let h = rise_then xs ys in omega arith

kinds_of : (a b : AppConfig) → (let r : Result AppConfig ConfigError = Ok a in r) ≡ Ok b → a.kinds ≡ b.kinds
kinds_of a b e = let h : a ≡ b = cc in ap (λ (c : AppConfig). c.kinds) h

config_of : (a b : AppConfig) → (let r : Result (Option AppConfig) StartEnd = Ok (Some a) in r) ≡ Ok (Some b) → a ≡ b
config_of a b e = cc

err_is : {T : Type 0} (e : StartEnd) → (let r : Result Started StartEnd = Err DialFault in r) ≡ Err e → (let r : Result T StartEnd = Err e in r) ≡ Err DialFault
err_is e is = let h : DialFault ≡ e = cc in ap (λ (x : StartEnd). Err x) (sym h)

-- ---- a boot that was drawn

answer_of : (f : Frame) (n : ℕ) → boot_in (Ok f) ≡ Ok (Some n) → f ≡ Answer (Booted n)
answer_of (Answer (Booted m)) n e = let h : m ≡ n = cc in ap (λ (k : ℕ). Answer (Booted k)) h
answer_of (Answer a) n e = absurd (let h : ⊥ = cc in h)
answer_of f n e = absurd (let h : ⊥ = cc in h)

booted_fits : (n : ℕ) → IsFrame (Answer (Booted n)) → boot.Fits n
unfolding payload
booted_fits n frame = frame.0

read_fits : (text : List ℕ) (c : Carried) (read : Result Frame FrameEnd) (n : ℕ) → ExchangesFrame text c None None read → boot_in read ≡ Ok (Some n) → boot.Fits n
read_fits text c (Ok f) n x e = booted_fits n (subst IsFrame (answer_of f n e) x.1.0)
read_fits text c (Err (NoFrame at)) n x e = absurd (let h : ⊥ = cc in h)
read_fits text c (Err ConnFault) n x e = absurd (let h : ⊥ = cc in h)
read_fits text c (Err frame_ends.OutOfMemory) n x e = absurd (let h : ⊥ = cc in h)

-- ---- how runs of tries end

module _ {T : Type 0} (Carries : Carried → ℕ → Result (Option T) StartEnd → Type 0) where
  -- bytes that went over a link, and come to this
  abbrev pub Came : Result (Option T) StartEnd → Type 0
  Came got = (c : Carried) × (rise : ℕ) × Carries c rise got

  comes_value : (link : Option Carried) (rise : ℕ) (v : T) → Comes Carries link rise (Ok (Some v)) → Came (Ok (Some v))
  comes_value None rise v t = absurd (let e = t.1 in let h : ⊥ = cc in h)
  comes_value (Some c) rise v t = (c, rise, t)

  try_value : (at : Place) (xs : List Exchange) (v : T) → IsTry Carries at xs (Ok (Some v)) → Came (Ok (Some v))
  try_value at [] v t = absurd (let h : ⊥ = cc in h)
  try_value at (x ∷ []) v t = comes_value x.link x.rise v t.1
  try_value at (x ∷ y ∷ xs) v t = absurd t

  pub run_value : (at : Place) (xs : List Exchange) (v : T) → IsRun Carries at xs (Ok v) → Came (Ok (Some v))
  run_value at xs v run = try_value at run.last v run.ends

  comes_fault : ((c : Carried) (rise : ℕ) → Carries c rise (Err DialFault) → ⊥) → (link : Option Carried) (rise : ℕ) → Comes Carries link rise (Err DialFault) → 0 < rise
  comes_fault never None rise t = t.0
  comes_fault never (Some c) rise t = absurd (never c rise t)

  try_fault : ((c : Carried) (rise : ℕ) → Carries c rise (Err DialFault) → ⊥) → (at : Place) (xs : List Exchange) → IsTry Carries at xs (Err DialFault) → 0 < total_rise xs
  try_fault never at [] t = absurd (let h : ⊥ = cc in h)
  try_fault never at (x ∷ []) t = let h : 0 < x.rise = comes_fault never x.link x.rise t.1 in omega arith
  try_fault never at (x ∷ y ∷ xs) t = absurd t

  pub run_fault : ((c : Carried) (rise : ℕ) → Carries c rise (Err DialFault) → ⊥) → (at : Place) (xs : List Exchange) → IsRun Carries at xs (Err DialFault) → 0 < total_rise xs
  run_fault never at xs run =
      subst (λ (l : List Exchange). 0 < total_rise l) (sym run.are) (rises_behind run.vain run.last (try_fault never at run.last run.ends))

-- a boot of a run fits its field
pub drawn_fits : (asked : Frame) (at : Place) (xs : List Exchange) (n : ℕ) → IsRun (BootCarries asked) at xs (Ok n) → boot.Fits n
drawn_fits asked at xs n run =
    let came = run_value (BootCarries asked) at xs n run in
    read_fits (frame_bytes asked) came.0 came.2.read n came.2.gives (sym came.2.comes)

-- ---- a configuration

few_at : (set : List ℕ → TypeSettings) (kinds : List (List ℕ)) (few : Bool) (config : AppConfig)
    → nat_le (length kinds) 32 ≡ few → (if few then Ok (record { kinds = map set kinds }) else Err (errors.TooManyTypes (length kinds))) ≡ Ok config
    → length config.kinds ≤ 32
few_at set kinds true config is e =
    let same : map set kinds ≡ config.kinds = kinds_of (record { kinds = map set kinds }) config e in
    let long : length (map set kinds) ≡ length kinds = length-map kinds set in
    let short : length kinds ≤ 32 = leb-true (length kinds) 32 is in
    subst (λ (l : List TypeSettings). length l ≤ 32) same (omega arith)
few_at set kinds false config is e = absurd (let h : ⊥ = cc in h)

few_in : (whole : Bool) (r : Result (TypeGroup × List TypeGroup) ConfigError) (config : AppConfig)
    → (if whole then (r >>= λ read. hosting read.0.treatment read.1 (first_ones [] read.0.types)) else Err errors.NotJson) ≡ Ok config → length config.kinds ≤ 32
few_in false r config e = absurd (let h : ⊥ = cc in h)
few_in true (Ok read) config e =
    few_at (λ (type : List ℕ). settings_as (treatment_or read.0.treatment read.1 type) type) (first_ones [] read.0.types) (nat_le (length (first_ones [] read.0.types)) 32) config refl e
few_in true (Err fault) config e = absurd (let h : ⊥ = cc in h)

few_said : (body : List ℕ) (config : AppConfig) → ConfigOf body (Ok config) → length config.kinds ≤ 32
unfolding config_reading
few_said body config says = few_in (is_object says.0) (named (groups_reading says.0)) config says.2

few_told : (body : List ℕ) (told : Result AppConfig ConfigError) (config : AppConfig) → ConfigOf body told → config_in told ≡ Ok (Some config) → length config.kinds ≤ 32
few_told body (Ok c) config says e = few_said body config (subst (λ (k : AppConfig). ConfigOf body (Ok k)) (config_of c config e) says)
few_told body (Err fault) config says e = absurd (let h : ⊥ = cc in h)

few_reply : (r : HttpResponse) (config : AppConfig) → ReplyComes r (Ok (Some config)) → length config.kinds ≤ 32
few_reply r config comes = elim comes [ inl s ↦ few_told r.body s.1.told config s.1.says (sym s.1.comes) | inr f ↦ absurd (let e = f.1 in let h : ⊥ = cc in h) ]

few_read : (read : Result HttpResponse EdgeError) (config : AppConfig) → ConfigComes read (Ok (Some config)) → length config.kinds ≤ 32
few_read (Ok r) config comes = few_reply r config comes
few_read (Err edges.ConnFault) config comes = absurd (let h : ⊥ = cc in h)
few_read (Err edges.OutOfMemory) config comes = absurd (let h : ⊥ = cc in h)
few_read (Err e) config comes = absurd (let h : ⊥ = cc in h)

-- an application hosts few types
pub config_few : (app : Address) (at : Place) (xs : List Exchange) (config : AppConfig) → IsRun (ConfigCarries app) at xs (Ok config) → length config.kinds ≤ 32
config_few app at xs config run = let came = run_value (ConfigCarries app) at xs config run in few_read came.2.read config came.2.comes

-- ---- only a dial that failed is told as one

boot_never : (read : Result Frame FrameEnd) → Err DialFault ≡ boot_in read → ⊥
boot_never (Ok (Answer (Booted n))) e = let h : ⊥ = cc in h
boot_never (Ok (Answer (Refused r))) e = let h : ⊥ = cc in h
boot_never (Ok (Answer a)) e = let h : ⊥ = cc in h
boot_never (Ok f) e = let h : ⊥ = cc in h
boot_never (Err (NoFrame at)) e = let h : ⊥ = cc in h
boot_never (Err ConnFault) e = let h : ⊥ = cc in h
boot_never (Err frame_ends.OutOfMemory) e = let h : ⊥ = cc in h

config_never : (told : Result AppConfig ConfigError) → Err DialFault ≡ config_in told → ⊥
config_never (Ok c) e = let h : ⊥ = cc in h
config_never (Err errors.OutOfMemory) e = let h : ⊥ = cc in h
config_never (Err fault) e = let h : ⊥ = cc in h

reply_never : (r : HttpResponse) → ReplyComes r (Err DialFault) → ⊥
reply_never r comes = elim comes [ inl s ↦ config_never s.1.told s.1.comes | inr f ↦ let e = f.1 in let h : ⊥ = cc in h ]

read_never : (read : Result HttpResponse EdgeError) → ConfigComes read (Err DialFault) → ⊥
read_never (Ok r) comes = reply_never r comes
read_never (Err edges.ConnFault) comes = let h : ⊥ = cc in h
read_never (Err edges.OutOfMemory) comes = let h : ⊥ = cc in h
read_never (Err e) comes = let h : ⊥ = cc in h

boot_fault : (asked : Frame) (at : Place) (xs : List Exchange) → IsRun (BootCarries asked) at xs (Err DialFault) → 0 < total_rise xs
boot_fault asked at xs run = run_fault (BootCarries asked) (λ c rise t. boot_never t.read t.comes) at xs run

config_fault : (app : Address) (at : Place) (xs : List Exchange) → IsRun (ConfigCarries app) at xs (Err DialFault) → 0 < total_rise xs
config_fault app at xs run = run_fault (ConfigCarries app) (λ c rise t. read_never t.read t.comes) at xs run

-- ---- the whole start

abbrev pub Drawn : StartWords → Result ℕ StartEnd → Option Dialled → Option Dialled → ℕ → ℕ → Type 0
Drawn w drawn t0 t1 f0 f1 = (xs : List Exchange) × IsRun (BootCarries (boot_frame w)) (place_at w.store_at) xs drawn × Dialling xs t0 t1 f0 f1

abbrev pub Asked : StartWords → Result AppConfig StartEnd → Option Dialled → Option Dialled → ℕ → ℕ → Type 0
Asked w told t0 t1 f0 f1 = (xs : List Exchange) × IsRun (ConfigCarries w.app_at) (place_at w.app_at) xs told × Dialling xs t0 t1 f0 f1

abbrev pub Begun : StartWords → Result Started StartEnd → Option Dialled → Option Dialled → ℕ → ℕ → Type 0
Begun w got t0 t1 f0 f1 = (xs : List Exchange) × IsStart w xs got × Dialling xs t0 t1 f0 f1

-- there is no boot
pub without_boot : (w : StartWords) (e : StartEnd) (t0 t1 : Option Dialled) (f0 f1 : ℕ) → Drawn w (Err e) t0 t1 f0 f1 → Begun w (Err e) t0 t1 f0 f1
without_boot w e t0 t1 f0 f1 d = (
  d.0,
  record { boots = d.0; asks = []; are = sym (append-nil d.0); drawn = Err e; draws = d.1; goes_on = (refl, refl) },
  d.2,
)

-- there is a boot
pub with_boot :
    (w : StartWords) (n : ℕ) (told : Result AppConfig StartEnd) (got : Result Started StartEnd) (t0 t1 t2 : Option Dialled) (f0 f1 f2 : ℕ)
    → Drawn w (Ok n) t0 t1 f0 f1 → Asked w told t1 t2 f1 f2 → ByConfig w n told got → Begun w got t0 t2 f0 f2
with_boot w n told got t0 t1 t2 f0 f1 f2 d a by = (
  d.0 ++ a.0,
  record { boots = d.0; asks = a.0; are = refl; drawn = Ok n; draws = d.1; goes_on = (told, a.1, by) },
  dialling_then d.0 a.0 t0 t1 t2 f0 f1 f2 d.2 a.2,
)

-- memory may run out once there are both
pub by_config : (w : StartWords) (n : ℕ) (config : AppConfig) (got : Result Started StartEnd) → IfOk got (λ s. s ≡ started w n config) → IfErr got (λ e. e ≡ OutOfMemory) → ByConfig w n (Ok config) got
by_config w n config (Ok s) ok err = inl (ap (λ (x : Started). Ok x) ok)
by_config w n config (Err e) ok err = inr (ap (λ (x : StartEnd). Err x) err)

pub shallow_in : (w : StartWords) (n : ℕ) (config : AppConfig) (got : Result Started StartEnd) → IfOk got (λ s. s ≡ started w n config) → AreShallow config.kinds → IfOk got (λ s. AreShallow s.kinds)
shallow_in w n config (Ok s) ok shallow = subst (λ (x : Started). AreShallow x.kinds) (sym ok) shallow
shallow_in w n config (Err e) ok shallow = tt

configured_fault : (w : StartWords) (n : ℕ) (asks : List Exchange) (told : Result AppConfig StartEnd) → IsRun (ConfigCarries w.app_at) (place_at w.app_at) asks told → ByConfig w n told (Err DialFault) → 0 < total_rise asks
configured_fault w n asks (Ok config) run by = elim by [ inl e ↦ absurd (let h : ⊥ = cc in h) | inr e ↦ absurd (let h : ⊥ = cc in h) ]
configured_fault w n asks (Err e) run by = config_fault w.app_at (place_at w.app_at) asks (subst (λ (r : Result AppConfig StartEnd). IsRun (ConfigCarries w.app_at) (place_at w.app_at) asks r) (err_is e by) run)

booted_fault : (w : StartWords) (boots asks : List Exchange) (drawn : Result ℕ StartEnd) → IsRun (BootCarries (boot_frame w)) (place_at w.store_at) boots drawn → ByBoot w asks drawn (Err DialFault) → 0 < total_rise (boots ++ asks)
booted_fault w boots asks (Ok n) run by = rises_behind boots asks (configured_fault w n asks by.0 by.1 by.2)
booted_fault w boots asks (Err e) run by =
    rises_before boots asks (boot_fault (boot_frame w) (place_at w.store_at) boots (subst (λ (r : Result ℕ StartEnd). IsRun (BootCarries (boot_frame w)) (place_at w.store_at) boots r) (err_is e by.1) run))

pub start_fault : (w : StartWords) (got : Result Started StartEnd) (t0 t1 : Option Dialled) (f0 f1 : ℕ) → Begun w got t0 t1 f0 f1 → got ≡ Err DialFault → f0 < f1
start_fault w got t0 t1 f0 f1 b e =
    let s : IsStart w b.0 (Err DialFault) = subst (λ (r : Result Started StartEnd). IsStart w b.0 r) e b.1 in
    let up : 0 < total_rise b.0 = subst (λ (l : List Exchange). 0 < total_rise l) (sym s.are) (booted_fault w s.boots s.asks s.drawn s.draws s.goes_on) in
    let counted = b.2.counted in
    omega arith
