-- How a sidecar starts: a boot by the store, then a configuration by the application. Own.
use Rattle.std.specs.Prelude.{◌≡◌, ◌⊎◌, ℕ, List, [], ◌++◌, map, Result, Ok, Err}
use Rattle.place_table.specs.declared.host.HostInfo.{HostInfo}
use Rattle.part_model.specs.declared.settings.TypeSettings.{TypeSettings}
use Rattle.app_texts.specs.declared.config.AppConfig.{AppConfig}
use Rattle.exchanges.specs.Exchanges.{Exchange}
use Rattle.exchanges.specs.Replies.{place_at}
use Rattle.sidecar_start.specs.declared.end.StartEnd.{StartEnd}
use Rattle.sidecar_start.specs.declared.end.StartEnd.TheVariants.{OutOfMemory}
use Rattle.sidecar_start.specs.declared.hosting.Started.{Started}
use Rattle.sidecar_start.specs.declared.words.StartWords.{StartWords}
use Rattle.sidecar_start.specs.Tries.{IsRun}
use Rattle.sidecar_start.specs.Booting.{boot_frame, BootCarries}
use Rattle.sidecar_start.specs.Configuring.{ConfigCarries}

abbrev pub kind_in : TypeSettings → List ℕ
kind_in t = t.kind

-- the host with this boot, for the types of these settings
abbrev pub host_with : StartWords → ℕ → List TypeSettings → HostInfo
host_with w drawn kinds = record { member = record { space = w.space; node = w.node; boot = drawn }; app = w.app; address = w.peer_at; kinds = map kind_in kinds }

-- the sidecar whose boot was drawn, and whose application has this configuration
abbrev pub started : StartWords → ℕ → AppConfig → Started
started w drawn config = record { host = host_with w drawn config.kinds; kinds = config.kinds }

-- what follows from what the application was asked for; memory may still run out
abbrev pub ByConfig : StartWords → ℕ → Result AppConfig StartEnd → Result Started StartEnd → Type 0
ByConfig w drawn (Err e) got = got ≡ Err e
ByConfig w drawn (Ok config) got = (got ≡ Ok (started w drawn config)) ⊎ (got ≡ Err OutOfMemory)

-- what follows from what the store was asked for: the application is asked only once there is a boot
abbrev pub ByBoot : StartWords → List Exchange → Result ℕ StartEnd → Result Started StartEnd → Type 0
ByBoot w asks (Err e) got = (asks ≡ []) × (got ≡ Err e)
ByBoot w asks (Ok drawn) got = (told : Result AppConfig StartEnd) × IsRun (ConfigCarries w.app_at) (place_at w.app_at) asks told × ByConfig w drawn told got

-- exchanges with the store and then with the application, and no others
pub record IsStart (w : StartWords) (xs : List Exchange) (got : Result Started StartEnd) : Type 0 where
  pub boots : List Exchange
  pub asks : List Exchange
  pub are : xs ≡ boots ++ asks
  pub drawn : Result ℕ StartEnd
  pub draws : IsRun (BootCarries (boot_frame w)) (place_at w.store_at) boots drawn
  pub goes_on : ByBoot w asks drawn got
