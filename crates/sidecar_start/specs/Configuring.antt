-- The configuration asked of the application: what its reply comes to. Own; the question is that of Dapr's actor runtime.
use Rattle.std.specs.Prelude.{◌≡◌, ◌≢◌, ◌<◌, ◌⊎◌, ℕ, List, Option, Some, None, Result, Ok, Err}
use Rattle.actor_names.specs.declared.address.Address.{Address}
use Rattle.http_edge.specs.declared.error.EdgeError.{EdgeError}
use Rattle.http_edge.specs.declared.error.EdgeError.TheVariants as edges
use Rattle.http_edge.specs.declared.message.HttpResponse.{HttpResponse}
use Rattle.http_edge.specs.Carry.{Carried}
use Rattle.exchanges.specs.Replies.{HttpCarries}
use Rattle.app_texts.specs.declared.config.AppConfig.{AppConfig}
use Rattle.app_texts.specs.declared.config_error.ConfigError.{ConfigError}
use Rattle.app_texts.specs.declared.config_error.ConfigError.TheVariants as errors
use Rattle.app_texts.specs.Config.{ConfigOf}
use Rattle.app_texts.specs.Texts.{config_text}
use Rattle.sidecar_start.specs.declared.end.StartEnd.{StartEnd}
use Rattle.sidecar_start.specs.declared.end.StartEnd.TheVariants.{AppStatus, AppUnreadable, AppConfig as Unfit, OutOfMemory}

-- the end for a configuration that can't be taken
abbrev pub config_end : ConfigError → StartEnd
config_end errors.OutOfMemory = OutOfMemory
config_end e = Unfit e

abbrev pub config_in : Result AppConfig ConfigError → Result (Option AppConfig) StartEnd
config_in (Ok config) = Ok (Some config)
config_in (Err e) = Err (config_end e)

-- the body says this configuration, or it can't be taken by this cause
pub record SaysConfig (body : List ℕ) (got : Result (Option AppConfig) StartEnd) : Type 0 where
  pub told : Result AppConfig ConfigError
  pub says : ConfigOf body told
  pub comes : got ≡ config_in told

-- only a reply with status 200 has a configuration
abbrev pub ReplyComes : HttpResponse → Result (Option AppConfig) StartEnd → Type 0
ReplyComes r got = ((r.status ≡ 200) × SaysConfig r.body got) ⊎ ((r.status ≢ 200) × (got ≡ Err (AppStatus r.status)))

-- what the application's reply says, or why there is none: after a fault of the link nothing, and
-- then the application is asked again
abbrev pub ConfigComes : Result HttpResponse EdgeError → Result (Option AppConfig) StartEnd → Type 0
ConfigComes (Ok r) got = ReplyComes r got
ConfigComes (Err edges.ConnFault) got = got ≡ Ok None
ConfigComes (Err edges.OutOfMemory) got = got ≡ Err OutOfMemory
ConfigComes (Err e) got = got ≡ Err AppUnreadable

-- The question was written, and the bytes read are a reply, or none by a cause. After a fault of the link, with which the
-- count rose, or OutOfMemory both may be cut short.
pub record ConfigCarries (app : Address) (c : Carried) (rise : ℕ) (got : Result (Option AppConfig) StartEnd) : Type 0 where
  pub read : Result HttpResponse EdgeError
  pub carries : HttpCarries (config_text app) c read
  pub faults : read ≡ Err edges.ConnFault → 0 < rise
  pub comes : ConfigComes read got
