-- Why a start ended: the program's status, and what is printed. Own.
use Rattle.std.specs.Prelude.{ℕ, List, [], ◌++◌, codes, decimal}
use Rattle.app_texts.specs.declared.config_error.ConfigError.{ConfigError}
use Rattle.app_texts.specs.declared.config_error.ConfigError.TheVariants as errors
use Rattle.sidecar_start.specs.declared.end.StartEnd.{StartEnd}
use Rattle.sidecar_start.specs.declared.end.StartEnd.TheVariants.{DialFault, StoreRefused, AppStatus, AppUnreadable, AppConfig, OutOfMemory}

abbrev pub end_status : StartEnd → ℕ
end_status DialFault = 7
end_status (StoreRefused code) = 13
end_status (AppStatus status) = 12
end_status AppUnreadable = 12
end_status (AppConfig e) = 12
end_status OutOfMemory = 8

-- a line that ends with a number
abbrev pub number_line : List ℕ → ℕ → List ℕ
number_line front n = front ++ decimal n ++ codes "\n"

-- a line that ends with a word
abbrev pub word_line : List ℕ → List ℕ → List ℕ
word_line front word = front ++ word ++ codes "\n"

-- why a configuration can't be taken
abbrev pub config_line : ConfigError → List ℕ
config_line errors.NotJson = codes "application not-json\n"
config_line (errors.BadKey name) = word_line (codes "application bad-key ") name
config_line (errors.TooManyTypes n) = number_line (codes "application too-many-types ") n
config_line errors.OutOfMemory = []

-- one line, or none if nothing is printed of the end
abbrev pub end_line : StartEnd → List ℕ
end_line DialFault = []
end_line (StoreRefused code) = number_line (codes "store-refused ") code
end_line (AppStatus status) = number_line (codes "application status ") status
end_line AppUnreadable = codes "application unreadable\n"
end_line (AppConfig e) = config_line e
end_line OutOfMemory = []
