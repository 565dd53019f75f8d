-- What the words after the program's name say. Own: docs/commands.md has the table of the commands.
use Rattle.std.specs.Prelude.{ℕ, Bool, false, ◌||◌, if◌then◌else◌, List, [], ◌∷◌, codes, Option, None, Some, option_map, option_and_then, unwrap_or, find}
use Rattle.std.specs.Str.{bytes_eq}
use Rattle.std.specs.Result.{result_ok}
use Rattle.actor_names.specs.Addresses.{address_reading}
use Rattle.actor_names.specs.Names.{node_fault, app_id_fault, space_fault, default_space}
use Rattle.actor_names.specs.declared.address.Address.{Address}
use Rattle.actor_names.specs.declared.error.NameError.{NameError}
use Rattle.command_words.specs.Options.{Text, Options, Needed, Optional, Flag, Given, names_of, is_among, options_given}
use Rattle.command_words.specs.Counts.{count_of, number_up_to, positive_up_to}

-- the words of `schedule`: an absent text is empty, an absent count is 10
pub record Asking : Type 0 where
  pub now : Text
  pub due : Text
  pub period : Text
  pub ttl : Text
  pub count : ℕ

-- the words of `drill`
pub record Drilling : Type 0 where
  pub seed : ℕ
  pub steps : ℕ

-- the words of a server, `placement` or `store`: the path of the journal, where to listen, whether the journal may be
-- made, after how many sessions the command ends, and how many connections of a port are served at once
pub record Hosting : Type 0 where
  pub journal : Text
  pub listen : Address
  pub is_new : Bool
  pub sessions : Option ℕ
  pub connections : ℕ

-- the words of `placement`: those of a server, where its state is asked for over HTTP, and where its standby listens
pub record Placing : Type 0 where
  pub server : Hosting
  pub http : Option Address
  pub standby : Option Address

-- the words of `standby`: the path of its file, where to listen, and after how many sessions the command ends
pub record Standing : Type 0 where
  pub journal : Text
  pub listen : Address
  pub sessions : Option ℕ

-- the words of `sidecar`: the texts of its node, its application's id and its space, each of which is a name of its
-- form; where the application is, where the sidecar listens for it and for its peers, where the placement and the store
-- are, and where the placement may be too; how many parts it has, after how many sessions the command ends, and how many
-- connections of a port are served at once
pub record Seating : Type 0 where
  pub node : Text
  pub app : Text
  pub space : Text
  pub app_at : Address
  pub listen : Address
  pub peer : Address
  pub placement : Address
  pub placement2 : Option Address
  pub store : Address
  pub parts : ℕ
  pub sessions : Option ℕ
  pub connections : ℕ

-- a command with what its words say
pub data Said : Type 0 where
  Replay : Said
  Schedule : Asking → Said
  Drill : Drilling → Said
  Placement : Placing → Said
  Store : Hosting → Said
  Sidecar : Seating → Said
  Standby : Standing → Said

-- only the moment is needed
abbrev pub schedule_options : Options
schedule_options = (codes "now", Needed) ∷ (codes "due", Optional) ∷ (codes "period", Optional) ∷ (codes "ttl", Optional) ∷ (codes "count", Optional) ∷ []

-- the value of an option, if it is given
abbrev pub value_of : Text → Given → Option Text
value_of name given = option_map (λ g. g.1) (find (λ g. bytes_eq g.0 name) given)

-- an option that isn't given has the empty text
abbrev pub text_of : Text → Given → Text
text_of name given = unwrap_or (value_of name given) []

abbrev pub count_or_ten : Option Text → Option ℕ
count_or_ten None = Some 10
count_or_ten (Some text) = count_of text

abbrev pub asking : Given → ℕ → Asking
asking given count = record {
  now = text_of (codes "now") given;
  due = text_of (codes "due") given;
  period = text_of (codes "period") given;
  ttl = text_of (codes "ttl") given;
  count = count;
}

-- the words after `schedule`
abbrev pub schedule_said : Given → Option Said
schedule_said given = option_map (λ count. Schedule (asking given count)) (count_or_ten (value_of (codes "count") given))

abbrev pub greatest_seed : ℕ
greatest_seed = 18446744073709551615

abbrev pub most_steps : ℕ
most_steps = 200000

-- both options of `drill` are needed
abbrev pub drill_options : Options
drill_options = (codes "seed", Needed) ∷ (codes "steps", Needed) ∷ []

abbrev pub drilling : ℕ → ℕ → Said
drilling seed steps = Drill (record { seed = seed; steps = steps })

-- the words after `drill`
abbrev pub drill_said : Given → Option Said
drill_said given =
    option_and_then (λ seed. option_map (drilling seed) (number_up_to most_steps (text_of (codes "steps") given)))
    (number_up_to greatest_seed (text_of (codes "seed") given))

-- the journal and where to listen are needed
abbrev pub server_options : Options
server_options =
    (codes "journal", Needed) ∷ (codes "listen", Needed) ∷ (codes "new", Flag) ∷ (codes "sessions", Optional) ∷ (codes "connections", Optional) ∷ []

-- at least one byte
abbrev pub filled_text : Text → Option Text
filled_text [] = None
filled_text (b ∷ bs) = Some (b ∷ bs)

abbrev pub greatest_sessions : ℕ
greatest_sessions = 18446744073709551615

-- no number of sessions, or one from 1
abbrev pub sessions_or_none : Option Text → Option (Option ℕ)
sessions_or_none None = Some None
sessions_or_none (Some text) = option_map (λ n. Some n) (positive_up_to greatest_sessions text)

abbrev pub most_connections : ℕ
most_connections = 4096

-- how many connections of a port are served at once: from 1 to 4,096, and 4,096 if the words don't say
abbrev pub connections_or_most : Option Text → Option ℕ
connections_or_most None = Some most_connections
connections_or_most (Some text) = positive_up_to most_connections text

-- what the options of a server say
abbrev pub hosting : Given → Option Hosting
hosting given =
    option_and_then (λ journal.
    option_and_then (λ listen.
    option_and_then (λ sessions.
    option_map (λ connections. record { journal = journal; listen = listen; is_new = is_among (names_of given) (codes "new"); sessions = sessions; connections = connections })
    (connections_or_most (value_of (codes "connections") given)))
    (sessions_or_none (value_of (codes "sessions") given)))
    (result_ok (address_reading (text_of (codes "listen") given))))
    (filled_text (text_of (codes "journal") given))

-- those of `placement`
abbrev pub placement_options : Options
placement_options =
    (codes "journal", Needed) ∷ (codes "listen", Needed) ∷ (codes "http", Optional) ∷ (codes "standby", Optional) ∷ (codes "new", Flag)
    ∷ (codes "sessions", Optional) ∷ (codes "connections", Optional) ∷ []

-- no address, or one
abbrev pub address_or_none : Option Text → Option (Option Address)
address_or_none None = Some None
address_or_none (Some text) = option_map (λ a. Some a) (result_ok (address_reading text))

-- what the options of `placement` say
abbrev pub placing : Given → Option Placing
placing given =
    option_and_then (λ server.
    option_and_then (λ http.
    option_map (λ standby. record { server = server; http = http; standby = standby })
    (address_or_none (value_of (codes "standby") given)))
    (address_or_none (value_of (codes "http") given)))
    (hosting given)

-- the words after `placement`
abbrev pub placement_said : Given → Option Said
placement_said given = option_map (λ p. Placement p) (placing given)

-- the words after `store`
abbrev pub store_said : Given → Option Said
store_said given = option_map (λ h. Store h) (hosting given)

-- those of `standby`
abbrev pub standby_options : Options
standby_options = (codes "journal", Needed) ∷ (codes "listen", Needed) ∷ (codes "sessions", Optional) ∷ []

-- what the options of `standby` say
abbrev pub standing : Given → Option Standing
standing given =
    option_and_then (λ journal.
    option_and_then (λ listen.
    option_map (λ sessions. record { journal = journal; listen = listen; sessions = sessions })
    (sessions_or_none (value_of (codes "sessions") given)))
    (result_ok (address_reading (text_of (codes "listen") given))))
    (filled_text (text_of (codes "journal") given))

-- the words after `standby`
abbrev pub standby_said : Given → Option Said
standby_said given = option_map (λ s. Standby s) (standing given)

-- those of `sidecar`
abbrev pub sidecar_options : Options
sidecar_options =
    (codes "node", Needed) ∷ (codes "app-id", Needed) ∷ (codes "app", Needed) ∷ (codes "listen", Needed) ∷ (codes "peer", Needed)
    ∷ (codes "placement", Needed) ∷ (codes "placement2", Optional) ∷ (codes "store", Needed) ∷ (codes "parts", Optional) ∷ (codes "space", Optional)
    ∷ (codes "sessions", Optional) ∷ (codes "connections", Optional) ∷ []

-- a text without a fault
abbrev pub faultless : Option NameError → Text → Option Text
faultless None text = Some text
faultless (Some fault) text = None

-- the text of a node
abbrev pub node_text : Text → Option Text
node_text text = faultless (node_fault text) text

-- the text of an application's id
abbrev pub app_text : Text → Option Text
app_text text = faultless (app_id_fault text) text

-- the text of a space, or `default`
abbrev pub space_or_default : Option Text → Option Text
space_or_default None = Some default_space
space_or_default (Some text) = faultless (space_fault text) text

-- the address that an option gives
abbrev pub address_of : Text → Given → Option Address
address_of name given = result_ok (address_reading (text_of name given))

abbrev pub most_parts : ℕ
most_parts = 16

-- the number of parts, 1 to 16, or 4
abbrev pub parts_or_four : Option Text → Option ℕ
parts_or_four None = Some 4
parts_or_four (Some text) = positive_up_to most_parts text

-- what the options of `sidecar` say
abbrev pub seating : Given → Option Seating
seating given =
    option_and_then (λ node.
    option_and_then (λ app.
    option_and_then (λ space.
    option_and_then (λ app_at.
    option_and_then (λ listen.
    option_and_then (λ peer.
    option_and_then (λ placement.
    option_and_then (λ placement2.
    option_and_then (λ store.
    option_and_then (λ parts.
    option_and_then (λ sessions.
    option_map (λ connections. record {
      node = node;
      app = app;
      space = space;
      app_at = app_at;
      listen = listen;
      peer = peer;
      placement = placement;
      placement2 = placement2;
      store = store;
      parts = parts;
      sessions = sessions;
      connections = connections;
    })
    (connections_or_most (value_of (codes "connections") given)))
    (sessions_or_none (value_of (codes "sessions") given)))
    (parts_or_four (value_of (codes "parts") given)))
    (address_of (codes "store") given))
    (address_or_none (value_of (codes "placement2") given)))
    (address_of (codes "placement") given))
    (address_of (codes "peer") given))
    (address_of (codes "listen") given))
    (address_of (codes "app") given))
    (space_or_default (value_of (codes "space") given)))
    (app_text (text_of (codes "app-id") given)))
    (node_text (text_of (codes "node") given))

-- the words after `sidecar`
abbrev pub sidecar_said : Given → Option Said
sidecar_said given = option_map (λ s. Sidecar s) (seating given)

-- `replay` takes no option
abbrev pub replay_said : List Text → Option Said
replay_said [] = Some Replay
replay_said (word ∷ rest) = None

-- the words after the name of a server
abbrev pub served_by : Text → List Text → Option Said
served_by command rest =
    if bytes_eq command (codes "placement") then option_and_then placement_said (options_given placement_options rest) else (
    if bytes_eq command (codes "store") then option_and_then store_said (options_given server_options rest) else (
    if bytes_eq command (codes "sidecar") then option_and_then sidecar_said (options_given sidecar_options rest) else (
    if bytes_eq command (codes "standby") then option_and_then standby_said (options_given standby_options rest) else None)))

abbrev pub said_by : Text → List Text → Option Said
said_by command rest =
    if bytes_eq command (codes "replay") then replay_said rest else (
    if bytes_eq command (codes "schedule") then option_and_then schedule_said (options_given schedule_options rest) else (
    if bytes_eq command (codes "drill") then option_and_then drill_said (options_given drill_options rest) else served_by command rest))

-- the command is a server
abbrev pub is_server : Text → Bool
is_server command =
    bytes_eq command (codes "placement") || (bytes_eq command (codes "store") || (bytes_eq command (codes "sidecar") || bytes_eq command (codes "standby")))

-- the first word is this one
abbrev pub is_command : Text → List Text → Bool
is_command name [] = false
is_command name (command ∷ rest) = bytes_eq command name

-- the words are those of `placement`, whether they have a reading or not
abbrev pub is_placement : List Text → Bool
is_placement words = is_command (codes "placement") words

-- the same of `store`
abbrev pub is_store : List Text → Bool
is_store words = is_command (codes "store") words

-- the same of `sidecar`
abbrev pub is_sidecar : List Text → Bool
is_sidecar words = is_command (codes "sidecar") words

-- the same of `standby`
abbrev pub is_standby : List Text → Bool
is_standby words = is_command (codes "standby") words

-- the words are those of a command with options, whose reading takes memory
abbrev pub has_options : List Text → Bool
has_options words =
    is_command (codes "schedule") words || (is_command (codes "drill") words || (is_placement words || (is_store words || (is_sidecar words || is_standby words))))

-- The first word is the command; words that say nothing have no reading.
abbrev pub reading : List Text → Option Said
reading [] = None
reading (command ∷ rest) = said_by command rest
