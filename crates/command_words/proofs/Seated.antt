-- Words of `sidecar` that have a reading name a node, an application and a space.
use Rattle.std.proofs.Common.{◌≡◌, ℕ, ◌≤◌, nat_le, Bool, true, false, ◌&&◌, if◌then◌else◌, List, [], ◌∷◌, Option, None, Some, codes, option_map, option_and_then, refl, ap, subst, arith}
use Rattle.std.proofs.lemmas.Bool.Decides.{nat_tests}
use Rattle.std.proofs.lemmas.Option.{option_and_then_some, same_Some, none-some}
use Rattle.actor_names.specs.Names.{node_fault, app_id_fault, space_fault, default_space}
use Rattle.actor_names.specs.declared.address.Address.{Address}
use Rattle.actor_names.specs.declared.error.NameError.{NameError}
use Rattle.lists_and_limits.specs.Decimals.{is_digit, decimal_value, digits_number}
use Rattle.std.specs.List.{list_all}
use Rattle.std.specs.Str.{bytes_eq}
use Rattle.command_words.specs.Counts.{from_one, number_up_to, positive_up_to}
use Rattle.command_words.specs.Options.{Text, Given, options_given}
use Rattle.command_words.specs.Reading.{Said, Schedule, Placement, Store, Sidecar, Standby, Hosting, Placing, Standing, Seating, asking, count_or_ten, drilling, greatest_seed, most_steps, placing, hosting, reading, replay_said, schedule_said, schedule_options, drill_said, drill_options, placement_said, placement_options, store_said, server_options, standing, standby_said, standby_options, sidecar_options, text_of, value_of, faultless, node_text, app_text, space_or_default, address_of, address_or_none, most_parts, parts_or_four, sessions_or_none, connections_or_most, seating, sidecar_said}
use Rattle.command_words.specs.Seated.{IsSeated}

faultless_none : (fault : Text → Option NameError) (text named : Text) → faultless (fault text) text ≡ Some named → fault named ≡ None
faultless_none fault text named e = go (fault text) refl e
  where
    go : (o : Option NameError) → fault text ≡ o → faultless o text ≡ Some named → fault named ≡ None
    go None is same = subst (λ t. fault t ≡ None) (same_Some text named same) is
    go (Some f) is same = absurd (none-some named same)

space_none : (text : Option Text) (named : Text) → space_or_default text ≡ Some named → space_fault named ≡ None
space_none None named e = subst (λ t. space_fault t ≡ None) (same_Some default_space named e) refl
space_none (Some text) named e = faultless_none space_fault text named e

digits_within : (digits within : Bool) (most value number : ℕ) → nat_le value most ≡ within → (if digits && within then Some value else None) ≡ Some number → number ≤ most
digits_within true true most value number is e = let same = same_Some value number e in grind (arith, nat_tests)
digits_within true false most value number is e = absurd (none-some number e)
digits_within false within most value number is e = absurd (none-some number e)

from_one_within : (positive : Bool) (value number : ℕ) → nat_le 1 value ≡ positive → (if positive then Some value else None) ≡ Some number → (1 ≤ number) × (value ≡ number)
from_one_within true value number is e = let same = same_Some value number e in (grind (arith, nat_tests), same)
from_one_within false value number is e = absurd (none-some number e)

positive_within : (most : ℕ) (text : List ℕ) (number : ℕ) → positive_up_to most text ≡ Some number → (1 ≤ number) × (number ≤ most)
positive_within most text number e = option_and_then_some from_one (digits_number most text) number e (λ value is more.
    let low = from_one_within (nat_le 1 value) value number refl more in
    let high = digits_within (list_all is_digit text) (nat_le (decimal_value text) most) most (decimal_value text) value refl is in
    (low.0, subst (λ n. n ≤ most) low.1 high))

parts_within : (text : Option Text) (parts : ℕ) → parts_or_four text ≡ Some parts → (1 ≤ parts) × (parts ≤ most_parts)
parts_within None parts e = let same = same_Some 4 parts e in (omega arith, omega arith)
parts_within (Some text) parts e = positive_within most_parts text parts e

-- a reading of these pieces, each of which may have none
abbrev read_pieces : Option Text → Option Text → Option Text → Option Address → Option Address → Option Address → Option Address → Option (Option Address) → Option Address → Option ℕ → Option (Option ℕ) → Option ℕ → Option Seating
read_pieces node app space app_at listen peer placement placement2 store parts sessions connections =
    option_and_then (λ node.
    option_and_then (λ app.
    option_and_then (λ space.
    option_and_then (λ app_at.
    option_and_then (λ listen.
    option_and_then (λ peer.
    option_and_then (λ placement.
    option_and_then (λ placement2.
    option_and_then (λ store.
    option_and_then (λ parts.
    option_and_then (λ sessions.
    option_map (λ connections. record {
      node = node;
      app = app;
      space = space;
      app_at = app_at;
      listen = listen;
      peer = peer;
      placement = placement;
      placement2 = placement2;
      store = store;
      parts = parts;
      sessions = sessions;
      connections = connections;
    }) connections) sessions) parts)
    store)
    placement2)
    placement)
    peer)
    listen)
    app_at)
    space)
    app)
    node

-- those that the record keeps as they are
pieces_are : (node app space : Option Text) (app_at listen peer placement : Option Address) (placement2 : Option (Option Address)) (store : Option Address) (parts : Option ℕ) (sessions : Option (Option ℕ)) (connections : Option ℕ) (s : Seating)
    → read_pieces node app space app_at listen peer placement placement2 store parts sessions connections ≡ Some s
    → (node ≡ Some s.node) × (app ≡ Some s.app) × (space ≡ Some s.space) × (parts ≡ Some s.parts)
pieces_are None app space app_at listen peer placement placement2 store parts sessions connections s e = absurd (none-some s e)
pieces_are (Some node) None space app_at listen peer placement placement2 store parts sessions connections s e = absurd (none-some s e)
pieces_are (Some node) (Some app) None app_at listen peer placement placement2 store parts sessions connections s e = absurd (none-some s e)
pieces_are (Some node) (Some app) (Some space) None listen peer placement placement2 store parts sessions connections s e = absurd (none-some s e)
pieces_are (Some node) (Some app) (Some space) (Some app_at) None peer placement placement2 store parts sessions connections s e = absurd (none-some s e)
pieces_are (Some node) (Some app) (Some space) (Some app_at) (Some listen) None placement placement2 store parts sessions connections s e = absurd (none-some s e)
pieces_are (Some node) (Some app) (Some space) (Some app_at) (Some listen) (Some peer) None placement2 store parts sessions connections s e = absurd (none-some s e)
pieces_are (Some node) (Some app) (Some space) (Some app_at) (Some listen) (Some peer) (Some placement) None store parts sessions connections s e = absurd (none-some s e)
pieces_are (Some node) (Some app) (Some space) (Some app_at) (Some listen) (Some peer) (Some placement) (Some placement2) None parts sessions connections s e = absurd (none-some s e)
pieces_are (Some node) (Some app) (Some space) (Some app_at) (Some listen) (Some peer) (Some placement) (Some placement2) (Some store) None sessions connections s e = absurd (none-some s e)
pieces_are (Some node) (Some app) (Some space) (Some app_at) (Some listen) (Some peer) (Some placement) (Some placement2) (Some store) (Some parts) None connections s e = absurd (none-some s e)
pieces_are (Some node) (Some app) (Some space) (Some app_at) (Some listen) (Some peer) (Some placement) (Some placement2) (Some store) (Some parts) (Some sessions) None s e = absurd (none-some s e)
pieces_are (Some node) (Some app) (Some space) (Some app_at) (Some listen) (Some peer) (Some placement) (Some placement2) (Some store) (Some parts) (Some sessions) (Some connections) s e =
    let same = same_Some (record {
      node = node;
      app = app;
      space = space;
      app_at = app_at;
      listen = listen;
      peer = peer;
      placement = placement;
      placement2 = placement2;
      store = store;
      parts = parts;
      sessions = sessions;
      connections = connections;
    }) s e in
    (ap (λ (x : Seating). Some x.node) same, ap (λ (x : Seating). Some x.app) same, ap (λ (x : Seating). Some x.space) same, ap (λ (x : Seating). Some x.parts) same)

pub seating_seated : (given : Given) (s : Seating) → seating given ≡ Some s → IsSeated s
seating_seated given s e =
    let p = pieces_are
    (node_text (text_of (codes "node") given)) (app_text (text_of (codes "app-id") given)) (space_or_default (value_of (codes "space") given))
    (address_of (codes "app") given) (address_of (codes "listen") given) (address_of (codes "peer") given) (address_of (codes "placement") given)
    (address_or_none (value_of (codes "placement2") given)) (address_of (codes "store") given)
    (parts_or_four (value_of (codes "parts") given)) (sessions_or_none (value_of (codes "sessions") given)) (connections_or_most (value_of (codes "connections") given)) s e in
    let parts = parts_within (value_of (codes "parts") given) s.parts p.3 in
    record {
      node = faultless_none node_fault (text_of (codes "node") given) s.node p.0;
      app = faultless_none app_id_fault (text_of (codes "app-id") given) s.app p.1;
      space = space_none (value_of (codes "space") given) s.space p.2;
      from_one = parts.0;
      to_most = parts.1;
    }

-- the words after `sidecar`
said_seated : (read : Option Given) (s : Seating) → option_and_then sidecar_said read ≡ Some (Sidecar s) → IsSeated s
said_seated None s e = cc
said_seated (Some given) s e = go (seating given) refl e
  where
    go : (o : Option Seating) → seating given ≡ o → option_map (λ t. Sidecar t) o ≡ Some (Sidecar s) → IsSeated s
    go None is said = cc
    go (Some t) is said = let same : t ≡ s = cc in seating_seated given s (subst (λ x. seating given ≡ Some x) same is)

-- other commands say something else

replay_said_not : (rest : List Text) (s : Seating) → replay_said rest ≡ Some (Sidecar s) → IsSeated s
replay_said_not [] s e = cc
replay_said_not (word ∷ rest) s e = cc

schedule_said_not : (read : Option Given) (s : Seating) → option_and_then schedule_said read ≡ Some (Sidecar s) → IsSeated s
schedule_said_not None s e = cc
schedule_said_not (Some given) s e = go (count_or_ten (value_of (codes "count") given)) e
  where
    go : (o : Option ℕ) → option_map (λ count. Schedule (asking given count)) o ≡ Some (Sidecar s) → IsSeated s
    go None said = cc
    go (Some count) said = cc

drill_said_not : (read : Option Given) (s : Seating) → option_and_then drill_said read ≡ Some (Sidecar s) → IsSeated s
drill_said_not None s e = cc
drill_said_not (Some given) s e = go (number_up_to greatest_seed (text_of (codes "seed") given)) (number_up_to most_steps (text_of (codes "steps") given)) e
  where
    go : (seed steps : Option ℕ) → option_and_then (λ n. option_map (drilling n) steps) seed ≡ Some (Sidecar s) → IsSeated s
    go None steps said = cc
    go (Some n) None said = cc
    go (Some n) (Some m) said = cc

placement_said_not : (read : Option Given) (s : Seating) → option_and_then placement_said read ≡ Some (Sidecar s) → IsSeated s
placement_said_not None s e = cc
placement_said_not (Some given) s e = go (placing given) e
  where
    go : (o : Option Placing) → option_map (λ p. Placement p) o ≡ Some (Sidecar s) → IsSeated s
    go None said = cc
    go (Some p) said = cc

store_said_not : (read : Option Given) (s : Seating) → option_and_then store_said read ≡ Some (Sidecar s) → IsSeated s
store_said_not None s e = cc
store_said_not (Some given) s e = go (hosting given) e
  where
    go : (o : Option Hosting) → option_map (λ h. Store h) o ≡ Some (Sidecar s) → IsSeated s
    go None said = cc
    go (Some h) said = cc

standby_said_not : (read : Option Given) (s : Seating) → option_and_then standby_said read ≡ Some (Sidecar s) → IsSeated s
standby_said_not None s e = cc
standby_said_not (Some given) s e = go (standing given) e
  where
    go : (o : Option Standing) → option_map (λ h. Standby h) o ≡ Some (Sidecar s) → IsSeated s
    go None said = cc
    go (Some h) said = cc

-- what the words say, by which command they are of
abbrev chosen : Bool → Bool → Bool → Bool → Bool → Bool → Bool → List Text → Option Said
chosen replay schedule drill placement store sidecar standby rest =
    if replay then replay_said rest else (
    if schedule then option_and_then schedule_said (options_given schedule_options rest) else (
    if drill then option_and_then drill_said (options_given drill_options rest) else (
    if placement then option_and_then placement_said (options_given placement_options rest) else (
    if store then option_and_then store_said (options_given server_options rest) else (
    if sidecar then option_and_then sidecar_said (options_given sidecar_options rest) else (
    if standby then option_and_then standby_said (options_given standby_options rest) else None))))))

chosen_seated : (replay schedule drill placement store sidecar standby : Bool) (rest : List Text) (s : Seating) → chosen replay schedule drill placement store sidecar standby rest ≡ Some (Sidecar s) → IsSeated s
chosen_seated true schedule drill placement store sidecar standby rest s e = replay_said_not rest s e
chosen_seated false true drill placement store sidecar standby rest s e = schedule_said_not (options_given schedule_options rest) s e
chosen_seated false false true placement store sidecar standby rest s e = drill_said_not (options_given drill_options rest) s e
chosen_seated false false false true store sidecar standby rest s e = placement_said_not (options_given placement_options rest) s e
chosen_seated false false false false true sidecar standby rest s e = store_said_not (options_given server_options rest) s e
chosen_seated false false false false false true standby rest s e = said_seated (options_given sidecar_options rest) s e
chosen_seated false false false false false false true rest s e = standby_said_not (options_given standby_options rest) s e
chosen_seated false false false false false false false rest s e = cc

pub reading_seated : (words : List Text) (s : Seating) → reading words ≡ Some (Sidecar s) → IsSeated s
reading_seated [] s e = cc
reading_seated (command ∷ rest) s e =
    chosen_seated
    (bytes_eq command (codes "replay")) (bytes_eq command (codes "schedule")) (bytes_eq command (codes "drill"))
    (bytes_eq command (codes "placement")) (bytes_eq command (codes "store")) (bytes_eq command (codes "sidecar")) (bytes_eq command (codes "standby")) rest s e
