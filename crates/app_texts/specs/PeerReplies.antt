-- What another sidecar answers to a call that was handed on. Own.
use Rattle.std.specs.Prelude.{ℕ, ◌≡◌, List, [], codes, bytes_eq, if◌then◌else◌, Option, Some, None, option_map, option_and_then}
use Rattle.std.specs.Result.{result_ok}
use Rattle.lists_and_limits.specs.Decimals.{number_of}
use Rattle.lists_and_limits.specs.Limits.{last_number}
use Rattle.actor_names.specs.declared.member.Member.{Member}
use Rattle.actor_names.specs.declared.address.Address.{Address}
use Rattle.actor_names.specs.Names.{app_id_fault}
use Rattle.actor_names.specs.Addresses.{address_reading}
use Rattle.place_table.specs.declared.host.HostInfo.{HostInfo}
use Rattle.call_names.specs.Readings.{cut, sound, member_in}
use Rattle.http_edge.specs.declared.message.HttpResponse.{HttpResponse}
use Rattle.app_texts.specs.declared.peer_reply.PeerReply.{PeerReply}
use Rattle.app_texts.specs.declared.peer_reply.PeerReply.TheVariants.{Application, Refusal, Elsewhere, Unreadable, OutOfMemory}
use Rattle.app_texts.specs.declared.word.RefusalWord.{RefusalWord}
use Rattle.app_texts.specs.Texts.{first_value}
use Rattle.app_texts.specs.Words.{word_of}

-- ---- owners

abbrev pub app_in : List ℕ → Option (List ℕ)
app_in text = sound (app_id_fault text) text

abbrev pub address_in : List ℕ → Option Address
address_in text = result_ok (address_reading text)

abbrev pub version_in : List ℕ → Option ℕ
version_in text = number_of last_number text

-- a member that serves actors; which types it serves isn't told
abbrev pub host_of : Member → List ℕ → Address → HostInfo
host_of member app address = record { member = member; app = app; address = address; kinds = [] }

-- a table's version and an owner, from the texts of their parts
abbrev pub owner_of : List ℕ → List ℕ → List ℕ → List ℕ → Option (ℕ × HostInfo)
owner_of v m a d =
    option_and_then (λ version.
    option_and_then (λ member.
    option_and_then (λ app.
    option_map (λ address. (version, host_of member app address))
    (address_in d)) (app_in a)) (member_in m)) (version_in v)

-- `VERSION MEMBER APP ADDRESS`, with one space between them
unfoldable pub owner_reading : List ℕ → Option (ℕ × HostInfo)
owner_reading text =
    option_and_then (λ (v, more).
    option_and_then (λ (m, last).
    option_and_then (λ (a, d). owner_of v m a d)
    (cut last)) (cut more)) (cut text)

-- ---- replies

abbrev pub elsewhere_as : Option (ℕ × HostInfo) → PeerReply
elsewhere_as None = Unreadable
elsewhere_as (Some o) = Elsewhere o.0 o.1

abbrev pub refusal_as : Option RefusalWord → PeerReply
refusal_as None = Unreadable
refusal_as (Some word) = Refusal word

abbrev pub owner_in : HttpResponse → Option (ℕ × HostInfo)
owner_in r = option_and_then owner_reading (first_value (codes "Actors-Owner") r.fields)

abbrev pub reply_by : HttpResponse → Option (List ℕ) → PeerReply
reply_by r None = Application
reply_by r (Some word) = if bytes_eq word (codes "elsewhere") then elsewhere_as (owner_in r) else refusal_as (word_of word)

-- Without the field Actors-Refusal it is the application's reply. With it, it is a refusal of this word, or names the
-- owner; another word, or an owner that can't be read, has no reading.
unfoldable pub reply_reading : HttpResponse → PeerReply
reply_reading r = reply_by r (first_value (codes "Actors-Refusal") r.fields)

-- an answer is the reading, unless memory ran out for an owner
abbrev pub GivesReply : PeerReply → PeerReply → Type 0
GivesReply read OutOfMemory = Unit {0}
GivesReply read answer = read ≡ answer
