-- Worked examples of configurations, of the texts of requests, and of replies.
use Rattle.std.proofs.Common.{◌≡◌, refl, ℕ, List, [], ◌∷◌, ◌++◌, true, false, Some, None, Ok, Err, codes}
use Rattle.std.specs.Fmt.{digits}
use Rattle.json.specs.Print.{escape_byte}
use Rattle.schedule_text.specs.GoDurations.{term_at, terms_from, go_nanos}
use Rattle.json_text.specs.Values.{JsonValue, null, truth, natural, text, array, object, no_items, item, no_members, member}
use Rattle.call_names.specs.declared.name.CallName.{CallName}
use Rattle.call_names.specs.Texts.{ip_text, address_text, call_text}
use Rattle.http_edge.specs.declared.message.HttpField.{HttpField}
use Rattle.http_edge.specs.declared.message.HttpResponse.{HttpResponse}
use Rattle.app_texts.specs.declared.config_error.ConfigError.TheVariants.{NotJson, BadKey, TooManyTypes}
use Rattle.app_texts.specs.declared.peer_reply.PeerReply.TheVariants.{Application, Refusal, Elsewhere, Unreadable}
use Rattle.app_texts.specs.declared.word.RefusalWord.TheVariants.{NoHost, CallRunning}
use Rattle.app_texts.specs.Forms.{treatment_reading}
use Rattle.app_texts.specs.Groups.{group_reading, entry_reading, entries_reading}
use Rattle.app_texts.specs.Config.{config_reading, first_ones}
use Rattle.actor_names.specs.Addresses.{part_reading, port_reading}
use Rattle.app_texts.specs.PeerReplies.{owner_reading, reply_reading}
use Rattle.app_texts.specs.Texts.{escaped, message, line, call_lines}

abbrev types : JsonValue
types = array (item (text (codes "b")) (item (text (codes "a")) (item (text (codes "b")) no_items)))

-- a type that occurs twice is hosted once, at its first place; settings that aren't there have their defaults
hosted_once : config_reading (object (member (codes "entities") types no_members))
    ≡ Ok (record { kinds = record { kind = codes "b"; idle_ms = 3600000; drain_ms = 60000; depth = 0 } ∷ record { kind = codes "a"; idle_ms = 3600000; drain_ms = 60000; depth = 0 } ∷ [] })
unfolding config_reading group_reading entries_reading treatment_reading
hosted_once = refl

-- an entry's settings hold in place of the outer ones, absent ones too; the last entry that names a type counts
abbrev entries : JsonValue
entries = array
    (item (object (member (codes "actorIdleTimeout") (text (codes "1s")) (member (codes "entities") types no_members)))
    (item (object (member (codes "drainRebalancedActors") (truth false) (member (codes "entities") (array (item (text (codes "b")) (item (text (codes "c")) no_items))) no_members)))
    no_items))

last_entry_counts : config_reading (object (member (codes "drainOngoingCallTimeout") (text (codes "5s")) (member (codes "entities") types (member (codes "entitiesConfig") entries no_members))))
    ≡ Ok (record { kinds = record { kind = codes "b"; idle_ms = 3600000; drain_ms = 0; depth = 0 } ∷ record { kind = codes "a"; idle_ms = 1000; drain_ms = 60000; depth = 0 } ∷ [] })
unfolding config_reading group_reading entry_reading entries_reading treatment_reading go_nanos terms_from term_at
last_entry_counts = refl

-- the inner key is named
inner_key : config_reading (object (member (codes "reentrancy") (object (member (codes "maxStackDepth") (natural 1025) no_members)) no_members)) ≡ Err (BadKey (codes "maxStackDepth"))
unfolding config_reading group_reading treatment_reading
inner_key = refl

no_object : config_reading types ≡ Err NotJson
unfolding config_reading
no_object = refl

-- ---- texts

escapes : escaped (codes "a._-9/~x?%") ≡ codes "a._-9%2F~x%3F%25"
escapes = refl

call : message (codes "PUT") (codes "/actors/order/42/method/add") (call_lines (record { ip = 2130706433; port = 3000 }) None (Some (codes "n1.1.0.1"))) (codes "5")
    ≡ codes "PUT /actors/order/42/method/add HTTP/1.1\r\nHost: 127.0.0.1:3000\r\nDapr-Reentrancy-Id: n1.1.0.1\r\nConnection: close\r\nContent-Length: 1\r\n\r\n5"
unfolding digits ip_text address_text
call = refl

-- a call that is handed on
abbrev name : CallName
name = record { origin = record { space = codes "default"; node = codes "a"; boot = 2 }; part = 3; number = 7 }

name_line : line (codes "Actors-Call") (call_text name) ≡ codes "Actors-Call: a/2 3 7\r\n"
unfolding digits
name_line = refl

-- ---- replies

abbrev reply : List HttpField → HttpResponse
reply fields = record { status = 421; fields = fields; body = [] }

abbrev field : List ℕ → List ℕ → HttpField
field name value = record { name = name; value = value }

not_refused : reply_reading (reply (field (codes "Actors-Owner") [] ∷ [])) ≡ Application
unfolding reply_reading
not_refused = refl

refused : reply_reading (reply (field (codes "actors-refusal") (codes "ERR_ACTOR_NO_HOST") ∷ [])) ≡ Refusal NoHost
unfolding reply_reading
refused = refl

call_refused : reply_reading (reply (field (codes "Actors-Refusal") (codes "ERR_CALL_RUNNING") ∷ [])) ≡ Refusal CallRunning
unfolding reply_reading
call_refused = refl

unknown_word : reply_reading (reply (field (codes "Actors-Refusal") (codes "err_actor_no_host") ∷ [])) ≡ Unreadable
unfolding reply_reading
unknown_word = refl

owned_elsewhere : reply_reading (reply (field (codes "Actors-Refusal") (codes "elsewhere") ∷ field (codes "Actors-Owner") (codes "3 a/2 shop 127.0.0.1:80") ∷ []))
    ≡ Elsewhere 3 (record { member = record { space = codes "default"; node = codes "a"; boot = 2 }; app = codes "shop"; address = record { ip = 2130706433; port = 80 }; kinds = [] })
unfolding reply_reading owner_reading part_reading port_reading
owned_elsewhere = refl

no_owner : reply_reading (reply (field (codes "Actors-Refusal") (codes "elsewhere") ∷ [])) ≡ Unreadable
unfolding reply_reading owner_reading part_reading port_reading
no_owner = refl
