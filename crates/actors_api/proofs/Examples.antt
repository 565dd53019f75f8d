-- Worked examples of requests, and of the responses to replies.
use Rattle.std.proofs.Common.{◌≡◌, refl, ℕ, List, [], ◌∷◌, ◌++◌, false, Some, None, Ok, Err, codes}
use Rattle.std.specs.Fmt.{digits}
use Rattle.std.specs.Prelude.{replicate}
use Rattle.std.specs.Str.{is_utf8, chars}
use Rattle.json.specs.Print.{escape_byte}
use Rattle.percent_encoding.specs.Percent.{percent_decode}
use Rattle.serde_json.proofs.OnLiterals.{serde_json_on_literals}
use Rattle.json_text.specs.Reading.{reading}
use Rattle.http_edge.specs.declared.message.HttpField.{HttpField}
use Rattle.http_edge.specs.declared.message.HttpRequest.{HttpRequest}
use Rattle.actor_names.specs.declared.actor_key.ActorKey.{ActorKey}
use Rattle.place_table.specs.declared.host.HostInfo.{HostInfo}
use Rattle.schedule_text.specs.declared.error.ScheduleError.TheVariants.{BadDuration}
use Rattle.state_rows.specs.declared.op.StateOp.TheVariants.{Delete}
use Rattle.api_bodies.specs.Records.{body_reading}
use Rattle.call_names.specs.declared.name.CallName.{CallName}
use Rattle.call_names.specs.Readings.{call_reading}
use Rattle.call_names.specs.Texts.{ip_text, address_text}
use Rattle.actors_api.specs.declared.side.Side.TheVariants.{Caller, Peer}
use Rattle.actors_api.specs.declared.command.ApiCommand.TheVariants.{Invoke, Transact, GetState}
use Rattle.actors_api.specs.declared.refusal.ApiName.TheVariants.{«Type», Id, Method, Key, Chain, Least, Call}
use Rattle.actors_api.specs.declared.refusal.ApiRefusal.TheVariants.{NoRoute, WrongMethod, BadName, BadSchedule, Moved, AnswerGone}
use Rattle.actors_api.specs.declared.reply.ApiReply.TheVariants.{Invoked, NoState, ReminderIs, Elsewhere, Made, Unanswered, Refused}
use Rattle.actors_api.specs.Commands.{command_of}
use Rattle.actors_api.specs.Responses.{response_of}

-- ---- requests

abbrev request : List ℕ → List ℕ → List HttpField → List ℕ → HttpRequest
request method under fields body = record { method = method; target = codes "/v1.0/actors/" ++ under; fields = fields; body = body; close = false }

abbrev field : List ℕ → List ℕ → HttpField
field name value = record { name = name; value = value }

abbrev actor : ActorKey
actor = record { space = codes "shop"; kind = codes "order"; id = codes "42" }

-- the method's text is passed on as it was spelled, with the query; the type is read with its escapes
call : command_of (codes "shop") Caller (request (codes "DELETE") (codes "ord%65r/42/method/add/x%2f?by=2/3") [] []) 0 ≡ Ok (Invoke actor (codes "add/x%2f?by=2/3") None None None)
unfolding command_of percent_decode
call = refl

-- a caller's chain is that of its own field; the first of two counts
chain_of_a_caller : command_of (codes "shop") Caller (request (codes "GET") (codes "order/42/method/m") (field (codes "Actors-Chain") [] ∷ field (codes "dapr-reentrancy-id") (codes "c/1") ∷ field (codes "Dapr-Reentrancy-Id") [] ∷ []) []) 0 ≡ Ok (Invoke actor (codes "m") (Some (codes "c/1")) None None)
unfolding command_of percent_decode
chain_of_a_caller = refl

abbrev name : CallName
name = record { origin = record { space = codes "shop"; node = codes "a"; boot = 2 }; part = 3; number = 7 }

-- a peer tells the least version and the name of the call
call_of_a_peer : command_of (codes "shop") Peer (request (codes "GET") (codes "order/42/method/m") (field (codes "Dapr-Reentrancy-Id") [] ∷ field (codes "actors-least") (codes "4611686018427387904") ∷ field (codes "Actors-Chain") (codes "c") ∷ field (codes "actors-call") (codes "shop:a/2 3 7") ∷ field (codes "Actors-Call") [] ∷ []) []) 0
    ≡ Ok (Invoke actor (codes "m") (Some (codes "c")) (Some 4611686018427387904) (Some name))
unfolding command_of percent_decode call_reading
call_of_a_peer = refl

-- the chain is read before the least version
bad_chain_of_a_peer : command_of (codes "shop") Peer (request (codes "GET") (codes "order/42/method/m") (field (codes "Actors-Chain") [] ∷ []) []) 0 ≡ Err (BadName Chain)
unfolding command_of percent_decode
bad_chain_of_a_peer = refl

no_least : command_of (codes "shop") Peer (request (codes "GET") (codes "order/42/method/m") [] []) 0 ≡ Err (BadName Least)
unfolding command_of percent_decode
no_least = refl

-- the name of a call is read behind the least version, and a caller's isn't looked at
bad_call_of_a_peer : command_of (codes "shop") Peer (request (codes "GET") (codes "order/42/method/m") (field (codes "Actors-Call") (codes "a/1 0") ∷ field (codes "Actors-Least") (codes "0") ∷ []) []) 0 ≡ Err (BadName Call)
unfolding command_of percent_decode call_reading
bad_call_of_a_peer = refl

no_call : command_of (codes "shop") Peer (request (codes "GET") (codes "order/42/method/m") (field (codes "Actors-Least") (codes "0") ∷ []) []) 0 ≡ Err (BadName Call)
unfolding command_of percent_decode call_reading
no_call = refl

call_name_of_a_caller : command_of (codes "shop") Caller (request (codes "GET") (codes "order/42/method/m") (field (codes "Actors-Call") (codes "a/1 0") ∷ []) []) 0 ≡ Ok (Invoke actor (codes "m") None None None)
unfolding command_of percent_decode
call_name_of_a_caller = refl

-- a peer has no route but that of a call, whatever the method
state_for_a_peer : command_of (codes "shop") Peer (request (codes "HEAD") (codes "order/42/state/k") [] []) 0 ≡ Err NoRoute
unfolding command_of
state_for_a_peer = refl

-- `%2F` ends no part; on this route a query isn't looked at
key_with_a_slash : command_of (codes "shop") Caller (request (codes "GET") (codes "order/42/state/a%2Fb?consistency=strong") [] []) 0 ≡ Ok (GetState actor (codes "a/b"))
unfolding command_of percent_decode is_utf8 chars lib.Utf8.encode
key_with_a_slash = refl

bad_key : command_of (codes "shop") Caller (request (codes "GET") (codes "order/42/state/%ff") [] []) 0 ≡ Err (BadName Key)
unfolding command_of percent_decode is_utf8 chars
bad_key = refl

-- no method and an empty part have no route; the first bad name in the path counts; the method comes before it
no_method : command_of (codes "shop") Caller (request (codes "PUT") (codes "order/42/method/?x") [] []) 0 ≡ Err NoRoute
unfolding command_of
no_method = refl

two_keys : command_of (codes "shop") Caller (request (codes "GET") (codes "order/42/state/a/b") [] []) 0 ≡ Err NoRoute
unfolding command_of
two_keys = refl

method_before_names : command_of (codes "shop") Caller (request (codes "GET") (codes "o!/42/timers/t") [] []) 0 ≡ Err WrongMethod
unfolding command_of
method_before_names = refl

first_bad_name : command_of (codes "shop") Caller (request (codes "DELETE") (codes "order/4%2F2/timers/%20") [] []) 0 ≡ Err (BadName Id)
unfolding command_of percent_decode
first_bad_name = refl

-- names come before the body
name_before_body : command_of (codes "shop") Caller (request (codes "POST") (codes "o!/42/state") [] (codes "{")) 0 ≡ Err (BadName «Type»)
unfolding command_of percent_decode
name_before_body = refl

transaction : command_of (codes "shop") Caller (request (codes "POST") (codes "order/42/state") [] (codes "[{\"operation\":\"delete\",\"request\":{\"key\":\"k\"}}]")) 0 ≡ Ok (Transact actor (Delete (codes "k") ∷ []))
unfolding command_of percent_decode body_reading is_utf8 chars reading serde_json_on_literals
transaction = refl

long_method : command_of (codes "shop") Caller (request (codes "PUT") (codes "order/42/method/" ++ replicate 1025 97) [] []) 0 ≡ Err (BadName Method)
unfolding command_of percent_decode
long_method = refl

-- ---- responses

-- only the status, the first Content-Type and the body of the application's reply are passed on
passed_on : response_of Peer (Invoked (record { status = 418; fields = field (codes "Actors-Refusal") (codes "x") ∷ field (codes "content-type") (codes "a/b") ∷ []; body = codes "5" }))
    ≡ record { status = 418; fields = field (codes "Content-Type") (codes "a/b") ∷ []; body = codes "5" }
passed_on = refl

no_state : response_of Caller NoState ≡ record { status = 204; fields = []; body = [] }
no_state = refl

reminder : response_of Caller (ReminderIs (codes "3s") [] [] (Some (codes "1"))) ≡ record { status = 200; fields = field (codes "Content-Type") (codes "application/json") ∷ []; body = codes "{\"data\":1,\"dueTime\":\"3s\"}" }
unfolding escape_byte
reminder = refl

refused : response_of Caller (Refused (BadSchedule (BadDuration 2)))
    ≡ record { status = 400; fields = field (codes "Content-Type") (codes "application/json") ∷ []; body = codes "{\"errorCode\":\"ERR_SCHEDULE\",\"message\":\"refused bad-duration 2\"}" }
unfolding escape_byte digits
refused = refl

refused_to_a_peer : response_of Peer (Refused (Moved (1 ∷ 2 ∷ 3 ∷ 4 ∷ 5 ∷ 6 ∷ 7 ∷ 18 ∷ [])))
    ≡ record { status = 500; fields = field (codes "Content-Type") (codes "application/json") ∷ field (codes "Actors-Refusal") (codes "ERR_ACTOR_MOVED") ∷ []; body = codes "{\"errorCode\":\"ERR_ACTOR_MOVED\",\"message\":\"moved at 1 2 3 4 5 6 7 18\"}" }
unfolding escape_byte digits
refused_to_a_peer = refl

abbrev owner : HostInfo
owner = record { member = record { space = codes "shop"; node = codes "a"; boot = 2 }; app = codes "till"; address = record { ip = 2130706433; port = 80 }; kinds = [] }

elsewhere : response_of Peer (Elsewhere 3 owner) ≡ record { status = 421; fields = field (codes "Actors-Refusal") (codes "elsewhere") ∷ field (codes "Actors-Owner") (codes "3 shop:a/2 till 127.0.0.1:80") ∷ []; body = [] }
unfolding digits ip_text address_text
elsewhere = refl

-- an application's caller isn't told
elsewhere_for_a_caller : response_of Caller (Elsewhere 3 owner) ≡ record { status = 421; fields = []; body = [] }
elsewhere_for_a_caller = refl

-- what is kept of a forwarded call says no more than its status if its body was too long
answer_is_gone : response_of Peer (Refused (AnswerGone 200))
    ≡ record { status = 500; fields = field (codes "Content-Type") (codes "application/json") ∷ field (codes "Actors-Refusal") (codes "ERR_ANSWER_GONE") ∷ []; body = codes "{\"errorCode\":\"ERR_ANSWER_GONE\",\"message\":\"answered 200\"}" }
unfolding escape_byte digits
answer_is_gone = refl

-- a response that is made goes out as it is, with its fields
made : response_of Peer (Made (record { status = 500; fields = field (codes "Actors-Refusal") (codes "ERR_SPENT") ∷ []; body = codes "5" })) ≡ record { status = 500; fields = field (codes "Actors-Refusal") (codes "ERR_SPENT") ∷ []; body = codes "5" }
made = refl

unanswered : response_of Peer Unanswered ≡ record { status = 503; fields = []; body = [] }
unanswered = refl
