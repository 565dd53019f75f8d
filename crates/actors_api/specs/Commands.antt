-- What a request asks for, or why it is refused. The first of these tests that fails counts: route, method, names in
-- the order of the path, fields, form of the body, numbers, sizes, schedule.
use Rattle.std.specs.Prelude.{◌≡◌, ◌⊎◌, ℕ, List, Option, Some, None, Result, Ok, Err}
use Rattle.http_edge.specs.declared.message.HttpRequest.{HttpRequest}
use Rattle.actor_names.specs.declared.actor_key.ActorKey.{ActorKey}
use Rattle.schedule_text.specs.Reading.{◌>>=◌}
use Rattle.actors_api.specs.declared.side.Side.{Side}
use Rattle.actors_api.specs.declared.side.Side.TheVariants.{Caller, Peer}
use Rattle.actors_api.specs.declared.path.Place.{Place}
use Rattle.actors_api.specs.declared.path.Place.TheVariants as place
use Rattle.actors_api.specs.declared.action.Action.{Action}
use Rattle.actors_api.specs.declared.action.Action.TheVariants as action
use Rattle.actors_api.specs.declared.command.ApiCommand.{ApiCommand}
use Rattle.actors_api.specs.declared.command.ApiCommand.TheVariants.{Invoke, Transact, GetState, PutReminder, GetReminder, DeleteReminder, SetTimer, DeleteTimer}
use Rattle.actors_api.specs.declared.refusal.ApiRefusal.{ApiRefusal}
use Rattle.actors_api.specs.declared.refusal.ApiRefusal.TheVariants.{NoRoute, WrongMethod, OutOfMemory}
use Rattle.actors_api.specs.Paths.{ApiRoute, path_of, query_of, route_of}
use Rattle.actors_api.specs.Actions.{action_of}
use Rattle.actors_api.specs.Parts.{actor_reading, record_reading, key_reading, method_reading, chain_reading, least_reading, call_name_reading}
use Rattle.actors_api.specs.Reading.{of_body}
use Rattle.api_bodies.specs.Records.{reminder_reading, timer_reading}
use Rattle.api_bodies.specs.Transactions.{ops_reading}

-- peers have no route but that of a call
abbrev pub for_peer : ApiRoute → Place → Result ApiRoute ApiRefusal
for_peer route place.Method = Ok route
for_peer route place.State = Err NoRoute
for_peer route place.Key = Err NoRoute
for_peer route place.Reminder = Err NoRoute
for_peer route place.Timer = Err NoRoute

abbrev pub routed : Side → Option ApiRoute → Result ApiRoute ApiRefusal
routed side None = Err NoRoute
routed Caller (Some route) = Ok route
routed Peer (Some route) = for_peer route route.place

abbrev pub allowed : Option Action → Result Action ApiRefusal
allowed None = Err WrongMethod
allowed (Some a) = Ok a

-- a call of the actor, with the method's text as it was spelled
abbrev pub call_of : ActorKey → Side → HttpRequest → List ℕ → Result ApiCommand ApiRefusal
call_of actor side request rest =
    method_reading rest (query_of request.target) >>= λ method.
    chain_reading side request.fields >>= λ chain.
    least_reading side request.fields >>= λ least.
    call_name_reading side request.fields >>= λ call.
    Ok (Invoke actor method chain least call)

-- the command of an action on the actor; `rest` is what the path has behind the place's word
abbrev pub command_at : Action → ActorKey → Side → HttpRequest → List ℕ → ℕ → Result ApiCommand ApiRefusal
command_at action.Invoke actor side request rest now = call_of actor side request rest
command_at action.Transact actor side request rest now = of_body (ops_reading request.body) >>= λ ops. Ok (Transact actor ops)
command_at action.GetState actor side request rest now = key_reading rest >>= λ key. Ok (GetState actor key)
command_at action.PutReminder actor side request rest now = record_reading rest >>= λ name. of_body (reminder_reading request.body now) >>= λ reminder. Ok (PutReminder actor name reminder)
command_at action.GetReminder actor side request rest now = record_reading rest >>= λ name. Ok (GetReminder actor name)
command_at action.DeleteReminder actor side request rest now = record_reading rest >>= λ name. Ok (DeleteReminder actor name)
command_at action.SetTimer actor side request rest now = record_reading rest >>= λ name. of_body (timer_reading request.body now) >>= λ timer. Ok (SetTimer actor name timer)
command_at action.DeleteTimer actor side request rest now = record_reading rest >>= λ name. Ok (DeleteTimer actor name)

-- What a request asks for at `now`, in milliseconds, or the first cause for which it is refused. Actors are those of
-- the space of the node.
unfoldable pub command_of : List ℕ → Side → HttpRequest → ℕ → Result ApiCommand ApiRefusal
command_of space side request now =
    routed side (route_of (path_of request.target)) >>= λ route.
    allowed (action_of route.place request.method) >>= λ asked.
    actor_reading space route >>= λ actor.
    command_at asked actor side request route.rest now

-- memory may run out at any time; every other answer is that of the definition
abbrev pub ReadsCommand : Result ApiCommand ApiRefusal → Result ApiCommand ApiRefusal → Type 0
ReadsCommand reading (Ok command) = reading ≡ Ok command
ReadsCommand reading (Err refusal) = (refusal ≡ OutOfMemory) ⊎ (reading ≡ Err refusal)
