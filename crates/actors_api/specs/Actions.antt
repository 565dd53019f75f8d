-- What a method of HTTP asks for at a place (Actors API reference of Dapr, version 1.0).
use Rattle.std.specs.Prelude.{if◌then◌else◌, bytes_eq, List, ℕ, codes, Option, Some, None}
use Rattle.std.specs.Option.{option_and_then}
use Rattle.actors_api.specs.declared.path.Place.{Place}
use Rattle.actors_api.specs.declared.path.Place.TheVariants.{Method, State, Key, Reminder, Timer}
use Rattle.actors_api.specs.declared.action.Verb.{Verb}
use Rattle.actors_api.specs.declared.action.Verb.TheVariants.{Post, Put, Get, Delete}
use Rattle.actors_api.specs.declared.action.Action.{Action}
use Rattle.actors_api.specs.declared.action.Action.TheVariants.{Invoke, Transact, GetState, PutReminder, GetReminder, DeleteReminder, SetTimer, DeleteTimer}

abbrev pub verb_of : List ℕ → Option Verb
verb_of method =
    if bytes_eq method (codes "POST") then Some Post else (
    if bytes_eq method (codes "PUT") then Some Put else (
    if bytes_eq method (codes "GET") then Some Get else (
    if bytes_eq method (codes "DELETE") then Some Delete else None)))

-- the table of places and methods
abbrev pub action_at : Place → Verb → Option Action
action_at Method verb = Some Invoke
action_at State Post = Some Transact
action_at State Put = Some Transact
action_at State Get = None
action_at State Delete = None
action_at Key Post = None
action_at Key Put = None
action_at Key Get = Some GetState
action_at Key Delete = None
action_at Reminder Post = Some PutReminder
action_at Reminder Put = Some PutReminder
action_at Reminder Get = Some GetReminder
action_at Reminder Delete = Some DeleteReminder
action_at Timer Post = Some SetTimer
action_at Timer Put = Some SetTimer
action_at Timer Get = None
action_at Timer Delete = Some DeleteTimer

abbrev pub action_of : Place → List ℕ → Option Action
action_of place method = option_and_then (action_at place) (verb_of method)
