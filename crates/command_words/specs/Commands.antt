-- A command with options as clap sees it.
use Rattle.std.specs.Prelude.{true, [], map, Some}
use Rattle.clap.specs.Walk.{Rule}
use Rattle.clap.specs.Simple.{App, new_rule, new_shape}
use Rattle.clap.specs.declared.builder.action.ArgAction.{ArgAction}
use Rattle.clap.specs.declared.builder.action.ArgAction.TheVariants.{Set, SetTrue}
use Rattle.command_words.specs.Options.{Text, Options, Kind, Needed, Optional, Flag, is_needed}

abbrev pub action_for : Kind → ArgAction
action_for Needed = Set
action_for Optional = Set
action_for Flag = SetTrue

-- an option by its long name, which has one value, or none if it is a flag
abbrev pub option_rule : Text × Kind → Rule
option_rule o = record (new_rule o.0) { long = Some o.0; action = Some (action_for o.1); required = is_needed o.1 }

-- a command without help and without the program's name
abbrev pub option_app : Text → Options → App
option_app name options = record {
  top = record (new_shape name) { rules = map option_rule options; no_binary_name = true; disable_help_flag = true };
  subs = [];
}
