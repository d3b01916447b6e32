-- The entries that a script means, as a client has them.
use Rattle.std.specs.Prelude.{List, map, option_map}
use Rattle.mu_model.specs.Clients as clients
use Rattle.mu_model.specs.Clients.{ClassedFunction, ScriptEntry}
use Rattle.client_script.specs.declared.tree.Argument.{Argument}
use Rattle.client_script.specs.declared.tree.Argument.TheVariants as arguments
use Rattle.client_script.specs.declared.tree.Action.{Action}
use Rattle.client_script.specs.declared.tree.Action.TheVariants as actions
use Rattle.client_script.specs.declared.tree.Pushed.{Pushed}
use Rattle.client_script.specs.declared.tree.With.{With}
use Rattle.client_script.specs.declared.tree.With.TheVariants as ways
use Rattle.client_script.specs.declared.tree.Reply.{Reply}
use Rattle.client_script.specs.declared.tree.Reply.TheVariants as replies
use Rattle.client_script.specs.declared.tree.Entry.{Entry}

abbrev pub argument_meant : Argument → clients.Argument
argument_meant (arguments.Told class value) = clients.Told (class, value)
argument_meant (arguments.KeptValue frame value) = clients.KeptValue frame value

abbrev pub action_meant : Action → clients.Action
action_meant actions.TellFrames = clients.TellFrames
action_meant (actions.TellKept frame) = clients.TellKept frame
action_meant (actions.Watch watchpoint enabled) = clients.Watch watchpoint enabled

abbrev pub pushed_meant : Pushed → ClassedFunction
pushed_meant f = (f.class, f.function)

abbrev pub way_meant : With → clients.With (List clients.Argument) clients.Argument
way_meant (ways.Pass args) = clients.Pass (map argument_meant args)
way_meant (ways.Throw arg) = clients.Throw (argument_meant arg)

abbrev pub reply_meant : Reply → clients.Reply (List clients.Argument) clients.Argument
reply_meant (replies.Resume w) = clients.Resume (way_meant w)
reply_meant (replies.Rebind stack w) = clients.Rebind (argument_meant stack) (way_meant w)
reply_meant replies.Exit = clients.Exit
reply_meant replies.Stop = clients.Stop

abbrev pub entry_meant : Entry → ScriptEntry
entry_meant e = record { actions = map action_meant e.actions; pop = e.edit.pop; push = option_map pushed_meant e.edit.push; reply = reply_meant e.reply }

abbrev pub entries_meant : List Entry → List ScriptEntry
entries_meant es = map entry_meant es
