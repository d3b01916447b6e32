-- The client that a script is, and the values that it holds.
use Rattle.std.specs.Prelude.{false, List, [], ◌∷◌, ◌++◌, Option, Some, None, flat_map}
use Rattle.mu_values.specs.declared.scalars.Scalar.TheVariants.{Func}
use Rattle.mu_model.specs.Clients.{Classed, With, Pass, Throw, Reply, Resume, Rebind, Exit, Stop, Argument, Told, KeptValue, ClassedFunction, ScriptEntry, Client}

-- after the last entry the run is stopped
abbrev pub client_of : List ScriptEntry → Client
client_of es = record { entries = es; auto = false }

-- the constants, globals and functions that its entries name, with their classes
abbrev pub named_by : Argument → List Classed
named_by (Told v) = v ∷ []
named_by (KeptValue frame value) = []

abbrev pub named_with : With (List Argument) Argument → List Classed
named_with (Pass args) = flat_map named_by args
named_with (Throw arg) = named_by arg

abbrev pub named_in : Reply (List Argument) Argument → List Classed
named_in (Resume w) = named_with w
named_in (Rebind stack w) = named_by stack ++ named_with w
named_in Exit = []
named_in Stop = []

abbrev pub named_push : Option ClassedFunction → List Classed
named_push None = []
named_push (Some f) = (f.0, Func f.1 ∷ []) ∷ []

abbrev pub entry_names : ScriptEntry → List Classed
entry_names e = named_push e.push ++ named_in e.reply

abbrev pub values_named : List ScriptEntry → List Classed
values_named es = flat_map entry_names es
