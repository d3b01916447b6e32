-- Clients and answers that fit.
use Rattle.std.specs.Prelude.{◌≡◌, ℕ, All, List, Option, Some, None, IsSome, slice_get}
use Rattle.type_definitions.specs.declared.definition.TypeDef.{TypeDef}
use Rattle.mu_values.specs.Slots.{TypedValues}
use Rattle.check_tables.specs.declared.tables.Tables.{Tables}
use Rattle.check_tables.specs.Types.{stackref}
use Rattle.typed_heap.specs.Fits.{World, ValueFits, signature_classes}
use Rattle.frames.specs.Activations.{Activation}
use Rattle.mu_model.specs.Types.{type_graph}
use Rattle.mu_model.specs.Answers.{edit_of}
use Rattle.mu_model.specs.Clients.{Classed, With, Pass, Throw, Reply, Resume, Rebind, Exit, Stop, Argument, Told, KeptValue, ScriptEntry, Client, Answer}
use Rattle.mu_model.specs.Outcomes.{View}
use Rattle.model_laws.specs.Values.{TypedFit, HasGlobals}

-- ---- what a client is shown, and what it answers

-- each frame keeps as many values as types, and each value fits its type
abbrev pub ViewFits : List TypeDef → World → View → Type 0
ViewFits graph w view = All (λ (f : Activation). TypedFit graph w f.kept) view.frames

-- values of their types, and a stack to enter
abbrev pub WithFits : List TypeDef → World → With TypedValues Classed → Type 0
WithFits graph w (Pass vs) = TypedFit graph w vs
WithFits graph w (Throw v) = ValueFits graph w v.0 v.1

abbrev pub ReplyFits : Tables → World → Reply TypedValues Classed → Type 0
ReplyFits p w (Resume v) = WithFits (type_graph p) w v
ReplyFits p w (Rebind s v) = (s.0 ≡ stackref p.types) × ValueFits (type_graph p) w s.0 s.1 × WithFits (type_graph p) w v
ReplyFits p w Exit = Unit {0}
ReplyFits p w Stop = Unit {0}

-- a function that is pushed is one of the bundle
abbrev pub PushFits : Tables → Option ℕ → Type 0
PushFits p None = Unit {0}
PushFits p (Some f) = IsSome (slice_get (signature_classes p) f)

-- misuse, or an answer whose function and values fit
abbrev pub AnswerFits : Tables → World → Option Answer → Type 0
AnswerFits p w None = Unit {0}
AnswerFits p w (Some a) = PushFits p a.edit.push × ReplyFits p w a.reply

-- ---- a client: the functions that its entries push are there, and the values that they tell fit their types, whatever else is made

abbrev pub ArgumentFits : List TypeDef → World → Argument → Type 0
ArgumentFits graph w (Told v) = ValueFits graph w v.0 v.1
ArgumentFits graph w (KeptValue n k) = Unit {0}

abbrev pub ArgumentsFit : List TypeDef → World → With (List Argument) Argument → Type 0
ArgumentsFit graph w (Pass args) = All (ArgumentFits graph w) args
ArgumentsFit graph w (Throw a) = ArgumentFits graph w a

abbrev pub EntryFits : List TypeDef → World → Reply (List Argument) Argument → Type 0
EntryFits graph w (Resume a) = ArgumentsFit graph w a
EntryFits graph w (Rebind s a) = ArgumentFits graph w s × ArgumentsFit graph w a
EntryFits graph w Exit = Unit {0}
EntryFits graph w Stop = Unit {0}

abbrev pub ScriptEntryFits : Tables → World → ScriptEntry → Type 0
ScriptEntryFits p w e = PushFits p (edit_of e).push × EntryFits (type_graph p) w e.reply

abbrev pub ClientFits : Tables → Client → Type 0
ClientFits p k = (w : World) → HasGlobals p w → All (ScriptEntryFits p w) k.entries
