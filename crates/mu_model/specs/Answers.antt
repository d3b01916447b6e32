-- What a client answers.
use Rattle.std.specs.Prelude.{ℕ, suc, Bool, true, false, ◌==◌, drop, List, [], ◌∷◌, Option, Some, None, map, slice_get, flat_map, option_map, if◌then◌else◌}
use Rattle.ir_lex.specs.declared.name.Name.{Name}
use Rattle.ir_tree.specs.declared.items.Item.{Item}
use Rattle.mu_values.specs.Slots.{TypedValues}
use Rattle.check_tables.specs.declared.tables.Tables.{Tables}
use Rattle.check_tables.specs.Types.{stackref}
use Rattle.check_tables.specs.Lookups.{class_of_global}
use Rattle.checked_code.specs.Checking.{bundle_tables}
use Rattle.frames.specs.Activations.{Activation}
use Rattle.typed_heap.specs.Places.{with_some}
use Rattle.mu_model.specs.declared.lines.Note.{Note}
use Rattle.mu_model.specs.declared.lines.Note.TheVariants.{Frame, Kept}
use Rattle.mu_model.specs.Types.{zero_value}
use Rattle.mu_model.specs.Clients.{Classed, With, Pass, Throw, Reply, Resume, Rebind, Exit, Stop, Argument, Told, KeptValue, Action, TellFrames, TellKept, Watch, ClassedFunction, ScriptEntry, Client, Edit, Answer, no_edit}
use Rattle.mu_model.specs.Operands.{global_operand, all_some}
use Rattle.mu_model.specs.Outcomes.{View}

-- ---- what a global name of a script stands for, with the class that it has as an operand: a constant, a global's place, a function

abbrev pub global_told : List Item → Name → Option Classed
global_told bundle n = with_some (class_of_global (bundle_tables bundle) n) (λ c. with_some (global_operand bundle n) (λ v. Some (c, v)))

-- ---- an entry of a script: None where it names a frame or a kept value that is not there, or a target whose type is not stackref

abbrev pub typed_value_at : TypedValues → ℕ → Option Classed
typed_value_at vs n = with_some (slice_get vs.types n) (λ c. with_some (slice_get vs.values n) (λ v. Some (c, v)))

abbrev pub argument_value : List Activation → Argument → Option Classed
argument_value fs (Told v) = Some v
argument_value fs (KeptValue n k) = with_some (slice_get fs n) (λ f. typed_value_at f.kept k)

abbrev pub typed : List Classed → TypedValues
typed vs = record { types = map (λ (v : Classed). v.0) vs; values = map (λ (v : Classed). v.1) vs }

abbrev pub with_of : List Activation → With (List Argument) Argument → Option (With TypedValues Classed)
with_of fs (Pass args) = with_some (all_some (map (argument_value fs) args)) (λ vs. Some (Pass (typed vs)))
with_of fs (Throw a) = with_some (argument_value fs a) (λ v. Some (Throw v))

abbrev pub reply_of : Tables → List Activation → Reply (List Argument) Argument → Option (Reply TypedValues Classed)
reply_of p fs (Resume w) = with_some (with_of fs w) (λ v. Some (Resume v))
reply_of p fs (Rebind a w) =
    with_some (argument_value fs a) (λ t. if t.0 == stackref p.types then with_some (with_of fs w) (λ v. Some (Rebind t v)) else None)
reply_of p fs Exit = Some Exit
reply_of p fs Stop = Some Stop

abbrev pub frame_notes : ℕ → List Activation → List Note
frame_notes n [] = []
frame_notes n (f ∷ fs) = Frame n f.block f.at ∷ frame_notes (suc n) fs

abbrev pub notes_of : List Activation → Action → Option (List Note)
notes_of fs TellFrames = Some (frame_notes 0 fs)
notes_of fs (TellKept n) = with_some (slice_get fs n) (λ f. Some (Kept n f.kept ∷ []))
notes_of fs (Watch n enabled) = Some []

abbrev pub watches_of : List Action → List (ℕ × Bool)
watches_of [] = []
watches_of (Watch n enabled ∷ more) = (n, enabled) ∷ watches_of more
watches_of (a ∷ more) = watches_of more

-- what an entry does to the frames
abbrev pub edit_of : ScriptEntry → Edit
edit_of e = record { pop = e.pop; push = option_map (λ (f : ClassedFunction). f.1) e.push }

abbrev pub entry_answer : Tables → List Activation → ScriptEntry → Option Answer
entry_answer p fs e =
    with_some (all_some (map (notes_of fs) e.actions)) (λ ns. with_some (reply_of p fs e.reply) (λ r.
    Some (record { notes = flat_map (λ n. n) ns; watches = watches_of e.actions; edit = edit_of e; reply = r })))

-- ---- the client

abbrev pub plain_answer : Reply TypedValues Classed → Answer
plain_answer r = record { notes = []; watches = []; edit = no_edit; reply = r }

-- zero and NULL for what is asked
abbrev pub blank : Tables → List ℕ → TypedValues
blank p cs = record { types = cs; values = map (zero_value p) cs }

abbrev pub answer_by : Tables → View → Bool → List ScriptEntry → Option Answer
answer_by p view auto (e ∷ es) = entry_answer p view.frames e
answer_by p view true [] = Some (plain_answer (Resume (Pass (blank p view.asked))))
answer_by p view false [] = Some (plain_answer Stop)

-- the next entry answers, and after the last one zero and NULL are passed, or the run is stopped
abbrev pub answer_of : Tables → View → Client → Option Answer
answer_of p view k = answer_by p view k.auto k.entries

-- the client past an answer that was taken
abbrev pub advanced : Client → Client
advanced k = record k { entries = drop 1 k.entries }
