-- Traps, watchpoints, and what comes of the client's answer.
use Rattle.std.specs.Prelude.{ℕ, Bool, ◌==◌, not, List, ◌∷◌, Option, Some, None, map, filter, fold, reverse, ◌++◌, if◌then◌else◌}
use Rattle.std.specs.List.{list_any}
use Rattle.std.specs.Ordering.{nat_cmp}
use Rattle.std.specs.BTreeSet.{insert_key}
use Rattle.mu_values.specs.declared.scalars.Scalar.{Scalar}
use Rattle.mu_values.specs.declared.scalars.Scalar.TheVariants as scalars
use Rattle.mu_values.specs.Slots.{TypedValues}
use Rattle.check_tables.specs.declared.tables.Tables.{Tables}
use Rattle.check_tables.specs.Types.{ref_void}
use Rattle.frames.specs.Activations.{Goal, Activation}
use Rattle.typed_heap.specs.Places.{with_some}
use Rattle.mu_model.specs.declared.lines.Line.TheVariants as lines
use Rattle.mu_model.specs.declared.lines.Note.{Note}
use Rattle.mu_model.specs.declared.lines.Note.TheVariants.{Exited, Trap, Watchpoint}
use Rattle.mu_model.specs.declared.endings.Case.TheVariants.{ClientMisuse}
use Rattle.mu_model.specs.declared.endings.Ending.TheVariants as endings
use Rattle.mu_model.specs.Clients.{Classed, With, Pass, Throw, Reply, Resume, Rebind, Exit, Stop, Answer}
use Rattle.mu_model.specs.Configuration.{Ready, Configuration}
use Rattle.mu_model.specs.Acts.{Entering, Passes, ThrowsInto, Misfits, Program}
use Rattle.mu_model.specs.Operands.{scalar_in}
use Rattle.mu_model.specs.Frames.{arrived}
use Rattle.mu_model.specs.Changes.{noted, stack_becomes, frames_end, thread_ends}
use Rattle.mu_model.specs.Turns.{Turn, waiting}
use Rattle.mu_model.specs.Outcomes.{Outcome, Next, Asks, on, next, onto, ended, tried, case_of}
use Rattle.mu_model.specs.Exceptions.{EnteredFrames}
use Rattle.mu_model.specs.Edits.{edited}
use Rattle.mu_model.specs.EnteringStacks.{leaving, entering, enters}

-- ---- what comes of an answer

-- an exception has the type ref<void>
abbrev pub entering_of : Tables → With TypedValues Classed → Option Entering
entering_of p (Pass vs) = Some (Passes vs.types vs.values)
entering_of p (Throw v) = if v.0 == ref_void p.types then with_some (scalar_in (Some v.1)) (λ e. Some (ThrowsInto e)) else Some Misfits

abbrev pub is_watched : ℕ → List ℕ → Bool
is_watched n ns = list_any (λ m. m == n) ns

-- the watchpoints that are enabled stand in rising order, each once
abbrev pub watch : List ℕ → ℕ × Bool → List ℕ
watch ns w = if w.1 then insert_key nat_cmp ns w.0 else filter (λ n. not (n == w.0)) ns

-- its records and watches
abbrev pub taken : Answer → Configuration → Configuration
taken a c = record c { watched = fold watch c.watched a.watches; lines = reverse (map lines.Note a.notes) ++ c.lines }

abbrev pub enters_by : Program → Configuration → Turn → Scalar → With TypedValues Classed → Outcome
enters_by p c u s w = on (entering_of p.tables w) (λ e. entering p c u s e (λ k r. Next (enters u.thread k r c)))

-- the trapped stack is entered, or another one, and the trapped one stays ready; the thread ends, and the stack stays ready; the run ends
abbrev pub replied : Program → Configuration → Turn → Reply TypedValues Classed → Outcome
replied p c u (Resume w) = enters_by p c u (scalars.Stack u.stack) w
replied p c u (Rebind t w) = on (scalar_in (Some t.1)) (λ s. enters_by p c u s w)
replied p c u Exit = Next (noted (Exited u.thread) (thread_ends u.thread c))
replied p c u Stop = ended c endings.Stop

-- the trapped stack has these frames from then on, and those that were popped end
abbrev pub edits : Turn → EnteredFrames → Configuration → Configuration
edits u r c = frames_end r.ended (stack_becomes u.stack (Ready r.frames) c)

-- first its records and watches, then its edit of the frames of the trapped stack, then its reply
abbrev pub answered : Program → Configuration → Turn → List Activation → Option Answer → Outcome
answered p c u fs None = ended c (case_of u ClientMisuse)
answered p c u fs (Some a) = tried p (taken a c) u (edited p a.edit fs) (λ r. replied p (edits u r (taken a c)) u a.reply)

-- ---- traps: the stack is left, a record says so, and the client is asked

abbrev pub trap_note : Turn → Option ℕ → Note
trap_note u None = Trap u.thread u.top.block u.top.at
trap_note u (Some n) = Watchpoint u.thread u.top.block u.top.at n

abbrev pub trapped : Program → Configuration → Turn → Option ℕ → List ℕ → Outcome
trapped p c u watchpoint cs =
    on (waiting u cs) (λ f.
    Asks (record { thread = u.thread; watchpoint = watchpoint; asked = cs; frames = f ∷ u.below }) (answered p (noted (trap_note u watchpoint) (leaving u f c)) u (f ∷ u.below)))

-- ---- watchpoints

abbrev pub goes : Configuration → Turn → Goal → Outcome
goes c u g = next c u (onto u (arrived u.top g))

abbrev pub meets_watchpoint : Program → Configuration → Turn → ℕ → List ℕ → Goal → Outcome
meets_watchpoint p c u n cs disabled = if is_watched n c.watched then trapped p c u (Some n) cs else goes c u disabled

abbrev pub chooses : Configuration → Turn → ℕ → Goal → Goal → Outcome
chooses c u n disabled enabled = if is_watched n c.watched then goes c u enabled else goes c u disabled
