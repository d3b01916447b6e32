-- Nothing that a reader believes of a run rests on this. It is what comes of a trap, in parts.
use Rattle.std.specs.Prelude.{ℕ, List, Option, fold, reverse}
use Rattle.ir_tree.specs.declared.items.Item.{Item}
use Rattle.mu_values.specs.Slots.{TypedValues}
use Rattle.frames.specs.Chains.{frames_of, Chain}
use Rattle.mu_model.specs.declared.lines.Line.{Line}
use Rattle.mu_model.specs.declared.lines.Note.{Note}
use Rattle.client_hooks.specs.Replies.{edit_of}
use Rattle.client_hooks.specs.Ways.{Way}
use Rattle.mem_axioms.specs.declared.types.Kind.TheVariants.{Leave}
use Rattle.mu_model.specs.Changes.{logged, stack_becomes, frames_end}
use Rattle.mu_model.specs.Clients.{Classed, Edit, Reply}
use Rattle.mu_model.specs.Configuration.{Ready, Configuration}
use Rattle.mu_model.specs.Edits.{edited}
use Rattle.mu_model.specs.Exceptions.{EnteredFrames}
use Rattle.mu_model.specs.EnteringStacks.{enters}
use Rattle.mu_model.specs.Outcomes.{Outcome, Next, View, on, tried}
use Rattle.mu_model.specs.Run.{with_client}
use Rattle.mu_model.specs.Traps.{trap_note, replied, watch}
use Rattle.model_numbers.specs.Numbered.{numbered}
use Rattle.run_state.specs.Held.{Held}
use Rattle.run_state.specs.Acting.{begun, turn, doing_of, with_awaited, Awaited}
use Rattle.trap_acts.specs.declared.replying.Trapped.{Trapped}
use Rattle.stack_moves.specs.Editing.{kept, after_edit, IsMade}
use Rattle.stack_moves.specs.Entering.{nothing}

-- what an answer changes before its reply: the watchpoints that are enabled, and the lines so far
pub record Change : Type 0 where
  pub watched : List ℕ
  pub lines : List Line

abbrev pub change_by : Held → Trapped → Change
change_by s t = record { watched = fold watch s.watched t.watches; lines = t.lines }

-- the top frame waits so
abbrev pub waiting_frames : Held → Awaited → Chain
waiting_frames s w = record s.frames { top = with_awaited s.frames.top w }

-- what the client sees then
abbrev pub seen : Held → Option ℕ → Awaited → View
seen s watchpoint w = record { thread = s.thread; watchpoint = watchpoint; asked = w.waits; frames = frames_of (waiting_frames s w) }

-- the record of the trap
abbrev pub note_of : Held → Option ℕ → Note
note_of s watchpoint = trap_note (turn s nothing) watchpoint

-- the configuration once the stack is left with these frames; those that were popped have ended with their objects
abbrev pub left_with : Held → EnteredFrames → Configuration
left_with s w = frames_end w.ended (logged s.thread (Leave s.stack) (stack_becomes s.stack (Ready w.frames) (begun s)))

-- and the answer's records and watches are taken
abbrev pub changed_by : Held → EnteredFrames → Change → Configuration
changed_by s w x = record (left_with s w) { watched = x.watched; lines = reverse x.lines }

-- the reply after that
unfoldable pub replying : List Item → Held → EnteredFrames → Change → Reply TypedValues Classed → Outcome
replying bundle s w x r = on (doing_of (numbered bundle) s) (λ d. replied (numbered bundle) (changed_by s w x) (turn s d) r)

-- first the edit of the frames, and then the reply
unfoldable pub answering : List Item → Held → Awaited → Edit → Change → Reply TypedValues Classed → Outcome
answering bundle s w e x r =
    on (doing_of (numbered bundle) s) (λ d.
    tried (numbered bundle) (changed_by s (kept (frames_of (waiting_frames s w))) x) (turn s d) (edited (numbered bundle) e (frames_of (waiting_frames s w))) (λ q. replied (numbered bundle) (changed_by s q x) (turn s d) r))

-- the frames of the trapped stack once the edit is made
abbrev pub left_by : List Item → Held → Trapped → EnteredFrames
left_by bundle s t = after_edit bundle (edit_of t.edit) (frames_of (waiting_frames s t.wait))

-- the edit is not refused
abbrev pub IsEdited : List Item → Held → Trapped → Type 0
IsEdited bundle s t = IsMade bundle (edit_of t.edit) (frames_of (waiting_frames s t.wait))

-- a client that answers in that way goes past its answer
unfoldable pub past : Way → Held → Outcome → Outcome
past how s o = with_client (how.past s.client) o

-- the stack k is entered then
unfoldable pub entering_then : Held → EnteredFrames → Change → ℕ → EnteredFrames → Outcome
entering_then s w x k r = Next (enters s.thread k r (changed_by s w x))
