-- Lemmas of waits and wakes, over the view of a state and its parts.
use Rattle.std.proofs.Common.{◌≡◌, ◌≢◌, ℕ, ◌+◌, Bool, true, false, List, [], ◌∷◌, ◌++◌, Option, Some, None, IsSome, IfSome, IsSomeAnd, Result, Ok, Err, IfOk, is_some, length, slice_get, refl, sym, ◌∙◌, ap, subst}
use Rattle.std.specs.Prelude.{find}
use Rattle.ir_tree.specs.declared.items.Item.{Item}
use Rattle.mu_base.specs.declared.order.Order.TheVariants.{Relaxed}
use Rattle.mu_values.specs.declared.scalars.Scalar.{Scalar}
use Rattle.mu_values.specs.SameScalar.{same_scalar}
use Rattle.mu_values.specs.declared.cells.CellId.{CellId}
use Rattle.frames.specs.Activations.{Value, Activation}
use Rattle.frames.specs.Chains.{Chain}
use Rattle.mem_axioms.specs.declared.types.Rule.{Rule}
use Rattle.mem_axioms.specs.declared.types.Mode.TheVariants.{Read}
use Rattle.mem_axioms.specs.declared.types.Kind.{Kind}
use Rattle.mem_axioms.specs.declared.types.Kind.TheVariants.{Access}
use Rattle.mem_axioms.specs.declared.types.Event.{Event}
use Rattle.mem_axioms.specs.declared.types.Chosen.{Chosen}
use Rattle.mem_axioms.specs.declared.types.Wanted.TheVariants.{Load}
use Rattle.mem_axioms.specs.Objects.{initial_of, HasCell}
use Rattle.mem_axioms.specs.Choices.{choices}
use Rattle.mem_axioms.specs.Races.{race}
use Rattle.mem_axioms.specs.EventFits.{is_thread, EventFits}
use Rattle.mu_model.specs.declared.lines.Line.{Line}
use Rattle.mu_model.specs.declared.lines.Line.TheVariants as lines
use Rattle.mu_model.specs.declared.lines.Note.TheVariants.{TimedOut}
use Rattle.mu_model.specs.declared.endings.StepEnd.{StepEnd}
use Rattle.mu_model.specs.declared.endings.StepEnd.TheVariants.{Went}
use Rattle.mu_model.specs.declared.endings.Ending.{Ending}
use Rattle.futex.specs.declared.waiters.Waiter.{Waiter}
use Rattle.mu_model.specs.Acts.{Loads}
use Rattle.mu_model.specs.Changes.{event}
use Rattle.mu_model.specs.Outcomes.{Outcome, End, Stuck}
use Rattle.futex.specs.Waiting.{is_of, without}
use Rattle.mu_model.specs.Waiting.{found_another, time_was_over}
use Rattle.seats.specs.Seats.{Seats}
use Rattle.run_state.specs.Held.{Held, ahead}
use Rattle.run_state.specs.Acting.{answers, went_with, stepping, goes_on}
use Rattle.run_state.specs.Remembering.{initials}
use Rattle.memory_acts.specs.Accessing.{options_of, race_at, logs}
use Rattle.run_state.specs.Hand.{IsSound}
use Rattle.run_state.specs.StepLaws.{GoesOn, some_of}
use Rattle.memory_acts.specs.AccessLaws.{access_fits}
use Rattle.memory_acts.specs.FutexLaws.{timed_out, time_out_there, time_out_is, waiting_at, read_by, waiter, waits_unless, waits_with, wait_stands, wait_goes_there, wait_goes, last_found}
use Rattle.run_state.specs.Outcome.{Stays}
use Rattle.run_state.specs.AnsweredLines.{answers_lines}

-- ---- the end of a wait with a limit

-- the waiter that is found
abbrev pub At : Option Waiter → CellId → Type 0
At o cell = IsSomeAnd o (λ w. w.cell ≡ cell)

found_at : (o : Option Waiter) (cell : CellId) → At o cell → (w : Waiter) × (o ≡ Some w) × (w.cell ≡ cell)
found_at None cell h = absurd h
found_at (Some w) cell h = (w, refl, h)

pub stop_there : (s v : Held) (cell : CellId) → v ≡ s → At (find (is_of s.thread) s.seats.waiters) cell → IsSome (find (is_of v.thread) v.seats.waiters)
stop_there s v cell view h =
    let q = found_at (find (is_of s.thread) s.seats.waiters) cell h in
    subst (λ (x : Held). IsSome (find (is_of x.thread) x.seats.waiters)) (sym view) (ap is_some q.1)

pub time_out_goes : (bundle : List Item) (s v : Held) (cell : CellId) (vs : List Value) → v ≡ s → At (find (is_of s.thread) s.seats.waiters) cell → stepping bundle s ≢ Stuck
    → vs ≡ (time_was_over ∷ []) ∷ [] → IsSome (goes_on bundle v.frames.top vs)
time_out_goes bundle s v cell vs view at h results =
    let q = found_at (find (is_of s.thread) s.seats.waiters) cell at in
    subst (λ (x : Held). IsSome (goes_on bundle x.frames.top vs)) (sym view) (subst (λ vs. IsSome (goes_on bundle s.frames.top vs)) (sym results) (time_out_there bundle s q.0 q.1 h))

time_out_by : (bundle : List Item) (v : Held) (cell : CellId) (vs : List Value) (fr : Chain) (seats : Seats) (ls : List Line) → v.left ≡ true → At (find (is_of v.thread) v.seats.waiters) cell → stepping bundle v ≢ Stuck
    → vs ≡ (time_was_over ∷ []) ∷ [] → goes_on bundle v.frames.top vs ≡ Some fr.top
    → IfSome (find (is_of v.thread) v.seats.waiters) (λ w. seats ≡ record v.seats { waiters = without (w ∷ []) v.seats.waiters })
    → fr.below ≡ v.frames.below → ls ≡ lines.Note (TimedOut v.thread cell) ∷ []
    → answers (Went ls) (record v { frames = fr; seats = seats; steps = v.steps + 1 }) ≡ stepping bundle v
time_out_by bundle v cell vs fr seats ls left waits h results way stopped below told =
    let q = found_at (find (is_of v.thread) v.seats.waiters) cell waits in
    let w = q.0 in
    let fewer : seats ≡ record v.seats { waiters = without (w ∷ []) v.seats.waiters } = subst (λ (o : Option Waiter). IfSome o (λ w. seats ≡ record v.seats { waiters = without (w ∷ []) v.seats.waiters })) q.1 stopped in
    let written : ls ≡ lines.Note (TimedOut v.thread w.cell) ∷ [] = told ∙ ap (λ cell. lines.Note (TimedOut v.thread cell) ∷ []) (sym q.2) in
    ap (λ ls. answers (Went ls) (record v { frames = fr; seats = seats; steps = v.steps + 1 })) written
    ∙ ap (λ bs. answers (Went (lines.Note (TimedOut v.thread w.cell) ∷ [])) (record v { frames = record { top = fr.top; below = bs }; seats = seats; steps = v.steps + 1 })) below
    ∙ ap (λ seats. answers (Went (lines.Note (TimedOut v.thread w.cell) ∷ [])) (record v { frames = record v.frames { top = fr.top }; seats = seats; steps = v.steps + 1 })) fewer
    ∙ answers_lines (timed_out v w fr.top) (lines.Note (TimedOut v.thread w.cell) ∷ []) left
    ∙ sym (time_out_is bundle v w fr.top q.1 h (ap (goes_on bundle v.frames.top) (sym results) ∙ way))

pub timed_out_so : (bundle : List Item) (s v : Held) (cell : CellId) (vs : List Value) (fr : Chain) (seats : Seats) (ls : List Line) → v ≡ s → s.left ≡ true → At (find (is_of s.thread) s.seats.waiters) cell
    → stepping bundle s ≢ Stuck → vs ≡ (time_was_over ∷ []) ∷ [] → goes_on bundle v.frames.top vs ≡ Some fr.top
    → IfSome (find (is_of v.thread) v.seats.waiters) (λ w. seats ≡ record v.seats { waiters = without (w ∷ []) v.seats.waiters })
    → fr.below ≡ v.frames.below → ls ≡ lines.Note (TimedOut v.thread cell) ∷ []
    → answers (Went ls) (record v { frames = fr; seats = seats; steps = v.steps + 1 }) ≡ stepping bundle s
timed_out_so bundle s v cell vs fr seats ls view left waits h results way stopped below told =
    let main : v.left ≡ true → At (find (is_of v.thread) v.seats.waiters) cell → stepping bundle v ≢ Stuck → answers (Went ls) (record v { frames = fr; seats = seats; steps = v.steps + 1 }) ≡ stepping bundle v =
    λ left waits h. time_out_by bundle v cell vs fr seats ls left waits h results way stopped below told in
    subst (λ (s : Held). s.left ≡ true → At (find (is_of s.thread) s.seats.waiters) cell → stepping bundle s ≢ Stuck → answers (Went ls) (record v { frames = fr; seats = seats; steps = v.steps + 1 }) ≡ stepping bundle s) view main left waits h

-- ---- a wait at a cell that is there

-- what a memory answered
abbrev pub IsNewest : Held → CellId → List (List Scalar) → Chosen → Type 0
IsNewest v cell known k = slice_get (choices v.rule (initial_of known) v.log v.thread cell (Load Relaxed)) 0 ≡ Some k

module _ (bundle : List Item) (s v : Held) (timed : Bool) (expected : Scalar) (cell : CellId) (known : List (List Scalar)) (k : Chosen) (view : v ≡ s) (knows : known ≡ initials v.objects) (found : IsNewest v cell known k) where
  chosen : slice_get (options_of s (Loads Relaxed) cell) 0 ≡ Some k
  chosen =
      subst (λ (s : Held). slice_get (options_of s (Loads Relaxed) cell) 0 ≡ Some k) view
      (ap (λ known. slice_get (choices v.rule (initial_of known) v.log v.thread cell (Load Relaxed)) 0) (sym knows) ∙ found)

  thread : s.thread ≡ v.thread
  thread = ap (λ (s : Held). s.thread) (sym view)

  same_thread : is_thread v.log v.thread ≡ true → is_thread s.log s.thread ≡ true
  same_thread own = subst (λ (s : Held). is_thread s.log s.thread ≡ true) view own

  pub wait_fits : (x : Kind) → x ≡ Access Read cell Relaxed k.position k.value → is_thread v.log v.thread ≡ true → HasCell (initials s.objects) cell → EventFits s.rule (initials s.objects) s.log (event v.thread x)
  wait_fits x is own there =
      subst (λ i. EventFits s.rule (initials s.objects) s.log (event i x)) thread
      (subst (λ x. EventFits s.rule (initials s.objects) s.log (event s.thread x)) (sym is) (access_fits s (Loads Relaxed) cell 0 k _ (same_thread own) there chosen refl))

  pub wait_goes_on : (vs : List Value) → waiting_at bundle s timed expected cell ≢ Stuck → same_scalar k.value expected ≡ false → vs ≡ (found_another ∷ []) ∷ [] → IsSome (goes_on bundle s.frames.top vs)
  wait_goes_on vs h other results = subst (λ vs. IsSome (goes_on bundle s.frames.top vs)) (sym results) (wait_goes_there bundle s timed expected cell k h chosen other)

  pub waited_on : {E : Type 0} (r : Result StepEnd E) (t : Held) (x : Kind) (vs : List Value) → waiting_at bundle s timed expected cell ≢ Stuck → same_scalar k.value expected ≡ false → vs ≡ (found_another ∷ []) ∷ []
      → x ≡ Access Read cell Relaxed k.position k.value
      → IfOk r (λ end. IfSome (goes_on bundle s.frames.top vs) (λ f. answers end t ≡ logs s (event v.thread x) (ahead s) (record s.frames { top = f }))) → IfOk r (λ end. answers end t ≡ waiting_at bundle s timed expected cell)
  waited_on (Err e') t x vs h other results read answer = tt
  waited_on (Ok end) t x vs h other results read answer =
      let there = some_of (goes_on bundle s.frames.top ((found_another ∷ []) ∷ [])) (wait_goes_there bundle s timed expected cell k h chosen other) in
      let told : answers end t ≡ logs s (event v.thread x) (ahead s) (record s.frames { top = there.0 }) =
      subst (λ (o : Option Activation). IfSome o (λ f. answers end t ≡ logs s (event v.thread x) (ahead s) (record s.frames { top = f }))) (ap (goes_on bundle s.frames.top) results ∙ there.1) answer in
      told ∙ ap (λ x. logs s (event v.thread x) (ahead s) (record s.frames { top = there.0 })) read
      ∙ ap (λ i. logs s (read_by i cell k) (ahead s) (record s.frames { top = there.0 })) (sym thread)
      ∙ sym (wait_goes bundle s timed expected cell k there.0 h chosen other there.1)

  pub waited_here : {E : Type 0} (r : Result StepEnd E) (t : Held) (x : Kind) → waiting_at bundle s timed expected cell ≢ Stuck → same_scalar k.value expected ≡ true → x ≡ Access Read cell Relaxed k.position k.value
      → IfOk r (λ end. answers end t ≡ waits_with s (event v.thread x) cell timed) → IfOk r (λ end. answers end t ≡ waiting_at bundle s timed expected cell)
  waited_here (Err e') t x h equal read answer = tt
  waited_here (Ok end) t x h equal read answer =
      answer ∙ ap (λ x. waits_with s (event v.thread x) cell timed) read ∙ ap (λ i. waits_with s (read_by i cell k) cell timed) (sym thread) ∙ sym (wait_stands bundle s timed expected cell k h chosen equal)

-- ---- its read is logged, or races

pub waits_race : (s v : Held) (e : Event) (cell : CellId) (timed : Bool) (lg : List Event) (rl : Rule) (n : ℕ) (k : Ending) (o : Outcome) → v ≡ s → lg ≡ v.log → rl ≡ v.rule → race rl lg e ≡ Some n → k ≡ race_at v e n → o ≡ End [] k → o ≡ waits_with s e cell timed
unfolding waits_with
waits_race s v e cell timed lg rl n k o view log rule races ending is =
    let found : race v.rule v.log e ≡ Some n = ap (λ rl. race rl v.log e) (sym rule) ∙ ap (λ lg. race rl lg e) (sym log) ∙ races in
    is ∙ ap (End []) ending ∙ ap (waits_unless v e cell timed) (sym found) ∙ ap (λ (s : Held). waits_unless s e cell timed (race s.rule s.log e)) view

pub waits_on : (s v : Held) (e : Event) (cell : CellId) (timed : Bool) (number : ℕ) (seats : Seats) (lg after : List Event) (rl kept : Rule) (ls : List Line) → v ≡ s → s.left ≡ true → lg ≡ v.log → rl ≡ v.rule → race rl lg e ≡ None
    → after ≡ e ∷ lg → kept ≡ rl → seats ≡ record v.seats { waiters = v.seats.waiters ++ waiter v cell timed ∷ [] } → number ≡ length v.log → ls ≡ lines.Event number e ∷ []
    → answers (Went ls) (record v { seats = seats; log = after; rule = kept; steps = v.steps + 1 }) ≡ waits_with s e cell timed
unfolding waits_with
waits_on s v e cell timed number seats lg after rl kept ls view left log rule alone added same waits count written =
    let more = record v.seats { waiters = v.seats.waiters ++ waiter v cell timed ∷ [] } in
    let none : race v.rule v.log e ≡ None = ap (λ rl. race rl v.log e) (sym rule) ∙ ap (λ lg. race rl lg e) (sym log) ∙ alone in
    ap (λ ls. answers (Went ls) (record v { seats = seats; log = after; rule = kept; steps = v.steps + 1 })) written
    ∙ ap (λ seats. answers (Went (lines.Event number e ∷ [])) (record v { seats = seats; log = after; rule = kept; steps = v.steps + 1 })) waits
    ∙ ap (λ lg. answers (Went (lines.Event number e ∷ [])) (record v { seats = more; log = lg; rule = kept; steps = v.steps + 1 })) (added ∙ ap (λ lg. e ∷ lg) log)
    ∙ ap (λ rl. answers (Went (lines.Event number e ∷ [])) (record v { seats = more; log = e ∷ v.log; rule = rl; steps = v.steps + 1 })) (same ∙ rule)
    ∙ answers_lines (record v { seats = more; log = e ∷ v.log }) (lines.Event number e ∷ []) (ap (λ (s : Held). s.left) view ∙ left)
    ∙ ap (λ n. went_with (record v { seats = more; log = e ∷ v.log }) (lines.Event n e ∷ [])) count
    ∙ ap (waits_unless v e cell timed) (sym none)
    ∙ ap (λ (s : Held). waits_unless s e cell timed (race s.rule s.log e)) view

-- ---- a thread that waits, and at once does so no more

pub goes_on_view : (s v : Held) → v ≡ s → GoesOn s → find (is_of v.thread) v.seats.waiters ≡ None
goes_on_view s v view h = subst GoesOn (sym view) h

pub stop_again : (seats between : Seats) (w : Waiter) → find (is_of w.thread) seats.waiters ≡ None → between ≡ record seats { waiters = seats.waiters ++ w ∷ [] } → IsSome (find (is_of w.thread) between.waiters)
stop_again seats between w h e = subst (λ (x : Seats). IsSome (find (is_of w.thread) x.waiters)) (sym e) (ap is_some (last_found seats.waiters w h))

pub sound_still : (left : Bool) (thread stack : ℕ) (seats after : Seats) (log lg : List Event) → IsSound left thread stack seats log → after ≡ seats → lg ≡ log → IsSound left thread stack after lg
sound_still left thread stack seats after log lg h e f = subst (λ (x : Seats). IsSound left thread stack x lg) (sym e) (subst (IsSound left thread stack seats) (sym f) h)

pub nothing_left : (end : StepEnd) (s v : Held) (after : Seats) (lg : List Event) (rl : Rule) → v ≡ s → after ≡ v.seats → lg ≡ v.log → rl ≡ v.rule → ((x : Held) → Stays end x x) → Stays end s (record v { seats = after; log = lg; rule = rl })
nothing_left end s v after lg rl view seats log rule h =
    let same : record v { seats = after; log = lg; rule = rl } ≡ s =
    ap (λ seats. record v { seats = seats; log = lg; rule = rl }) seats ∙ ap (λ lg. record v { log = lg; rule = rl }) log ∙ ap (λ rl. record v { rule = rl }) rule ∙ view in
    subst (λ (x : Held). Stays end s x) (sym same) (h s)
