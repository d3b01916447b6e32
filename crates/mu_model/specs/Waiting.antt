-- Waiting at a cell, and waking.
use Rattle.std.specs.Prelude.{ℕ, ◌-◌, ◌^◌, Bool, List, [], ◌∷◌, ◌++◌, Option, Some, length, slice_get, option_map, if◌then◌else◌}
use Rattle.mu_base.specs.declared.order.Order.TheVariants.{Relaxed}
use Rattle.mu_values.specs.declared.scalars.Scalar.{Scalar}
use Rattle.mu_values.specs.declared.scalars.Scalar.TheVariants.{Int}
use Rattle.mu_values.specs.SameScalar.{same_scalar}
use Rattle.mu_values.specs.declared.cells.CellId.{CellId}
use Rattle.typed_heap.specs.Places.{with_some, cell_in}
use Rattle.futex.specs.declared.waiters.Waiter.{Waiter}
use Rattle.futex.specs.Waiting.{oldest_at, without}
use Rattle.mem_axioms.specs.Choices.{choices}
use Rattle.mem_axioms.specs.declared.types.Kind.TheVariants.{Wake, Woken}
use Rattle.mem_axioms.specs.declared.types.Chosen.{Chosen}
use Rattle.mu_model.specs.declared.lines.Note.TheVariants.{TimedOut}
use Rattle.mu_model.specs.Configuration.{Active, Configuration}
use Rattle.mu_model.specs.Acts.{Loads, Program}
use Rattle.mu_model.specs.Frames.{passed}
use Rattle.mu_model.specs.Changes.{noted, logged, stack_becomes}
use Rattle.mu_model.specs.Turns.{Turn, turn_of}
use Rattle.mu_model.specs.Outcomes.{Outcome, on, onto, has_result, tried, or_case}
use Rattle.mu_model.specs.Accesses.{initial, wanted, kind_of, accessed}

-- the results of a wait: of a thread that was woken 0, of one that found another value -1, of one whose time was over -3
abbrev pub was_woken : Scalar
was_woken = Int 32 0

abbrev pub found_another : Scalar
found_another = Int 32 (2 ^ 32 - 1)

abbrev pub time_was_over : Scalar
time_was_over = Int 32 (2 ^ 32 - 3)

-- ---- waiting

abbrev pub waits_at : Turn → Bool → CellId → Configuration → Configuration
waits_at u timed cell c = record c { waiters = c.waiters ++ record { thread = u.thread; cell = cell; timed = timed } ∷ [] }

-- It reads option 0 of a load, the newest position. At an equal value it stands at its wait, else it goes on.
abbrev pub waited : Program → Configuration → Turn → Bool → Scalar → CellId → Chosen → Outcome
waited p c u timed v cell k =
    if same_scalar k.value v then accessed (waits_at u timed cell c) u (kind_of (Loads Relaxed) cell k) (onto u u.top)
    else accessed c u (kind_of (Loads Relaxed) cell k) (with_some (passed p u.top ((found_another ∷ []) ∷ [])) (onto u))

abbrev pub futex_waits : Program → Configuration → Turn → Bool → Scalar → CellId → Outcome
futex_waits p c u timed v cell =
    tried p c u (option_map or_case (cell_in c.objects cell)) (λ there.
    on (slice_get (choices c.rule (initial c) c.log u.thread there (wanted (Loads Relaxed))) 0) (waited p c u timed v there))

-- ---- waking

-- one that was woken goes on behind its wait
abbrev pub wakes_one : Program → ℕ → Configuration → Turn → Option Configuration
wakes_one p wake c u =
    with_some (passed p u.top ((was_woken ∷ []) ∷ [])) (λ f. Some (stack_becomes u.stack (Active u.thread (f ∷ u.below)) (logged u.thread (Woken wake) c)))

abbrev pub wakes_all : Program → ℕ → List Waiter → Configuration → Option Configuration
wakes_all p wake [] c = Some c
wakes_all p wake (w ∷ ws) c = with_some (turn_of p c w.thread) (λ u. with_some (wakes_one p wake c u) (wakes_all p wake ws))

-- the thread itself goes on with how many were woken
abbrev pub wakes_these : Program → Configuration → Turn → CellId → List Waiter → Outcome
wakes_these p c u cell ws =
    on (wakes_all p (length c.log) ws (logged u.thread (Wake cell (length ws)) (record c { waiters = without ws c.waiters })))
    (λ d. has_result p d u (Int 32 (length ws)))

-- the oldest that wait there, and so many at most
abbrev pub futex_wakes : Program → Configuration → Turn → ℕ → CellId → Outcome
futex_wakes p c u many cell =
    tried p c u (option_map or_case (cell_in c.objects cell)) (λ there. wakes_these p c u there (oldest_at there many c.waiters))

-- ---- the end of a timed wait

abbrev pub times_out : Program → Configuration → Turn → Waiter → Outcome
times_out p c u w = has_result p (noted (TimedOut u.thread w.cell) (record c { waiters = without (w ∷ []) c.waiters })) u time_was_over
