-- Nothing that a reader believes of a run rests on this. It is how many options the step of the thread in hand has to pick from.
use Rattle.std.specs.Prelude.{◌≡◌, ◌<◌, ℕ, ◌==◌, Bool, true, false, List, [], ◌∷◌, Option, Some, None, Result, Ok, Err, IfOk, drop, find, length, slice_get, if◌then◌else◌, refl}
use Rattle.std.proofs.Common.{sym, ◌∙◌, ap, arith, inl, inr}
use Rattle.std.proofs.lemmas.Bool.Decides.{eqb_tells}
use Rattle.ir_tree.specs.declared.items.Item.{Item}
use Rattle.mu_values.specs.declared.cells.CellId.{CellId}
use Rattle.typed_heap.specs.declared.faults.PlaceFault.{PlaceFault}
use Rattle.typed_heap.specs.Places.{with_some, cell_in}
use Rattle.futex.specs.declared.waiters.Waiter.{Waiter}
use Rattle.mu_model.specs.Acts.{Access, Act, Doing}
use Rattle.mu_model.specs.Turns.{Turn, turn_of}
use Rattle.futex.specs.Waiting.{is_of, cell_of}
use Rattle.mu_threads.specs.Picks.{pick}
use Rattle.model_numbers.specs.Numbered.{numbered}
use Rattle.seats.specs.Seats.{runnable_of}
use Rattle.run_state.specs.Held.{Held, ahead, held_stacks, configured, configuration}
use Rattle.run_state.specs.Acting.{begun, turn, doing_of}
use Rattle.memory_acts.specs.Accessing.{options_of}
use Rattle.run_state.specs.StepLaws.{configuration_left}
use Rattle.run_state.specs.Hand.{IsSound, IsTakenUp, turn_there}
use Rattle.run_state.specs.Options.{access_in, cell_options, access_options, turn_options, thread_options, step_options}

-- those of an access, where its cell is there
abbrev pub cell_count : Held → Access → Option (Result CellId PlaceFault) → ℕ
cell_count s a (Some (Ok cell)) = length (options_of s a cell)
cell_count s a (Some (Err fault)) = 1
cell_count s a None = 1

abbrev pub access_count : Held → Option (Access × CellId) → ℕ
access_count s (Some (a, cell)) = cell_count s a (cell_in s.objects cell)
access_count s None = 1

-- what the thread's instruction asks
abbrev pub act_of : List Item → Held → Option Act
act_of bundle s = with_some (doing_of (numbered bundle) s) (λ d. d.act)

-- a thread that waits does no instruction
abbrev pub waiting_count : Option Waiter → ℕ → ℕ
waiting_count (Some w) n = 1
waiting_count None n = n

unfoldable pub stepping_count : List Item → Held → ℕ
stepping_count bundle s = waiting_count (find (is_of s.thread) s.seats.waiters) (access_count s (access_in (act_of bundle s)))

-- ---- it is that of the step, once the thread is taken up

same_cell_count : (s : Held) (d : Doing) (a : Access) (o : Option (Result CellId PlaceFault)) → cell_options (begun s) (turn s d) a o ≡ cell_count s a o
same_cell_count s d a None = refl
same_cell_count s d a (Some (Ok there)) = refl
same_cell_count s d a (Some (Err fault)) = refl

same_access_count : (s : Held) (d : Doing) (o : Option (Access × CellId)) → access_options (begun s) (turn s d) o ≡ access_count s o
same_access_count s d None = refl
same_access_count s d (Some (a, cell)) = same_cell_count s d a (cell_in s.objects cell)

same_turn_count : (s : Held) (w : Option Waiter) (o : Option Doing)
    → turn_options (begun s) w (with_some o (λ d. Some (turn s d))) ≡ waiting_count w (access_count s (access_in (with_some o (λ (d : Doing). d.act))))
same_turn_count s (Some w) o = refl
same_turn_count s None None = refl
same_turn_count s None (Some d) = same_access_count s d (access_in d.act)

-- a step that has begun has the same to pick from
begun_cell : (s : Held) (n : ℕ) (u : Turn) (a : Access) (o : Option (Result CellId PlaceFault)) → cell_options (configured (record s { skip = n }) (held_stacks s)) u a o ≡ cell_options (begun s) u a o
begun_cell s n u a None = refl
begun_cell s n u a (Some (Ok there)) = refl
begun_cell s n u a (Some (Err fault)) = refl

begun_access : (s : Held) (n : ℕ) (u : Turn) (o : Option (Access × CellId)) → access_options (configured (record s { skip = n }) (held_stacks s)) u o ≡ access_options (begun s) u o
begun_access s n u None = refl
begun_access s n u (Some (a, cell)) = begun_cell s n u a (cell_in s.objects cell)

begun_turn : (s : Held) (n : ℕ) (w : Option Waiter) (o : Option Turn) → turn_options (configured (record s { skip = n }) (held_stacks s)) w o ≡ turn_options (begun s) w o
begun_turn s n (Some w) o = refl
begun_turn s n None None = refl
begun_turn s n None (Some u) = begun_access s n u (access_in u.doing.act)

count_is : (bundle : List Item) (s t : Held) (many : ℕ) → many ≡ length (runnable_of s.seats) → s.steps < s.budget → IsSound t.left t.thread t.stack t.seats t.log → t.left ≡ true → configuration (record t { skip = s.skip }) ≡ configuration s
    → slice_get (runnable_of s.seats) (pick many (ahead s)).0 ≡ Some t.thread → step_options (numbered bundle) (configuration s) ≡ stepping_count bundle t
unfolding stepping_count
count_is bundle s t many count room sound left same there =
    let p = numbered bundle in
    let c = configuration s in
    let is = runnable_of s.seats in
    let k = pick (length is) (ahead s) in
    let at : slice_get is k.0 ≡ Some t.thread = ap (λ m. slice_get is (pick m (ahead s)).0) (sym count) ∙ there in
    let now : c ≡ configured (record t { skip = s.skip }) (held_stacks t) = sym same ∙ configuration_left (record t { skip = s.skip }) left in
    let more : (s.steps == s.budget) ≡ false = elim (eqb_tells s.steps s.budget) [ inl e ↦ absurd (omega (arith, e.1, room)) | inr e ↦ e.0 ] in
    ap (λ (b : Bool). if b then 1 else thread_options p c (slice_get is k.0)) more
    ∙ ap (thread_options p c) at ∙ ap (λ c. turn_options c (find (is_of t.thread) c.waiters) (turn_of p c t.thread)) now
    ∙ begun_turn t s.skip (find (is_of t.thread) t.seats.waiters) (turn_of p (begun t) t.thread)
    ∙ ap (turn_options (begun t) (find (is_of t.thread) t.seats.waiters)) (turn_there bundle t (sound.on_stack left) (sound.within left))
    ∙ same_turn_count t (find (is_of t.thread) t.seats.waiters) (doing_of p t)

pub options_so : (s u : Held) (many picked thread k : ℕ) → IsTakenUp s u thread → s.skip ≡ 0 → many ≡ length (runnable_of s.seats) → s.steps < s.budget → picked ≡ (pick many (drop 0 s.picks)).0
    → slice_get (runnable_of s.seats) picked ≡ Some thread → IsSound u.left u.thread u.stack u.seats u.log
    → (bundle : List Item) → step_options (numbered bundle) (configuration s) ≡ stepping_count bundle (record u { skip = k })
options_so s u many picked thread k up whole count room looked there sound bundle =
    let at : s.picks ≡ ahead s = ap (λ n. drop n s.picks) (sym whole) in
    let same : configuration (record u { skip = s.skip }) ≡ configuration s = ap (λ n. configuration (record u { skip = n })) (sym up.skip) ∙ up.same in
    let here : slice_get (runnable_of s.seats) (pick many (ahead s)).0 ≡ Some u.thread =
    ap (λ ps. slice_get (runnable_of s.seats) (pick many ps).0) (sym at) ∙ ap (slice_get (runnable_of s.seats)) (sym looked)
    ∙ there ∙ ap Some (sym up.thread) in
    count_is bundle s (record u { skip = k }) many count room sound up.left same here

-- ---- in the thread's turn

waited_one : (w : Option Waiter) (cell : CellId) (n : ℕ) → Some cell ≡ cell_of w → waiting_count w n ≡ 1
waited_one None cell n e = cc
waited_one (Some w) cell n e = refl

pub waiting_one : (bundle : List Item) (s : Held) (cell : CellId) → Some cell ≡ cell_of (find (is_of s.thread) s.seats.waiters) → stepping_count bundle s ≡ 1
unfolding stepping_count
waiting_one bundle s cell e = waited_one (find (is_of s.thread) s.seats.waiters) cell (access_count s (access_in (act_of bundle s))) e

pub going_count : (bundle : List Item) (s : Held) → find (is_of s.thread) s.seats.waiters ≡ None → stepping_count bundle s ≡ access_count s (access_in (act_of bundle s))
unfolding stepping_count
going_count bundle s e = ap (λ w. waiting_count w (access_count s (access_in (act_of bundle s)))) e

-- ---- where no step is made

pub over_count : (bundle : List Item) (s : Held) → s.steps ≡ s.budget → step_options (numbered bundle) (configuration s) ≡ 1
over_count bundle s over =
    let p = numbered bundle in
    let c = configuration s in
    let is = runnable_of s.seats in
    elim (eqb_tells s.steps s.budget) [
      | inl e ↦ ap (λ (b : Bool). if b then 1 else thread_options p c (slice_get is (pick (length is) c.picks).0)) e.0
      | inr e ↦ absurd (e.1 over)
    ]

pub none_count : (bundle : List Item) (s : Held) → length (runnable_of s.seats) ≡ 0 → step_options (numbered bundle) (configuration s) ≡ 1
none_count bundle s none = by (s.steps == s.budget) (runnable_of s.seats) none
  where
    by : (b : Bool) (is : List ℕ) → length is ≡ 0 → (if b then 1 else thread_options (numbered bundle) (configuration s) (slice_get is (pick (length is) (ahead s)).0)) ≡ 1
    by true is none = refl
    by false [] none = refl
    by false (i ∷ is) none = absurd (omega (arith, none))

-- ---- what an answer says of it

pub counted_so : {E : Type 0} (r : Result ℕ E) (m n : ℕ) → m ≡ n → IfOk r (λ k. k ≡ n) → IfOk r (λ k. k ≡ m)
counted_so (Ok k) m n e h = h ∙ sym e
counted_so (Err x) m n e h = tt

pub ruleset counting_turn = (waiting_one, going_count)
