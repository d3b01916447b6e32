-- Lemmas of accesses, over the view of a state and its parts.
use Rattle.std.proofs.Common.{◌≡◌, ◌≢◌, ℕ, ◌+◌, ◌<◌, ◌≤◌, true, List, [], ◌∷◌, ◌++◌, drop, Option, Some, None, IsSome, IfSome, Result, Ok, Err, IfOk, length, slice_get, sym, ◌∙◌, ap, subst, arith}
use Rattle.ir_tree.specs.declared.items.Item.{Item}
use Rattle.mu_values.specs.declared.scalars.Scalar.{Scalar}
use Rattle.mu_values.specs.declared.cells.CellId.{CellId}
use Rattle.typed_heap.specs.declared.faults.PlaceFault.{PlaceFault}
use Rattle.frames.specs.Activations.{Value, Activation}
use Rattle.frames.specs.Chains.{Chain, stands}
use Rattle.mem_axioms.specs.declared.types.Rule.{Rule}
use Rattle.mu_base.specs.declared.order.Order.{Order}
use Rattle.mem_axioms.specs.declared.types.Kind.{Kind}
use Rattle.mem_axioms.specs.declared.types.Kind.TheVariants.{Fence}
use Rattle.mem_axioms.specs.declared.types.Event.{Event}
use Rattle.mem_axioms.specs.declared.types.Wanted.{Wanted}
use Rattle.mem_axioms.specs.declared.types.Chosen.{Chosen}
use Rattle.mem_axioms.specs.Objects.{initial_of, HasCell}
use Rattle.mem_axioms.specs.Choices.{choices}
use Rattle.mem_axioms.specs.Races.{race}
use Rattle.mem_axioms.specs.EventFits.{is_thread, EventFits}
use Rattle.mem_axioms.specs.Rooms.{HasRoom}
use Rattle.mu_threads.specs.Picks.{pick}
use Rattle.mu_model.specs.declared.lines.Line.{Line}
use Rattle.mu_model.specs.declared.lines.Line.TheVariants as lines
use Rattle.mu_model.specs.declared.endings.StepEnd.{StepEnd}
use Rattle.mu_model.specs.declared.endings.StepEnd.TheVariants.{Went}
use Rattle.mu_model.specs.declared.endings.Case.{Case}
use Rattle.mu_model.specs.declared.endings.Ending.{Ending}
use Rattle.mu_model.specs.Acts.{Access, Faults, Fences}
use Rattle.mu_model.specs.Accesses.{wanted, kind_of, access_results}
use Rattle.mu_model.specs.Changes.{event}
use Rattle.mu_model.specs.Outcomes.{Outcome, End, Stuck, case_of_fault}
use Rattle.run_state.specs.Held.{Held, ahead}
use Rattle.run_state.specs.Acting.{answers, went_with, acting, goes_on}
use Rattle.run_state.specs.Remembering.{initials}
use Rattle.memory_acts.specs.Accessing.{options_of, picking, race_at, logs_unless, logs}
use Rattle.run_state.specs.StepLaws.{some_of}
use Rattle.memory_acts.specs.AccessLaws.{option_there, option_is, position_low, access_fits, access_room, fence_there, fence_is}
use Rattle.run_state.specs.AnsweredLines.{answers_lines}

-- ---- an act that does the same as another

pub refused_by : (bundle : List Item) (s : Held) (f : PlaceFault) (k : Case) (o : Outcome) → o ≡ acting bundle s (Faults (case_of_fault f)) → k ≡ case_of_fault f → o ≡ acting bundle s (Faults k)
refused_by bundle s f k o h case = h ∙ ap (λ k. acting bundle s (Faults k)) (sym case)

pub there_so : (o p : Outcome) → o ≢ Stuck → o ≡ p → p ≢ Stuck
there_so o p h e = λ stuck. h (e ∙ stuck)

pub answered_so : {E : Type 0} (r : Result StepEnd E) (t : Held) (o p : Outcome) → IfOk r (λ end. answers end t ≡ p) → o ≡ p → IfOk r (λ end. answers end t ≡ o)
answered_so (Ok end) t o p h e = h ∙ sym e
answered_so (Err f) t o p h e = tt

-- ---- the option that is picked

-- what a memory and a schedule answered
pub record Looked (s v : Held) (a : Access) (cell : CellId) (w : Wanted) (known : List (List Scalar)) (options : ℕ) (k : Chosen) : Type 0 where
  pub view : v ≡ s
  pub knows : known ≡ initials v.objects
  pub wants : w ≡ wanted a
  pub count : options ≡ length (choices v.rule (initial_of known) v.log v.thread cell w)
  pub choice : slice_get (choices v.rule (initial_of known) v.log v.thread cell w) (pick options (drop v.skip v.picks)).0 ≡ Some k

module _ (bundle : List Item) (s v : Held) (a : Access) (cell : CellId) (w : Wanted) (known : List (List Scalar)) (options : ℕ) (k : Chosen) (q : Looked s v a cell w known options k) where
  same : choices v.rule (initial_of known) v.log v.thread cell w ≡ options_of s a cell
  same =
      ap (λ known. choices v.rule (initial_of known) v.log v.thread cell w) q.knows ∙ ap (λ w. choices v.rule (initial_of (initials v.objects)) v.log v.thread cell w) q.wants
      ∙ ap (λ (s : Held). options_of s a cell) q.view

  many : options ≡ length (options_of s a cell)
  many = q.count ∙ ap length same

  number : (pick options (drop v.skip v.picks)).0 ≡ (pick (length (options_of s a cell)) (ahead s)).0
  number =
      ap (λ m. (pick m (ahead v)).0) many ∙ ap (λ (x : Held). (pick (length (options_of s a cell)) (ahead x)).0) q.view

  chosen : slice_get (options_of s a cell) (pick (length (options_of s a cell)) (ahead s)).0 ≡ Some k
  chosen = ap (slice_get (options_of s a cell)) (sym number) ∙ ap (λ ks. slice_get ks (pick options (drop v.skip v.picks)).0) (sym same) ∙ q.choice

  pub low : (count : ℕ) → count ≡ length v.log → count ≤ 100000000 → k.position < 4294967295
  low count e short =
      let log : length v.log ≡ length s.log = ap (λ (s : Held). length s.log) q.view in
      let at = position_low s a cell (pick (length (options_of s a cell)) (ahead s)).0 k chosen in
      omega (arith, at, e, log, short)

  pub kind_there : picking bundle s a cell ≢ Stuck → IsSome (kind_of a cell k)
  kind_there h = (option_there bundle s a cell k h chosen).0

  pub goes_there : (vs : List Value) → vs ≡ access_results a k → picking bundle s a cell ≢ Stuck → IsSome (goes_on bundle s.frames.top vs)
  goes_there vs results h = subst (λ vs. IsSome (goes_on bundle s.frames.top vs)) (sym results) (option_there bundle s a cell k h chosen).1

  thread : s.thread ≡ v.thread
  thread = ap (λ (s : Held). s.thread) (sym q.view)

  pub fits : (x : Kind) → is_thread v.log v.thread ≡ true → HasCell (initials s.objects) cell → kind_of a cell k ≡ Some x → EventFits s.rule (initials s.objects) s.log (event v.thread x)
  fits x own there e =
      let same : is_thread s.log s.thread ≡ true = subst (λ (s : Held). is_thread s.log s.thread ≡ true) q.view own in
      subst (λ i. EventFits s.rule (initials s.objects) s.log (event i x)) thread (access_fits s a cell (pick (length (options_of s a cell)) (ahead s)).0 k x same there chosen e)

  pub room : (x : Kind) → is_thread v.log v.thread ≡ true → HasCell (initials s.objects) cell → kind_of a cell k ≡ Some x → HasRoom (record { thread = s.thread; cell = Some cell; events = 1 }) (event v.thread x)
  room x own there e =
      let same : is_thread s.log s.thread ≡ true = subst (λ (s : Held). is_thread s.log s.thread ≡ true) q.view own in
      subst (λ i. HasRoom (record { thread = s.thread; cell = Some cell; events = 1 }) (event i x)) thread (access_room s a cell (pick (length (options_of s a cell)) (ahead s)).0 k x same there chosen e)

  pub picked : {E : Type 0} (r : Result StepEnd E) (t : Held) (x : Kind) (vs : List Value) → picking bundle s a cell ≢ Stuck → kind_of a cell k ≡ Some x → vs ≡ access_results a k
      → IfOk r (λ end. IfSome (goes_on bundle s.frames.top vs) (λ f. answers end t ≡ logs s (event v.thread x) (pick options (ahead s)).1 (record s.frames { top = f }))) → IfOk r (λ end. answers end t ≡ picking bundle s a cell)
  picked (Err e') t x vs h kind results answer = tt
  picked (Ok end) t x vs h kind results answer =
      let there = some_of (goes_on bundle s.frames.top (access_results a k)) (option_there bundle s a cell k h chosen).1 in
      let told : answers end t ≡ logs s (event v.thread x) (pick options (ahead s)).1 (record s.frames { top = there.0 }) =
      subst (λ (o : Option Activation). IfSome o (λ f. answers end t ≡ logs s (event v.thread x) (pick options (ahead s)).1 (record s.frames { top = f }))) (ap (goes_on bundle s.frames.top) results ∙ there.1) answer in
      told ∙ ap (λ i. logs s (event i x) (pick options (ahead s)).1 (record s.frames { top = there.0 })) (sym thread)
      ∙ ap (λ m. logs s (event s.thread x) (pick m (ahead s)).1 (record s.frames { top = there.0 })) many
      ∙ sym (option_is bundle s a cell k x there.0 h chosen kind there.1)

-- where a frame goes on at a place of its block, in the words of the frame that it is
pub next_of : (bundle : List Item) (f w : Activation) (vs : List Value) (at : ℕ) → f ≡ w → goes_on bundle f vs ≡ Some (stands f f.block at (f.vars ++ vs)) → goes_on bundle f vs ≡ Some (stands f w.block at (w.vars ++ vs))
next_of bundle f w vs at same way = way ∙ ap (λ (x : Activation). Some (stands f x.block at (x.vars ++ vs))) same

-- ---- an event that is logged, or races

pub logs_race : (s v : Held) (e : Event) (picks : List ℕ) (fr : Chain) (lg : List Event) (rl : Rule) (n : ℕ) (k : Ending) (o : Outcome) → v ≡ s → lg ≡ v.log → rl ≡ v.rule → race rl lg e ≡ Some n → k ≡ race_at v e n → o ≡ End [] k → o ≡ logs s e picks fr
unfolding logs
logs_race s v e picks fr lg rl n k o view log rule races ending is =
    let found : race v.rule v.log e ≡ Some n = ap (λ rl. race rl v.log e) (sym rule) ∙ ap (λ lg. race rl lg e) (sym log) ∙ races in
    is ∙ ap (End []) ending ∙ ap (logs_unless v e picks fr) (sym found) ∙ ap (λ (s : Held). logs_unless s e picks fr (race s.rule s.log e)) view

-- the state with what was changed
abbrev pub logged_state : Held → Chain → List Event → List ℕ → ℕ → Rule → Held
logged_state v fr lg picks skip rl = record v { frames = fr; log = lg; picks = picks; skip = skip; rule = rl; steps = v.steps + 1 }

pub logs_on : (s v : Held) (e : Event) (options block at number : ℕ) (out : List Value) (fr : Chain) (lg after : List Event) (rl kept : Rule) (ps : List ℕ) (skip : ℕ) (ls : List Line) → v ≡ s → s.left ≡ true → lg ≡ v.log → rl ≡ v.rule → race rl lg e ≡ None
    → after ≡ e ∷ lg → kept ≡ rl → fr ≡ record v.frames { top = stands v.frames.top block at out } → ps ≡ (pick options (ahead v)).1 → skip ≡ 0 → number ≡ length v.log → ls ≡ lines.Event number e ∷ []
    → answers (Went ls) (logged_state v fr after ps skip kept) ≡ logs s e (pick options (ahead s)).1 (record s.frames { top = stands s.frames.top block at out })
unfolding logs
logs_on s v e options block at number out fr lg after rl kept ps skip ls view left log rule alone added same frames picks ahead_none count written =
    let standing = record v.frames { top = stands v.frames.top block at out } in
    let taken = (pick options (ahead v)).1 in
    let none : race v.rule v.log e ≡ None = ap (λ rl. race rl v.log e) (sym rule) ∙ ap (λ lg. race rl lg e) (sym log) ∙ alone in
    ap (λ n. answers (Went ls) (logged_state v fr after ps n kept)) ahead_none
    ∙ ap (λ ls. answers (Went ls) (logged_state v fr after ps 0 kept)) written
    ∙ ap (λ fr. answers (Went (lines.Event number e ∷ [])) (logged_state v fr after ps 0 kept)) frames
    ∙ ap (λ lg. answers (Went (lines.Event number e ∷ [])) (logged_state v standing lg ps 0 kept)) (added ∙ ap (λ lg. e ∷ lg) log)
    ∙ ap (λ ps. answers (Went (lines.Event number e ∷ [])) (logged_state v standing (e ∷ v.log) ps 0 kept)) picks
    ∙ ap (λ rl. answers (Went (lines.Event number e ∷ [])) (logged_state v standing (e ∷ v.log) taken 0 rl)) (same ∙ rule)
    ∙ answers_lines (record v { frames = standing; log = e ∷ v.log; picks = taken; skip = 0 }) (lines.Event number e ∷ []) (ap (λ (s : Held). s.left) view ∙ left)
    ∙ ap (λ n. went_with (record v { frames = standing; log = e ∷ v.log; picks = taken; skip = 0 }) (lines.Event n e ∷ [])) count
    ∙ ap (logs_unless v e taken standing) (sym none)
    ∙ ap (λ (s : Held). logs_unless s e (pick options (ahead s)).1 (record s.frames { top = stands s.frames.top block at out }) (race s.rule s.log e)) view

-- the same where the frames were lent meanwhile, and are as before
pub logs_race_kept : (s v : Held) (e : Event) (picks : List ℕ) (fr lent : Chain) (lg seen : List Event) (rl used : Rule) (n : ℕ) (k : Ending) (o : Outcome) → v ≡ s → lg ≡ v.log → rl ≡ v.rule → race rl lg e ≡ Some n
    → k ≡ race_at (record v { frames = lent; log = seen; rule = used }) e n → lent ≡ v.frames → o ≡ End [] k → o ≡ logs s e picks fr
logs_race_kept s v e picks fr lent lg seen rl used n k o view log rule races ending kept is =
    logs_race s v e picks fr lg rl n k o view log rule races (ending ∙ ap (λ (fr : Chain). race_at (record v { frames = fr }) e n) kept) is

-- the same where the thread goes on at a place of its block, with values behind its own
pub logs_next : (s v : Held) (e : Event) (options at number : ℕ) (vs : List Value) (fr : Chain) (lg after : List Event) (rl kept : Rule) (ps : List ℕ) (skip : ℕ) (ls : List Line) → v ≡ s → s.left ≡ true → lg ≡ v.log → rl ≡ v.rule → race rl lg e ≡ None
    → after ≡ e ∷ lg → kept ≡ rl → fr ≡ record v.frames { top = stands v.frames.top v.frames.top.block at (v.frames.top.vars ++ vs) } → ps ≡ (pick options (ahead v)).1 → skip ≡ 0 → number ≡ length v.log → ls ≡ lines.Event number e ∷ []
    → answers (Went ls) (logged_state v fr after ps skip kept) ≡ logs s e (pick options (ahead s)).1 (record s.frames { top = stands s.frames.top s.frames.top.block at (s.frames.top.vars ++ vs) })
logs_next s v e options at number vs fr lg after rl kept ps skip ls view left log rule alone added same frames picks ahead_none count written =
    logs_on s v e options v.frames.top.block at number (v.frames.top.vars ++ vs) fr lg after rl kept ps skip ls view left log rule alone added same frames picks ahead_none count written
    ∙ ap (λ (x : Held). logs s e (pick options (ahead s)).1 (record s.frames { top = stands s.frames.top x.frames.top.block at (x.frames.top.vars ++ vs) })) view

-- the same, in the words of where the frame goes on
pub logged_on : {E : Type 0} (bundle : List Item) (s t : Held) (e : Event) (picks : List ℕ) (f : Activation) (vs out : List Value) (block at : ℕ) (r : Result StepEnd E) → f ≡ s.frames.top → goes_on bundle f vs ≡ Some (stands f block at out)
    → IfOk r (λ end. answers end t ≡ logs s e picks (record s.frames { top = stands s.frames.top block at out }))
    → IfOk r (λ end. IfSome (goes_on bundle s.frames.top vs) (λ f. answers end t ≡ logs s e picks (record s.frames { top = f })))
logged_on bundle s t e picks f vs out block at (Err x) top way answer = tt
logged_on bundle s t e picks f vs out block at (Ok end) top way answer =
    let on : goes_on bundle s.frames.top vs ≡ Some (stands s.frames.top block at out) = subst (λ f. goes_on bundle f vs ≡ Some (stands f block at out)) top way in
    subst (λ (o : Option Activation). IfSome o (λ f. answers end t ≡ logs s e picks (record s.frames { top = f }))) (sym on) answer

-- ---- a fence

pub fence_goes_there : (bundle : List Item) (s : Held) (o : Order) (vs : List Value) → acting bundle s (Fences o) ≢ Stuck → vs ≡ [] → IsSome (goes_on bundle s.frames.top vs)
fence_goes_there bundle s o vs h none = subst (λ vs. IsSome (goes_on bundle s.frames.top vs)) (sym none) (fence_there bundle s o h)

pub fenced : {E : Type 0} (bundle : List Item) (s v t : Held) (o : Order) (vs : List Value) (r : Result StepEnd E) → v ≡ s → acting bundle s (Fences o) ≢ Stuck → vs ≡ []
    → IfOk r (λ end. IfSome (goes_on bundle s.frames.top vs) (λ f. answers end t ≡ logs s (event v.thread (Fence o)) (pick 1 (ahead s)).1 (record s.frames { top = f }))) → IfOk r (λ end. answers end t ≡ acting bundle s (Fences o))
fenced bundle s v t o vs (Err e) view h none answer = tt
fenced bundle s v t o vs (Ok end) view h none answer =
    let there = some_of (goes_on bundle s.frames.top []) (fence_there bundle s o h) in
    let told : answers end t ≡ logs s (event v.thread (Fence o)) (pick 1 (ahead s)).1 (record s.frames { top = there.0 }) =
    subst (λ (o' : Option Activation). IfSome o' (λ f. answers end t ≡ logs s (event v.thread (Fence o)) (pick 1 (ahead s)).1 (record s.frames { top = f }))) (ap (goes_on bundle s.frames.top) none ∙ there.1) answer in
    told ∙ ap (λ i. logs s (event i (Fence o)) (pick 1 (ahead s)).1 (record s.frames { top = there.0 })) (ap (λ (s : Held). s.thread) view) ∙ sym (fence_is bundle s o there.0 h there.1)
