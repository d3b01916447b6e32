-- Laws of the accesses of one thread.
use Rattle.std.specs.Prelude.{◌≡◌, ◌≢◌, ℕ, suc, ◌<◌, ◌≤◌, nat_le, ◌&&◌, Bool, true, false, List, [], ◌∷◌, Option, Some, None, IsSome, Result, length, slice_get, nat_eq, if◌then◌else◌, refl}
use Rattle.std.proofs.Common.{sym, ◌∙◌, ap, subst, arith, ◌⊎◌, inl, inr}
use Rattle.std.proofs.lemmas.Bool.{and_parts}
use Rattle.std.proofs.lemmas.Bool.Decides.{nat_tests}
use Rattle.ir_tree.specs.declared.items.Item.{Item}
use Rattle.mu_base.specs.declared.order.Order.{Order}
use Rattle.mu_values.specs.declared.scalars.Scalar.{Scalar}
use Rattle.mu_values.specs.declared.scalars.Scalar.TheVariants.{Int, Place}
use Rattle.mu_base.specs.declared.operators.UpdateOp.{UpdateOp}
use Rattle.mu_base.specs.declared.operators.UpdateOp.TheVariants as updates
use Rattle.mu_values.specs.Integers.{IsInteger}
use Rattle.mu_values.specs.Updates.{updated_bits}
use Rattle.mu_values.specs.declared.cells.CellId.{CellId}
use Rattle.typed_heap.specs.declared.faults.PlaceFault.{PlaceFault}
use Rattle.typed_heap.specs.Places.{with_some, cell_of}
use Rattle.frames.specs.Activations.{Activation}
use Rattle.frames.specs.Chains.{frames_of}
use Rattle.mem_axioms.specs.declared.types.Rule.{Rule}
use Rattle.mem_axioms.specs.declared.types.Mode.TheVariants.{Read, Write, Update}
use Rattle.mem_axioms.specs.declared.types.Kind.{Kind}
use Rattle.mem_axioms.specs.declared.types.Kind.TheVariants as kinds
use Rattle.mem_axioms.specs.declared.types.Event.{Event}
use Rattle.mem_axioms.specs.declared.types.Wanted.{Wanted}
use Rattle.mem_axioms.specs.declared.types.Chosen.{Chosen}
use Rattle.mem_axioms.specs.Objects.{initial_of, HasCell}
use Rattle.mem_axioms.specs.Events.{modifies}
use Rattle.mem_axioms.specs.Logs.{count_events, newest}
use Rattle.mem_axioms.specs.Form.{value_at, fits_form, has_form}
use Rattle.mem_axioms.specs.Axioms.{is_coherent, meets_axioms}
use Rattle.mem_axioms.specs.Rooms.{HasRoom}
use Rattle.mem_axioms.specs.Choices.{read_at, is_option}
use Rattle.mem_axioms.specs.Races.{race}
use Rattle.mem_axioms.specs.Synchronizes.{makes_thread}
use Rattle.mem_axioms.specs.EventFits.{is_thread, EventFits}
use Rattle.mem_axioms.specs.OptionTheorems.{order_to_read, ChoiceStands}
use Rattle.mem_axioms.specs.Lemmas.Options.{choice-stands}
use Rattle.mem_axioms.specs.Lemmas.Kept.{is_any_access}
use Rattle.mem_axioms.specs.Lemmas.Fitting.{others-race}
use Rattle.mem_axioms.specs.declared.types.Room.{Room}
use Rattle.mu_model.specs.Configuration.{Active, Configuration}
use Rattle.mu_model.specs.Acts.{Access, Loads, Stores, Compares, Updates, Accesses, Fences, Doing}
use Rattle.mu_model.specs.Accesses.{wanted, updated_integer, updated, kind_of, access_results, takes_option, picking_option, raced}
use Rattle.mu_threads.specs.Picks.{pick}
use Rattle.mu_model.specs.Changes.{event, logged_event, logged}
use Rattle.mu_model.specs.Operands.{is_integer}
use Rattle.mu_model.specs.Frames.{passed}
use Rattle.mu_model.specs.Outcomes.{Outcome, Next, Stuck, on, next, onto, has_results}
use Rattle.model_numbers.specs.Numbered.{numbered}
use Rattle.run_state.specs.Held.{Held, ahead}
use Rattle.run_state.specs.Acting.{begun, turn, doing_of, went_with, acting, found_or, goes_on}
use Rattle.run_state.specs.Remembering.{initials}
use Rattle.memory_acts.specs.Accessing.{options_of, picking, logs_unless, logs}
use Rattle.run_state.specs.ActLaws.{onto_there}
use Rattle.run_state.specs.StepLaws.{set_again, on_there, on_is, some_there, with_there, acting_there, acting_is, tried_found, tried_at}

-- ---- the cell

-- what is done at one that is there, by the instruction
abbrev access_by : List Item → Held → Access → Doing → CellId → Outcome
access_by bundle s a d cell = picking_option (numbered bundle) (begun s) (turn s d) a cell (options_of s a cell)

pub cell_there : (bundle : List Item) (s : Held) (a : Access) (cell : CellId) → acting bundle s (Accesses a cell) ≢ Stuck → IsSome (cell_of s.objects (Place cell.object cell.at))
cell_there bundle s a cell h =
    let r = acting_there bundle s (Accesses a cell) h in
    tried_found (numbered bundle) s r.0 (cell_of s.objects (Place cell.object cell.at)) (access_by bundle s a r.0) r.2

pub access_is : (bundle : List Item) (s : Held) (a : Access) (cell : CellId) (r : Result CellId PlaceFault) → acting bundle s (Accesses a cell) ≢ Stuck
    → cell_of s.objects (Place cell.object cell.at) ≡ Some r → acting bundle s (Accesses a cell) ≡ found_or bundle s (picking bundle s a) r
unfolding picking
access_is bundle s a cell r h e =
    let d = acting_there bundle s (Accesses a cell) h in
    acting_is bundle s (Accesses a cell) d.0 d.1 ∙ tried_at bundle s d.0 (cell_of s.objects (Place cell.object cell.at)) r (access_by bundle s a) d.1 e

-- ---- the option

-- what is taken by an option
abbrev taking : List Item → Held → Access → CellId → List ℕ → Chosen → Doing → Outcome
taking bundle s a cell picks k d = takes_option (numbered bundle) (record (begun s) { picks = picks }) (turn s d) a cell k

picking_there : (bundle : List Item) (s : Held) (a : Access) (cell : CellId) (k : Chosen) → picking bundle s a cell ≢ Stuck
    → slice_get (options_of s a cell) (pick (length (options_of s a cell)) (ahead s)).0 ≡ Some k
    → (d : Doing) × (doing_of (numbered bundle) s ≡ Some d) × (taking bundle s a cell (pick (length (options_of s a cell)) (ahead s)).1 k d ≢ Stuck)
    × (picking bundle s a cell ≡ taking bundle s a cell (pick (length (options_of s a cell)) (ahead s)).1 k d)
unfolding picking
picking_there bundle s a cell k h e =
    let ks = options_of s a cell in
    let r = on_there (doing_of (numbered bundle) s) (λ d. picking_option (numbered bundle) (begun s) (turn s d) a cell ks) h in
    let o = slice_get ks (pick (length ks) (ahead s)).0 in
    let go = takes_option (numbered bundle) (record (begun s) { picks = (pick (length ks) (ahead s)).1 }) (turn s r.0) a cell in
    let same : on o go ≡ go k = on_is o k go e in
    (r.0, r.1, λ stuck. r.2 (same ∙ stuck), on_is (doing_of (numbered bundle) s) r.0 (λ d. picking_option (numbered bundle) (begun s) (turn s d) a cell ks) r.1 ∙ same)

pub option_there : (bundle : List Item) (s : Held) (a : Access) (cell : CellId) (k : Chosen) → picking bundle s a cell ≢ Stuck
    → slice_get (options_of s a cell) (pick (length (options_of s a cell)) (ahead s)).0 ≡ Some k → IsSome (kind_of a cell k) × IsSome (goes_on bundle s.frames.top (access_results a k))
unfolding goes_on
option_there bundle s a cell k h e =
    let q = picking_there bundle s a cell k h e in
    let u = turn s q.0 in
    let c : Configuration = record (begun s) { picks = (pick (length (options_of s a cell)) (ahead s)).1 } in
    let frames = with_some (passed (numbered bundle) s.frames.top (access_results a k)) (onto u) in
    let r = on_there (kind_of a cell k) (λ x. on frames (λ fs. raced c u (event s.thread x) fs (race s.rule s.log (event s.thread x)))) q.2 in
    let f = on_there frames (λ fs. raced c u (event s.thread r.0) fs (race s.rule s.log (event s.thread r.0))) r.2 in
    (some_there (kind_of a cell k) r.0 r.1, onto_there u (passed (numbered bundle) s.frames.top (access_results a k)) f.0 f.1)

-- the thread's event is logged, and its top frame stands so
goes_with : (s : Held) (d : Doing) (e : Event) (picks : List ℕ) (f : Activation)
    → next (logged_event e (record (begun s) { picks = picks })) (turn s d) (Some (f ∷ s.frames.below)) ≡ logs_unless s e picks (record s.frames { top = f }) None
unfolding on went_with
goes_with s d e picks f =
    ap (λ stacks. Next (record (logged_event e (record (begun s) { picks = picks })) { stacks = stacks }))
    (set_again s.seats.stacks s.stack (Active s.thread (frames_of s.frames)) (Active s.thread (f ∷ s.frames.below)))

pub raced_is : (s : Held) (d : Doing) (e : Event) (picks : List ℕ) (f : Activation) (o : Option ℕ)
    → raced (record (begun s) { picks = picks }) (turn s d) e (f ∷ s.frames.below) o ≡ logs_unless s e picks (record s.frames { top = f }) o
unfolding on went_with
raced_is s d e picks f None = goes_with s d e picks f
raced_is s d e picks f (Some n) = refl

pub option_is : (bundle : List Item) (s : Held) (a : Access) (cell : CellId) (k : Chosen) (x : Kind) (f : Activation) → picking bundle s a cell ≢ Stuck
    → slice_get (options_of s a cell) (pick (length (options_of s a cell)) (ahead s)).0 ≡ Some k → kind_of a cell k ≡ Some x → goes_on bundle s.frames.top (access_results a k) ≡ Some f
    → picking bundle s a cell ≡ logs s (event s.thread x) (pick (length (options_of s a cell)) (ahead s)).1 (record s.frames { top = f })
unfolding goes_on logs
option_is bundle s a cell k x f h e kind way =
    let q = picking_there bundle s a cell k h e in
    let u = turn s q.0 in
    let picks = (pick (length (options_of s a cell)) (ahead s)).1 in
    let c : Configuration = record (begun s) { picks = picks } in
    let frames = with_some (passed (numbered bundle) s.frames.top (access_results a k)) (onto u) in
    let there : frames ≡ Some (f ∷ s.frames.below) = ap (λ o. with_some o (onto u)) way in
    q.3
    ∙ on_is (kind_of a cell k) x (λ x. on frames (λ fs. raced c u (event s.thread x) fs (race s.rule s.log (event s.thread x)))) kind
    ∙ on_is frames (f ∷ s.frames.below) (λ fs. raced c u (event s.thread x) fs (race s.rule s.log (event s.thread x))) there
    ∙ raced_is s q.0 (event s.thread x) picks f (race s.rule s.log (event s.thread x))

-- ---- what is no access races with nothing, and needs no room of its own

pub other_alone : (rule : Rule) (log : List Event) (e : Event) → is_any_access e ≡ false → race rule log e ≡ None
other_alone rule log e h = others-race rule log e h

pub other_room : (room : Room) (e : Event) → is_any_access e ≡ false → 0 < room.events → HasRoom room e
other_room room e h some = by e.kind h
  where
    by : (k : Kind) → is_any_access (record { thread = e.thread; kind = k }) ≡ false → HasRoom room (record { thread = e.thread; kind = k })
    by (kinds.Access mode cell order position value) h = cc
    by (kinds.Fence o) h = (some, tt)
    by (kinds.NewStack k) h = (some, tt)
    by (kinds.NewThread k) h = (some, tt)
    by (kinds.Leave k) h = (some, tt)
    by (kinds.Enter k) h = (some, tt)
    by (kinds.Wake k n) h = (some, tt)
    by (kinds.Woken k) h = (some, tt)

pub ruleset others_alone = (other_alone, other_room)

-- ---- a fence

abbrev pub fenced : ℕ → Order → Event
fenced i o = event i (kinds.Fence o)

fence_frames : (bundle : List Item) (s : Held) (o : Order) (d : Doing) → has_results (numbered bundle) (logged s.thread (kinds.Fence o) (begun s)) (turn s d) [] ≢ Stuck → IsSome (passed (numbered bundle) s.frames.top [])
fence_frames bundle s o d h =
    let r = on_there (with_some (passed (numbered bundle) s.frames.top []) (onto (turn s d))) _ h in
    onto_there (turn s d) (passed (numbered bundle) s.frames.top []) r.0 r.1

pub fence_there : (bundle : List Item) (s : Held) (o : Order) → acting bundle s (Fences o) ≢ Stuck → IsSome (goes_on bundle s.frames.top [])
unfolding goes_on
fence_there bundle s o h = let r = acting_there bundle s (Fences o) h in fence_frames bundle s o r.0 r.2

fence_by : (bundle : List Item) (s : Held) (o : Order) (d : Doing) (f : Activation) → passed (numbered bundle) s.frames.top [] ≡ Some f
    → has_results (numbered bundle) (logged s.thread (kinds.Fence o) (begun s)) (turn s d) [] ≡ logs_unless s (fenced s.thread o) (ahead s) (record s.frames { top = f }) None
fence_by bundle s o d f way =
    ap (λ x. next (logged s.thread (kinds.Fence o) (begun s)) (turn s d) (with_some x (onto (turn s d)))) way ∙ goes_with s d (fenced s.thread o) (ahead s) f

pub fence_is : (bundle : List Item) (s : Held) (o : Order) (f : Activation) → acting bundle s (Fences o) ≢ Stuck → goes_on bundle s.frames.top [] ≡ Some f
    → acting bundle s (Fences o) ≡ logs s (fenced s.thread o) (ahead s) (record s.frames { top = f })
unfolding goes_on logs
fence_is bundle s o f h way =
    let r = acting_there bundle s (Fences o) h in
    acting_is bundle s (Fences o) r.0 r.1 ∙ fence_by bundle s o r.0 f way ∙ ap (logs_unless s (fenced s.thread o) (ahead s) (record s.frames { top = f })) (sym (others-race s.rule s.log (fenced s.thread o) refl))

-- ---- what is logged of an access

-- it may come next, and needs room for its own cell
record Fits (rule : Rule) (objects : List (List Scalar)) (log : List Event) (i : ℕ) (cell : CellId) (x : Kind) : Type 0 where
  pub next : EventFits rule objects log (event i x)
  pub room : HasRoom (record { thread = i; cell = Some cell; events = 1 }) (event i x)

compared_fits : (rule : Rule) (objects : List (List Scalar)) (log : List Event) (i : ℕ) (cell : CellId) (o f : Order) (v : Scalar) (k : Chosen) → is_thread log i ≡ true → HasCell objects cell → k.value ≡ value_at (initial_of objects) log cell k.position
    → (b : Bool) → (b ≡ true → k.position ≡ newest log cell) → (b ≡ false → is_option rule (initial_of objects) log i cell f k.position ≡ true)
    → Fits rule objects log i cell (if b then kinds.Access Update cell o (suc k.position) v else kinds.Access Read cell f k.position k.value)
compared_fits rule objects log i cell o f v k own there value true won lost =
    record { next = record { thread = own; child = tt; cell = there; wake = tt; position = ap suc (won refl) }; room = (omega arith, (refl, refl)) }
compared_fits rule objects log i cell o f v k own there value false won lost =
    record { next = record { thread = own; child = tt; cell = there; wake = tt; position = (lost refl, value) }; room = (omega arith, (refl, refl)) }

kind_fits : (rule : Rule) (objects : List (List Scalar)) (log : List Event) (i : ℕ) (cell : CellId) (a : Access) (k : Chosen) (x : Kind) → is_thread log i ≡ true → HasCell objects cell → ChoiceStands rule (initial_of objects) log i cell (wanted a) k
    → kind_of a cell k ≡ Some x → Fits rule objects log i cell x
kind_fits rule objects log i cell (Loads o) k x own there s e =
    let same : kinds.Access Read cell o k.position k.value ≡ x = cc in
    subst (Fits rule objects log i cell) same
    (record { next = record { thread = own; child = tt; cell = there; wake = tt; position = (s.failure s.certain, s.value) }; room = (omega arith, (refl, refl)) })
kind_fits rule objects log i cell (Stores o v) k x own there s e =
    let same : kinds.Access Write cell o (suc k.position) v ≡ x = cc in
    subst (Fits rule objects log i cell) same
    (record { next = record { thread = own; child = tt; cell = there; wake = tt; position = ap suc (s.success s.certain) }; room = (omega arith, (refl, refl)) })
kind_fits rule objects log i cell (Compares weak o f expected v) k x own there s e =
    let same : (if k.success then kinds.Access Update cell o (suc k.position) v else kinds.Access Read cell f k.position k.value) ≡ x = cc in
    subst (Fits rule objects log i cell) same (compared_fits rule objects log i cell o f v k own there s.value k.success s.success s.failure)
kind_fits rule objects log i cell (Updates o op v) k x own there s e =
    let r = with_there (updated op k.value v) (λ z. Some (kinds.Access Update cell o (suc k.position) z)) x e in
    let same : kinds.Access Update cell o (suc k.position) r.0 ≡ x = let is = r.2 in cc in
    subst (Fits rule objects log i cell) same
    (record { next = record { thread = own; child = tt; cell = there; wake = tt; position = ap suc (s.success s.certain) }; room = (omega arith, (refl, refl)) })

fits_by : (s : Held) (a : Access) (cell : CellId) (n : ℕ) (k : Chosen) (x : Kind) → is_thread s.log s.thread ≡ true → HasCell (initials s.objects) cell → slice_get (options_of s a cell) n ≡ Some k → kind_of a cell k ≡ Some x
    → Fits s.rule (initials s.objects) s.log s.thread cell x
fits_by s a cell n k x own there g e = kind_fits s.rule (initials s.objects) s.log s.thread cell a k x own there (choice-stands s.rule (initial_of (initials s.objects)) s.log s.thread cell (wanted a) n k g) e

pub access_fits : (s : Held) (a : Access) (cell : CellId) (n : ℕ) (k : Chosen) (x : Kind) → is_thread s.log s.thread ≡ true → HasCell (initials s.objects) cell → slice_get (options_of s a cell) n ≡ Some k → kind_of a cell k ≡ Some x
    → EventFits s.rule (initials s.objects) s.log (event s.thread x)
access_fits s a cell n k x own there g e = (fits_by s a cell n k x own there g e).next

pub access_room : (s : Held) (a : Access) (cell : CellId) (n : ℕ) (k : Chosen) (x : Kind) → is_thread s.log s.thread ≡ true → HasCell (initials s.objects) cell → slice_get (options_of s a cell) n ≡ Some k → kind_of a cell k ≡ Some x
    → HasRoom (record { thread = s.thread; cell = Some cell; events = 1 }) (event s.thread x)
access_room s a cell n k x own there g e = (fits_by s a cell n k x own there g e).room

-- it makes no thread
pub kind_makes : (i : ℕ) (cell : CellId) (a : Access) (k : Chosen) (x : Kind) → kind_of a cell k ≡ Some x → (j : ℕ) → makes_thread j (event i x) ≡ false
kind_makes i cell (Loads o) k x e j = let same : kinds.Access Read cell o k.position k.value ≡ x = cc in subst (λ x. makes_thread j (event i x) ≡ false) same refl
kind_makes i cell (Stores o v) k x e j = let same : kinds.Access Write cell o (suc k.position) v ≡ x = cc in subst (λ x. makes_thread j (event i x) ≡ false) same refl
kind_makes i cell (Compares weak o f expected v) k x e j =
    let same : (if k.success then kinds.Access Update cell o (suc k.position) v else kinds.Access Read cell f k.position k.value) ≡ x = cc in
    subst (λ x. makes_thread j (event i x) ≡ false) same (by k.success)
  where
    by : (b : Bool) → makes_thread j (event i (if b then kinds.Access Update cell o (suc k.position) v else kinds.Access Read cell f k.position k.value)) ≡ false
    by true = refl
    by false = refl
kind_makes i cell (Updates o op v) k x e j =
    let r = with_there (updated op k.value v) (λ z. Some (kinds.Access Update cell o (suc k.position) z)) x e in
    let same : kinds.Access Update cell o (suc k.position) r.0 ≡ x = let is = r.2 in cc in
    subst (λ x. makes_thread j (event i x) ≡ false) same refl

-- ---- the next position

count_low : (test : Event → Bool) (log : List Event) → count_events test log ≤ length log
count_low test [] = omega arith
count_low test (e ∷ log) = by (test e) (count_low test log)
  where
    by : (b : Bool) → count_events test log ≤ length log → (if b then suc (count_events test log) else count_events test log) ≤ suc (length log)
    by true h = omega (arith, h)
    by false h = omega (arith, h)

low_is : (m n : ℕ) → nat_le m n ≡ true → m ≤ n
low_is m n h = grind (arith, nat_tests)

option_low : (rule : Rule) (initial : CellId → Scalar) (log : List Event) (i : ℕ) (cell : CellId) (o : Order) (n : ℕ) → is_option rule initial log i cell o n ≡ true → n ≤ newest log cell
unfolding meets_axioms
option_low rule initial log i cell o n h =
    let e = read_at initial log i cell o n in
    let coherent = and_parts (has_form initial (e ∷ log) && is_coherent rule (e ∷ log)) _ h in
    let form = and_parts (has_form initial (e ∷ log)) _ coherent.0 in
    let fits = and_parts (fits_form initial log e) _ form.0 in
    let low = and_parts (nat_le n (newest log cell)) _ fits.0 in
    low_is n (newest log cell) low.0

stands_low : (rule : Rule) (initial : CellId → Scalar) (log : List Event) (i : ℕ) (cell : CellId) (w : Wanted) (k : Chosen) → ChoiceStands rule initial log i cell w k → (b : Bool) → k.success ≡ b → k.position ≤ newest log cell
stands_low rule initial log i cell w k s true e = let same = s.success e in omega (arith, same)
stands_low rule initial log i cell w k s false e = option_low rule initial log i cell (order_to_read w) k.position (s.failure e)

pub position_low : (s : Held) (a : Access) (cell : CellId) (n : ℕ) (k : Chosen) → slice_get (options_of s a cell) n ≡ Some k → k.position ≤ length s.log
position_low s a cell n k g =
    let low = stands_low s.rule (initial_of (initials s.objects)) s.log s.thread cell (wanted a) k (choice-stands s.rule (initial_of (initials s.objects)) s.log s.thread cell (wanted a) n k g) k.success refl in
    omega (arith, low, count_low (modifies cell) s.log)

-- ---- updates

integer_is : (w v a b : ℕ) → (nat_eq w v && is_integer w a && is_integer w b) ≡ true → (w ≡ v) × IsInteger w a × IsInteger w b
integer_is w v a b h = grind (arith, nat_tests)

by_width : (op : UpdateOp) (w a v b : ℕ) (t : Bool) → (nat_eq w v && is_integer w a && is_integer w b) ≡ t → IsSome (if t then Some (Int w (updated_bits op w a b)) else None)
    → (IsInteger w a × IsInteger w b) × ((if t then Some (Int w (updated_bits op w a b)) else None) ≡ Some (Int w (updated_bits op w a b)))
by_width op w a v b true e h = let r = integer_is w v a b e in ((r.1, r.2), refl)
by_width op w a v b false e h = cc

pub record Integers (op : UpdateOp) (x y : Scalar) (o : Option Scalar) : Type 0 where
  pub width : ℕ
  pub old : ℕ
  pub other : ℕ
  pub bits : ℕ
  pub first : x ≡ Int width old
  pub second : y ≡ Int other bits
  pub first_is : IsInteger width old
  pub second_is : IsInteger width bits
  pub updates : o ≡ Some (Int width (updated_bits op width old bits))

integers_there : (op : UpdateOp) (x y : Scalar) → IsSome (updated_integer op x y) → Integers op x y (updated_integer op x y)
integers_there op (Int w a) (Int v b) h =
    let r = by_width op w a v b _ refl h in
    record { width = w; old = a; other = v; bits = b; first = refl; second = refl; first_is = r.0.0; second_is = r.0.1; updates = r.1 }
integers_there op (Int w a) _ h = cc
integers_there op _ _ h = cc

pub update_there : (op : UpdateOp) (x y : Scalar) → IsSome (updated op x y) → (op ≡ updates.Xchg) ⊎ Integers op x y (updated op x y)
update_there updates.Xchg x y h = inl refl
update_there updates.Add x y h = inr (integers_there updates.Add x y h)
update_there updates.Sub x y h = inr (integers_there updates.Sub x y h)
update_there updates.And x y h = inr (integers_there updates.And x y h)
update_there updates.Nand x y h = inr (integers_there updates.Nand x y h)
update_there updates.Or x y h = inr (integers_there updates.Or x y h)
update_there updates.Xor x y h = inr (integers_there updates.Xor x y h)
update_there updates.Max x y h = inr (integers_there updates.Max x y h)
update_there updates.Min x y h = inr (integers_there updates.Min x y h)
update_there updates.Umax x y h = inr (integers_there updates.Umax x y h)
update_there updates.Umin x y h = inr (integers_there updates.Umin x y h)

pub update_integers : (op : UpdateOp) (x y : Scalar) (w a v b : ℕ) → IsSome (updated op x y) → (op ≡ updates.Xchg → ⊥) → x ≡ Int w a → y ≡ Int v b
    → (IsInteger w a × IsInteger w b) × (updated op x y ≡ Some (Int w (updated_bits op w a b)))
update_integers op x y w a v b h other old by =
    elim (update_there op x y h) [
      | inl e ↦ absurd (other e)
      | inr i ↦ (
          let width : i.width ≡ w = let found = i.first in cc in
          let before : i.old ≡ a = let found = i.first in cc in
          let operand : i.bits ≡ b = let found = i.second in cc in
          let first : IsInteger w a = subst (λ w. IsInteger w a) width (subst (λ a. IsInteger i.width a) before i.first_is) in
          let second : IsInteger w b = subst (λ w. IsInteger w b) width (subst (λ b. IsInteger i.width b) operand i.second_is) in
          let is : updated op x y ≡ Some (Int w (updated_bits op w a b)) =
          i.updates ∙ ap (λ w. Some (Int w (updated_bits op w i.old i.bits))) width ∙ ap (λ a. Some (Int w (updated_bits op w a i.bits))) before ∙ ap (λ b. Some (Int w (updated_bits op w a b))) operand in
          ((first, second), is))
    ]

pub ruleset accessing = (cell_there, access_is)
