-- Two independent moves may be made in the other order.
use Rattle.std.specs.Prelude.{◌≡◌, ◌≢◌, ◌⊎◌, ◌+◌, ◌<◌, ◌≤◌, ℕ, zero, suc, Bool, true, false, ◌==◌, nat_lt, is_none, List, [], ◌∷◌, ◌++◌, Option, Some, None, option_map, flat_map, filter, find, length, not, reverse, slice_get, slice_set, refl, if◌then◌else◌}
use Rattle.std.proofs.Common.{sym, ◌∙◌, ap, subst, arith, inl, inr, zero-add}
use Rattle.std.proofs.lemmas.Bool.{false≢true, lt-ltb, le-ltb, ltb-false, cases_lt, ne_eqb, eq-eqb}
use Rattle.std.proofs.lemmas.Bool.Decides.{eqb_tells}
use Rattle.std.proofs.lemmas.List.{set-set, set_comm}
use Rattle.std.proofs.lemmas.Option.{slice_get_within}
use Rattle.mu_base.specs.declared.order.Order.{Order}
use Rattle.mu_values.specs.declared.scalars.Scalar.{Scalar}
use Rattle.mu_values.specs.declared.cells.CellId.{CellId}
use Rattle.mu_values.specs.SameCell.{same_cell}
use Rattle.mu_values.specs.CellLaws.{same_cell-refl}
use Rattle.typed_heap.specs.Objects.{HeapObject}
use Rattle.typed_heap.specs.Places.{with_some}
use Rattle.frames.specs.Activations.{Activation}
use Rattle.futex.specs.declared.waiters.Waiter.{Waiter}
use Rattle.futex.specs.Waiting.{is_of}
use Rattle.mem_axioms.specs.Events.{modifies}
use Rattle.mem_axioms.specs.Logs.{newest}
use Rattle.mem_axioms.specs.Form.{value_at}
use Rattle.mem_axioms.specs.Axioms.{meets_axioms}
use Rattle.mem_axioms.specs.Races.{race}
use Rattle.mem_axioms.specs.Lemmas.Kept.{keeps-next, keeps-no_access}
use Rattle.mem_axioms.specs.declared.types.Mode.TheVariants as modes
use Rattle.mem_axioms.specs.declared.types.Kind.{Kind}
use Rattle.mem_axioms.specs.declared.types.Kind.TheVariants as kinds
use Rattle.mem_axioms.specs.declared.types.Event.{Event}
use Rattle.mem_axioms.specs.declared.types.Chosen.{Chosen}
use Rattle.mem_axioms.specs.declared.types.Rule.{Rule}
use Rattle.mu_model.specs.declared.lines.Line.{Line}
use Rattle.mu_model.specs.declared.lines.Line.TheVariants as line_forms
use Rattle.mu_model.specs.declared.lines.Note.{Note}
use Rattle.mu_model.specs.declared.lines.Note.TheVariants as notes
use Rattle.mu_model.specs.declared.endings.Case.TheVariants as cases
use Rattle.mu_model.specs.declared.endings.Ending.TheVariants as endings
use Rattle.mu_model.specs.Configuration.{Stack, Ready, Active, Dead, Thread, Configuration}
use Rattle.mu_model.specs.Acts as acts
use Rattle.mu_model.specs.Acts.{Program}
use Rattle.mu_model.specs.Turns.{Turn, turn_of, turn_at, active_on}
use Rattle.mu_model.specs.Changes.{event}
use Rattle.mu_model.specs.Outcomes.{Outcome, Next, End, Asks, Stuck, on}
use Rattle.mu_model.specs.Accesses.{initial, kind_of, wanted, updated, raced}
use Rattle.mu_model.specs.Step.{threads_from, is_blocked, runnable, turns, picked}
use Rattle.mu_model.specs.Run.{client_answers}
use Rattle.seen_runs.specs.Seen.{Seen, Cut, end_of, written_by, last_after, seen_at}
use Rattle.exchange_laws.specs.Sleep.{At as AtNumber, Member}
use Rattle.exchange_laws.specs.Exchange.{Independent}
use Rattle.exchange_laws.specs.Independence.{independent}
use Rattle.exchange_laws.specs.Test.{independent-is}
use Rattle.exchange_steps.specs.Alike.{with_log}
use Rattle.exchange_steps.specs.Ordered.{Ordered}
use Rattle.exchange_steps.specs.ChoiceKept.{IsChoice}
use Rattle.exchange_steps.specs.Diamond.{went, Doing, access, fence, Steps, f-doing, race-same, earlier-second}
use Rattle.local_steps.specs.IsLocal.{is_local, is_local_act}
use Rattle.local_laws.specs.Lemmas.Forms.{Effect, effect, Stays, Leaves, lines_of, result, set_there, get_within, turned_on, Locals, locals}
use Rattle.local_laws.specs.Lemmas.Running.{In, of_filter, of_threads, get_other, runs_at, runs_after, found_in, local_runs}
use Rattle.sleep_moves.specs.Moves.{Move, thread_moves, moves, move_made, may_turn, are_apart, sleeps}
use Rattle.sleep_laws.specs.Lemmas.Searches.{Keeps, Turns, Stops, Diamond}
use Rattle.sleep_laws.specs.Fits.{plain, Fits}
use Rattle.sleep_laws.specs.Lemmas.Places.{Place, At, Gone, local_first, comes, stays_at, goes_first, settled, over_by, over, place_moves, move_step, place_apart, GoodAt, SameSeen, LikeAt, both, gone}
use Rattle.sleep_laws.specs.Lemmas.LocalRuns.{none_local, other_turn, other_local, not_others, local_comes, Ran, one_more, local_effect, runs_out, runs_by, runs_on, rests, local_run, Stood, after_run, ran}
use Rattle.sleep_laws.specs.Lemmas.Turning.{given_by, in_flat, of_flat, move_turn, Offers, offers, offered_moves, offered_made}
use Rattle.sleep_laws.specs.Lemmas.Behaving.{ends_append, scalar_append}

pub some_none : {A B : Type 0} {a : A} → Some a ≡ None → B
some_none h = absurd (cc)

-- ---- what a choice logs meets the axioms

module _ (rule : Rule) (initial : CellId → Scalar) (log : List Event) (meets : meets_axioms rule initial log ≡ true) (t : ℕ) (cell : CellId) (k : Chosen) where
  read_meets : (o : Order) → value_at initial log cell k.position ≡ k.value → meets_axioms rule initial (event t (kinds.Access modes.Read cell o k.position (value_at initial log cell k.position)) ∷ log) ≡ true
      → meets_axioms rule initial (event t (kinds.Access modes.Read cell o k.position k.value) ∷ log) ≡ true
  read_meets o e h = subst (λ v. meets_axioms rule initial (event t (kinds.Access modes.Read cell o k.position v) ∷ log) ≡ true) e h

  write_meets : (o : Order) (v : Scalar) → k.position ≡ newest log cell → meets_axioms rule initial (event t (kinds.Access modes.Write cell o (suc k.position) v) ∷ log) ≡ true
  write_meets o v e = keeps-next rule initial log meets (event t (kinds.Access modes.Write cell o (suc k.position) v)) cell (same_cell-refl cell) (ap suc e)

  update_meets : (o : Order) (v : Scalar) → k.position ≡ newest log cell → meets_axioms rule initial (event t (kinds.Access modes.Update cell o (suc k.position) v) ∷ log) ≡ true
  update_meets o v e = keeps-next rule initial log meets (event t (kinds.Access modes.Update cell o (suc k.position) v)) cell (same_cell-refl cell) (ap suc e)

  abbrev Meets : Kind → Type 0
  Meets kind = meets_axioms rule initial (event t kind ∷ log) ≡ true

  choice_meets : (a : acts.Access) (kind : Kind) → IsChoice rule initial log t cell (wanted a) k → kind_of a cell k ≡ Some kind → Meets kind
  choice_meets (acts.Loads o) kind r h =
      let s : Some (kinds.Access modes.Read cell o k.position k.value) ≡ Some kind = h in
      let e : kinds.Access modes.Read cell o k.position k.value ≡ kind = cc in
      subst Meets e (read_meets o (sym (ap (λ (z : Chosen). z.value) r.is)) r.option)
  choice_meets (acts.Stores o v) kind r h =
      let s : Some (kinds.Access modes.Write cell o (suc k.position) v) ≡ Some kind = h in
      let e : kinds.Access modes.Write cell o (suc k.position) v ≡ kind = cc in
      subst Meets e (write_meets o v (ap (λ (z : Chosen). z.position) r))
  choice_meets (acts.Updates o op v) kind r h = by (updated op k.value v) h
    where
      by : (x : Option Scalar) → with_some x (λ s. Some (kinds.Access modes.Update cell o (suc k.position) s)) ≡ Some kind → meets_axioms rule initial (event t kind ∷ log) ≡ true
      by None h = let no : None ≡ Some kind = h in absurd (cc)
      by (Some x) h =
          let s : Some (kinds.Access modes.Update cell o (suc k.position) x) ≡ Some kind = h in
          let e : kinds.Access modes.Update cell o (suc k.position) x ≡ kind = cc in
          subst Meets e (update_meets o x (ap (λ (z : Chosen). z.position) r))
  choice_meets (acts.Compares weak o f expected v) kind (inl r) h =
      let won : k.success ≡ true = ap (λ (z : Chosen). z.success) r.1 in
      let s : Some (kinds.Access modes.Update cell o (suc k.position) v) ≡ Some kind = sym (ap (λ (b : Bool). Some (if b then kinds.Access modes.Update cell o (suc k.position) v else kinds.Access modes.Read cell f k.position k.value)) won) ∙ h in
      let e : kinds.Access modes.Update cell o (suc k.position) v ≡ kind = cc in
      subst Meets e (update_meets o v (ap (λ (z : Chosen). z.position) r.1))
  choice_meets (acts.Compares weak o f expected v) kind (inr r) h =
      let lost : k.success ≡ false = ap (λ (z : Chosen). z.success) r.1.is in
      let s : Some (kinds.Access modes.Read cell f k.position k.value) ≡ Some kind = sym (ap (λ (b : Bool). Some (if b then kinds.Access modes.Update cell o (suc k.position) v else kinds.Access modes.Read cell f k.position k.value)) lost) ∙ h in
      let e : kinds.Access modes.Read cell f k.position k.value ≡ kind = cc in
      subst Meets e (read_meets f (sym (ap (λ (z : Chosen). z.value) r.1.is)) r.1.option)

doing_meets : (p : Program) (c : Configuration) (i : ℕ) (u : Turn) (fr : Option (List Activation)) (e : Event) → meets_axioms c.rule (initial c) c.log ≡ true → Doing p c i u fr e → meets_axioms c.rule (initial c) (e ∷ c.log) ≡ true
doing_meets p c i u fr e m (access a cell there k kind q r s z x y) = subst (λ e. meets_axioms c.rule (initial c) (e ∷ c.log) ≡ true) (sym y) (choice_meets c.rule (initial c) c.log m i there k a kind s z)
doing_meets p c i u fr e m (fence o q x y) = subst (λ e. meets_axioms c.rule (initial c) (e ∷ c.log) ≡ true) (sym y) (keeps-no_access c.rule (initial c) c.log m (event i (kinds.Fence o)) refl)

doing_thread : (p : Program) (c : Configuration) (i : ℕ) (u : Turn) (fr : Option (List Activation)) (e : Event) → Doing p c i u fr e → e.thread ≡ i
doing_thread p c i u fr e (access a cell there k kind q r s z x y) = ap (λ (e : Event). e.thread) y
doing_thread p c i u fr e (fence o q x y) = ap (λ (e : Event). e.thread) y

-- what an access or fence does looks at the log, the objects and the rule alone
doing_over : (p : Program) (c d : Configuration) (i : ℕ) (u : Turn) (fr : Option (List Activation)) (e : Event) → c.objects ≡ d.objects → c.log ≡ d.log → c.rule ≡ d.rule → Doing p c i u fr e → Doing p d i u fr e
doing_over p c d i u fr e os log rule h =
    subst (λ rule. Doing p (record d { rule = rule }) i u fr e) rule (subst (λ log. Doing p (record d { rule = c.rule; log = log }) i u fr e) log (subst (λ os. Doing p (record d { rule = c.rule; log = c.log; objects = os }) i u fr e) os (again h)))
  where
    again : Doing p c i u fr e → Doing p (record d { rule = c.rule; log = c.log; objects = c.objects }) i u fr e
    again (access a cell there k kind q r s z x y) = access a cell there k kind q r s z x y
    again (fence o q x y) = fence o q x y

-- ---- which threads may run

-- a thread that may run behind a change of another one could run before it
runs_before : (c d : Configuration) (i j : ℕ) (x : Option Thread) → d.threads ≡ slice_set c.threads i x → d.waiters ≡ c.waiters → i ≢ j → In j (runnable d) → In j (runnable c)
runs_before c d i j x ts ws ne r =
    let q = of_filter (λ i. not (is_blocked d.waiters i)) j (threads_from 0 d.threads) r.0 r.1 in
    let m = of_threads 0 d.threads q.0.0 j q.0.1 in
    let same : m.0 ≡ j = sym (m.2 ∙ zero-add m.0) in
    runs_at c j m.1 (sym (get_other c.threads i j x ne) ∙ sym (ap (λ ts. slice_get ts j) ts) ∙ ap (slice_get d.threads) (sym same) ∙ m.3) (ap (λ ws. not (is_blocked ws j)) (sym ws) ∙ q.1)

-- ---- what local steps leave

module _ (p : Program) (i : ℕ) (t : Thread) where
  run_shut : (n : ℕ) (fs : List Activation) (r : Ran) → local_run p i t n fs ≡ Some r → (j : ℕ) → i ≢ j → active_on j r.stack ≡ None
  run_shut zero fs r e j ne = by (local_effect p i t (turn_at p i t.stack fs)) e
    where
      by : (o : Option (Option Effect)) → runs_out p i t fs o ≡ Some r → active_on j r.stack ≡ None
      by None e = let same : Some (rests p i t fs) ≡ Some r = e in let s : rests p i t fs ≡ r = cc in ap (λ (r : Ran). active_on j r.stack) (sym s) ∙ not_others p i j fs ne
      by (Some x) e = let no : None ≡ Some r = e in absurd (cc)
  run_shut (suc n) fs r e j ne = by (local_effect p i t (turn_at p i t.stack fs)) e (run_shut n)
    where
      by : (o : Option (Option Effect)) → runs_on p i t (local_run p i t n) fs o ≡ Some r → ((fs : List Activation) (r : Ran) → local_run p i t n fs ≡ Some r → (j : ℕ) → i ≢ j → active_on j r.stack ≡ None) → active_on j r.stack ≡ None
      by None e ih = let same : Some (rests p i t fs) ≡ Some r = e in let s : rests p i t fs ≡ r = cc in ap (λ (r : Ran). active_on j r.stack) (sym s) ∙ not_others p i j fs ne
      by (Some None) e ih = let no : None ≡ Some r = e in absurd (cc)
      by (Some (Some (Stays gs))) e ih = more (local_run p i t n gs) refl e
        where
          more : (o : Option Ran) → local_run p i t n gs ≡ o → option_map one_more o ≡ Some r → active_on j r.stack ≡ None
          more None q e = let no : None ≡ Some r = e in absurd (cc)
          more (Some x) q e = let same : Some (one_more x) ≡ Some r = e in let s : one_more x ≡ r = cc in ap (λ (r : Ran). active_on j r.stack) (sym s) ∙ ih gs x q j ne
      by (Some (Some (Leaves vs))) e ih =
          let same : Some (record { thread = None; stack = Dead; made = 1; says = line_forms.Note (notes.Returned i vs) ∷ [] }) ≡ Some r = e in
          let s : record { thread = None; stack = Dead; made = 1; says = line_forms.Note (notes.Returned i vs) ∷ [] } ≡ r = cc in
          ap (λ (r : Ran). active_on j r.stack) (sym s)

  -- they say nothing of other threads, and of no cell
  pub record Quiet (r : Ran) : Type 0 where
    pub others : (j : ℕ) → i ≢ j → flat_map (end_of j) r.says ≡ []
    pub cells : (cell : CellId) (v : Scalar) → last_after cell v r.says ≡ v

  quiet_rest : (fs : List Activation) → Quiet (rests p i t fs)
  quiet_rest fs = record { others = λ j ne. refl; cells = λ cell v. refl }

  run_quiet : (n : ℕ) (fs : List Activation) (r : Ran) → local_run p i t n fs ≡ Some r → Quiet r
  run_quiet zero fs r e = by (local_effect p i t (turn_at p i t.stack fs)) e
    where
      by : (o : Option (Option Effect)) → runs_out p i t fs o ≡ Some r → Quiet r
      by None e = let same : Some (rests p i t fs) ≡ Some r = e in let s : rests p i t fs ≡ r = cc in subst Quiet s (quiet_rest fs)
      by (Some x) e = let no : None ≡ Some r = e in absurd (cc)
  run_quiet (suc n) fs r e = by (local_effect p i t (turn_at p i t.stack fs)) e (run_quiet n)
    where
      by : (o : Option (Option Effect)) → runs_on p i t (local_run p i t n) fs o ≡ Some r → ((fs : List Activation) (r : Ran) → local_run p i t n fs ≡ Some r → Quiet r) → Quiet r
      by None e ih = let same : Some (rests p i t fs) ≡ Some r = e in let s : rests p i t fs ≡ r = cc in subst Quiet s (quiet_rest fs)
      by (Some None) e ih = let no : None ≡ Some r = e in absurd (cc)
      by (Some (Some (Stays gs))) e ih = more (local_run p i t n gs) refl e
        where
          more : (o : Option Ran) → local_run p i t n gs ≡ o → option_map one_more o ≡ Some r → Quiet r
          more None q e = let no : None ≡ Some r = e in absurd (cc)
          more (Some x) q e =
              let same : Some (one_more x) ≡ Some r = e in
              let s : one_more x ≡ r = cc in
              let h = ih gs x q in
              subst Quiet s (record { others = h.others; cells = h.cells })
      by (Some (Some (Leaves vs))) e ih =
          let same : Some (record { thread = None; stack = Dead; made = 1; says = line_forms.Note (notes.Returned i vs) ∷ [] }) ≡ Some r = e in
          let s : record { thread = None; stack = Dead; made = 1; says = line_forms.Note (notes.Returned i vs) ∷ [] } ≡ r = cc in
          subst Quiet s (record { others = λ j ne. ap (λ (b : Bool). (if b then notes.Returned i vs ∷ [] else []) ++ []) (ne_eqb i j ne); cells = λ cell v. refl })

-- ---- what is seen of two moves, either way round

-- what does not modify a cell writes nothing there
write_none : (cell : CellId) (k : Kind) (t : ℕ) (v : Scalar) → modifies cell (event t k) ≡ false → written_by cell k v ≡ v
write_none cell (kinds.Access modes.Read at o position value) t v h = refl
write_none cell (kinds.Access modes.Write at o position value) t v h = ap (λ (b : Bool). if b then value else v) h
write_none cell (kinds.Access modes.Update at o position value) t v h = ap (λ (b : Bool). if b then value else v) h
write_none cell (kinds.Fence o) t v h = refl
write_none cell (kinds.NewStack s) t v h = refl
write_none cell (kinds.NewThread s) t v h = refl
write_none cell (kinds.Leave s) t v h = refl
write_none cell (kinds.Enter s) t v h = refl
write_none cell (kinds.Wake at m) t v h = refl
write_none cell (kinds.Woken m) t v h = refl

module _ (ls : List Line) (n m : ℕ) (e f : Event) (x y : List Line) where
  abbrev one_way : List Line
  one_way = ((((ls ++ line_forms.Event n e ∷ []) ++ x) ++ line_forms.Event m f ∷ []) ++ y)

  ends_of : (i : ℕ) → flat_map (end_of i) ((((ls ++ line_forms.Event n e ∷ []) ++ x) ++ line_forms.Event m f ∷ []) ++ y) ≡ ((((flat_map (end_of i) ls ++ []) ++ flat_map (end_of i) x) ++ []) ++ flat_map (end_of i) y)
  ends_of i =
      ends_append i (((ls ++ line_forms.Event n e ∷ []) ++ x) ++ line_forms.Event m f ∷ []) y
      ∙ ap (λ ns. ns ++ flat_map (end_of i) y) (
      ends_append i ((ls ++ line_forms.Event n e ∷ []) ++ x) (line_forms.Event m f ∷ [])
      ∙ ap (λ ns. ns ++ []) (
      ends_append i (ls ++ line_forms.Event n e ∷ []) x
      ∙ ap (λ ns. ns ++ flat_map (end_of i) x) (ends_append i ls (line_forms.Event n e ∷ []))
      )
      )

  scalar_of : (cell : CellId) (v : Scalar) → last_after cell v ((((ls ++ line_forms.Event n e ∷ []) ++ x) ++ line_forms.Event m f ∷ []) ++ y) ≡ last_after cell (written_by cell f.kind (last_after cell (written_by cell e.kind (last_after cell v ls)) x)) y
  scalar_of cell v =
      scalar_append cell v (((ls ++ line_forms.Event n e ∷ []) ++ x) ++ line_forms.Event m f ∷ []) y
      ∙ ap (λ v. last_after cell v y) (
      scalar_append cell v ((ls ++ line_forms.Event n e ∷ []) ++ x) (line_forms.Event m f ∷ [])
      ∙ ap (λ v. written_by cell f.kind v) (
      scalar_append cell v (ls ++ line_forms.Event n e ∷ []) x
      ∙ ap (λ v. last_after cell v x) (scalar_append cell v ls (line_forms.Event n e ∷ []))
      )
      )

nil_behind : {A : Type 0} (xs : List A) → xs ++ [] ≡ xs
nil_behind [] = refl
nil_behind (x ∷ xs) = ap (λ ys. x ∷ ys) (nil_behind xs)

-- what threads i and j say of their ends, and the two events that are not both of one cell
both_ways : (p : Program) (ls : List Line) (i j n m : ℕ) (t s : Thread) (e f : Event) (r q : Ran) → i ≢ j → Quiet p i t r → Quiet p j s q → ((cell : CellId) → modifies cell e ≡ true → modifies cell f ≡ true → ⊥)
    → SameSeen ((((ls ++ line_forms.Event n e ∷ []) ++ r.says) ++ line_forms.Event m f ∷ []) ++ q.says) ((((ls ++ line_forms.Event n f ∷ []) ++ q.says) ++ line_forms.Event m e ∷ []) ++ r.says)
both_ways p ls i j n m t s e f r q ne a b apart = record {
  ends = λ l. ends_of ls n m e f r.says q.says l ∙ turned l ∙ sym (ends_of ls n m f e q.says r.says l);
  last = λ cell v. scalar_of ls n m e f r.says q.says cell v ∙ scalars cell (last_after cell v ls) ∙ sym (scalar_of ls n m f e q.says r.says cell v);
}
  where
    shape : (E A B : List Note) → (A ≡ []) ⊎ (B ≡ []) → ((((E ++ []) ++ A) ++ []) ++ B) ≡ ((((E ++ []) ++ B) ++ []) ++ A)
    shape E A B (inl z) = ap (λ A. ((((E ++ []) ++ A) ++ []) ++ B)) z ∙ flat E B ∙ sym (ap (λ A. ((((E ++ []) ++ B) ++ []) ++ A)) z)
      where
        flat : (E B : List Note) → ((((E ++ []) ++ []) ++ []) ++ B) ≡ ((((E ++ []) ++ B) ++ []) ++ [])
        flat E B =
            ap (λ xs. xs ++ B) (nil_behind ((E ++ []) ++ []) ∙ nil_behind (E ++ []))
            ∙ sym (nil_behind (((E ++ []) ++ B) ++ []) ∙ nil_behind ((E ++ []) ++ B))
    shape E A B (inr z) = ap (λ B. ((((E ++ []) ++ A) ++ []) ++ B)) z ∙ flat E A ∙ sym (ap (λ B. ((((E ++ []) ++ B) ++ []) ++ A)) z)
      where
        flat : (E A : List Note) → ((((E ++ []) ++ A) ++ []) ++ []) ≡ ((((E ++ []) ++ []) ++ []) ++ A)
        flat E A =
            nil_behind (((E ++ []) ++ A) ++ []) ∙ nil_behind ((E ++ []) ++ A)
            ∙ sym (ap (λ xs. xs ++ A) (nil_behind ((E ++ []) ++ []) ∙ nil_behind (E ++ [])))

    turned : (l : ℕ) → ((((flat_map (end_of l) ls ++ []) ++ flat_map (end_of l) r.says) ++ []) ++ flat_map (end_of l) q.says) ≡ ((((flat_map (end_of l) ls ++ []) ++ flat_map (end_of l) q.says) ++ []) ++ flat_map (end_of l) r.says)
    turned l = shape (flat_map (end_of l) ls) (flat_map (end_of l) r.says) (flat_map (end_of l) q.says) (elim (eqb_tells i l) [
      | inl z ↦ inr (b.others l (λ w. ne (z.1 ∙ sym w)))
      | inr z ↦ inl (a.others l z.1)
    ])

    commute : (cell : CellId) (v : Scalar) (x y : Bool) → modifies cell e ≡ x → modifies cell f ≡ y → written_by cell f.kind (written_by cell e.kind v) ≡ written_by cell e.kind (written_by cell f.kind v)
    commute cell v true true h g = absurd (apart cell h g)
    commute cell v false y h g = ap (written_by cell f.kind) (write_none cell e.kind e.thread v h) ∙ sym (write_none cell e.kind e.thread (written_by cell f.kind v) h)
    commute cell v true false h g = write_none cell f.kind f.thread (written_by cell e.kind v) g ∙ sym (ap (written_by cell e.kind) (write_none cell f.kind f.thread v g))

    scalars : (cell : CellId) (v : Scalar) → last_after cell (written_by cell f.kind (last_after cell (written_by cell e.kind v) r.says)) q.says ≡ last_after cell (written_by cell e.kind (last_after cell (written_by cell f.kind v) q.says)) r.says
    scalars cell v =
        b.cells cell (written_by cell f.kind (last_after cell (written_by cell e.kind v) r.says))
        ∙ ap (written_by cell f.kind) (a.cells cell (written_by cell e.kind v))
        ∙ commute cell v (modifies cell e) (modifies cell f) refl refl
        ∙ sym (a.cells cell (written_by cell e.kind (last_after cell (written_by cell f.kind v) q.says)) ∙ ap (written_by cell e.kind) (b.cells cell (written_by cell f.kind v)))

-- ---- a move, with the local steps that follow

module _ (p : Program) (globals : ℕ) (os : List HeapObject) (n : ℕ) where
  abbrev cut_by : Turn → Event → Option Seen
  cut_by u e = Some (Cut (endings.Undefined cases.DataRace u.thread u.top.block u.top.at None) (Some e))

  abbrev pub came : Configuration → ℕ → Thread → Event → Ran → Configuration
  came c i t e r = record (plain c) { threads = slice_set c.threads i r.thread; stacks = slice_set c.stacks t.stack r.stack; log = e ∷ c.log; steps = suc c.steps + r.made }

  abbrev run_place : Configuration → List Line → ℕ → Thread → Event → Option Ran → Place
  run_place c ls i t e None = Gone None
  run_place c ls i t e (Some r) = At (came c i t e r) ((ls ++ line_forms.Event (length c.log) e ∷ []) ++ r.says)

  abbrev turn_place : Configuration → List Line → ℕ → Thread → Turn → Event → Option (List Activation) → Option ℕ → Place
  turn_place c ls i t u e None k = Gone None
  turn_place c ls i t u e (Some fs) (Some k) = Gone (cut_by u e)
  turn_place c ls i t u e (Some fs) None = run_place c ls i t e (local_run p i t n fs)

  pub stays_gone : (m : ℕ) (o : Option Seen) → settled p globals os m (Gone o) ≡ Gone o
  stays_gone zero o = refl
  stays_gone (suc m) o = refl

  module _ (c : Configuration) (ls : List Line) (i : ℕ) (t : Thread) (u : Turn) (e : Event) (turn : turn_of p c i ≡ Some u) (awake : find (is_of i) c.waiters ≡ None) (number : u.thread ≡ i)
      (thread : slice_get c.threads i ≡ Some (Some t)) (calm : local_first p c ≡ None) where
    same_stack : u.stack ≡ t.stack
    same_stack =
        let h = turned_on p c i u turn in
        let twice : Some (Some h.t) ≡ Some (Some t) = sym h.thread ∙ thread in
        let same : h.t ≡ t = cc in
        h.own.1 ∙ ap (λ (t : Thread). t.stack) same

    on_stack : slice_get c.stacks t.stack ≡ Some (Active i (u.top ∷ u.below))
    on_stack =
        let h = turned_on p c i u turn in
        let twice : Some (Some h.t) ≡ Some (Some t) = sym h.thread ∙ thread in
        let same : h.t ≡ t = cc in
        ap (λ (t : Thread). slice_get c.stacks t.stack) (sym same) ∙ h.stack

    abbrev behind_turn : List Activation → Configuration
    behind_turn fs = record c { stacks = slice_set c.stacks t.stack (Active i fs); log = e ∷ c.log; picks = []; steps = suc c.steps; lines = [] }

    stood : (fs : List Activation) → Stood p i t (behind_turn fs) fs
    stood fs = record {
      thread = thread;
      stack = get_within c.stacks t.stack (Active i fs) (slice_get_within c.stacks t.stack (Active i (u.top ∷ u.below)) on_stack);
      awake = awake;
      alone = λ j ne.
          ap (λ ts. is_local p (record c { threads = ts; stacks = slice_set c.stacks t.stack (Active i fs) }) j) (sym (set_there c.threads i (Some t) thread))
          ∙ other_local p c i t.stack j (Some t) (Active i fs) (u.top ∷ u.below) on_stack (not_others p i j fs (λ q. ne (sym q))) (λ q. ne (sym q))
          ∙ none_local p c calm j;
    }

    run_so : (fs : List Activation) (o : Option Ran) → after_run p i t (behind_turn fs) (ls ++ line_forms.Event (length c.log) e ∷ []) o ≡ run_place c ls i t e o
    run_so fs None = refl
    run_so fs (Some r) =
        ap (λ ss. At (record (plain c) { threads = slice_set c.threads i r.thread; stacks = ss; log = e ∷ c.log; steps = suc c.steps + r.made }) ((ls ++ line_forms.Event (length c.log) e ∷ []) ++ r.says)) (set-set c.stacks t.stack (Active i fs) r.stack)

    goes_so : (fs : List Activation) → comes p globals os ls (client_answers p c.client (raced (picked c []) u e fs None)) ≡ At (plain (behind_turn fs)) (ls ++ line_forms.Event (length c.log) e ∷ [])
    unfolding on
    goes_so fs =
        ap (λ j. At (plain (record c { stacks = slice_set c.stacks u.stack (Active j fs); log = e ∷ c.log; steps = suc c.steps })) (ls ++ line_forms.Event (length c.log) e ∷ [])) number
        ∙ ap (λ k. At (plain (record c { stacks = slice_set c.stacks k (Active i fs); log = e ∷ c.log; steps = suc c.steps })) (ls ++ line_forms.Event (length c.log) e ∷ [])) same_stack

    turn_so : (fr : Option (List Activation)) (k : Option ℕ) → settled p globals os n (comes p globals os ls (client_answers p c.client (on fr (λ fs. raced (picked c []) u e fs k)))) ≡ turn_place c ls i t u e fr k
    unfolding on
    turn_so None k = stays_gone n None
    turn_so (Some fs) (Some k) = stays_gone n (cut_by u e)
    turn_so (Some fs) None =
        ap (settled p globals os n) (goes_so fs) ∙ ran p i t globals os n (behind_turn fs) (ls ++ line_forms.Event (length c.log) e ∷ []) fs (stood fs) ∙ run_so fs (local_run p i t n fs)

    -- what a move with an event comes to
    pub moved_to : (fr : Option (List Activation)) → Doing p c i u fr e → move_step p globals os n (At c ls) (record { thread = i; event = Some e }) ≡ turn_place c ls i t u e fr (race c.rule c.log e)
    moved_to fr d = ap (λ o. settled p globals os n (comes p globals os ls (client_answers p c.client o))) (offered_made p c i u turn awake number e fr d) ∙ turn_so fr (race c.rule c.log e)

  -- ---- good places

  pub room_of : (c : Configuration) (ls : List Line) → over p globals os (At c ls) ≡ None → (c.steps ≤ c.budget) × (c.steps ≢ c.budget)
  room_of c ls v = by (nat_lt c.budget c.steps) refl v
    where
      by_lists : (ts is : List ℕ) → over_by p globals os c ls ts is ≡ None → c.steps ≢ c.budget
      by_lists [] is v = some_none v
      by_lists (t ∷ ts) [] v = some_none v
      by_lists (t ∷ ts) (i ∷ is) v = λ e. let no : Some None ≡ None = sym (ap (λ (b : Bool). if b then Some None else None) (eq-eqb c.steps c.budget e)) ∙ v in cc

      by : (b : Bool) → nat_lt c.budget c.steps ≡ b → (if b then Some None else over_by p globals os c ls (threads_from 0 c.threads) (runnable c)) ≡ None → (c.steps ≤ c.budget) × (c.steps ≢ c.budget)
      by true e v = let no : Some None ≡ None = v in absurd (cc)
      by false e v = (ltb-false c.budget c.steps e, by_lists (threads_from 0 c.threads) (runnable c) v)

  module _ (Fit : Configuration → Type 0) (fits : Fits p Fit) where
    pub settled_good : (m : ℕ) (c : Configuration) (ls : List Line) → (c.steps ≤ c.budget → Fit c) → GoodAt p Fit (settled p globals os m (At c ls))
    unfolding on
    settled_good zero c ls h = by (local_first p c) refl
      where
        by : (o : Option ℕ) → local_first p c ≡ o → GoodAt p Fit (stays_at p globals os c ls o)
        by None e = (h, e)
        by (Some i) e = tt
    settled_good (suc m) c ls h = by (local_first p c) refl (settled_good m)
      where
        by : (o : Option ℕ) → local_first p c ≡ o → ((c : Configuration) (ls : List Line) → (c.steps ≤ c.budget → Fit c) → GoodAt p Fit (settled p globals os m (At c ls))) → GoodAt p Fit (goes_first p globals os (settled p globals os m) c ls o)
        by None e ih = (h, e)
        by (Some i) e ih = subst (λ o. GoodAt p Fit (settled p globals os m (comes p globals os ls o))) (sym here) (made (effect p l.u l.a) refl)
          where
            found : In i (runnable c) × (is_local p c i ≡ true)
            found = found_in (is_local p c) i (runnable c) e

            l : Locals p c i
            l = locals p c i found.1

            here : client_answers p c.client (turns p (picked c []) i) ≡ on (effect p l.u l.a) (λ x. Next (result i l.t x (picked c [])))
            here = local_comes p c i l

            made : (x : Option Effect) → effect p l.u l.a ≡ x → GoodAt p Fit (settled p globals os m (comes p globals os ls (on x (λ x. Next (result i l.t x (picked c []))))))
            made None q = subst (GoodAt p Fit) (sym (stays_gone m None)) tt
            made (Some x) q = ih (plain (result i l.t x (picked c []))) (ls ++ reverse (lines_of i x ++ [])) (λ room. fits.alone (result i l.t x (picked c [])) (fits.goes c (result i l.t x (picked c [])) (h (omega (arith, room))) (record { thread = i; number = found.0.0; runs = found.0.1; room = omega (arith, room); picks = []; made = here ∙ ap (λ o. on o (λ x. Next (result i l.t x (picked c [])))) q })))

    pub keeps : Keeps (over p globals os) (place_moves p globals os) (move_step p globals os n) (place_apart p globals os) sleeps (GoodAt p Fit)
    keeps (Gone o) a g v m = tt
    keeps (At c ls) a g v m = by (client_answers p c.client (move_made p c a)) refl
      where
        f : (j : ℕ) × In j (runnable c) × Member a (thread_moves p c j)
        f = of_flat (thread_moves p c) a m.0 (runnable c) m.1

        r : (c.steps ≤ c.budget) × (c.steps ≢ c.budget)
        r = room_of c ls v

        below : (a b : ℕ) → a ≤ b → a ≢ b → a < b
        below a b l ne = elim (cases_lt a b) [ inl q ↦ q | inr q ↦ absurd (ne (omega (arith, l, q))) ]

        by : (o : Outcome) → client_answers p c.client (move_made p c a) ≡ o → GoodAt p Fit (settled p globals os n (comes p globals os ls o))
        by (Next d) q =
            settled_good n (plain d) (ls ++ reverse d.lines) (λ room. fits.alone d (fits.goes c d (g.0 r.0) (record {
              thread = f.0;
              number = f.1.0;
              runs = f.1.1;
              room = below c.steps c.budget r.0 r.1;
              picks = given_by (length (thread_moves p c f.0)) f.2.0;
              made = ap (client_answers p c.client) (sym (move_turn p c f.0 a f.2.0 f.2.1)) ∙ q;
            })))
        by (End ms x) q = subst (GoodAt p Fit) (sym (stays_gone n (seen_at globals os (ls ++ ms) x))) tt
        by (Asks view go) q = subst (GoodAt p Fit) (sym (stays_gone n None)) tt
        by Stuck q = subst (GoodAt p Fit) (sym (stays_gone n None)) tt

    -- ---- the diamond

    -- some thread can make a move
    over_runs : (d : Configuration) (ls : List Line) (i : ℕ) → In i (runnable d) → over_by p globals os d ls (threads_from 0 d.threads) (runnable d) ≡ (if d.steps == d.budget then Some None else None)
    over_runs d ls i r = by (threads_from 0 d.threads) (runnable d) refl r
      where
        none : (is : List ℕ) → filter (λ i. not (is_blocked d.waiters i)) [] ≡ is → In i is → ⊥
        none is e (k, at) = let no : None ≡ Some i = ap (λ is. slice_get is k) e ∙ at in cc

        by : (ts is : List ℕ) → filter (λ i. not (is_blocked d.waiters i)) ts ≡ is → In i is → over_by p globals os d ls ts is ≡ (if d.steps == d.budget then Some None else None)
        by [] is e r = absurd (none is e r)
        by (t ∷ ts) [] e (k, at) = let no : None ≡ Some i = at in absurd (cc)
        by (t ∷ ts) (j ∷ is) e r = refl

    room_over : (d : Configuration) (ls : List Line) (i : ℕ) → In i (runnable d) → d.steps < d.budget → over p globals os (At d ls) ≡ None
    room_over d ls i r l =
        ap (λ (b : Bool). if b then Some None else over_by p globals os d ls (threads_from 0 d.threads) (runnable d)) (le-ltb d.budget d.steps (omega (arith, l)))
        ∙ over_runs d ls i r ∙ ap (λ (b : Bool). if b then Some None else None) (ne_eqb d.steps d.budget (λ e. omega (arith, l, e)))

    full_over : (d : Configuration) (ls : List Line) (i : ℕ) → In i (runnable d) → d.budget ≤ d.steps → over p globals os (At d ls) ≡ Some None
    full_over d ls i r l = by (nat_lt d.budget d.steps) refl
      where
        by : (b : Bool) → nat_lt d.budget d.steps ≡ b → (if b then Some None else over_by p globals os d ls (threads_from 0 d.threads) (runnable d)) ≡ Some None
        by true e = refl
        by false e =
            let m = ltb-false d.budget d.steps e in
            over_runs d ls i r ∙ ap (λ (b : Bool). if b then Some None else None) (eq-eqb d.steps d.budget (omega (arith, l, m)))

    abbrev move_of : ℕ → Event → Move
    move_of i e = record { thread = i; event = Some e }

    module _ (c : Configuration) (ls : List Line) (i j : ℕ) (ta : Thread) (u v : Turn) (e f : Event) (fs : List Activation) (fr : Option (List Activation)) (r : Ran)
        (turn_a : turn_of p c i ≡ Some u) (awake_a : find (is_of i) c.waiters ≡ None) (number_a : u.thread ≡ i) (thread_a : slice_get c.threads i ≡ Some (Some ta)) (calm : local_first p c ≡ None)
        (doing_a : Doing p c i u (Some fs) e) (quiet_a : race c.rule c.log e ≡ None) (run_a : local_run p i ta n fs ≡ Some r) (runs_a : In i (runnable c))
        (turn_b : turn_of p (came c i ta e r) j ≡ Some v) (awake_b : find (is_of j) c.waiters ≡ None) (number_b : v.thread ≡ j) (doing_b : Doing p (came c i ta e r) j v fr f) (runs_b : In j (runnable (came c i ta e r)))
        (ind : Independent (length c.log) e f) (meets : meets_axioms c.rule (initial c) (e ∷ c.log) ≡ true) (calm1 : local_first p (came c i ta e r) ≡ None)
        (good_b : Member (move_of j f) (moves p c) → GoodAt p Fit (move_step p globals os n (At c ls) (move_of j f))) where
      abbrev c1 : Configuration
      c1 = came c i ta e r

      abbrev ls1 : List Line
      ls1 = (ls ++ line_forms.Event (length c.log) e ∷ []) ++ r.says

      abbrev A : Move
      A = move_of i e

      abbrev B : Move
      B = move_of j f

      abbrev stepped : Place → Move → Place
      stepped = move_step p globals os n

      abbrev Result : Type 0
      Result = Turns (over p globals os) (place_moves p globals os) (move_step p globals os n) (place_apart p globals os) sleeps (GoodAt p Fit) LikeAt (At c ls) A B
          ⊎ Stops (over p globals os) (place_moves p globals os) (move_step p globals os n) (place_apart p globals os) sleeps (GoodAt p Fit) LikeAt (At c ls) A B

      step_a : move_step p globals os n (At c ls) A ≡ At c1 ls1
      step_a = moved_to c ls i ta u e turn_a awake_a number_a thread_a calm (Some fs) doing_a ∙ ap (turn_place c ls i ta u e (Some fs)) quiet_a ∙ ap (run_place c ls i ta e) run_a

      ne : i ≢ j
      ne q = ind.threads (doing_thread p c i u (Some fs) e doing_a ∙ q ∙ sym (doing_thread p c1 j v fr f doing_b))

      en : j ≢ i
      en q = ne (sym q)

      on_a : slice_get c.stacks ta.stack ≡ Some (Active i (u.top ∷ u.below))
      on_a = on_stack c ls i ta u e turn_a awake_a number_a thread_a calm

      turn_b0 : turn_of p c j ≡ Some v
      turn_b0 = sym (other_turn p c i ta.stack j r.thread r.stack (u.top ∷ u.below) on_a (run_shut p i ta n fs r run_a j ne) ne) ∙ turn_b

      turn_second : turn_of p (went c i u.stack fs e) j ≡ Some v
      turn_second =
          ap (λ k. turn_of p (record c { stacks = slice_set c.stacks k (Active i fs) }) j) (same_stack c ls i ta u e turn_a awake_a number_a thread_a calm)
          ∙ ap (λ ts. turn_of p (record c { threads = ts; stacks = slice_set c.stacks ta.stack (Active i fs) }) j) (sym (set_there c.threads i (Some ta) thread_a))
          ∙ other_turn p c i ta.stack j (Some ta) (Active i fs) (u.top ∷ u.below) on_a (not_others p i j fs ne) ne
          ∙ turn_b0

      first : Steps p c i u fs e
      first = record { turn = turn_a; awake = awake_a; quiet = quiet_a; doing = doing_a }

      meets2 : meets_axioms c.rule (initial c) (f ∷ e ∷ c.log) ≡ true
      meets2 = doing_meets p c1 j v fr f meets doing_b

      doing_c : Doing p c j v fr f
      doing_c = f-doing p c i j u v fs e f ne first turn_second ind meets2 fr (doing_over p c1 (went c i u.stack fs e) j v fr f refl refl refl doing_b)

      runs_bc : In j (runnable c)
      runs_bc = runs_before c c1 i j r.thread refl refl ne runs_b

      member_b : Member B (moves p c)
      member_b = in_flat (thread_moves p c) B j runs_bc.0 (runnable c) runs_bc.1 (offered_moves p c j v turn_b0 awake_b number_b f fr doing_c)

      same_race : is_none (race c.rule (e ∷ c.log) f) ≡ is_none (race c.rule c.log f)
      same_race = race-same p c i j u v fs e f ne first turn_second ind meets2

      module _ (tb : Thread) (thread_b : slice_get c.threads j ≡ Some (Some tb)) where
        step_b : move_step p globals os n (At c ls) B ≡ turn_place c ls j tb v f fr (race c.rule c.log f)
        step_b = moved_to c ls j tb v f turn_b0 awake_b number_b thread_b calm fr doing_c

        step_ab : move_step p globals os n (At c1 ls1) B ≡ turn_place c1 ls1 j tb v f fr (race c.rule (e ∷ c.log) f)
        step_ab = moved_to c1 ls1 j tb v f turn_b awake_b number_b (get_other c.threads i j r.thread ne ∙ thread_b) calm1 fr doing_b

        stopped : (s t : Place) (o : Option Seen) → turn_place c ls j tb v f fr (race c.rule c.log f) ≡ s → turn_place c1 ls1 j tb v f fr (race c.rule (e ∷ c.log) f) ≡ t → over p globals os s ≡ Some o → over p globals os t ≡ Some o → Result
        stopped s t o x y k l = inr (record {
          moves_first = member_b;
          o = o;
          stops = ap (over p globals os) (step_b ∙ x) ∙ k;
          stops_too = ap (λ s. over p globals os (move_step p globals os n s B)) step_a ∙ ap (over p globals os) (step_ab ∙ y) ∙ l;
        })

        on_b : slice_get c.stacks tb.stack ≡ Some (Active j (v.top ∷ v.below))
        on_b = on_stack c ls j tb v f turn_b0 awake_b number_b thread_b calm

        stacks_apart : tb.stack ≢ ta.stack
        stacks_apart q =
            let x : Some (Active j (v.top ∷ v.below)) ≡ Some (Active i (u.top ∷ u.below)) = sym on_b ∙ ap (slice_get c.stacks) q ∙ on_a in
            let y : j ≡ i = cc in
            en y

        module _ (gs : List Activation) (z : fr ≡ Some gs) (quiet : race c.rule c.log f ≡ None) (quiet_ab : race c.rule (e ∷ c.log) f ≡ None) (q : Ran) (run_b : local_run p j tb n gs ≡ Some q) where
          abbrev c2 : Configuration
          c2 = came c j tb f q

          abbrev ls2 : List Line
          ls2 = (ls ++ line_forms.Event (length c.log) f ∷ []) ++ q.says

          abbrev c12 : Configuration
          c12 = came c1 j tb f q

          abbrev ls12 : List Line
          ls12 = (ls1 ++ line_forms.Event (suc (length c.log)) f ∷ []) ++ q.says

          place_b : turn_place c ls j tb v f fr (race c.rule c.log f) ≡ At c2 ls2
          place_b = ap (λ fr. turn_place c ls j tb v f fr (race c.rule c.log f)) z ∙ ap (turn_place c ls j tb v f (Some gs)) quiet ∙ ap (run_place c ls j tb f) run_b

          place_ab : turn_place c1 ls1 j tb v f fr (race c.rule (e ∷ c.log) f) ≡ At c12 ls12
          place_ab = ap (λ fr. turn_place c1 ls1 j tb v f fr (race c.rule (e ∷ c.log) f)) z ∙ ap (turn_place c1 ls1 j tb v f (Some gs)) quiet_ab ∙ ap (run_place c1 ls1 j tb f) run_b

          runs_a2 : In i (runnable c2)
          runs_a2 = runs_after c c2 j i q.thread refl refl en runs_a

          full : c.budget ≤ suc c.steps + q.made → Result
          full l =
              let more : c.budget < suc (suc c.steps + r.made) + q.made = omega (arith, l) in
              stopped (At c2 ls2) (At c12 ls12) None place_b place_ab (full_over c2 ls2 i runs_a2 l)
              (ap (λ (b : Bool). if b then Some None else over_by p globals os c12 ls12 (threads_from 0 c12.threads) (runnable c12)) (lt-ltb c.budget (suc (suc c.steps + r.made) + q.made) more))

          earlier : Steps p (went c j v.stack gs f) i u fs e
          earlier = earlier-second p c i j u v fs e f ne first turn_second ind meets2 gs

          turn_a2 : turn_of p c2 i ≡ Some u
          turn_a2 = other_turn p c j tb.stack i q.thread q.stack (v.top ∷ v.below) on_b (run_shut p j tb n gs q run_b i en) en ∙ turn_a

          doing_a2 : Doing p c2 i u (Some fs) e
          doing_a2 = doing_over p (went c j v.stack gs f) c2 i u (Some fs) e refl refl refl earlier.doing

          member_a2 : Member A (moves p c2)
          member_a2 = in_flat (thread_moves p c2) A i runs_a2.0 (runnable c2) runs_a2.1 (offered_moves p c2 i u turn_a2 awake_a number_a e (Some fs) doing_a2)

          calm2 : local_first p c2 ≡ None
          calm2 = let g : GoodAt p Fit (At c2 ls2) = subst (GoodAt p Fit) (step_b ∙ place_b) (good_b member_b) in g.1

          abbrev c21 : Configuration
          c21 = came c2 i ta e r

          abbrev ls21 : List Line
          ls21 = (ls2 ++ line_forms.Event (suc (length c.log)) e ∷ []) ++ r.says

          step_ba : move_step p globals os n (At c2 ls2) A ≡ At c21 ls21
          step_ba = moved_to c2 ls2 i ta u e turn_a2 awake_a number_a (get_other c.threads j i q.thread en ∙ thread_a) calm2 (Some fs) doing_a2
              ∙ ap (turn_place c2 ls2 i ta u e (Some fs)) earlier.quiet ∙ ap (run_place c2 ls2 i ta e) run_a

          same_end : c21 ≡ with_log (e ∷ f ∷ c.log) c12
          same_end =
              let k : suc (suc c.steps + q.made) + r.made ≡ suc (suc c.steps + r.made) + q.made = omega arith in
              ap (λ ts. record c21 { threads = ts }) (set_comm c.threads j i q.thread r.thread en)
              ∙ ap (λ ss. record c21 { threads = slice_set (slice_set c.threads i r.thread) j q.thread; stacks = ss }) (set_comm c.stacks tb.stack ta.stack q.stack r.stack stacks_apart)
              ∙ ap (λ m. record c21 { threads = slice_set (slice_set c.threads i r.thread) j q.thread; stacks = slice_set (slice_set c.stacks ta.stack r.stack) tb.stack q.stack; steps = m }) k

          ordered : Ordered (suc (suc (length c.log))) (f ∷ e ∷ c.log) (e ∷ f ∷ c.log)
          ordered = record { past = c.log; newer = []; e = e; f = f; apart = ind; below = omega arith; first = refl; second = refl }

          like : LikeAt (At c12 ls12) (At c21 ls21)
          like = both {m = suc (suc (length c.log))} {other = e ∷ f ∷ c.log} same_end ordered
              (both_ways p ls i j (length c.log) (suc (length c.log)) ta tb e f r q ne (run_quiet p i ta n fs r run_a) (run_quiet p j tb n gs q run_b) ind.modified)

          turned : suc c.steps + q.made < c.budget → Result
          turned l =
              let x : move_step p globals os n (move_step p globals os n (At c ls) A) B ≡ At c12 ls12 = ap (λ s. move_step p globals os n s B) step_a ∙ step_ab ∙ place_ab in
              let y : move_step p globals os n (move_step p globals os n (At c ls) B) A ≡ At c21 ls21 = ap (λ s. move_step p globals os n s A) (step_b ∙ place_b) ∙ step_ba in
              inl (record {
                second_moves = member_b;
                goes_on = ap (over p globals os) (step_b ∙ place_b) ∙ room_over c2 ls2 i runs_a2 l;
                first_moves = subst (λ s. Member A (place_moves p globals os s)) (sym (step_b ∙ place_b)) member_a2;
                alike = subst (λ s. LikeAt s (move_step p globals os n (move_step p globals os n (At c ls) B) A)) (sym x) (subst (LikeAt (At c12 ls12)) (sym y) like);
              })

        runs : (gs : List Activation) → fr ≡ Some gs → race c.rule c.log f ≡ None → race c.rule (e ∷ c.log) f ≡ None → (o : Option Ran) → local_run p j tb n gs ≡ o → Result
        runs gs z x y None l =
            stopped (Gone None) (Gone None) None
            (ap (λ fr. turn_place c ls j tb v f fr (race c.rule c.log f)) z ∙ ap (turn_place c ls j tb v f (Some gs)) x ∙ ap (run_place c ls j tb f) l)
            (ap (λ fr. turn_place c1 ls1 j tb v f fr (race c.rule (e ∷ c.log) f)) z ∙ ap (turn_place c1 ls1 j tb v f (Some gs)) y ∙ ap (run_place c1 ls1 j tb f) l) refl refl
        runs gs z x y (Some q) l = elim (cases_lt (suc c.steps + q.made) c.budget) [ inl h ↦ turned gs z x y q l h | inr h ↦ full gs z x y q l h ]

        by_race : (o : Option (List Activation)) → fr ≡ o → (x y : Option ℕ) → race c.rule c.log f ≡ x → race c.rule (e ∷ c.log) f ≡ y → is_none y ≡ is_none x → Result
        by_race None z x y k l s =
            stopped (Gone None) (Gone None) None (ap (λ fr. turn_place c ls j tb v f fr (race c.rule c.log f)) z) (ap (λ fr. turn_place c1 ls1 j tb v f fr (race c.rule (e ∷ c.log) f)) z) refl refl
        by_race (Some gs) z (Some x) (Some y) k l s =
            stopped (Gone (cut_by v f)) (Gone (cut_by v f)) (cut_by v f)
            (ap (λ fr. turn_place c ls j tb v f fr (race c.rule c.log f)) z ∙ ap (turn_place c ls j tb v f (Some gs)) k)
            (ap (λ fr. turn_place c1 ls1 j tb v f fr (race c.rule (e ∷ c.log) f)) z ∙ ap (turn_place c1 ls1 j tb v f (Some gs)) l) refl refl
        by_race (Some gs) z None (Some y) k l s = absurd (false≢true s)
        by_race (Some gs) z (Some x) None k l s = absurd (false≢true (sym s))
        by_race (Some gs) z None None k l s = runs gs z k l (local_run p j tb n gs) refl

      exchanged : Result
      exchanged = let h = turned_on p c j v turn_b0 in by_race h.t h.thread fr refl (race c.rule c.log f) (race c.rule (e ∷ c.log) f) refl refl same_race

    -- a move with an event that goes on
    went_parts : (c : Configuration) (ls : List Line) (i : ℕ) (t : Thread) (u : Turn) (e : Event) (fr : Option (List Activation)) (k : Option ℕ) → over p globals os (turn_place c ls i t u e fr k) ≡ None
        → (fs : List Activation) × (r : Ran) × (fr ≡ Some fs) × (k ≡ None) × (local_run p i t n fs ≡ Some r)
    went_parts c ls i t u e None k h = some_none h
    went_parts c ls i t u e (Some fs) (Some k) h = some_none h
    went_parts c ls i t u e (Some fs) None h = let q = by (local_run p i t n fs) refl h in (q.0, q.1, q.2, refl, q.3)
      where
        by : (o : Option Ran) → local_run p i t n fs ≡ o → over p globals os (run_place c ls i t e o) ≡ None → (gs : List Activation) × (r : Ran) × (Some fs ≡ Some gs) × (local_run p i t n gs ≡ Some r)
        by None q h = some_none h
        by (Some r) q h = (fs, r, refl, q)

    turn_parts : (m : ℕ) (x y : Option Event) → may_turn m x y ≡ true → (e : Event) × (f : Event) × (x ≡ Some e) × (y ≡ Some f) × Independent m e f
    turn_parts m None y h = absurd (false≢true h)
    turn_parts m (Some e) None h = absurd (false≢true h)
    turn_parts m (Some e) (Some f) h = (e, f, refl, refl, independent-is m e f h)

    -- Two independent moves may be made in the other order, or the second ends the run, the same way.
    pub diamond : Diamond (over p globals os) (place_moves p globals os) (move_step p globals os n) (place_apart p globals os) sleeps (GoodAt p Fit) LikeAt
    diamond (Gone o) good a b ind v m w k = absurd (false≢true ind)
    diamond (At c ls) good a b ind v m w k = whole (turn_parts (length c.log) a.event b.event ind)
      where
        Wanted : Move → Move → Type 0
        Wanted a b = Turns (over p globals os) (place_moves p globals os) (move_step p globals os n) (place_apart p globals os) sleeps (GoodAt p Fit) LikeAt (At c ls) a b
            ⊎ Stops (over p globals os) (place_moves p globals os) (move_step p globals os n) (place_apart p globals os) sleeps (GoodAt p Fit) LikeAt (At c ls) a b

        own : (d : Configuration) (i : ℕ) (u : Turn) → turn_of p d i ≡ Some u → u.thread ≡ i
        own d i u q = (turned_on p d i u q).own.0

        whole : (e : Event) × (f : Event) × (a.event ≡ Some e) × (b.event ≡ Some f) × Independent (length c.log) e f
            → Turns (over p globals os) (place_moves p globals os) (move_step p globals os n) (place_apart p globals os) sleeps (GoodAt p Fit) LikeAt (At c ls) a b
            ⊎ Stops (over p globals os) (place_moves p globals os) (move_step p globals os n) (place_apart p globals os) sleeps (GoodAt p Fit) LikeAt (At c ls) a b
        whole (e, f, ea, eb, apart) =
            let fa = of_flat (thread_moves p c) a m.0 (runnable c) m.1 in
            let i : ℕ = fa.0 in
            let oa = offers p c fa.0 (own c fa.0) a fa.2.0 e fa.2.1 ea in
            let ha = turned_on p c fa.0 oa.u oa.turn in
            let to_a : move_step p globals os n (At c ls) a ≡ turn_place c ls fa.0 ha.t oa.u e oa.frames (race c.rule c.log e) =
            ap (move_step p globals os n (At c ls)) oa.is ∙ moved_to c ls fa.0 ha.t oa.u e oa.turn oa.awake oa.number ha.thread good.1 oa.frames oa.doing in
            let parts = went_parts c ls fa.0 ha.t oa.u e oa.frames (race c.rule c.log e) (ap (over p globals os) (sym to_a) ∙ w) in
            behind_a e f apart eb fa.0 fa.1 oa ha.t ha.thread parts.0 parts.1 parts.2 parts.3 parts.4 (
            to_a ∙ ap (λ fr. turn_place c ls fa.0 ha.t oa.u e fr (race c.rule c.log e)) parts.2 ∙ ap (turn_place c ls fa.0 ha.t oa.u e (Some parts.0)) parts.3 ∙ ap (run_place c ls fa.0 ha.t e) parts.4
            )
          where
            behind_a : (e f : Event) → Independent (length c.log) e f → b.event ≡ Some f → (i : ℕ) → In i (runnable c) → (oa : Offers p c i a e) → (ta : Thread) → slice_get c.threads i ≡ Some (Some ta)
                → (fs : List Activation) (r : Ran) → oa.frames ≡ Some fs → race c.rule c.log e ≡ None → local_run p i ta n fs ≡ Some r
                → move_step p globals os n (At c ls) a ≡ At (came c i ta e r) ((ls ++ line_forms.Event (length c.log) e ∷ []) ++ r.says)
                → Turns (over p globals os) (place_moves p globals os) (move_step p globals os n) (place_apart p globals os) sleeps (GoodAt p Fit) LikeAt (At c ls) a b
                ⊎ Stops (over p globals os) (place_moves p globals os) (move_step p globals os n) (place_apart p globals os) sleeps (GoodAt p Fit) LikeAt (At c ls) a b
            behind_a e f apart eb i runs_a oa ta thread_a fs r frames quiet run_a to_a =
                let good1 : GoodAt p Fit (At (came c i ta e r) ((ls ++ line_forms.Event (length c.log) e ∷ []) ++ r.says)) = subst (GoodAt p Fit) to_a (keeps (At c ls) a good v m) in
                let room1 = room_of (came c i ta e r) ((ls ++ line_forms.Event (length c.log) e ∷ []) ++ r.says) (ap (over p globals os) (sym to_a) ∙ w) in
                let kb : Member b (moves p (came c i ta e r)) = subst (λ s. Member b (place_moves p globals os s)) to_a k in
                let fb = of_flat (thread_moves p (came c i ta e r)) b kb.0 (runnable (came c i ta e r)) kb.1 in
                let ob = offers p (came c i ta e r) fb.0 (own (came c i ta e r) fb.0) b fb.2.0 f fb.2.1 eb in
                let result = exchanged c ls i fb.0 ta oa.u ob.u e f fs ob.frames r oa.turn oa.awake oa.number thread_a good.1 (subst (λ fr. Doing p c i oa.u fr e) frames oa.doing) quiet run_a runs_a
                ob.turn ob.awake ob.number ob.doing fb.1 apart (fits.meets (came c i ta e r) (good1.0 room1.0)) good1.1 (λ mb. keeps (At c ls) (move_of fb.0 f) good v mb) in
                turned_into oa.is ob.is result
              where
                turned_into : {x y : Move} → a ≡ x → b ≡ y
                    → Turns (over p globals os) (place_moves p globals os) (move_step p globals os n) (place_apart p globals os) sleeps (GoodAt p Fit) LikeAt (At c ls) x y
                    ⊎ Stops (over p globals os) (place_moves p globals os) (move_step p globals os n) (place_apart p globals os) sleeps (GoodAt p Fit) LikeAt (At c ls) x y
                    → Turns (over p globals os) (place_moves p globals os) (move_step p globals os n) (place_apart p globals os) sleeps (GoodAt p Fit) LikeAt (At c ls) a b
                    ⊎ Stops (over p globals os) (place_moves p globals os) (move_step p globals os n) (place_apart p globals os) sleeps (GoodAt p Fit) LikeAt (At c ls) a b
                turned_into {x} {y} s t h =
                    subst (λ a. Turns (over p globals os) (place_moves p globals os) (move_step p globals os n) (place_apart p globals os) sleeps (GoodAt p Fit) LikeAt (At c ls) a b
                    ⊎ Stops (over p globals os) (place_moves p globals os) (move_step p globals os n) (place_apart p globals os) sleeps (GoodAt p Fit) LikeAt (At c ls) a b) (sym s)
                    (subst (λ b. Turns (over p globals os) (place_moves p globals os) (move_step p globals os n) (place_apart p globals os) sleeps (GoodAt p Fit) LikeAt (At c ls) x b
                    ⊎ Stops (over p globals os) (place_moves p globals os) (move_step p globals os n) (place_apart p globals os) sleeps (GoodAt p Fit) LikeAt (At c ls) x b) (sym t) h)
