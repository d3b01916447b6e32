-- Each event line has the number of events before it.
use Rattle.std.specs.Prelude.{◌≡◌, ◌==◌, ◌++◌, ℕ, zero, suc, Bool, true, false, List, [], ◌∷◌, Option, Some, None, length, find, flat_map, reverse, slice_get, refl, if◌then◌else◌}
use Rattle.std.proofs.Common.{map, append_assoc, sym, ◌∙◌, ap, subst}
use mathlib.Core.List.{reverse_aux}
use Rattle.mu_model.specs.declared.lines.Note.{Note}
use Rattle.typed_heap.specs.Places.{with_some}
use Rattle.mem_axioms.specs.declared.types.Event.{Event}
use Rattle.mem_axioms.specs.declared.types.Kind.TheVariants as kinds
use Rattle.mu_model.specs.declared.endings.Ending.{Ending}
use Rattle.mu_model.specs.declared.endings.Ending.TheVariants.{Budget}
use Rattle.mu_model.specs.declared.lines.Line.{Line}
use Rattle.mu_model.specs.declared.lines.Line.TheVariants as lines
use Rattle.mu_model.specs.Acts.{Program}
use Rattle.mu_model.specs.Answers.{advanced, answer_of}
use Rattle.mu_threads.specs.Picks.{pick}
use Rattle.mu_model.specs.Changes.{event}
use Rattle.mu_model.specs.Clients.{Client}
use Rattle.futex.specs.declared.waiters.Waiter.{Waiter}
use Rattle.mu_model.specs.Configuration.{Configuration}
use Rattle.mu_model.specs.Outcomes.{Asks, End, Next, Outcome, Stuck}
use Rattle.mu_model.specs.Run.{Breaks, Ends, Run, Unfinished, begins_in, behind, client_answers, first_configuration, goes_on, run, run_from, with_client}
use Rattle.mu_model.specs.Step.{ends_or_picks, picked, picking_thread, runnable, step, threads_from, turned, turns}
use Rattle.mu_model.specs.Turns.{Turn, turn_of}
use Rattle.futex.specs.Waiting.{is_of}
use Rattle.text_programs.specs.Lemmas.Endings.{told_on, EachEnd, ends_at, ends_on, next_ends, performed_ends}
use Rattle.text_programs.specs.Numbers.{Numbered, RunsAreNumbered}
use Rattle.text_programs.specs.Lemmas.RunLogs.{NumbersAreRight, notes_right, next_told}

-- ---- lines in order

in_order : (ls more : List Line) (log : List Event) → NumbersAreRight ls log → Numbered (length (told_on ls log)) more → Numbered (length log) (reverse_aux ls more)
in_order [] more log r h = h
in_order (lines.Event n e ∷ ls) more log r h = in_order ls (lines.Event n e ∷ more) log r.1 (r.0, h)
in_order (lines.Note n ∷ ls) more log r h = in_order ls (lines.Note n ∷ more) log r h

reverse_aux_append : (xs ys zs : List Line) → reverse_aux xs (ys ++ zs) ≡ reverse_aux xs ys ++ zs
reverse_aux_append [] ys zs = refl
reverse_aux_append (x ∷ xs) ys zs = reverse_aux_append xs (x ∷ ys) zs

module _ (p : Program) (c : Configuration) where
  abbrev EndingNumbered : List Line → Type 0
  EndingNumbered ls = Numbered (length c.log) ls

  trap_numbered : (u : Turn) (asked : List Note) (m : Note) → EndingNumbered (reverse (reverse (map lines.Note asked) ++ lines.Note m ∷ lines.Event (length c.log) (event u.thread (kinds.Leave u.stack)) ∷ []))
  trap_numbered u asked m =
      let rest : List Line = lines.Note m ∷ lines.Event (length c.log) (event u.thread (kinds.Leave u.stack)) ∷ [] in
      in_order (reverse (map lines.Note asked) ++ rest) [] c.log (notes_right asked [] rest c.log (refl, tt)) tt

  turns_numbered : (ps : List ℕ) (i : ℕ) → EachEnd EndingNumbered (turns p (picked c ps) i)
  turns_numbered ps i = ends_at EndingNumbered (turn_of p (picked c ps) i) _ (λ u q. by u (find (is_of i) c.waiters))
    where
      by : (u : Turn) → (w : Option Waiter) → EachEnd EndingNumbered (turned p (picked c ps) w u)
      by u (Some w) = next_ends EndingNumbered _ _
      by u None = ends_on EndingNumbered u.doing.act _ (λ a. performed_ends p EndingNumbered (picked c ps) u tt (trap_numbered u) a)

  step_numbered : EachEnd EndingNumbered (step p c)
  step_numbered = by (threads_from 0 c.threads) (runnable c)
    where
      choice : (x : Bool) (is : List ℕ) → EachEnd EndingNumbered (if x then End [] (Budget c.steps) else picking_thread p c is)
      choice true is = tt
      choice false is = let k = pick (length is) c.picks in ends_on EndingNumbered (slice_get is k.0) _ (λ i. turns_numbered k.1 i)

      by : (ts is : List ℕ) → EachEnd EndingNumbered (ends_or_picks p c ts is)
      by [] is = tt
      by (x ∷ ts) [] = tt
      by (x ∷ ts) (i ∷ is) = choice (c.steps == c.budget) (i ∷ is)

  ends_numbered : (k : Client) (o : Outcome) → EachEnd EndingNumbered o → EachEnd EndingNumbered (client_answers p k o)
  ends_numbered k (Next d) g = g
  ends_numbered k (End ls e) g = g
  ends_numbered k (Asks view go) g = by (go (answer_of p.tables view k)) (g (answer_of p.tables view k))
    where
      by : (o : Outcome) → EachEnd EndingNumbered o → EachEnd EndingNumbered (with_client (advanced k) o)
      by (Next d) g = g
      by (End ls e) g = g
      by (Asks view go) g = g
      by Stuck g = g
  ends_numbered k Stuck g = g

  last_numbered : (ls : List Line) (e : Ending) → client_answers p c.client (step p c) ≡ End ls e → Numbered (length c.log) ls
  last_numbered ls e q = subst (EachEnd EndingNumbered) q (ends_numbered c.client (step p c) step_numbered)

-- ---- a run

module _ (p : Program) where
  abbrev Counts : ℕ → Type 0
  Counts n = (c : Configuration) (steps : List (List Line)) (ls : List Line) (e : Ending) → run p n c ≡ Ends steps ls e → Numbered (length c.log) (flat_map (λ l. l) steps ++ ls)

  after_next : (n : ℕ) (c d : Configuration) (steps : List (List Line)) (ls : List Line) (e : Ending) → client_answers p c.client (step p c) ≡ Next d → Counts n →
      (r : Run) → run p n d ≡ r → behind (reverse d.lines) r ≡ Ends steps ls e → Numbered (length c.log) (flat_map (λ l. l) steps ++ ls)
  after_next n c d steps ls e o rest (Ends more last x) same k =
      let one : steps ≡ reverse d.lines ∷ more = cc in
      let lines : last ≡ ls = cc in
      let kept = next_told p c d o in
      let later = rest d more last x same in
      let all = in_order d.lines (flat_map (λ l. l) more ++ last) c.log kept.2 (subst (λ (l : List Event). Numbered (length l) (flat_map (λ l. l) more ++ last)) kept.0 later) in
      let joined : Numbered (length c.log) (flat_map (λ l. l) (reverse d.lines ∷ more) ++ last) =
      subst (Numbered (length c.log)) (reverse_aux_append d.lines [] (flat_map (λ l. l) more ++ last) ∙ sym (append_assoc (reverse d.lines) (flat_map (λ l. l) more) last)) all in
      subst (λ (ss : List (List Line)). Numbered (length c.log) (flat_map (λ l. l) ss ++ ls)) (sym one) (subst (λ (l : List Line). Numbered (length c.log) (flat_map (λ l. l) (reverse d.lines ∷ more) ++ l)) lines joined)
  after_next n c d steps ls e o rest Breaks same k = absurd (cc)
  after_next n c d steps ls e o rest Unfinished same k = absurd (cc)

  counts_on : (n : ℕ) (c : Configuration) (steps : List (List Line)) (ls : List Line) (e : Ending) → Counts n → (o : Outcome) → client_answers p c.client (step p c) ≡ o → goes_on (run p n) o ≡ Ends steps ls e →
      Numbered (length c.log) (flat_map (λ l. l) steps ++ ls)
  counts_on n c steps ls e rest (Next d) o k = after_next n c d steps ls e o rest (run p n d) refl k
  counts_on n c steps ls e rest (End l x) o k =
      let none : steps ≡ [] = cc in
      let lines : l ≡ ls = cc in
      subst (λ (ss : List (List Line)). Numbered (length c.log) (flat_map (λ l. l) ss ++ ls)) (sym none) (subst (Numbered (length c.log)) lines (last_numbered p c l x o))
  counts_on n c steps ls e rest (Asks view go) o k = absurd (cc)
  counts_on n c steps ls e rest Stuck o k = absurd (cc)

  counts : (n : ℕ) → Counts n
  counts zero c steps ls e q = absurd (cc)
  counts (suc n) c steps ls e q = counts_on n c steps ls e (counts n) (client_answers p c.client (step p c)) refl q

-- the lines of every run that ends are numbered from 0 on
pub run_numbered : RunsAreNumbered
run_numbered p s f steps ls e q = by (first_configuration p s f) refl q
  where
    empty : (c : Configuration) → first_configuration p s f ≡ Some c → c.log ≡ []
    empty c e = in_body (p.body f) e
      where
        in_body : (o : Option (Option ℕ)) → with_some {B = Configuration} o (λ b. with_some {B = Configuration} b (λ block. Some (begins_in p s f block))) ≡ Some c → c.log ≡ []
        in_body None e = absurd (cc)
        in_body (Some None) e = absurd (cc)
        in_body (Some (Some block)) e = let same : begins_in p s f block ≡ c = cc in ap (λ (d : Configuration). d.log) (sym same)

    by : (o : Option Configuration) → first_configuration p s f ≡ o → run_from p o ≡ Ends steps ls e → Numbered 0 (flat_map (λ l. l) steps ++ ls)
    by None b k = absurd (cc)
    by (Some c) b k = subst (λ (l : List Event). Numbered (length l) (flat_map (λ l. l) steps ++ ls)) (empty c b) (counts p (suc c.budget) c steps ls e k)
