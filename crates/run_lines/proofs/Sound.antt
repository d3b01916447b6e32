-- The log of a run has no fault, and stays so with its values replaced.
use Rattle.std.proofs.Common.{◌≡◌, ℕ, suc, ◌+◌, ◌<◌, ◌^◌, Bool, true, false, ◌&&◌, List, [], ◌∷◌, ◌++◌, map, length, eqb, refl, sym, ap, ◌∙◌, subst, arith}
use Rattle.std.specs.Prelude.{flat_map, Option, Some}
use Rattle.std.proofs.lemmas.Bool.{and_parts}
use Rattle.mu_values.specs.declared.scalars.Scalar.{Scalar}
use Rattle.mu_values.specs.declared.cells.CellId.{CellId}
use Rattle.mem_axioms.specs.Events.{value_of}
use Rattle.mem_axioms.specs.Logs.{event_at}
use Rattle.mem_axioms.specs.Form.{has_form}
use Rattle.mem_axioms.specs.Axioms.{is_coherent, is_seq_cst_ordered, meets_axioms}
use Rattle.mem_axioms.specs.Theorems.{FormStandsAlone, RaceFreeIsRelation}
use Rattle.mem_axioms.specs.declared.types.Rule.{Rule}
use Rattle.mem_axioms.specs.declared.types.Kind.{Kind}
use Rattle.mem_axioms.specs.declared.types.Kind.TheVariants as kinds
use Rattle.mem_axioms.specs.declared.types.Event.{Event}
use Rattle.ir_tree.specs.declared.items.Item.{Item}
use Rattle.mu_model.specs.declared.lines.Line.{Line}
use Rattle.mu_model.specs.declared.lines.Line.TheVariants as lines
use Rattle.mu_model.specs.declared.endings.Ending.{Ending}
use Rattle.text_programs.specs.Moments.{log_behind, IsSoundLog}
use Rattle.text_programs.specs.RunLogs.{log_of_steps}
use Rattle.log_lines.specs.Values.{Names}
use Rattle.log_lines.specs.EventTexts.{NameOf}
use Rattle.log_lines.specs.Readable.{scalar_for, event_for}
use Rattle.log_lines.specs.Laws.{EventLine, OtherLine, events_in}
use Rattle.log_lines.specs.Laws.{log_after, Line as LogLine}
use Rattle.verdicts.specs.Laws.{IsFaultless, Revalued, bare}
use Rattle.run_lines.specs.Laws.{log_line, all_lines, run_lines}
use Rattle.run_lines.specs.Verdicts.{log_of}

pub faultless : FormStandsAlone → RaceFreeIsRelation → (rule : Rule) (first : CellId → Scalar) (log : List Event) → IsSoundLog rule first log → IsFaultless rule log
unfolding meets_axioms
faultless alone races rule first log s =
    let p = and_parts (has_form first log && is_coherent rule log) (is_seq_cst_ordered rule log) s.axioms in
    let q = and_parts (has_form first log) (is_coherent rule log) p.0 in
    record { form = alone first log q.0; coherent = q.1; ordered = p.1; race_free = (races rule log).1 s.race_free }

-- ---- other values

module _ (name_of : NameOf) (names : Names) where
  abbrev f : Event → Event
  f e = event_for name_of names e

  bare_same : (t : ℕ) (k : Kind) → bare (record { thread = t; kind = k }) ≡ bare (f (record { thread = t; kind = k }))
  bare_same t (kinds.Access m c o p v) = refl
  bare_same t (kinds.Fence o) = refl
  bare_same t (kinds.NewStack k) = refl
  bare_same t (kinds.NewThread i) = refl
  bare_same t (kinds.Leave k) = refl
  bare_same t (kinds.Enter k) = refl
  bare_same t (kinds.Wake c n) = refl
  bare_same t (kinds.Woken n) = refl

  value_same : (t : ℕ) (k : Kind) → value_of (f (record { thread = t; kind = k })) ≡ scalar_for name_of names (value_of (record { thread = t; kind = k }))
  value_same t (kinds.Access m c o p v) = refl
  value_same t (kinds.Fence o) = refl
  value_same t (kinds.NewStack k) = refl
  value_same t (kinds.NewThread i) = refl
  value_same t (kinds.Leave k) = refl
  value_same t (kinds.Enter k) = refl
  value_same t (kinds.Wake c n) = refl
  value_same t (kinds.Woken n) = refl

  pub long : (log : List Event) → length (map f log) ≡ length log
  long [] = refl
  long (e ∷ past) = ap suc (long past)

  abbrev pick : Bool → Option Event → Option Event → Option Event
  pick b x y = elim b [ true ↦ x | false ↦ y ]

  at_map : (log : List Event) (i : ℕ) (e g : Event) → event_at log i ≡ Some e → event_at (map f log) i ≡ Some g → g ≡ f e
  at_map [] i e g h k = absurd (cc)
  at_map (x ∷ past) i e g h k = go (eqb i (length past)) h (subst (λ (n : ℕ). pick (eqb i n) (Some (f x)) (event_at (map f past) i) ≡ Some g) (long past) k) (at_map past i e g)
    where
      go : (b : Bool) → pick b (Some x) (event_at past i) ≡ Some e → pick b (Some (f x)) (event_at (map f past) i) ≡ Some g → (event_at past i ≡ Some e → event_at (map f past) i ≡ Some g → g ≡ f e) → g ≡ f e
      go true h k ih = let p : x ≡ e = cc in let q : f x ≡ g = cc in sym q ∙ ap f p
      go false h k ih = ih h k

  pub revalued : (log : List Event) → Revalued log (map f log)
  revalued log = record {
    long = long log;
    same = λ i e g h k. bare_same e.thread e.kind ∙ ap bare (sym (at_map log i e g h k));
    equal = λ i j ei ej gi gj hi hj ki kj c v.
        ap value_of (at_map log i ei gi hi ki) ∙ value_same ei.thread ei.kind ∙ ap (scalar_for name_of names) v ∙ sym (value_same ej.thread ej.kind) ∙ sym (ap value_of (at_map log j ej gj hj kj));
  }

-- ---- the log after lines

after_both : (log : List Event) (a b : List LogLine) → log_after log (a ++ b) ≡ log_after (log_after log a) b
after_both log [] b = refl
after_both log (EventLine e ∷ a) b = after_both (e ∷ log) a b
after_both log (OtherLine text ∷ a) b = after_both log a b

after_run_lines : (bundle : List Item) (ls : List Line) (log : List Event) → log_after log (map (log_line bundle) ls) ≡ log_behind ls log
after_run_lines bundle [] log = refl
after_run_lines bundle (lines.Event n e ∷ ls) log = after_run_lines bundle ls (e ∷ log)
after_run_lines bundle (lines.Note n ∷ ls) log = after_run_lines bundle ls log

pub after_more : (a b : List Line) (log : List Event) → log_behind (a ++ b) log ≡ log_behind b (log_behind a log)
after_more [] b log = refl
after_more (lines.Event n e ∷ a) b log = after_more a b (e ∷ log)
after_more (lines.Note n ∷ a) b log = after_more a b log

pub after_steps : (steps : List (List Line)) (log : List Event) → log_behind (flat_map (λ l. l) steps) log ≡ log_of_steps steps log
after_steps [] log = refl
after_steps (ls ∷ steps) log = after_more ls (flat_map (λ l. l) steps) log ∙ after_steps steps (log_behind ls log)

pub after_run : (bundle : List Item) (steps : List (List Line)) (ls : List Line) (e : Ending) → log_after [] (run_lines bundle steps ls e) ≡ log_of steps ls
after_run bundle steps ls e =
    after_both [] (map (log_line bundle) (all_lines steps ls)) _
    ∙ after_run_lines bundle (all_lines steps ls) []
    ∙ after_more (flat_map (λ l. l) steps) ls []
    ∙ ap (log_behind ls) (after_steps steps [])

events_after : (ls : List LogLine) (log : List Event) → length (log_after log ls) ≡ length log + events_in ls
events_after [] log = omega arith
events_after (EventLine e ∷ ls) log = let h = events_after ls (e ∷ log) in omega (arith, h)
events_after (OtherLine text ∷ ls) log = events_after ls log

pub few_events : (ls : List LogLine) → length (log_after [] ls) < 2 ^ 32 → events_in ls < 2 ^ 32
few_events ls h = let k = events_after ls [] in omega (arith, h, k)
