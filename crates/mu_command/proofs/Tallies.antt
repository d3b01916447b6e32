-- The steps and the events of a run, counted step by step.
use Rattle.std.proofs.Common.{◌≡◌, ℕ, suc, ◌+◌, List, [], ◌∷◌, length, refl, sym, ap, ◌∙◌, subst, zero-add, arith, Option, Some, None}
use Rattle.std.specs.Prelude.{sum_by}
use Rattle.std.specs.List.{count_by}
use Rattle.std.proofs.lemmas.List.Sums.{sum_by-cons}
use Rattle.ir_tree.specs.declared.items.Item.{Item}
use Rattle.mu_model.specs.declared.lines.Line.{Line}
use Rattle.mu_model.specs.declared.endings.Ending.{Ending}
use Rattle.mu_model.specs.declared.endings.Ending.TheVariants as endings
use Rattle.mu_model.specs.declared.endings.StepEnd.{StepEnd}
use Rattle.mu_model.specs.declared.endings.StepEnd.TheVariants.{Went, Ended}
use Rattle.mu_model.specs.Configuration.{Configuration}
use Rattle.mu_model.specs.Programs.{named}
use Rattle.mu_model.specs.Run.{Run, Ends, Breaks, Unfinished, behind, run}
use Rattle.model_laws.specs.Bounds.{HasEnding}
use Rattle.run_texts.specs.Texts.{ending_text, ending_status}
use Rattle.run_state.specs.Outcome.{outcome_of}
use Rattle.mu_texts.specs.Answer.{Answer, line, is_event, events_in, trial_line, trial_answer}
use Rattle.mu_command.specs.declared.counting.Counted.{Counted}
use Rattle.mu_command.specs.declared.counting.Tally.{Tally}
use Rattle.mu_command.specs.Steps.{answered_step, counted, IsCounted, tally_behind}
use Rattle.mu_command.proofs.InSteps.{run_goes, run_ends, behind_ends}

same_tally : (s t v w : ℕ) (e f : Ending) → s ≡ t → v ≡ w → e ≡ f → ◌≡◌ {A = Option Tally} (Some (record { steps = s; events = v; ending = e })) (Some (record { steps = t; events = w; ending = f }))
same_tally s t v w e f p q r =
    ap (λ (x : ℕ). Some (record { steps = x; events = v; ending = e })) p
    ∙ ap (λ (x : ℕ). Some (record { steps = t; events = x; ending = e })) q
    ∙ ap (λ (x : Ending). Some (record { steps = t; events = w; ending = x })) r

-- a step that goes on is one more
one_behind : (steps events : ℕ) (ls : List Line) (r : Run) → tally_behind steps events (behind ls r) ≡ tally_behind (steps + 1) (events + count_by is_event ls) r
one_behind steps events ls (Ends more last e) =
    let a : steps + length (ls ∷ more) ≡ (steps + 1) + length more = omega arith in
    let h : sum_by (count_by is_event) (ls ∷ more) ≡ count_by is_event ls + sum_by (count_by is_event) more = sum_by-cons (count_by is_event) ls more in
    let b : events + events_in (ls ∷ more) last ≡ (events + count_by is_event ls) + events_in more last = omega (arith, h) in
    same_tally (steps + length (ls ∷ more)) ((steps + 1) + length more) (events + events_in (ls ∷ more) last) ((events + count_by is_event ls) + events_in more last) e e a b refl
one_behind steps events ls Breaks = refl
one_behind steps events ls Unfinished = refl

module _ (bundle : List Item) (n : ℕ) (c d : Configuration) (steps events : ℕ) (k : Counted) where
  went_by : (end : StepEnd) → outcome_of end d ≡ answered_step (named bundle) c → k ≡ counted end → k.ending ≡ None →
      tally_behind steps events (run (named bundle) (suc n) c) ≡ tally_behind (steps + 1) (events + k.events) (run (named bundle) n d)
  went_by (Went ls) is e none =
      ap (tally_behind steps events) (run_goes (named bundle) n c d ls (sym is))
      ∙ one_behind steps events ls (run (named bundle) n d)
      ∙ ap (λ (v : ℕ). tally_behind (steps + 1) (events + v) (run (named bundle) n d)) (sym (ap (λ (k : Counted). k.events) e))
  went_by (Ended ls x) is e none = absurd (let some : Some x ≡ None = sym (ap (λ (k : Counted). k.ending) e) ∙ none in cc)

  later_by : (end : StepEnd) → outcome_of end d ≡ answered_step (named bundle) c → k ≡ counted end → k.ending ≡ None → HasEnding (run (named bundle) (suc n) c) → HasEnding (run (named bundle) n d)
  later_by (Went ls) is e none ends = behind_ends ls (run (named bundle) n d) (subst HasEnding (run_goes (named bundle) n c d ls (sym is)) ends)
  later_by (Ended ls x) is e none ends = absurd (let some : Some x ≡ None = sym (ap (λ (k : Counted). k.ending) e) ∙ none in cc)

  ended_by : (end : StepEnd) (x : Ending) → outcome_of end d ≡ answered_step (named bundle) c → k ≡ counted end → k.ending ≡ Some x →
      tally_behind steps events (run (named bundle) (suc n) c) ≡ Some (record { steps = steps; events = events + k.events; ending = x })
  ended_by (Went ls) x is e some = absurd (let none : None ≡ Some x = sym (ap (λ (k : Counted). k.ending) e) ∙ some in cc)
  ended_by (Ended ls y) x is e some =
      let both : Some y ≡ Some x = sym (ap (λ (k : Counted). k.ending) e) ∙ some in
      let same : y ≡ x = cc in
      let a : steps + 0 ≡ steps = omega arith in
      let b : events + (0 + count_by is_event ls) ≡ events + k.events = ap (λ (v : ℕ). events + v) (zero-add (count_by is_event ls) ∙ sym (ap (λ (k : Counted). k.events) e)) in
      ap (tally_behind steps events) (run_ends (named bundle) n c ls y (sym is)) ∙ same_tally _ _ _ _ y x a b same

  module _ (one : IsCounted bundle c d k) where
    pub goes_on : k.ending ≡ None → tally_behind steps events (run (named bundle) (suc n) c) ≡ tally_behind (steps + 1) (events + k.events) (run (named bundle) n d)
    goes_on none = went_by one.end one.is one.counts none

    pub has_ending : k.ending ≡ None → HasEnding (run (named bundle) (suc n) c) → HasEnding (run (named bundle) n d)
    has_ending none ends = later_by one.end one.is one.counts none ends

    pub ends_so : (x : Ending) → k.ending ≡ Some x → tally_behind steps events (run (named bundle) (suc n) c) ≡ Some (record { steps = steps; events = events + k.events; ending = x })
    ends_so x some = ended_by one.end x one.is one.counts some

-- ---- the line

pub told : (n : ℕ) (bundle : List Item) (r : Run) (t : Tally) → tally_behind 0 0 r ≡ Some t →
    line (trial_line n t.steps t.events (ending_text bundle t.ending)) (ending_status t.ending) ≡ trial_answer n bundle r
told n bundle (Ends more ls e) t h =
    let same : record { steps = 0 + length more; events = 0 + events_in more ls; ending = e } ≡ t = cc in
    let words : ℕ → ℕ → Ending → Answer = λ s v x. line (trial_line n s v (ending_text bundle x)) (ending_status x) in
    let a : t.steps ≡ length more = sym (ap (λ (t : Tally). t.steps) same) ∙ zero-add (length more) in
    let b : t.events ≡ events_in more ls = sym (ap (λ (t : Tally). t.events) same) ∙ zero-add (events_in more ls) in
    let d : t.ending ≡ e = sym (ap (λ (t : Tally). t.ending) same) in
    ap (λ (s : ℕ). words s t.events t.ending) a ∙ ap (λ (v : ℕ). words (length more) v t.ending) b ∙ ap (λ (x : Ending). words (length more) (events_in more ls) x) d
told n bundle Breaks t h = cc
told n bundle Unfinished t h = cc

-- a step that was made at once is counted as one without events
pub counted_at_once : (bundle : List Item) (c d : Configuration) → outcome_of (Went []) d ≡ answered_step (named bundle) c → IsCounted bundle c d (record { events = 0; ending = None })
counted_at_once bundle c d is = record { end = Went []; is = is; counts = refl }

pub ruleset at_once = (counted_at_once)
