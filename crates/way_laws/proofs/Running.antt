-- Each moment of a run by a way that fits is well typed, so its step has a rule and its log is sound; and the run ends.
use Rattle.std.specs.Prelude.{◌≡◌, ◌≢◌, ◌-◌, ◌<◌, ℕ, zero, suc, List, Option, Some, None, IsSome, reverse, refl}
use Rattle.std.proofs.Common.{arith, subst}
use Rattle.mu_model.specs.declared.lines.Line.{Line}
use Rattle.mu_model.specs.Acts.{Program}
use Rattle.mu_model.specs.Configuration.{Configuration}
use Rattle.mu_model.specs.Outcomes.{Outcome, Next, End, Asks, Stuck}
use Rattle.mu_model.specs.Programs.{named}
use Rattle.mu_model.specs.Run.{Run, Ends, Breaks, Unfinished, behind, first_configuration, goes_on}
use Rattle.mu_model.specs.Step.{step}
use Rattle.model_laws.specs.Bounds.{HasEnding}
use Rattle.model_laws.specs.Places.{Places}
use Rattle.model_laws.specs.Programs.{IsTyped}
use Rattle.model_laws.specs.WellTyped.{WellTyped, Settles}
use Rattle.model_laws.specs.Lemmas.Proved.{first_well, meets, one_owner, race_free, reads_offered}
use Rattle.typed_programs.specs.PlacesOf.{places_of}
use Rattle.typed_programs.specs.Lemmas.Running.{accepted_is_typed}
use Rattle.text_programs.specs.Lemmas.Offers.{offers_exactly}
use Rattle.text_programs.specs.Lemmas.Texts.{read_have_blocks}
use Rattle.text_programs.specs.Lemmas.Entered.{entered_runs_have_an_ending, nothing_is_taken}
use Rattle.client_hooks.specs.Ways.{Way, client_answers_by}
use Rattle.way_laws.specs.Runs.{WayFits, IsSoundMomentBy, ReachesBy, here, onward, run_by, run_from_by}
use Rattle.way_laws.specs.Laws.{MomentsByWaysAreSound, RunsByWaysAreNeverStuck, RunsByWaysEnd}
use Rattle.way_laws.proofs.Ending.{ends_soundly}
use Rattle.way_laws.proofs.Settling.{settles, step_counts}

ending_behind : (ls : List Line) (r : Run) → HasEnding r → HasEnding (behind ls r)
ending_behind ls (Ends steps lines e) h = tt
ending_behind ls Breaks h = absurd h
ending_behind ls Unfinished h = absurd h

module _ (how : Way) (p : Program) (t : Places) (typed : IsTyped p t) (fits : WayFits p.tables how) where
  stays_typed : (c d : Configuration) → WellTyped p t c → ReachesBy how p c d → WellTyped p t d
  stays_typed c d well here = well
  stays_typed c d well (onward {d = m} far e) = subst (Settles p t) e (settles how p t typed fits m (stays_typed c m well far))

  settled_goes : (o : Outcome) → Settles p t o → o ≢ Stuck
  settled_goes o h e = subst (Settles p t) e h

  sound : (c : Configuration) → WellTyped p t c → IsSoundMomentBy how p c
  sound c well = record {
    log = record { axioms = meets p t c well; race_free = race_free p t c well; reads = reads_offered p t c well };
    offers = offers_exactly p c (meets p t c well);
    owners = one_owner p t c well;
    rule = settled_goes (client_answers_by how p c.client (step p c)) (settles how p t typed fits c well);
    ending = ends_soundly how p t c well;
  }

  runs_end : (n : ℕ) (c : Configuration) → WellTyped p t c → c.budget - c.steps < n → HasEnding (run_by how p n c)
  runs_end zero c h l = absurd (omega (arith, l))
  runs_end (suc n) c h l =
      by (client_answers_by how p c.client (step p c)) (settles how p t typed fits c h) (λ d q k. (let s = step_counts how p t c d h q in runs_end n d k (omega (arith, l, s.steps, s.budget, h.steps, k.steps))))
    where
      by : (o : Outcome) → Settles p t o → ((d : Configuration) → o ≡ Next d → WellTyped p t d → HasEnding (run_by how p n d)) → HasEnding (goes_on (run_by how p n) o)
      by (Next d) k rest = ending_behind (reverse d.lines) (run_by how p n d) (rest d refl k)
      by (End ls e) k rest = tt
      by (Asks view go) k rest = absurd k
      by Stuck k rest = absurd k

  from_first : (o : Option Configuration) → IsSome o → ((c : Configuration) → o ≡ Some c → WellTyped p t c) → HasEnding (run_from_by how p o)
  from_first None there well = cc
  from_first (Some c) there well = runs_end (suc c.budget) c (well c refl) (omega arith)

pub moments_are_sound : MomentsByWaysAreSound
moments_are_sound bytes bundle read names checked how s name n way fits entered c d first far =
    let p = named bundle in
    let t = places_of bundle in
    let typed = accepted_is_typed bundle names checked (read_have_blocks bytes bundle read) in
    let well = first_well p t s n c typed fits.globals fits.objects fits.client (nothing_is_taken bundle name n entered) first in
    sound how p t typed way d (stays_typed how p t typed way c d well far)

pub never_stuck : RunsByWaysAreNeverStuck
never_stuck bytes bundle read names checked how s name n way fits entered c d first far =
    (moments_are_sound bytes bundle read names checked how s name n way fits entered c d first far).rule

pub begins_and_ends : RunsByWaysEnd
begins_and_ends bytes bundle read names checked how s name n way fits entered =
    let p = named bundle in
    let t = places_of bundle in
    let typed = accepted_is_typed bundle names checked (read_have_blocks bytes bundle read) in
    let begins = (entered_runs_have_an_ending bytes bundle read names checked s name n fits entered).0 in
    (begins, from_first how p t typed way (first_configuration p s n) begins (λ c first. first_well p t s n c typed fits.globals fits.objects fits.client (nothing_is_taken bundle name n entered) first))
