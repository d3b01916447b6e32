-- Each moment of a run is well typed, so its log is sound and its step has a rule; and it stays in bounds.
use Rattle.std.proofs.Common.{subst, ap, sym, ◌∙◌}
use Rattle.std.specs.Prelude.{◌≡◌, ◌≢◌, ◌≤◌, ℕ, Option, Some, None, length, refl}
use Rattle.typed_heap.specs.Places.{with_some}
use Rattle.mu_model.specs.Configuration.{Configuration}
use Rattle.mu_model.specs.Acts.{Program}
use Rattle.mu_model.specs.Outcomes.{Outcome, Stuck}
use Rattle.mu_model.specs.Programs.{named}
use Rattle.mu_model.specs.Step.{step}
use Rattle.mu_model.specs.Run.{Setting, client_answers, begins_in, first_configuration}
use Rattle.model_laws.specs.Places.{Places}
use Rattle.model_laws.specs.Programs.{IsTyped}
use Rattle.model_laws.specs.WellTyped.{WellTyped, Settles}
use Rattle.model_laws.specs.Bounds.{InBounds}
use Rattle.model_laws.specs.Lemmas.Bounded.{first_in_bounds, steps_in_bounds, runs_small}
use Rattle.model_laws.specs.Lemmas.Proved.{first_well, clients_settle, one_owner, meets, race_free, reads_offered}
use Rattle.typed_programs.specs.PlacesOf.{places_of}
use Rattle.typed_programs.specs.Lemmas.Running.{accepted_is_typed}
use Rattle.text_programs.specs.Moments.{Reaches, here, onward, IsSoundMoment, MomentsOfTextsAreSound, EndingsOfTextsAreSound, MomentsOfTextsAreSmall}
use Rattle.text_programs.specs.Lemmas.Texts.{read_have_blocks}
use Rattle.text_programs.specs.Lemmas.Entered.{nothing_is_taken}
use Rattle.text_programs.specs.Lemmas.Endings.{ends_soundly}
use Rattle.text_programs.specs.Lemmas.Offers.{offers_exactly}

module _ (p : Program) (t : Places) (typed : IsTyped p t) where
  pub stays_typed : (c d : Configuration) → WellTyped p t c → Reaches p c d → WellTyped p t d
  stays_typed c d well here = well
  stays_typed c d well (onward {d = m} far e) = subst (Settles p t) e (clients_settle p t m typed (stays_typed c m well far))

  pub stays_in_bounds : (n : ℕ) (c d : Configuration) → WellTyped p t c → InBounds n c → Reaches p c d → InBounds n d × (d.budget ≡ c.budget)
  stays_in_bounds n c d well bounds here = (bounds, refl)
  stays_in_bounds n c d well bounds (onward {d = m} far e) =
      let before = stays_in_bounds n c m well bounds far in
      let one = steps_in_bounds p t m d n typed (stays_typed c m well far) e in
      (one.bounds before.0, one.budget ∙ before.1)

  not_stuck : (o : Outcome) → Settles p t o → o ≢ Stuck
  not_stuck o h e = subst (Settles p t) e h

  sound : (c : Configuration) → WellTyped p t c → IsSoundMoment p c
  sound c well = record {
    log = record { axioms = meets p t c well; race_free = race_free p t c well; reads = reads_offered p t c well };
    offers = offers_exactly p c (meets p t c well);
    owners = one_owner p t c well;
    rule = not_stuck (client_answers p c.client (step p c)) (clients_settle p t c typed well);
    ending = ends_soundly p t c well;
  }

pub moments_are_sound : MomentsOfTextsAreSound
moments_are_sound bytes bundle read names checked s name n fits entered c d first far =
    let p = named bundle in
    let typed = accepted_is_typed bundle names checked (read_have_blocks bytes bundle read) in
    let well = first_well p (places_of bundle) s n c typed fits.globals fits.objects fits.client (nothing_is_taken bundle name n entered) first in
    sound p (places_of bundle) typed d (stays_typed p (places_of bundle) typed c d well far)

pub endings_are_sound : EndingsOfTextsAreSound
endings_are_sound bytes bundle read names checked s name n fits entered c d first far = (moments_are_sound bytes bundle read names checked s name n fits entered c d first far).ending

-- a run begins with its budget
pub first_budget : (p : Program) (s : Setting) (f : ℕ) (c : Configuration) → first_configuration p s f ≡ Some c → c.budget ≡ s.budget
first_budget p s f c first = by (p.body f) first
  where
    by : (o : Option (Option ℕ)) → with_some {B = Configuration} o (λ b. with_some {B = Configuration} b (λ block. Some (begins_in p s f block))) ≡ Some c → c.budget ≡ s.budget
    by None e = cc
    by (Some None) e = cc
    by (Some (Some block)) e = let same : begins_in p s f block ≡ c = cc in sym (ap (λ (c : Configuration). c.budget) same)

pub moments_are_small : MomentsOfTextsAreSmall
moments_are_small bytes bundle read names checked s name n fits entered c d million room first far =
    let p = named bundle in
    let t = places_of bundle in
    let typed = accepted_is_typed bundle names checked (read_have_blocks bytes bundle read) in
    let well = first_well p t s n c typed fits.globals fits.objects fits.client (nothing_is_taken bundle name n entered) first in
    let bounds = stays_in_bounds p t typed (length s.objects) c d well (first_in_bounds p s n c first) far in
    let most : d.budget ≤ 1000000 = subst (λ b. b ≤ 1000000) (sym (bounds.1 ∙ first_budget p s n c first)) million in
    runs_small p t d (length s.objects) (stays_typed p t typed c d well far) bounds.0 most room
