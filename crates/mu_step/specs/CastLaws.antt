-- Laws of a cast that was good before, and of the objects over a step.
use Rattle.std.specs.Prelude.{◌≡◌, ◌≢◌, ℕ, Bool, true, false, List, [], ◌∷◌, Option, Some, Result, Ok, Err, IfOk, OnErr, refl}
use Rattle.std.proofs.Common.{sym, ◌∙◌, ap, subst, inl, inr}
use Rattle.ir_tree.specs.declared.items.Item.{Item}
use Rattle.mu_values.specs.declared.scalars.Scalar.{Scalar}
use Rattle.checked_code.specs.Checking.{bundle_tables}
use Rattle.typed_heap.specs.Objects.{HeapObject}
use Rattle.typed_heap.specs.declared.faults.PlaceFault.TheVariants as faults
use Rattle.mu_model.specs.declared.endings.StepEnd.{StepEnd}
use Rattle.mu_model.specs.declared.endings.StepEnd.TheVariants.{Went, Ended}
use Rattle.mu_model.specs.declared.endings.Case.TheVariants as cases
use Rattle.mu_model.specs.declared.lines.Line.{Line}
use Rattle.mu_model.specs.Acts.{Casts, Faults, Gives, Program}
use Rattle.mu_model.specs.Clients.{Client}
use Rattle.mu_model.specs.Configuration.{Configuration}
use Rattle.mu_model.specs.Outcomes.{Asks, End, Next, Outcome, Stuck}
use Rattle.mu_model.specs.Run.{with_client}
use Rattle.mu_model.specs.Step.{step}
use Rattle.mu_model.specs.Types.{class_definition}
use Rattle.model_numbers.specs.Numbered.{numbered}
use Rattle.client_hooks.specs.Ways.{Way, client_answers_by}
use Rattle.object_laws.specs.Leaves.{EachNext, IsGoodCast, KeepsLeaves}
use Rattle.object_laws.specs.Lemmas.Kept.{cast_answers, keeps_self}
use Rattle.object_laws.specs.Lemmas.Stepping.{steps_keep_leaves}
use Rattle.good_casts.specs.Good.{AreGood, stay_good}
use Rattle.run_state.specs.ActLaws.{refused_is}
use Rattle.run_state.specs.Acting.{acting, answers, told}
use Rattle.run_state.specs.Hand.{is_went}
use Rattle.run_state.specs.Held.{Held, configuration}
use Rattle.run_state.specs.Outcome.{Stays, outcome_of}
use Rattle.run_state.specs.StepLaws.{some_of}
use Rattle.object_acts.specs.ObjectLaws.{casts_is, casts_there}
use Rattle.good_casts.specs.declared.casts.GoodCast.{GoodCast}

-- ---- one cast

-- a cast that is good gives its reference
pub good_gives : (bundle : List Item) (s : Held) (class : ℕ) (x : Scalar) → acting bundle s (Casts class x) ≢ Stuck → IsGoodCast (bundle_tables bundle) s.objects class x
    → acting bundle s (Gives ((x ∷ []) ∷ [])) ≡ acting bundle s (Casts class x)
good_gives bundle s class x h good = sym (casts_is bundle s class x (Ok x) h good)

pub good_there : (bundle : List Item) (s : Held) (class : ℕ) (x : Scalar) → acting bundle s (Casts class x) ≢ Stuck → IsGoodCast (bundle_tables bundle) s.objects class x
    → acting bundle s (Gives ((x ∷ []) ∷ [])) ≢ Stuck
good_there bundle s class x h good = λ e. h (sym (good_gives bundle s class x h good) ∙ e)

pub good_answers : {E : Type 0} (bundle : List Item) (s t : Held) (class : ℕ) (x : Scalar) (r : Result StepEnd E) → acting bundle s (Casts class x) ≢ Stuck → IsGoodCast (bundle_tables bundle) s.objects class x
    → IfOk r (λ end. answers end t ≡ acting bundle s (Gives ((x ∷ []) ∷ []))) → IfOk r (λ end. answers end t ≡ acting bundle s (Casts class x))
good_answers bundle s t class x (Ok end) h good is = is ∙ good_gives bundle s class x h good
good_answers bundle s t class x (Err e) h good is = tt

-- one that is not ends the run
bad_ends : (bundle : List Item) (s t : Held) (class : ℕ) (x : Scalar) (ls : List Line) → acting bundle s (Casts class x) ≢ Stuck → answers (Went ls) t ≡ acting bundle s (Casts class x)
    → acting bundle s (Casts class x) ≡ acting bundle s (Faults cases.BadCast) → ⊥
unfolding answers
bad_ends bundle s t class x ls h went is =
    let over = refused_is bundle s cases.BadCast refl (λ e. h (is ∙ e)) in
    let both = went ∙ is ∙ over in
    cc

pub went_good : {E : Type 0} (bundle : List Item) (s t : Held) (class : ℕ) (x : Scalar) (r : Result StepEnd E) → acting bundle s (Casts class x) ≢ Stuck
    → IfOk r (λ end. answers end t ≡ acting bundle s (Casts class x)) → is_went r ≡ true → IsGoodCast (bundle_tables bundle) s.objects class x
went_good bundle s t class x (Ok (Went ls)) h went made =
    let p = bundle_tables bundle in
    let c = some_of _ (casts_there bundle s class x h) in
    elim (cast_answers p s.objects (class_definition p class) x c.0 c.1) [
      | inl good ↦ c.1 ∙ ap Some good
      | inr bad ↦ absurd (bad_ends bundle s t class x ls h went (casts_is bundle s class x (Err faults.BadCast) h (c.1 ∙ ap Some bad)))
    ]
went_good bundle s t class x (Ok (Ended ls e)) h went made = cc
went_good bundle s t class x (Err e) h went made = cc

pub ruleset casting = (good_there, good_answers, went_good)

-- ---- the objects over a step

abbrev Keeps : List HeapObject → Configuration → Type 0
Keeps os d = KeepsLeaves os d.objects

-- whatever the client answers
told_keeps : (os : List HeapObject) (how : Way) (p : Program) (k : Client) (o : Outcome) → EachNext (Keeps os) o → EachNext (Keeps os) (client_answers_by how p k o)
told_keeps os how p k (Next d) h = h
told_keeps os how p k (End ls e) h = tt
told_keeps os how p k (Asks view go) h = by (go (how.answer p.tables view k)) (h (how.answer p.tables view k))
  where
    by : (o : Outcome) → EachNext (Keeps os) o → EachNext (Keeps os) (with_client (how.past k) o)
    by (Next d) h = h
    by (End ls e) h = tt
    by (Asks view go) h = h
    by Stuck h = tt
told_keeps os how p k Stuck h = tt

went_keeps : (how : Way) (bundle : List Item) (k : Client) (c d : Configuration) (ls : List Line) → outcome_of (Went ls) d ≡ told how bundle k (step (numbered bundle) c) → KeepsLeaves c.objects d.objects
went_keeps how bundle k c d ls e = subst (EachNext (Keeps c.objects)) (sym e) (told_keeps c.objects how (numbered bundle) k (step (numbered bundle) c) (steps_keep_leaves (numbered bundle) c))

same_keeps : (c d : Configuration) → d ≡ c → KeepsLeaves c.objects d.objects
same_keeps c d e = subst (λ (d : Configuration). KeepsLeaves c.objects d.objects) (sym e) (keeps_self c.objects)

step_keeps : {E : Type 0} (how : Way) (bundle : List Item) (k : Client) (c d : Configuration) (r : Result StepEnd E) → IfOk r (λ end. outcome_of end d ≡ told how bundle k (step (numbered bundle) c)) → OnErr r (d ≡ c)
    → IfOk r (λ end. Stays end c d) → KeepsLeaves c.objects d.objects
step_keeps how bundle k c d (Ok (Went ls)) ok err stays = went_keeps how bundle k c d ls ok
step_keeps how bundle k c d (Ok (Ended ls e)) ok err stays = same_keeps c d stays
step_keeps how bundle k c d (Err e) ok err stays = same_keeps c d err

at_once_keeps : (how : Way) (bundle : List Item) (k : Client) (c d : Configuration) (made : Bool) → (made ≡ true → outcome_of (Went []) d ≡ told how bundle k (step (numbered bundle) c)) → (made ≡ false → d ≡ c) → KeepsLeaves c.objects d.objects
at_once_keeps how bundle k c d true is same = went_keeps how bundle k c d [] (is refl)
at_once_keeps how bundle k c d false is same = same_keeps c d (same refl)

-- ---- casts that stay good over it

pub good_then : {E : Type 0} (how : Way) (bundle : List Item) (k : Client) (s t : Held) (r : Result StepEnd E) (casts : List (Option GoodCast))
    → IfOk r (λ end. outcome_of end (configuration t) ≡ told how bundle k (step (numbered bundle) (configuration s))) → OnErr r (configuration t ≡ configuration s)
    → IfOk r (λ end. Stays end (configuration s) (configuration t)) → AreGood (bundle_tables bundle) s.objects casts → AreGood (bundle_tables bundle) t.objects casts
good_then how bundle k s t r casts ok err stays good = stay_good (bundle_tables bundle) s.objects t.objects casts (step_keeps how bundle k (configuration s) (configuration t) r ok err stays) good

pub good_at_once : (how : Way) (bundle : List Item) (k : Client) (s t : Held) (made : Bool) (casts : List (Option GoodCast))
    → (made ≡ true → outcome_of (Went []) (configuration t) ≡ told how bundle k (step (numbered bundle) (configuration s))) → (made ≡ false → configuration t ≡ configuration s)
    → AreGood (bundle_tables bundle) s.objects casts → AreGood (bundle_tables bundle) t.objects casts
good_at_once how bundle k s t made casts is same good =
    stay_good (bundle_tables bundle) s.objects t.objects casts (at_once_keeps how bundle k (configuration s) (configuration t) made is same) good

-- the same objects
pub good_same : (bundle : List Item) (s t : Held) (casts : List (Option GoodCast)) → configuration t ≡ configuration s → AreGood (bundle_tables bundle) s.objects casts → AreGood (bundle_tables bundle) t.objects casts
good_same bundle s t casts e good = subst (λ (c : Configuration). AreGood (bundle_tables bundle) c.objects casts) (sym e) good
