use Rattle.std.proofs.Common.{◌≡◌, ℕ, List, Ok, Err, refl, subst, ◌∙◌}
use Rattle.std.specs.Prelude.{Result}
use Rattle.ir_tree.specs.declared.items.Item.{Item}
use Rattle.trial_text.specs.Trial.{trial_text}
use Rattle.mu_texts.specs.declared.ready.Ready.{Ready}
use Rattle.mu_texts.specs.declared.ready.Ready.TheVariants.{Entered}
use Rattle.mu_texts.specs.declared.ready.Telling.TheVariants.{Counts}
use Rattle.mu_texts.specs.declared.stop.Stop.{Stop}
use Rattle.mu_texts.specs.Start.{Started}
use Rattle.mu_texts.specs.Answer.{Part, ◌>>=◌, accepted}
use Rattle.mu_texts.specs.Comes.{Comes}
use Rattle.mu_command.specs.Answer.{trial_begun, trial_found}
use Rattle.mu_command.specs.Lemmas.Trials.{comes_early, comes_behind}
use Rattle.mu_command.proofs.made.find_trial.Goals as goal

abbrev begins_with : ℕ → List Item → Started → Part Ready
begins_with n code start = Ok (Entered code start (Counts n))

abbrev goes_on : ℕ → List Item → Part Ready
goes_on n code = trial_begun code >>= begins_with n code

-- by the text that was made
refused_text : (n : ℕ) (text items : List ℕ) (stop : Stop) → text ≡ items → items ≡ trial_text n → Comes {A = List Item} (accepted text) (Err stop) → Comes {A = Ready} (trial_found n) (Err stop)
refused_text n text items stop e f h = comes_early (accepted (trial_text n)) (goes_on n) stop (subst (λ (b : List ℕ). Comes {A = List Item} (accepted b) (Err stop)) (e ∙ f) h)

begun_so : (n : ℕ) (text items : List ℕ) (code : List Item) (r : Result Ready Stop) → text ≡ items → items ≡ trial_text n → Comes {A = List Item} (accepted text) (Ok code) → Comes (goes_on n code) r → Comes (trial_found n) r
begun_so n text items code r e f h more =
    comes_behind (accepted (trial_text n)) (goes_on n) code r (subst (λ (b : List ℕ). Comes {A = List Item} (accepted b) (Ok code)) (e ∙ f) h) more

pub returns-clause-found : goal.returns-clause-found
returns-clause-found c = refused_text c.args.n _ _ c.in-Err.stop c.deref.ensures.value c.in_ok-text.ensures c.in-Err.ensures.asked

pub returns-in-Ok-start_trial-clause-found : goal.returns-in-Ok-start_trial-clause-found
returns-in-Ok-start_trial-clause-found c =
    begun_so c.args.n _ _ c.in-Ok.code (Ok (Entered c.in-Ok.code c.in-Ok-start_trial.start (Counts c.args.n))) c.deref.ensures.value c.in_ok-text.ensures c.in-Ok.ensures.asked
    (comes_behind (trial_begun c.in-Ok.code) (begins_with c.args.n c.in-Ok.code) c.in-Ok-start_trial.start (Ok (Entered c.in-Ok.code c.in-Ok-start_trial.start (Counts c.args.n))) c.in-Ok-start_trial.ensures.begun refl)

pub returns-in-Ok-clause-found : goal.returns-in-Ok-clause-found
returns-in-Ok-clause-found c =
    begun_so c.args.n _ _ c.in-Ok.code (Err c.in-Err-start_trial.stop) c.deref.ensures.value c.in_ok-text.ensures c.in-Ok.ensures.asked
    (comes_early (trial_begun c.in-Ok.code) (begins_with c.args.n c.in-Ok.code) c.in-Err-start_trial.stop c.in-Err-start_trial.ensures.begun)
