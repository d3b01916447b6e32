use Rattle.mu_command.specs.Lemmas.Accepting.{accepted_cause}
use Rattle.mu_command.specs.Lemmas.Causes.{read_fault_cause, refused_cause, too_long_cause}
use Rattle.mu_command.specs.Lemmas.Completeness.{complete}
use Rattle.mu_command.proofs.Verdicts.{verdict_cause}
use Rattle.std.proofs.Common.{◌∙◌, sym, subst}
use Rattle.mu_command.specs.Job.{job_of}
use Rattle.mu_command.specs.Written.{IsWhole}
use Rattle.mu_command.proofs.Statuses.{usage_has_no_job, usage_whole}
use Rattle.mu_command.proofs.AutoClient.{auto_goes_on}
use Rattle.mu_command.proofs.Moments.{of_sound}
use Rattle.mu_command.specs.Central.{AutoGoesOn, HasSoundLog, HasOneOwner, IsNotStuck}
use Rattle.text_programs.specs.Moments.{EndsSoundly}
use Rattle.text_programs.specs.Offers.{OffersExactly}
use Rattle.mu_command.proofs.program.mu.Goals as goal

pub returns-clause-refused : goal.returns-clause-refused
returns-clause-refused g c = λ s. refused_cause _ _ _ _ _ _ _ c.answer.ensures.answered s

pub returns-clause-complete : goal.returns-clause-complete
returns-clause-complete g c = λ files told quiet. complete _ files _ _ _ _ _ _ c.answer.ensures.answered told quiet

pub returns-clause-accepted : goal.returns-clause-accepted
returns-clause-accepted g c = λ s. accepted_cause _ _ _ _ _ _ _ c.answer.ensures.answered s

pub returns-clause-no : goal.returns-clause-no
returns-clause-no g c = λ s. verdict_cause _ _ _ _ _ _ _ c.answer.ensures.answered s

pub returns-clause-sound_logs : goal.returns-clause-sound_logs
returns-clause-sound_logs g c = of_sound HasSoundLog (λ p c m. m.log) c.args.words.now (c.runs_are_sound.ensures c.args.words.now)

pub returns-clause-offered : goal.returns-clause-offered
returns-clause-offered g c = of_sound OffersExactly (λ p c m. m.offers) c.args.words.now (c.runs_are_sound.ensures c.args.words.now)

pub returns-clause-one_owner : goal.returns-clause-one_owner
returns-clause-one_owner g c = of_sound HasOneOwner (λ p c m. m.owners) c.args.words.now (c.runs_are_sound.ensures c.args.words.now)

pub returns-clause-never_stuck : goal.returns-clause-never_stuck
returns-clause-never_stuck g c = of_sound IsNotStuck (λ p c m. m.rule) c.args.words.now (c.runs_are_sound.ensures c.args.words.now)

pub returns-clause-sound_endings : goal.returns-clause-sound_endings
returns-clause-sound_endings g c = of_sound EndsSoundly (λ p c m. m.ending) c.args.words.now (c.runs_are_sound.ensures c.args.words.now)

pub returns-clause-too_long : goal.returns-clause-too_long
returns-clause-too_long g c = λ s. too_long_cause _ _ _ _ _ _ _ c.answer.ensures.answered s

pub returns-clause-read_fault : goal.returns-clause-read_fault
returns-clause-read_fault g c = λ s. read_fault_cause _ _ _ _ _ _ _ c.answer.ensures.answered s

pub returns-clause-auto_goes_on : goal.returns-clause-auto_goes_on
returns-clause-auto_goes_on g c = of_sound AutoGoesOn (λ p c m. auto_goes_on p c m.rule) c.args.words.now (c.runs_are_sound.ensures c.args.words.now)

pub returns-clause-ends : goal.returns-clause-ends
returns-clause-ends g c = c.runs_have_their_endings.ensures c.args.words.now

pub returns-clause-usage_only : goal.returns-clause-usage_only
returns-clause-usage_only g c = λ s.
    let a = c.answer.ensures.answered in
    usage_has_no_job c.args.words.now (job_of c.args.words.now) a.outcomes (sym (a.writes.status_of (subst IsWhole (sym s) usage_whole)) ∙ s)
