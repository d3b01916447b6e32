use Rattle.std.proofs.Common.{◌≡◌, ◌∙◌, ap, Some}
use Rattle.mu_command.specs.declared.job.Job.TheVariants.{Trial}
use Rattle.mu_command.specs.Job.{job_of}
use Rattle.mu_command.proofs.Together.{trial_is_found}
use Rattle.mu_command.proofs.finding.find_job.Goals as goal

pub returns-in-Trial-clause-found : goal.returns-in-Trial-clause-found
returns-in-Trial-clause-found g c =
    let job : job_of c.args.words.now ≡ Some (Trial c.in-Trial.n) = c.requires.job ∙ ap Some c.in-Trial.is in
    trial_is_found _ c.args.words.now c.in-Trial.n c.find_trial.result job c.find_trial.ensures.found
