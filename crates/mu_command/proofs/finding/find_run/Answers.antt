use Rattle.std.proofs.Common.{◌≡◌, ℕ, refl, sym, subst, arith}
use Rattle.mu_texts.specs.declared.what.What.TheVariants.{Bundle, Hail, Client, Schedule}
use Rattle.mu_command.specs.Lemmas.Beginnings.{earlier, later}
use Rattle.mu_command.proofs.Together.{not_begun, run_found}
use Rattle.mu_command.proofs.finding.find_run.Goals as goal

pub returns-in-Ok-find_start-clause-found : goal.returns-in-Ok-find_start-clause-found
returns-in-Ok-find_start-clause-found g c =
    run_found _ c.args.words.now c.args.run c.requires.job _ _ c.in-Ok.code
    (earlier _ _ _ _ _ Bundle refl (λ s e. rw (← e) c.in-Ok-find_start.ensures.bundle_slot))
    (later _ _ _ _ _ Hail c.find_code.ensures.same (λ s e. c.find_code.ensures.other_slots s (λ k. cc)))
    (later _ _ _ _ _ Client c.find_code.ensures.same (λ s e. c.find_code.ensures.other_slots s (λ k. cc)))
    (later _ _ _ _ _ Schedule c.find_code.ensures.same (λ s e. c.find_code.ensures.other_slots s (λ k. cc)))
    c.in-Ok.ensures.judged c.in-Ok-find_start.start c.in-Ok-find_start.ensures.begun

pub returns-in-Err-find_start-clause-found : goal.returns-in-Err-find_start-clause-found
returns-in-Err-find_start-clause-found g c =
    not_begun _ c.args.words.now c.args.run c.requires.job _ _ c.in-Ok.code
    (earlier _ _ _ _ _ Bundle refl (λ s e. rw (← e) c.in-Err-find_start.ensures.bundle_slot))
    (later _ _ _ _ _ Hail c.find_code.ensures.same (λ s e. c.find_code.ensures.other_slots s (λ k. cc)))
    (later _ _ _ _ _ Client c.find_code.ensures.same (λ s e. c.find_code.ensures.other_slots s (λ k. cc)))
    (later _ _ _ _ _ Schedule c.find_code.ensures.same (λ s e. c.find_code.ensures.other_slots s (λ k. cc)))
    c.in-Ok.ensures.judged c.in-Err-find_start.stop c.in-Err-find_start.ensures.begun
