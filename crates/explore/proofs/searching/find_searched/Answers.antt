use Rattle.std.proofs.Common.{refl, arith}
use Rattle.std.proofs.lemmas.Result.{err_from_is_err_and}
use Rattle.mu_texts.specs.declared.what.What.TheVariants.{Bundle, Hail, Client, Schedule}
use Rattle.mu_command.specs.Lemmas.Beginnings.{earlier, later}
use Rattle.explore.specs.Conditions.{condition_slot}
use Rattle.explore.proofs.Together.{no_code, search_found}
use Rattle.explore.proofs.searching.find_searched.Goals as goal

pub find_code-requires : goal.find_code-requires
find_code-requires g c = c.requires.there.run.file

pub returns-in_err-code-clause-found : goal.returns-in_err-code-clause-found
returns-in_err-code-clause-found g c =
    let p = err_from_is_err_and c.from_residual.result c.from_residual.ensures.1 in
    rw (p.1, p.2) (no_code _ c.args.words.now c.args.asked c.requires.asked c.find_code.ensures.never_falls _ c.in_err-code.ensures.judged)

pub returns-clause-found : goal.returns-clause-found
returns-clause-found g c =
    search_found _ c.args.words.now c.args.asked c.requires.asked (λ s. let a = c.find_code.ensures.never_falls s in let b = c.search_code-made.ensures.never_falls s in omega (arith, a, b)) _ _ c.in_ok-code.code
    (earlier _ _ _ _ _ Bundle refl (λ s e. rw (← e) c.search_code-made.ensures.bundle_slot))
    (later _ _ _ _ _ Hail c.find_code.ensures.same (λ s e. c.find_code.ensures.other_slots s (λ k. cc)))
    (later _ _ _ _ _ Client c.find_code.ensures.same (λ s e. c.find_code.ensures.other_slots s (λ k. cc)))
    (later _ _ _ _ _ Schedule c.find_code.ensures.same (λ s e. c.find_code.ensures.other_slots s (λ k. cc)))
    c.find_code.ensures.same (c.find_code.ensures.other_slots condition_slot (λ k. cc)) refl c.in_ok-code.ensures.judged c.search_code-made.result c.search_code-made.ensures.made
