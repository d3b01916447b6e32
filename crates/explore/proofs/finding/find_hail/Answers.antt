use Rattle.std.proofs.lemmas.Result.{err_from_is_err_and}
use Rattle.mu_texts.specs.declared.what.What.TheVariants.{Hail}
use Rattle.mu_texts.specs.Answer.{loaded}
use Rattle.mu_command.specs.Lemmas.Files.{not_loaded}
use Rattle.explore.proofs.Files.{filled_no_more, was_filled_by}
use Rattle.explore.proofs.finding.find_hail.Goals as goal

pub returns-in_err-hail-clause-filled : goal.returns-in_err-hail-clause-filled
returns-in_err-hail-clause-filled g c =
    let p = err_from_is_err_and c.from_residual.result c.from_residual.ensures.1 in
    rw (p.1, p.2) (not_loaded _ c.args.words.now Hail c.args.run.hail (loaded c.args.code.now c.args.run.cells) _ c.in_err-hail.ensures.loaded)

pub returns-in_err-heap-clause-filled : goal.returns-in_err-heap-clause-filled
returns-in_err-heap-clause-filled g c =
    let p = err_from_is_err_and c.from_residual-in_err-heap.result c.from_residual-in_err-heap.ensures.1 in
    rw (p.1, p.2) (filled_no_more _ c.args.words.now c.args.run c.args.code.now c.in_ok-hail.hail _ c.in_ok-hail.ensures.loaded c.deref.ensures.value _ c.in_err-heap.ensures.asked)

pub returns-clause-filled : goal.returns-clause-filled
returns-clause-filled g c =
    was_filled_by _ c.args.words.now c.args.run c.args.code.now c.in_ok-hail.hail _ c.in_ok-hail.ensures.loaded c.deref.ensures.value c.in_ok-heap.heap c.in_ok-finals.finals c.in_ok-heap.ensures.asked c.in_ok-finals.ensures
