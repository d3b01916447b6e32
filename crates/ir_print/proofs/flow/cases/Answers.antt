use Rattle.std.proofs.Common.{ℕ, List, ◌++◌, sym, ap, ◌∙◌}
use Rattle.ir_print.specs.Words.{spaced}
use Rattle.ir_print.specs.Control.{switch_case_words}
use Rattle.ir_print.specs.Lemmas.Texts.{texts}
use Rattle.ir_print.proofs.flow.cases.Goals as goal

pub returns : goal.returns
returns c = c.in_ok-each_case.ensures ∙ ap (λ (l : List ℕ). c.args.out.now.items ++ l) (sym (texts (switch_case_words spaced) c.args.cases.now))
