use Rattle.std.proofs.Common.{ℕ, List, ◌++◌, sym, ap, ◌∙◌}
use Rattle.ir_print.specs.Words.{spaced}
use Rattle.ir_print.specs.Lists.{value_words}
use Rattle.ir_print.specs.Lemmas.Texts.{texts}
use Rattle.ir_print.proofs.lists.more_operands.Goals as goal

pub returns : goal.returns
returns c = c.in_ok-each_operand.ensures ∙ ap (λ (l : List ℕ). c.args.out.now.items ++ l) (sym (texts (value_words spaced) c.args.operands.now))
