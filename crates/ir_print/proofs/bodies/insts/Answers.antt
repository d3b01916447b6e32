use Rattle.std.proofs.Common.{ℕ, List, ◌++◌, sym, ap, ◌∙◌}
use Rattle.ir_print.specs.Words.{indented}
use Rattle.ir_print.specs.Instructions.{inst_words}
use Rattle.ir_print.specs.Lemmas.Texts.{texts}
use Rattle.ir_print.proofs.bodies.insts.Goals as goal

pub returns : goal.returns
returns c = c.in_ok-each_inst.ensures ∙ ap (λ (l : List ℕ). c.args.out.now.items ++ l) (sym (texts (inst_words indented) c.args.insts.now))
