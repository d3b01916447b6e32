use Rattle.std.proofs.Common.{ℕ, List, ◌++◌, sym, ap, ◌∙◌}
use Rattle.ir_print.specs.Words.{on_new_line}
use Rattle.ir_print.specs.Bodies.{block_words}
use Rattle.ir_print.specs.Lemmas.Texts.{texts}
use Rattle.ir_print.proofs.bodies.blocks.Goals as goal

pub returns : goal.returns
returns c = c.in_ok-each_block.ensures ∙ ap (λ (l : List ℕ). c.args.out.now.items ++ l) (sym (texts (block_words on_new_line) c.args.blocks.now))
