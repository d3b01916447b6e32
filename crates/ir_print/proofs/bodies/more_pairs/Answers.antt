use Rattle.std.proofs.Common.{ℕ, List, ◌++◌, sym, ap, ◌∙◌}
use Rattle.ir_print.specs.Words.{spaced}
use Rattle.ir_print.specs.Bodies.{pair_words}
use Rattle.ir_print.specs.Lemmas.Texts.{texts}
use Rattle.ir_print.proofs.bodies.more_pairs.Goals as goal

pub returns : goal.returns
returns c = c.in_ok-each_pair.ensures ∙ ap (λ (l : List ℕ). c.args.out.now.items ++ l) (sym (texts (pair_words spaced) c.args.parameters.now))
