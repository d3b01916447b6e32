use Rattle.std.proofs.Common.{ℕ, List, ◌++◌, sym, ap, ◌∙◌}
use Rattle.ir_print.specs.Words.{spaced, global_words}
use Rattle.ir_print.specs.Lemmas.Texts.{texts}
use Rattle.ir_print.proofs.lists.more_names.Goals as goal

pub returns : goal.returns
returns c = c.in_ok-each_name.ensures ∙ ap (λ (l : List ℕ). c.args.out.now.items ++ l) (sym (texts (global_words spaced) c.args.names.now))
