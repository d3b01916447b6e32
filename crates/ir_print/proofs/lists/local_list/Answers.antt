use Rattle.std.proofs.Common.{ℕ, List, ◌++◌, sym, ap, ◌∙◌}
use Rattle.ir_print.specs.Lemmas.Texts.{local_list_text}
use Rattle.ir_print.proofs.lists.local_list.Goals as goal

pub returns : goal.returns
returns c = c.in_ok-global_list.ensures ∙ ap (λ (l : List ℕ). c.args.out.now.items ++ l) (sym (local_list_text c.args.space.now c.args.list.now))
