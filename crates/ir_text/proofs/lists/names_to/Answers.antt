use Rattle.ir_text.proofs.Fronts.{front-nothing}
use Rattle.ir_text.proofs.lists.names_to.Goals as goal

pub returns : goal.returns
returns c = rw (c.new.ensures, front-nothing) at c.names.ensures
