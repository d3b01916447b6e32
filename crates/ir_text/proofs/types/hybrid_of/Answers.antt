use Rattle.ir_text.proofs.Hybrids.{is_hybrid}
use Rattle.ir_text.proofs.types.hybrid_of.Goals as goal

pub returns : goal.returns
returns c = is_hybrid c.args.names c.pop.new.self c.in-Some.element c.in-Some.ensures.some
