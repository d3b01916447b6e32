use Rattle.std.proofs.lemmas.List.{get_or-replicate}
use Rattle.clocks.proofs.clock.Clock.below.Goals as goal

pub returns : goal.returns
returns c u l = get_or-replicate 64 u c.args.number 0 l
