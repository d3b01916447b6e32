use Rattle.std.proofs.Common.{arith}
use Rattle.mem_axioms.specs.Objects.{initial_of}
use Rattle.mem_axioms.specs.declared.types.Wanted.TheVariants.{Swap}
use Rattle.mem_axioms.specs.Lemmas.Offers.{count-swap}
use Rattle.mem_axioms.specs.Lemmas.Options.{choice-stands}
use Rattle.memory_tests.proofs.runs.Run.newest_position.Goals as goal

pub choose-requires-clause-n : goal.choose-requires-clause-n
choose-requires-clause-n g c =
    let memory = c.args.self.now.memory in
    omega (arith, count-swap (g.M.Memory.rule memory) (initial_of (g.M.Memory.objects memory)) (g.M.Memory.log memory) c.args.thread c.args.cell)

pub returns : goal.returns
returns g c =
    let memory = c.args.self.now.memory in
    let stands = choice-stands (g.M.Memory.rule memory) (initial_of (g.M.Memory.objects memory)) (g.M.Memory.log memory) c.args.thread c.args.cell Swap 0 c.choose.result c.choose.ensures in
    stands.success stands.certain
