use Rattle.std.proofs.Common.{refl}
use Rattle.std.proofs.lemmas.Bool.{not-true}
use Rattle.mem_axioms.specs.declared.types.Wanted.TheVariants.{Load}
use Rattle.mem_axioms.specs.Lemmas.Options.{choice-fits}
use Rattle.memory_tests.proofs.runs.Run.offered.Goals as goal

pub returns-then-not-chosen : goal.returns-then-not-chosen
returns-then-not-chosen g c =
    let memory = c.args.self.now.memory in
    let access = c.if-not-may_access.ensures in
    (choice-fits (g.M.Memory.rule memory) (g.M.Memory.objects memory) (g.M.Memory.log memory) c.args.thread c.args.cell (Load c.args.order) c.loop-n.n c.choose-chosen.result (access.thread refl) (access.cell refl) c.choose-chosen.ensures).0 (not-true c.choose-chosen.result.success c.if-not-chosen.true)
