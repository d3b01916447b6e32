use Rattle.std.proofs.Common.{sym, arith}
use Rattle.view_parts.specs.Lemmas.ValuesKept.{untouched-newest, history-newest, newest-few}
use Rattle.mem_views.proofs.view_memory.ViewMemory.newest.Goals as goal

pub newest-requires : goal.newest-requires
newest-requires c = let n = history-newest c.args.self.now.rule c.args.self.now.tape.events c.args.cell c.in-Some.kept.now (rw c.in-Some.is at c.requires.kept) in omega (arith, n)

pub returns-in-Some-clause-newest : goal.returns-in-Some-clause-newest
returns-in-Some-clause-newest c =
    let n = history-newest c.args.self.now.rule c.args.self.now.tape.events c.args.cell c.in-Some.kept.now (rw c.in-Some.is at c.requires.kept) in
    let r = c.newest.ensures.newest in
    omega (arith, n, r)

pub returns-in-Some-clause-few : goal.returns-in-Some-clause-few
returns-in-Some-clause-few c =
    let n = history-newest c.args.self.now.rule c.args.self.now.tape.events c.args.cell c.in-Some.kept.now (rw c.in-Some.is at c.requires.kept) in
    let r = c.newest.ensures.newest in
    let f = newest-few c.args.self.now.tape.events c.args.cell in
    omega (arith, n, r, f)

pub returns-in-None-clause-newest : goal.returns-in-None-clause-newest
returns-in-None-clause-newest c = sym (untouched-newest c.args.self.now.tape.events c.args.cell (rw c.in-None.is at c.requires.kept))
