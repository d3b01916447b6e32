use Rattle.std.proofs.Common.{◌≡◌, suc, arith}
use Rattle.mem_views.specs.Placing.{place_in}
use Rattle.mem_views.proofs.view_memory.ViewMemory.views_at.Goals as goal

pub index-requires : goal.index-requires
index-requires c = let there = rw c.in-Some.is at c.requires.there in omega (arith, there)

pub returns-in-Some-clause-views : goal.returns-in-Some-clause-views
returns-in-Some-clause-views c cell found =
    let memory = c.args.self.now in
    let number = rw c.in-Some.is at found in
    let at : place_in memory.places.objects.items cell ≡ suc c.in-Some.place = omega (arith, number) in
    let there = rw c.in-Some.is at c.requires.there in
    rw c.index.ensures (memory.cells_hold.touched cell c.in-Some.place c.index.result.now at there)

pub returns-in-Some-clause-clocks : goal.returns-in-Some-clause-clocks
returns-in-Some-clause-clocks c cell found =
    let memory = c.args.self.now in
    let number = rw c.in-Some.is at found in
    let at : place_in memory.places.objects.items cell ≡ suc c.in-Some.place = omega (arith, number) in
    let there = rw c.in-Some.is at c.requires.there in
    rw c.index.ensures (memory.cells_hold.clocked cell c.in-Some.place c.index.result.now at there)

pub returns-in-None-clause-views : goal.returns-in-None-clause-views
returns-in-None-clause-views c cell found = c.args.self.now.cells_hold.untouched cell (rw c.in-None.is at found)
