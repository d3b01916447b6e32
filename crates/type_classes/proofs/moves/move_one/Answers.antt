use Rattle.std.proofs.Common.{arith, ◌<◌, ℕ, List, length, sym, subst}
use Rattle.std.specs.Prelude.{slice_set}
use Rattle.mu_types.specs.Rows.{lists}
use Rattle.type_classes.specs.Blocks.{Listed}
use Rattle.type_classes.proofs.RowLemmas.{length-lists}
use Rattle.type_classes.proofs.BlockLemmas.{listed_more}
use Rattle.type_classes.proofs.moves.move_one.Goals as goal

pub returns-in_ok-push_to-clause-listed : goal.returns-in_ok-push_to-clause-listed
returns-in_ok-push_to-clause-listed c =
    let x = c.args.x in
    let to = c.args.to in
    let lm : to < length (lists c.args.members.now) = omega (arith, length-lists c.args.members.now, c.requires.to) in
    λ h. subst (λ (b : List ℕ). Listed b (lists c.push_to.new.rows)) (sym c.put.ensures) (subst (λ (m : List (List ℕ)). Listed (slice_set c.args.block.now x to) m) (sym c.in_ok-push_to.ensures.added) (listed_more c.args.block.now (lists c.args.members.now) x to c.requires.x lm h))
