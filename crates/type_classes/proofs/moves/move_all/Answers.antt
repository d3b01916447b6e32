use Rattle.std.proofs.Common.{arith, ◌≡◌, ◌<◌, ℕ, length, sym, ◌∙◌, subst, ap, List, refl, ◌+◌}
use Rattle.std.specs.Prelude.{slice_index}
use Rattle.type_classes.specs.Blocks.{HaveMoved, OthersStay}
use Rattle.type_classes.proofs.BlockLemmas.{moved_more, others_more, goal_at}
use Rattle.type_classes.proofs.moves.move_all.Goals as goal

pub move_one-requires-clause-to : goal.move_one-requires-clause-to
move_one-requires-clause-to c =
    let touched = c.args.touched.now in
    let target = c.args.target.now in
    let was = c.args.block.now in
    let i = c.loop-i.i in
    let t : c.at-to.result ≡ slice_index target (slice_index was (slice_index touched i)) = c.at-to.ensures ∙ (ap (λ (g : List ℕ). slice_index g i) c.deref.ensures.value ∙ goal_at c.goals_of.new.goals.items touched target was i c.loop-i-test.true c.in_ok-goals_of.ensures) in
    subst (λ n. c.at-to.result < n) (sym c.loop-i.invariant.rows) (subst (λ w. w < length c.args.members.now) (sym t) (c.requires.target (slice_index was (slice_index touched i))))

pub loop-i-preserved : goal.loop-i-preserved
loop-i-preserved c =
    let i = c.loop-i.i in
    let l = c.loop-i-test.true in
    let touched = c.args.touched.now in
    let target = c.args.target.now in
    let was = c.args.block.now in
    let x = slice_index touched i in
    let to = c.at-to.result in
    let t : to ≡ slice_index target (slice_index was x) = c.at-to.ensures ∙ (ap (λ (g : List ℕ). slice_index g i) c.deref.ensures.value ∙ goal_at c.goals_of.new.goals.items touched target was i l c.in_ok-goals_of.ensures) in
    let lx : x < length c.loop-i.block = omega (arith, c.requires.range i l) in
    let m = c.in_ok-move_one.ensures in
    record {
      rows = m.rows ∙ c.loop-i.invariant.rows;
      moved = subst (λ b. HaveMoved was touched target (i + 1) b) (sym m.moved) (moved_more was touched target c.loop-i.block i x to lx refl t c.loop-i.invariant.moved);
      rest = subst (λ b. OthersStay was touched (i + 1) b) (sym m.moved) (others_more was touched c.loop-i.block i x to refl c.loop-i.invariant.rest);
      listed = λ h. m.listed (c.loop-i.invariant.listed h);
    }
