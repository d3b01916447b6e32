use Rattle.std.proofs.Common.{arith, ◌≡◌, ◌<◌, length, sym, ◌∙◌, subst, inl, inr}
use Rattle.std.specs.Prelude.{slice_index}
use Rattle.std.proofs.lemmas.Bool.{cases_lt}
use Rattle.mu_types.specs.Rows.{lists, Holds}
use Rattle.type_classes.proofs.RowLemmas.{length-lists, pushed_kept, pushed_there}
use Rattle.type_classes.proofs.blocks.put_members.Goals as goal

pub loop-x-preserved : goal.loop-x-preserved
loop-x-preserved c =
    let x = c.loop-x.x in
    let v = c.loop-x.invariant in
    let m = c.in_ok-push_to.ensures in
    let old = lists c.loop-x.members in
    let new = lists c.push_to.new.rows in
    let i = slice_index c.args.block.now x in
    let low = c.requires.low x c.loop-x-test.true in
    let l : i < length old = omega (arith, low, v.len, length-lists c.loop-x.members) in
    record {
      len = m.len ∙ v.len;
      listed = λ u lu. elim (cases_lt u x) [
        | inl q ↦ pushed_kept old new i x m.added l (slice_index c.args.block.now u) u (v.listed u q)
        | inr q ↦ let s : u ≡ x = omega arith in subst (λ w. Holds new (slice_index c.args.block.now w) w) (sym s) (pushed_there old new i x m.added l)
      ];
    }
