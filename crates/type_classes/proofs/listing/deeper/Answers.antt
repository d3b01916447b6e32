use Rattle.std.proofs.Common.{◌≡◌, ◌+◌, ◌∙◌, ap, arith, map, suc}
use Rattle.type_definitions.specs.Class.{class_of}
use Rattle.type_definitions.specs.Lemmas.Classes.{class_is}
use Rattle.type_definitions.specs.Leaves.{leaves_to}
use Rattle.mu_types.specs.Rows.{lists}
use Rattle.type_classes.proofs.Firsts.{there}
use Rattle.type_classes.proofs.Listings.{row_deeper}
use Rattle.type_classes.proofs.Pushes.{pushed_row}
use Rattle.type_classes.proofs.listing.deeper.Goals as goal

pub loop-x-preserved : goal.loop-x-preserved
loop-x-preserved c =
    let g = c.args.all.now in
    let n = c.loop-x.x in
    record {
      len = c.in_ok-push.ensures.len ∙ ap (λ k. k + 1) c.loop-x.invariant.len;
      listed = λ k h x l. pushed_row (λ x row. row ≡ map (class_of g) (leaves_to g (suc k) x)) c.loop-x.next.items _ n c.in_ok-listed.field-0 (omega (arith, c.loop-x.invariant.len)) c.in_ok-push.ensures.items
          (c.loop-x.invariant.listed k h)
          (row_deeper g c.requires.graph k (lists c.args.rows.now) c.args.number.now c.requires.number h n c.index-all-x.result c.at.result c.in_ok-listed.field-0.items
          (there g n c.index-all-x.result c.loop-x-test.true c.index-all-x.is) (c.at.ensures ∙ class_is g c.args.class.now c.requires.class n c.loop-x-test.true) c.in_ok-listed.ensures)
          x l;
    }
