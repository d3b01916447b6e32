use Rattle.std.proofs.Common.{sym, arith, ℕ, List, add-one, subst}
use Rattle.mu_types.specs.Rows.{lists}
use Rattle.std.specs.Prelude.{Vec}
use Rattle.std.specs.Global.{Global}
use Rattle.type_classes.specs.Listings.{Lists}
use Rattle.type_classes.proofs.Listings.{no_leaves}
use Rattle.type_classes.proofs.listing.listings_plainly.Goals as goal

pub loop-depth-init : goal.loop-depth-init
loop-depth-init c = record { len = omega (arith, c.loop-i.invariant.rows, c.loop-i-test.false); listed = no_leaves c.args.all.now (lists c.loop-i.rows.items) c.loop-i.invariant.none }

pub loop-depth-preserved : goal.loop-depth-preserved
loop-depth-preserved c =
    let n = c.loop-depth.depth in
    record {
      len = c.in_ok-rows.ensures.len;
      listed = rw (add-one n) (c.in_ok-rows.ensures.lists n (subst (λ (r : List (Vec ℕ Global)). Lists c.args.all.now n (lists r)) (sym c.deref.ensures.value) c.loop-depth.invariant.listed));
    }
