use Rattle.std.proofs.Common.{arith, sym, subst, add-one, List, ℕ}
use Rattle.type_classes.specs.Rounds.{IsLeastTo}
use Rattle.type_classes.proofs.Rounds.{least_to_none}
use Rattle.type_classes.proofs.plain.plain.Goals as goal

pub loop-round_number-init : goal.loop-round_number-init
loop-round_number-init c = record { len = omega (arith, c.loop-x.invariant.len, c.loop-x-test.false); least = least_to_none c.args.definitions.now c.loop-x.p.items (λ x l. c.loop-x.invariant.none x) }

pub loop-round_number-preserved : goal.loop-round_number-preserved
loop-round_number-preserved c =
    let n = c.loop-round_number.round_number in
    record {
      len = c.in_ok-p.ensures.len;
      least = rw (add-one n) (c.in_ok-p.ensures.steps n (subst (λ (p : List ℕ). IsLeastTo c.args.definitions.now n p) (sym c.deref.ensures.value) c.loop-round_number.invariant.least));
    }
