use Rattle.std.proofs.Common.{◌≡◌, ◌≤◌, List, ℕ, Some, length, slice_get, ap, sym, ◌∙◌, arith}
use Rattle.mu_values.specs.declared.scalars.Scalar.{Scalar}
use Rattle.run_texts.specs.EventTexts.{value_text}
use Rattle.run_print.proofs.Spaces.{next_pair, last_pair, prefix_longer_at}
use Rattle.run_print.proofs.values.values_text.Goals as goal

pub loop-n-preserved : goal.loop-n-preserved
loop-n-preserved c =
    let here : slice_get c.args.values.now.types c.loop-n.n ≡ Some c.at.result = ap (λ (l : List ℕ). slice_get l c.loop-n.n) (sym c.types.ensures.is) ∙ c.at.ensures in
    let there : slice_get c.args.values.now.values c.loop-n.n ≡ Some c.at-in-loop-n.result.now = ap (λ (l : List (List Scalar)). slice_get l c.loop-n.n) (sym c.values-in-loop-n.ensures.is) ∙ c.at-in-loop-n.ensures in (
      next_pair (value_text c.args.code.now) c.args.values.now.types c.args.values.now.values c.loop-n.n c.at.result c.at-in-loop-n.result.now
          c.loop-n.out.items c.spaced_value.new.out.items _ here there c.in_ok-spaced_value.ensures.appended c.loop-n.invariant.0,
      prefix_longer_at _ _ _ _ c.in_ok-spaced_value.ensures.appended c.loop-n.invariant.1,
    )

pub returns-clause-appended : goal.returns-clause-appended
returns-clause-appended c =
    let done : length c.args.values.now.values ≤ c.loop-n.n = omega (arith, c.len-n-end.ensures, c.loop-n-test.false, ap (λ (l : List (List Scalar)). length l) c.values.ensures.is) in
    last_pair (value_text c.args.code.now) c.args.values.now.types c.args.values.now.values c.loop-n.n c.loop-n.out.items _ done c.loop-n.invariant.0
