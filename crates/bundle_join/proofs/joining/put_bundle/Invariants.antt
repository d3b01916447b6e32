use Rattle.std.proofs.Common.{◌≡◌, ◌≤◌, length, reverse, take, vec_len}
use Rattle.bundle_join.specs.Joined.{with_bundle}
use Rattle.bundle_join.specs.Firsts.{HasItems}
use Rattle.bundle_join.proofs.joining.put_bundle.Given as goal

abbrev pub invariant-each : goal.invariant-each
invariant-each l = record {
  found : HasItems l.kept;
  before : take l.earlier l.kept.items ≡ l.fn.kept.items;
  within : l.earlier ≤ length l.kept.items;
  rest : with_bundle l.number l.fn.kept.items l.kept.items (reverse l.left.items) ≡ with_bundle l.number l.fn.kept.items l.fn.kept.items l.fn.bundle;
}

abbrev pub decreases-each : goal.decreases-each
decreases-each l = vec_len l.left
