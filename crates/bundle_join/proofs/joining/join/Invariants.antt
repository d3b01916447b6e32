use Rattle.std.proofs.Common.{◌≡◌, ◌+◌, length, reverse, vec_len}
use Rattle.bundle_join.specs.Joined.{joined, joined_from}
use Rattle.bundle_join.specs.Firsts.{HasItems}
use Rattle.bundle_join.proofs.joining.join.Given as goal

abbrev pub invariant-each : goal.invariant-each
invariant-each l = record {
  found : HasItems l.kept;
  count : l.number + length l.left.items ≡ length l.fn.bundles;
  rest : joined_from l.number l.kept.items (reverse l.left.items) ≡ joined l.fn.bundles;
}

abbrev pub decreases-each : goal.decreases-each
decreases-each l = vec_len l.left
