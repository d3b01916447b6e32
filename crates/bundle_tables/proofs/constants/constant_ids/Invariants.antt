use Rattle.std.proofs.Common.{◌≡◌, ◌++◌, ◌<◌, length, map}
use Rattle.std.specs.List.{All}
use Rattle.checked_code.specs.Rules.{constant_id}
use Rattle.bundle_tables.proofs.constants.constant_ids.Given as goal

abbrev pub invariant-each : goal.invariant-each
invariant-each l = record {
  same : l.numbers ++ map (constant_id l.globals) l.left ≡ map (constant_id l.globals) l.fn.names;
  below : All (λ n. n < l.globals.counts.constants) l.numbers;
}

abbrev pub decreases-each : goal.decreases-each
decreases-each l = length l.left
