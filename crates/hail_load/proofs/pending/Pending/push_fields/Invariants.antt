use Rattle.std.proofs.Common.{◌≡◌, ◌≤◌, ◌++◌, map, length}
use Rattle.hail_load.specs.declared.parts.Part.TheVariants.{Value}
use Rattle.hail_load.proofs.pending.Pending.push_fields.Given as goal

abbrev pub invariant-each : goal.invariant-each
invariant-each l = record {
  all : map Value l.left ++ l.self ≡ map Value l.fn.fields ++ l.fn.self;
  within : length l.left ≤ length l.fn.fields;
}

abbrev pub decreases-each : goal.decreases-each
decreases-each l = length l.left
