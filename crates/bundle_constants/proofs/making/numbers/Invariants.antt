use Rattle.std.proofs.Common.{ℕ, ◌<◌}
use Rattle.std.specs.List.{All, Contains}
use Rattle.bundle_constants.proofs.making.numbers.Given as goal

abbrev pub invariant-loop-n : goal.invariant-loop-n
invariant-loop-n l = record {
  within : All (λ m. m < l.many) l.all.items;
  all : (m : ℕ) → m < l.n → Contains l.all.items m;
}
