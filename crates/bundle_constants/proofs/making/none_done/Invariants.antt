use Rattle.std.proofs.Common.{◌≡◌, ℕ, false, vec_len}
use Rattle.checked_code.specs.ConstantMembers.{is_made}
use Rattle.bundle_constants.proofs.making.none_done.Given as goal

abbrev pub invariant-loop-n : goal.invariant-loop-n
invariant-loop-n l = record {
  many : vec_len l.done ≡ l.n;
  none : (m : ℕ) → is_made l.done.items m ≡ false;
}
