use Rattle.std.proofs.Common.{◌≡◌, length, ap, arith, rules}
use Rattle.std.specs.Vec.{vec_len}
use Rattle.mu_threads.proofs.Runnable.{few}
use Rattle.mu_threads.proofs.threads.Threads.runnable.Goals as goal

pub overflow_cast-result : goal.overflow_cast-result
overflow_cast-result c =
    let numbers = c.self.inside.runnable in
    let many : vec_len numbers ≡ length numbers.items = search rules in
    omega (arith, few 0 c.self.inside.states.items, ap length c.self.invariant.listed, c.self.invariant.few)
