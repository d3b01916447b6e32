use Rattle.std.proofs.Common.{◌∙◌, sym, ap, List, ℕ, [], slice_index, arith}
use Rattle.std.proofs.lemmas.List.{get_or_past}
use Rattle.clocks.specs.Zeros.{zeros-at}
use Rattle.clocks.proofs.thread_clocks.ThreadClocks.of.Goals as goal

pub returns-else-thread-len : goal.returns-else-thread-len
returns-else-thread-len c u =
    ap (λ (clock : List ℕ). slice_index clock u) c.self.invariant ∙ (zeros-at 64 u ∙ sym (ap (λ (clock : List ℕ). slice_index clock u) (get_or_past c.args.self.now c.args.thread [] (rw (← c.self.view_is) (omega arith)))))
