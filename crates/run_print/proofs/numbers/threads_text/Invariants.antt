use Rattle.std.proofs.Common.{◌≡◌, ◌++◌, take, codes}
use Rattle.std.specs.List.{flat_map}
use Rattle.run_texts.specs.EventTexts.{thread_text}
use Rattle.run_print.proofs.numbers.threads_text.Given as goal

abbrev pub invariant-loop-thread : goal.invariant-loop-thread
invariant-loop-thread l = l.out.items ≡ l.initial.out.items ++ flat_map (λ i. codes " " ++ thread_text i) (take l.thread-index l.threads)
