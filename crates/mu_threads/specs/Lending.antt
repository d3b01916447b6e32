-- The threads once the stack of one was lent and written.
use Rattle.std.specs.Prelude.{ℕ, Some}
use Rattle.std.specs.Borrow.{Lends, MutBor, Fml}
use Rattle.stacks.specs.Stacks.{Bound}
use Rattle.stacks.specs.contracts.stack.ActiveStack.{the_row as stack_row}
use Rattle.mu_threads.specs.Threads.{Threads, with_stack}
use Rattle.mu_threads.specs.contracts.threads.Threads.{the_row}

-- the stack of that thread is what was last written, and all else is as it was
abbrev pub LendsStack : MutBor Threads → ℕ → MutBor Bound → Fml
LendsStack t n r = Lends the_row stack_row t r (λ stack. with_stack t.now n (Some stack))
