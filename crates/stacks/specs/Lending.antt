-- A bound stack once its frames were lent and written.
use Rattle.std.specs.Borrow.{Lends, MutBor, Fml}
use Rattle.frames.specs.Chains.{StoredChain}
use Rattle.frames.specs.contracts.frames.Frames.{the_row as frames_row}
use Rattle.stacks.specs.Stacks.{Bound, Opened}
use Rattle.stacks.specs.contracts.stack.ActiveStack.{the_row}
use Rattle.stacks.specs.contracts.stack.OpenStack.{the_row as open_row}

-- its frames are what was last written, and all else is as it was
abbrev pub LendsFrames : MutBor Bound → MutBor StoredChain → Fml
LendsFrames s r = Lends the_row frames_row s r (λ frames. record s.now { frames = frames })

-- the same of a stack whose frames are edited
abbrev pub LendsOpened : MutBor Opened → MutBor StoredChain → Fml
LendsOpened s r = Lends open_row frames_row s r (λ frames. record s.now { frames = frames })
