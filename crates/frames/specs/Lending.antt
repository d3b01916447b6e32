-- The frames of a stack once its top frame was lent and written.
use Rattle.std.specs.Borrow.{Lends, MutBor, Fml}
use Rattle.frames.specs.declared.frame.Frame.{Frame}
use Rattle.frames.specs.Chains.{StoredChain}
use Rattle.frames.specs.FrameOf.{frame_of}
use Rattle.frames.specs.contracts.frames.Frames.{the_row}
use Rattle.frames.specs.contracts.frame.Frame.{the_row as frame_row}

-- the top frame is what was last written, and those below are as they were
abbrev pub LendsTop : MutBor StoredChain → MutBor Frame → Fml
LendsTop s r = Lends the_row frame_row s r (λ f. record s.now { top = frame_of f })
