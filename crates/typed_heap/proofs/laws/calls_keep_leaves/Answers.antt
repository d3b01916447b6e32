use Rattle.std.proofs.Common.{refl}
use Rattle.typed_heap.specs.Objects.{killed, filled}
use Rattle.typed_heap.specs.Lemmas.Fitted.{added_keeps, set_keeps}
use Rattle.typed_heap.proofs.laws.calls_keep_leaves.Goals as goal

pub returns-clause-added : goal.returns-clause-added
returns-clause-added c = added_keeps

pub returns-clause-killed : goal.returns-clause-killed
returns-clause-killed c = λ os n o e. set_keeps os n o (killed o) e refl

pub returns-clause-filled : goal.returns-clause-filled
returns-clause-filled c = λ os n o at ss e. set_keeps os n o (filled at ss o) e refl
