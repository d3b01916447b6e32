use Rattle.std.proofs.Common.{arith, ◌≡◌, ◌∷◌, [], refl}
use Rattle.std.proofs.lemmas.Grind.{common_steps}
use Rattle.mu_command.proofs.Puts.{only_put, first_put_stops}
use Rattle.mu_command.proofs.writing.put_text.Goals as goal

pub returns-in-Ok-clause-writes : goal.returns-in-Ok-clause-writes
returns-in-Ok-clause-writes g c =
    let same : c.deref.result.now ≡ c.args.text.items = grind (arith, common_steps) in
    only_put (record { pieces = c.args.text.items ∷ []; status = c.args.status }) c.args.text.items _ _ _ _ c.args.status refl refl
    (rw same at c.in-Ok.ensures.whole.bytes) c.in-Ok.ensures.whole.mark

pub returns-clause-writes : goal.returns-clause-writes
returns-clause-writes g c =
    let same : c.deref.result.now ≡ c.args.text.items = grind (arith, common_steps) in
    rw c.stopped.ensures
    (first_put_stops (record { pieces = c.args.text.items ∷ []; status = c.args.status }) c.args.text.items [] _ _ _ _ c.in-Err.fault refl
    (rw same at c.in-Err.ensures.part.bytes) c.in-Err.ensures.part.mark)
