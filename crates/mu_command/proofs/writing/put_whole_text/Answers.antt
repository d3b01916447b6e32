use Rattle.std.proofs.Common.{arith, ◌≡◌, length, refl}
use Rattle.std.proofs.lemmas.Grind.{common_steps}
use Rattle.mu_command.proofs.Puts.{no_piece, no_text}
use Rattle.mu_command.proofs.writing.put_whole_text.Goals as goal

pub returns-then-is_empty-clause-writes : goal.returns-then-is_empty-clause-writes
returns-then-is_empty-clause-writes g c =
    let none : length c.args.text.items ≡ 0 = grind (arith, common_steps) in
    no_piece _ _ _ _ (no_text c.args.text.items none) refl
