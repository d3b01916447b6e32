use Rattle.std.proofs.Common.{◌≡◌, length}
use Rattle.type_classes.specs.Blocks.{Listed, HaveMoved, OthersStay}
use Rattle.mu_types.specs.Rows.{lists}
use Rattle.type_classes.proofs.moves.move_all.Given as goal

abbrev pub invariant-loop-i : goal.invariant-loop-i
invariant-loop-i l = record {
  rows : length l.members ≡ length l.fn.members;
  moved : HaveMoved l.fn.block l.touched l.target l.i l.block;
  rest : OthersStay l.fn.block l.touched l.i l.block;
  listed : Listed l.fn.block (lists l.fn.members) → Listed l.block (lists l.members);
}
