-- A body as far as it is read.
use Rattle.std.specs.Prelude.{suc, false, List, [], ◌∷◌, ◌++◌, length}
use Rattle.ir_tree.specs.declared.code.Block.{Block}
use Rattle.ir_tree.specs.declared.code.BlockHead.{BlockHead}
use Rattle.ir_tree.specs.declared.code.Line.{Line}
use Rattle.ir_tree.specs.declared.code.Line.TheVariants as body_lines
use Rattle.ir_tree.specs.Instructions.{leaves_out}
use Rattle.ir_tree.specs.Bodies.{Body, parted}
use Rattle.ir_text.specs.declared.bodies.BodySoFar.{BodySoFar}

-- the first head is read
abbrev pub begun : BlockHead → BodySoFar
begun head = record { whole = []; head = head; insts = []; open_list = false }

-- one more line is read
abbrev pub followed : BodySoFar → Line → BodySoFar
followed b (body_lines.Inst i) = record b { insts = b.insts ++ i ∷ []; open_list = leaves_out i.op }
followed b (body_lines.Head h) = record { whole = b.whole ++ record { head = b.head; insts = b.insts } ∷ []; head = h; insts = []; open_list = false }
followed b body_lines.EmptyList = record b { open_list = false }

-- the numbers that its limits ask for
abbrev pub counted : BodySoFar → Body
counted b = record { insts = length b.insts; blocks = suc (length b.whole); open_list = b.open_list }

-- its blocks, where these lines follow
abbrev pub blocks_with : BodySoFar → List Line → List Block
blocks_with b ls = b.whole ++ record { head = b.head; insts = b.insts ++ (parted ls).0 } ∷ (parted ls).1

-- its blocks, where none follow
abbrev pub blocks_so_far : BodySoFar → List Block
blocks_so_far b = b.whole ++ record { head = b.head; insts = b.insts } ∷ []
