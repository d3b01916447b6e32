use Rattle.std.proofs.Common.{◌≡◌, ℕ, List, length}
use Rattle.text_forms.specs.Reading.{read}
use Rattle.text_forms.specs.Answers.{kept}
use Rattle.ir_tree.specs.declared.code.Line.{Line}
use Rattle.ir_tree.specs.Bodies.{blocks_of, body_rest}
use Rattle.ir_text.specs.BodiesSoFar.{counted, blocks_with}
use Rattle.ir_text.proofs.BodyLoops.{lines_from}
use Rattle.ir_text.proofs.bodies.body_rest.Given as goal

abbrev pub invariant-each : goal.invariant-each
invariant-each l =
    kept (λ (x : List Line × ℕ). blocks_with l.body x.0) (read (lines_from (counted l.body)) l.cursor)
    ≡ kept (λ (x : List Line × ℕ). blocks_of l.fn.head x.0) (read body_rest l.fn.cursor)

abbrev pub decreases-each : goal.decreases-each
decreases-each l = length l.cursor
