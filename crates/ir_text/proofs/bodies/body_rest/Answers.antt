use Rattle.std.proofs.Common.{◌≡◌, ℕ, Bool, List, Ok, Err, refl, sym, subst}
use Rattle.std.proofs.lemmas.Result.{err_from_is_err_and}
use Rattle.text_forms.specs.Tokens.{first}
use Rattle.text_forms.specs.Reading.{read, read_from}
use Rattle.text_forms.specs.Answers.{Gives, kept}
use Rattle.text_forms.specs.Lemmas.Lists.{shorter}
use Rattle.ir_tree.specs.declared.code.Line.{Line}
use Rattle.ir_tree.specs.Bodies.{line, flags, blocks_of, body_rest}
use Rattle.ir_text.specs.BodiesSoFar.{counted}
use Rattle.ir_text.proofs.Insides.{line_element}
use Rattle.ir_text.proofs.BodyLoops.{flagged, goes_on, fails_with, is_done}
use Rattle.ir_text.proofs.bodies.body_rest.Goals as goal

pub each-init : goal.each-init
unfolding body_rest
each-init c = rw c.new-body.ensures refl

pub returns-in_err-line : goal.returns-in_err-line
returns-in_err-line c =
    let p = err_from_is_err_and c.from_residual.result c.from_residual.ensures.1 in
    let one : Gives {A = Line} (Err c.in_err-line.field-0.0) c.line.new.cursor (read_from (line (flags (counted c.each.body))) (first c.each.cursor).place c.each.cursor) = subst (λ (y : Bool × Bool × Bool). Gives {A = Line} (Err c.in_err-line.field-0.0) c.line.new.cursor (read_from (line y) (first c.each.cursor).place c.each.cursor)) (flagged c.each.body c.is_full.result c.is_crowded.result c.is_full.ensures c.is_crowded.ensures) c.in_err-line.ensures in
    rw (p.1, p.2) (fails_with c.each.body c.each.cursor c.line.new.cursor (kept (λ (x : List Line × ℕ). blocks_of c.args.head x.0) (read body_rest c.args.cursor.now)) c.in_err-line.field-0.0 (sym c.each-test.ensures) one c.each.invariant)

pub each-smaller : goal.each-smaller
each-smaller c =
    let one : read_from (line (flags (counted c.each.body))) (first c.each.cursor).place c.each.cursor ≡ Ok (c.in_ok-line.line, c.line.new.cursor) = subst (λ (y : Bool × Bool × Bool). read_from (line y) (first c.each.cursor).place c.each.cursor ≡ Ok (c.in_ok-line.line, c.line.new.cursor)) (flagged c.each.body c.is_full.result c.is_crowded.result c.is_full.ensures c.is_crowded.ensures) c.in_ok-line.ensures in
    shorter (line (flags (counted c.each.body))) (line_element (flags (counted c.each.body))) (first c.each.cursor).place c.each.cursor c.in_ok-line.line c.line.new.cursor one

pub each-preserved : goal.each-preserved
each-preserved c =
    let one : read_from (line (flags (counted c.each.body))) (first c.each.cursor).place c.each.cursor ≡ Ok (c.in_ok-line.line, c.line.new.cursor) = subst (λ (y : Bool × Bool × Bool). read_from (line y) (first c.each.cursor).place c.each.cursor ≡ Ok (c.in_ok-line.line, c.line.new.cursor)) (flagged c.each.body c.is_full.result c.is_crowded.result c.is_full.ensures c.is_crowded.ensures) c.in_ok-line.ensures in
    rw c.in_ok-add.ensures (goes_on c.each.body c.each.cursor c.in_ok-line.line c.line.new.cursor (kept (λ (x : List Line × ℕ). blocks_of c.args.head x.0) (read body_rest c.args.cursor.now)) (sym c.each-test.ensures) one c.each.invariant)

pub returns : goal.returns
returns c = rw (c.bump.ensures, c.in_ok-blocks.ensures) (is_done c.each.body c.each.cursor (kept (λ (x : List Line × ℕ). blocks_of c.args.head x.0) (read body_rest c.args.cursor.now)) (sym c.each-test.ensures) c.each.invariant)
