use Rattle.std.proofs.Common.{[], ◌∷◌, sym}
use Rattle.std.proofs.lemmas.Result.{err_from_is_err_and}
use Rattle.text_forms.specs.declared.symbol.Symbol.TheVariants as symbols
use Rattle.text_forms.specs.Forms.{until}
use Rattle.text_forms.specs.Reading.{read}
use Rattle.text_forms.specs.Lemmas.Lists.{shorter}
use Rattle.text_forms.specs.Lemmas.Loops.{goes_on, is_done, fails_with}
use Rattle.hail_load.specs.Sources.{index}
use Rattle.hail_load.proofs.Elements.{index_plain}
use Rattle.hail_load.proofs.tokens.indexes.Goals as goal

pub returns-in_err-index : goal.returns-in_err-index
returns-in_err-index c =
    let p = err_from_is_err_and c.from_residual.result c.from_residual.ensures.1 in
    rw (p.1, p.2) (fails_with (symbols.Equals ∷ []) index index_plain c.each.indexes c.each.cursor c.index.new.cursor (read (until (symbols.Equals ∷ []) index) c.args.cursor.now) c.in_err-index.field-0.0 (sym c.each-test.ensures) c.in_err-index.ensures c.each.invariant)

pub each-smaller : goal.each-smaller
each-smaller c = shorter index (index_plain).element 0 c.each.cursor c.in_ok-index.field-0 c.index.new.cursor c.in_ok-index.ensures

pub each-preserved : goal.each-preserved
each-preserved c = rw c.in_ok-push.ensures.ok (goes_on (symbols.Equals ∷ []) index index_plain c.each.indexes c.each.cursor c.in_ok-index.field-0 c.index.new.cursor (read (until (symbols.Equals ∷ []) index) c.args.cursor.now) (sym c.each-test.ensures) c.in_ok-index.ensures c.each.invariant)

pub returns : goal.returns
returns c = rw c.bump.ensures (is_done (symbols.Equals ∷ []) index index_plain c.each.indexes c.each.cursor (read (until (symbols.Equals ∷ []) index) c.args.cursor.now) (sym c.each-test.ensures) c.each.invariant)
