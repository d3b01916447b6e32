use Rattle.std.proofs.Common.{[], ◌∷◌, sym}
use Rattle.std.proofs.lemmas.Result.{err_from_is_err_and}
use Rattle.text_forms.specs.declared.symbol.Symbol.TheVariants as symbols
use Rattle.text_forms.specs.Forms.{until}
use Rattle.text_forms.specs.Reading.{read}
use Rattle.text_forms.specs.Lemmas.Lists.{shorter}
use Rattle.text_forms.specs.Lemmas.Loops.{goes_on, is_done, fails_with}
use Rattle.conditions.specs.Grammar.{atom}
use Rattle.conditions.proofs.Elements.{atom_plain}
use Rattle.conditions.proofs.parts.atoms.Goals as goal

pub returns-in_err-atom : goal.returns-in_err-atom
returns-in_err-atom c =
    let p = err_from_is_err_and c.from_residual.result c.from_residual.ensures.1 in
    rw (p.1, p.2) (fails_with (symbols.Close ∷ []) (atom c.args.names.now) (atom_plain c.args.names.now) c.each.atoms c.each.cursor c.atom.new.cursor (read (until (symbols.Close ∷ []) (atom c.args.names.now)) c.args.cursor.now) c.in_err-atom.field-0.0 (sym c.each-test.ensures) c.in_err-atom.ensures c.each.invariant)

pub each-smaller : goal.each-smaller
each-smaller c = shorter (atom c.args.names.now) (atom_plain c.args.names.now).element 0 c.each.cursor c.in_ok-atom.field-0 c.atom.new.cursor c.in_ok-atom.ensures

pub each-preserved : goal.each-preserved
each-preserved c = rw c.in_ok-push.ensures.ok (goes_on (symbols.Close ∷ []) (atom c.args.names.now) (atom_plain c.args.names.now) c.each.atoms c.each.cursor c.in_ok-atom.field-0 c.atom.new.cursor (read (until (symbols.Close ∷ []) (atom c.args.names.now)) c.args.cursor.now) (sym c.each-test.ensures) c.in_ok-atom.ensures c.each.invariant)

pub returns : goal.returns
returns c = rw c.bump.ensures (is_done (symbols.Close ∷ []) (atom c.args.names.now) (atom_plain c.args.names.now) c.each.atoms c.each.cursor (read (until (symbols.Close ∷ []) (atom c.args.names.now)) c.args.cursor.now) (sym c.each-test.ensures) c.each.invariant)
