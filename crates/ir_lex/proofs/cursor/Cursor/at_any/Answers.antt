use Rattle.ir_lex.specs.Lemmas.Cursors.{any_has}
use Rattle.ir_lex.proofs.cursor.Cursor.at_any.Goals as goal

pub returns : goal.returns
returns c = rw (c.is_among.ensures, ← c.self.view_is) (any_has c.args.symbols.now c.self.inside.token.symbol)
