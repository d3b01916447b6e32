use Rattle.std.proofs.Common.{sym, ap, ◌∙◌}
use Rattle.std.specs.Prelude.{is_some}
use denote.Enum.Bare.{same_true}
use Rattle.text_forms.specs.declared.symbol.Symbol.TheVariants as symbols
use Rattle.text_forms.specs.contracts.symbol.Symbol.{the_type}
use Rattle.ir_text.proofs.OpKinds.{begins_with_word}
use Rattle.ir_text.proofs.Insides.{labelled_begins}
use Rattle.ir_text.proofs.kinds.begins_instruction.Goals as goal

pub returns-then-eq : goal.returns-then-eq
returns-then-eq c = rw (labelled_begins, same_true the_type tt c.args.symbol symbols.SquareOpen (sym c.eq.ensures ∙ c.if-eq.true)) c.if-eq.true

pub returns-else-eq : goal.returns-else-eq
returns-else-eq c =
    let word = begins_with_word c.args.symbol (sym c.eq.ensures ∙ c.if-eq.false) in
    rw labelled_begins (c.is_some.ensures ∙ (ap is_some c.op_kind.ensures ∙ sym word))
