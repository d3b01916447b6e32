use Rattle.std.proofs.Common.{List, [], ◌∷◌, length, subst}
use Rattle.text_forms.specs.Forms.{up_to_from}
use Rattle.text_forms.specs.Reading.{read}
use Rattle.text_forms.specs.Answers.{Gives, with_front}
use Rattle.ir_lex.specs.declared.name.Name.{Name}
use Rattle.ir_lex.specs.TokenForms.{name}
use Rattle.ir_text.proofs.Fronts.{at_least_one_read}
use Rattle.ir_text.proofs.lists.at_least_one.Goals as goal

pub returns-clause-read : goal.returns-clause-read
returns-clause-read c =
    rw (at_least_one_read c.args.symbols.now c.args.closing c.args.cursor.now c.name.new.self c.in_ok-first.first c.in_ok-first.ensures.read)
    (subst (λ (l : List Name). Gives {A = List Name} c.names.result c.names.new.cursor (with_front l (read (up_to_from (length l) 256 (c.args.closing ∷ []) (name c.args.symbols.now)) c.name.new.self))) c.in_ok-front.ensures c.names.ensures)
