-- The next token always decides how a text of conditions goes on.
use Rattle.std.proofs.Common.{ℕ, refl}
use Rattle.name_scopes.specs.Names.{Names}
use Rattle.text_forms.specs.Texts.{IsGrammar}
use Rattle.ir_lex.specs.TokenForms.{mark, numeral}
use Rattle.conditions.specs.Grammar.{value, told, telling, word, worded, global, last, atom, list, lists, claim, condition, conditions}

pub is_grammar : (names : Names ℕ) → IsGrammar (conditions names)
unfolding mark numeral value told telling word worded global last atom list lists claim condition conditions
is_grammar names = record { decided = refl; decided_in_full = refl; some = refl; own = refl; ends = refl }
