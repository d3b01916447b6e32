-- The elements of the grammar's lists.
use Rattle.std.proofs.Common.{ℕ, refl}
use Rattle.name_scopes.specs.Names.{Names}
use Rattle.text_forms.specs.Lemmas.Loops.{IsPlain}
use Rattle.ir_lex.specs.TokenForms.{mark, numeral}
use Rattle.conditions.specs.Grammar.{value, told, telling, word, worded, global, last, atom, list, lists, claim, condition}

pub atom_plain : (names : Names ℕ) → IsPlain (atom names)
unfolding mark numeral value told telling word worded global last atom
atom_plain names = record { element = record { some = refl; decided = refl }; own = refl }

pub list_plain : (names : Names ℕ) → IsPlain (list names)
unfolding mark numeral value told telling word worded global last atom list
list_plain names = record { element = record { some = refl; decided = refl }; own = refl }

pub condition_plain : (names : Names ℕ) → IsPlain (condition names)
unfolding mark numeral value told telling word worded global last atom list lists claim condition
condition_plain names = record { element = record { some = refl; decided = refl }; own = refl }
