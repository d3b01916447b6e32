-- The elements of the grammar's lists.
use Rattle.std.proofs.Common.{refl}
use Rattle.text_forms.specs.Lemmas.Loops.{IsPlain}
use Rattle.ir_lex.specs.TokenForms.{mark, numeral}
use Rattle.hail_load.specs.Sources.{index}

pub index_plain : IsPlain index
unfolding mark numeral index
index_plain = record { element = record { some = refl; decided = refl }; own = refl }
