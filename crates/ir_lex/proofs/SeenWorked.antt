-- The worked examples of the tokens of a text as the grammars see them.
use Rattle.std.proofs.Common.{refl}
use Rattle.ir_lex.specs.WordTable.{words, directives, common_names}
use Rattle.ir_lex.specs.Scanner.{gap_len, next_of}
use Rattle.ir_lex.specs.Walk.{tokens_within, tokens_from}
use Rattle.ir_lex.specs.SeenExamples.{Seen}

pub seen : Seen
unfolding tokens_from tokens_within next_of gap_len words directives common_names
seen = (refl, refl, refl, refl)
