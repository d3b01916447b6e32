use Rattle.std.proofs.Common.{rules}
use Rattle.text_forms.specs.Answers.{Gives}
use Rattle.ir_tree.specs.Computations.{computation}
use Rattle.ir_tree.specs.Words.{words_of, binary_words, compare_words, convert_words}
use Rattle.ir_text.proofs.Choices.{passed_all, passed}
use Rattle.ir_text.proofs.computing.computation.Goals as goal

pub returns-in_default : goal.returns-in_default
unfolding computation
returns-in_default c =
    let one = passed (Gives c.insertvalue.result c.insertvalue.new.cursor) c.args.cursor.now c.symbol.result c.symbol.ensures in
    let all = passed_all (Gives c.insertvalue.result c.insertvalue.new.cursor) c.args.cursor.now c.symbol.result c.symbol.ensures in
    all (words_of binary_words) _ _ (search rules) (all (words_of compare_words) _ _ (search rules) (all (words_of convert_words) _ _ (search rules)
    (one _ _ _ c.in_default.not-Refcast (one _ _ _ c.in_default.not-Select (one _ _ _ c.in_default.not-Extractvalue c.insertvalue.ensures)))))
