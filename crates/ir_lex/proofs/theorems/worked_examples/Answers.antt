use Rattle.ir_lex.proofs.Worked as worked
use Rattle.ir_lex.proofs.theorems.worked_examples.Goals as goal

pub returns-clause-kinds : goal.returns-clause-kinds
returns-clause-kinds c = worked.kinds

pub returns-clause-gaps : goal.returns-clause-gaps
returns-clause-gaps c = worked.gaps

pub returns-clause-refused : goal.returns-clause-refused
returns-clause-refused c = worked.refused

pub returns-clause-numbers : goal.returns-clause-numbers
returns-clause-numbers c = worked.numbers
