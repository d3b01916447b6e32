use Rattle.std.proofs.Common.{refl}
use Rattle.ir_lex.specs.WordTable.{words}
use Rattle.ir_lex.proofs.words.words_from.Goals as goal

pub returns-in-65 : goal.returns-in-65
unfolding words
returns-in-65 c rest = rw c.in-65.is refl

pub returns-in-66 : goal.returns-in-66
unfolding words
returns-in-66 c rest = rw c.in-66.is refl

pub returns-in-67 : goal.returns-in-67
unfolding words
returns-in-67 c rest = rw c.in-67.is refl

pub returns-in-69 : goal.returns-in-69
unfolding words
returns-in-69 c rest = rw c.in-69.is refl

pub returns-in-70 : goal.returns-in-70
unfolding words
returns-in-70 c rest = rw c.in-70.is refl

pub returns-in-71 : goal.returns-in-71
unfolding words
returns-in-71 c rest = rw c.in-71.is refl

pub returns-in-73 : goal.returns-in-73
unfolding words
returns-in-73 c rest = rw c.in-73.is refl

pub returns-in-75 : goal.returns-in-75
unfolding words
returns-in-75 c rest = rw c.in-75.is refl

pub returns-in-78 : goal.returns-in-78
unfolding words
returns-in-78 c rest = rw c.in-78.is refl

pub returns-in-80 : goal.returns-in-80
unfolding words
returns-in-80 c rest = rw c.in-80.is refl

pub returns-in-82 : goal.returns-in-82
unfolding words
returns-in-82 c rest = rw c.in-82.is refl

pub returns-in-83 : goal.returns-in-83
unfolding words
returns-in-83 c rest = rw c.in-83.is refl

pub returns-in-84 : goal.returns-in-84
unfolding words
returns-in-84 c rest = rw c.in-84.is refl

pub returns-in-87 : goal.returns-in-87
unfolding words
returns-in-87 c rest = rw c.in-87.is refl

pub returns-in-102 : goal.returns-in-102
unfolding words
returns-in-102 c rest = rw c.in-102.is refl

pub returns-in-105 : goal.returns-in-105
unfolding words
returns-in-105 c rest = rw c.in-105.is refl

pub returns-in-115 : goal.returns-in-115
unfolding words
returns-in-115 c rest = rw c.in-115.is refl

pub returns-in-116 : goal.returns-in-116
unfolding words
returns-in-116 c rest = rw c.in-116.is refl

pub returns-in-117 : goal.returns-in-117
unfolding words
returns-in-117 c rest = rw c.in-117.is refl
