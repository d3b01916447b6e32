-- Worked examples: the first fault of texts, with its place.
use Rattle.std.specs.Prelude.{◌≡◌, refl, None, codes}
use Rattle.text_forms.specs.declared.fault.FaultKind.TheVariants as kinds
use Rattle.text_forms.specs.Reading.{elements}
use Rattle.ir_lex.specs.WordTable.{words, directives, common_names}
use Rattle.ir_lex.specs.Scanner.{gap_len, next_of}
use Rattle.ir_lex.specs.Walk.{tokens_within, tokens_from}
use Rattle.ir_lex.specs.TokenForms.{mark, numeral}
use Rattle.conditions.specs.declared.fault.ConditionKind.TheVariants.{Text, Unknown}
use Rattle.conditions.specs.Grammar.{value, told, telling, word, worded, global, last, atom, list, lists, claim, condition, conditions}
use Rattle.conditions.specs.Samples.{text_fault, stands}

good_texts :
    (text_fault (codes "exists { (t0 0 = 0 t1 0 = 0) } // both") ≡ None)
    × (text_fault (codes "never{(DataRace)(stop @y=NULL)}always{()}") ≡ None)
    × (text_fault (codes "always { (@x = 0x10 t63 4294967295 = 010) }") ≡ None)
unfolding tokens_from tokens_within next_of gap_len words directives common_names elements mark numeral value told telling word worded global last atom list lists claim condition conditions
good_texts = (refl, refl, refl)

tokens_are_unexpected :
    (text_fault (codes "") ≡ stands (Text kinds.Unexpected) 0)
    × (text_fault (codes " // nothing") ≡ stands (Text kinds.Unexpected) 11)
    × (text_fault (codes "exists") ≡ stands (Text kinds.Unexpected) 6)
    × (text_fault (codes "exists (done)") ≡ stands (Text kinds.Unexpected) 7)
    × (text_fault (codes "exists { }") ≡ stands (Text kinds.Unexpected) 9)
    × (text_fault (codes "exists { ( }") ≡ stands (Text kinds.Unexpected) 11)
    × (text_fault (codes "exists { (t0 0 = done) }") ≡ stands (Text kinds.Unexpected) 17)
    × (text_fault (codes "exists { (done) } }") ≡ stands (Text kinds.Unexpected) 18)
    × (text_fault (codes "exists { (done) } never") ≡ stands (Text kinds.Unexpected) 23)
    × (text_fault (codes "stop { (done) }") ≡ stands (Text kinds.Unexpected) 0)
unfolding tokens_from tokens_within next_of gap_len words directives common_names elements mark numeral value told telling word worded global last atom list lists claim condition conditions
tokens_are_unexpected = (refl, refl, refl, refl, refl, refl, refl, refl, refl, refl)

-- a number stands behind a thread and behind no other word
numbers_stand_behind_threads :
    (text_fault (codes "exists { (t0) }") ≡ stands (Text kinds.Unexpected) 12)
    × (text_fault (codes "exists { (t0 = 0) }") ≡ stands (Text kinds.Unexpected) 13)
    × (text_fault (codes "exists { (t0 t1 0 = 0) }") ≡ stands (Text kinds.Unexpected) 13)
    × (text_fault (codes "exists { (t0 @x = 0) }") ≡ stands (Text kinds.Unexpected) 13)
    × (text_fault (codes "exists { (done 0 = 0) }") ≡ stands (Text kinds.Unexpected) 15)
    × (text_fault (codes "exists { (t0 -1 = 0) }") ≡ stands (Text kinds.Unexpected) 13)
    × (text_fault (codes "exists { (t0 4294967296 = 0) }") ≡ stands (Text kinds.Unexpected) 13)
    × (text_fault (codes "exists { (t0 0 = -1) }") ≡ stands (Text kinds.Unexpected) 17)
unfolding tokens_from tokens_within next_of gap_len words directives common_names elements mark numeral value told telling word worded global last atom list lists claim condition conditions
numbers_stand_behind_threads = (refl, refl, refl, refl, refl, refl, refl, refl)

words_and_names_are_unknown :
    (text_fault (codes "exist { (done) }") ≡ stands Unknown 0)
    × (text_fault (codes "exists { (foo) }") ≡ stands Unknown 10)
    × (text_fault (codes "exists { (t64 0 = 0) }") ≡ stands Unknown 10)
    × (text_fault (codes "exists { (t00 0 = 0) }") ≡ stands Unknown 10)
    × (text_fault (codes "exists { (foo 0 = 0) }") ≡ stands Unknown 10)
    × (text_fault (codes "exists { (@z = 0) }") ≡ stands Unknown 10)
    × (text_fault (codes "exists { (done) } done { (done) }") ≡ stands Unknown 18)
    × (text_fault (codes "exists { (never) }") ≡ stands Unknown 10)
unfolding tokens_from tokens_within next_of gap_len words directives common_names elements mark numeral value told telling word worded global last atom list lists claim condition conditions
words_and_names_are_unknown = (refl, refl, refl, refl, refl, refl, refl, refl)

no_token_begins :
    (text_fault (codes "exists { (t0 ? }") ≡ stands (Text kinds.BadByte) 13)
    × (text_fault (codes "exists { (done), (waiting) }") ≡ stands (Text kinds.BadByte) 15)
    × (text_fault (codes "exists { (@ = 0) }") ≡ stands (Text kinds.BadName) 10)
    × (text_fault (codes "exists { (t0 0 = 340282366920938463463374607431768211456) }") ≡ stands (Text kinds.NumberTooLarge) 17)
unfolding tokens_from tokens_within next_of gap_len words directives common_names elements mark numeral value told telling word worded global last atom list lists claim condition conditions
no_token_begins = (refl, refl, refl, refl)

-- of several the first stands
the_first_stands :
    (text_fault (codes "exists { (foo ?") ≡ stands Unknown 10)
    × (text_fault (codes "exists { (@z t64 0 = -1) }") ≡ stands Unknown 10)
    × (text_fault (codes "exists { (@z t64") ≡ stands Unknown 10)
    × (text_fault (codes "exist { (t0 -1") ≡ stands Unknown 0)
    × (text_fault (codes "exists { (t0 -1 = 0) (foo) } }") ≡ stands (Text kinds.Unexpected) 13)
unfolding tokens_from tokens_within next_of gap_len words directives common_names elements mark numeral value told telling word worded global last atom list lists claim condition conditions
the_first_stands = (refl, refl, refl, refl, refl)
