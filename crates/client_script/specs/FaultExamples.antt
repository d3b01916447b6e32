-- Worked examples: the first fault of texts, with its place.
use Rattle.std.specs.Prelude.{◌≡◌, refl, None, codes}
use Rattle.text_forms.specs.declared.fault.FaultKind.TheVariants as kinds
use Rattle.text_forms.specs.Reading.{elements}
use Rattle.ir_lex.specs.WordTable.{words, directives, common_names}
use Rattle.ir_lex.specs.Scanner.{gap_len, next_of}
use Rattle.ir_lex.specs.Walk.{tokens_within, tokens_from}
use Rattle.ir_lex.specs.TokenForms.{mark, name, numeral}
use Rattle.ir_tree.specs.Lists.{global}
use Rattle.client_script.specs.declared.fault.ScriptKind.TheVariants.{Text, Unknown}
use Rattle.client_script.specs.Grammar.{count, action, popping, pushing, edit, kept_value, argument, pass, way, rebind, reply, ending, inside, entry, script}
use Rattle.client_script.specs.Samples.{text_fault, stands}

good_texts :
    (text_fault (codes "") ≡ None)
    × (text_fault (codes " // nothing") ≡ None)
    × (text_fault (codes "{ frames kept 1 watch 2 unwatch 3 exit } { stop }") ≡ None)
    × (text_fault (codes "{pass()}{pass(@k kept 0 1 @g @f)}{ throw @k } { rebind kept 0 0 throw @g }") ≡ None)
    × (text_fault (codes "{ kept 0x10 kept 010 watch +5 unwatch -0 kept 4294967295 stop }") ≡ None)
unfolding tokens_from tokens_within next_of gap_len words directives common_names elements mark name numeral global count action popping pushing edit kept_value argument pass way rebind reply ending inside entry script
good_texts = (refl, refl, refl, refl, refl)

tokens_are_unexpected :
    (text_fault (codes "frames") ≡ stands (Text kinds.Unexpected) 0)
    × (text_fault (codes "{") ≡ stands (Text kinds.Unexpected) 1)
    × (text_fault (codes "{ }") ≡ stands (Text kinds.Unexpected) 2)
    × (text_fault (codes "{ frames }") ≡ stands (Text kinds.Unexpected) 9)
    × (text_fault (codes "{ exit") ≡ stands (Text kinds.Unexpected) 6)
    × (text_fault (codes "{ exit stop }") ≡ stands (Text kinds.Unexpected) 7)
    × (text_fault (codes "{ exit frames }") ≡ stands (Text kinds.Unexpected) 7)
    × (text_fault (codes "{ exit } }") ≡ stands (Text kinds.Unexpected) 9)
    × (text_fault (codes "{ kept exit }") ≡ stands (Text kinds.Unexpected) 7)
    × (text_fault (codes "{ pass @k }") ≡ stands (Text kinds.Unexpected) 7)
    × (text_fault (codes "{ pass (%a) }") ≡ stands (Text kinds.Unexpected) 8)
    × (text_fault (codes "{ pass (7) }") ≡ stands (Text kinds.Unexpected) 8)
    × (text_fault (codes "{ pass (kept 0) }") ≡ stands (Text kinds.Unexpected) 14)
    × (text_fault (codes "{ throw }") ≡ stands (Text kinds.Unexpected) 8)
    × (text_fault (codes "{ THROW @k }") ≡ stands (Text kinds.Unexpected) 2)
    × (text_fault (codes "{ rebind @k }") ≡ stands (Text kinds.Unexpected) 12)
    × (text_fault (codes "{ rebind @k exit }") ≡ stands (Text kinds.Unexpected) 12)
unfolding tokens_from tokens_within next_of gap_len words directives common_names elements mark name numeral global count action popping pushing edit kept_value argument pass way rebind reply ending inside entry script
tokens_are_unexpected = (refl, refl, refl, refl, refl, refl, refl, refl, refl, refl, refl, refl, refl, refl, refl, refl, refl)

-- an edit is a pop or a push or a pop and then a push, each at most once, and stands after all actions and before a reply
edits_are_unexpected :
    (text_fault (codes "{ pop 1 push @f pass () } { push @f stop } { pop 4294967295 exit }") ≡ None)
    × (text_fault (codes "{ pop 1 pop 2 exit }") ≡ stands (Text kinds.Unexpected) 8)
    × (text_fault (codes "{ push @f pop 1 exit }") ≡ stands (Text kinds.Unexpected) 10)
    × (text_fault (codes "{ push @f push @f exit }") ≡ stands (Text kinds.Unexpected) 10)
    × (text_fault (codes "{ pop 1 frames exit }") ≡ stands (Text kinds.Unexpected) 8)
    × (text_fault (codes "{ push @f kept 0 exit }") ≡ stands (Text kinds.Unexpected) 10)
    × (text_fault (codes "{ pop 1 }") ≡ stands (Text kinds.Unexpected) 8)
    × (text_fault (codes "{ pop push @f exit }") ≡ stands (Text kinds.Unexpected) 6)
    × (text_fault (codes "{ push exit }") ≡ stands (Text kinds.Unexpected) 7)
    × (text_fault (codes "{ push kept 0 0 exit }") ≡ stands (Text kinds.Unexpected) 7)
    × (text_fault (codes "{ exit pop 1 }") ≡ stands (Text kinds.Unexpected) 7)
unfolding tokens_from tokens_within next_of gap_len words directives common_names elements mark name numeral global count action popping pushing edit kept_value argument pass way rebind reply ending inside entry script
edits_are_unexpected = (refl, refl, refl, refl, refl, refl, refl, refl, refl, refl, refl)

numbers_are_out_of_range :
    (text_fault (codes "{ kept -1 exit }") ≡ stands (Text kinds.Unexpected) 7)
    × (text_fault (codes "{ watch 4294967296 exit }") ≡ stands (Text kinds.Unexpected) 8)
    × (text_fault (codes "{ throw kept 0 -1 }") ≡ stands (Text kinds.Unexpected) 15)
    × (text_fault (codes "{ pop 4294967296 exit }") ≡ stands (Text kinds.Unexpected) 6)
    × (text_fault (codes "{ kept 340282366920938463463374607431768211456 exit }") ≡ stands (Text kinds.NumberTooLarge) 7)
unfolding tokens_from tokens_within next_of gap_len words directives common_names elements mark name numeral global count action popping pushing edit kept_value argument pass way rebind reply ending inside entry script
numbers_are_out_of_range = (refl, refl, refl, refl, refl)

names_are_unknown :
    (text_fault (codes "{ pass (@zz) }") ≡ stands Unknown 8)
    × (text_fault (codes "{ pass (@k @i64) }") ≡ stands Unknown 11)
    × (text_fault (codes "{ throw @m }") ≡ stands Unknown 8)
    × (text_fault (codes "{ rebind @uvm.new_stack pass () }") ≡ stands Unknown 9)
    × (text_fault (codes "{ push @k exit }") ≡ stands Unknown 7)
    × (text_fault (codes "{ push @g exit }") ≡ stands Unknown 7)
    × (text_fault (codes "{ push @m exit }") ≡ stands Unknown 7)
    × (text_fault (codes "{ pop 1 push @zz exit }") ≡ stands Unknown 13)
unfolding tokens_from tokens_within next_of gap_len words directives common_names elements mark name numeral global count action popping pushing edit kept_value argument pass way rebind reply ending inside entry script
names_are_unknown = (refl, refl, refl, refl, refl, refl, refl, refl)

no_token_begins :
    (text_fault (codes "{ ? }") ≡ stands (Text kinds.BadByte) 2)
    × (text_fault (codes "{ kept 09 exit }") ≡ stands (Text kinds.BadByte) 7)
    × (text_fault (codes "{ throw @ }") ≡ stands (Text kinds.BadName) 8)
    × (text_fault (codes "{ exit } ?") ≡ stands (Text kinds.BadByte) 9)
unfolding tokens_from tokens_within next_of gap_len words directives common_names elements mark name numeral global count action popping pushing edit kept_value argument pass way rebind reply ending inside entry script
no_token_begins = (refl, refl, refl, refl)

-- of several the first stands; a name is judged only where a name may stand
the_first_stands :
    (text_fault (codes "{ pass (@zz ?") ≡ stands Unknown 8)
    × (text_fault (codes "{ kept -1 pass (@zz) }") ≡ stands (Text kinds.Unexpected) 7)
    × (text_fault (codes "{ pass (@zz kept 0 -1) }") ≡ stands Unknown 8)
    × (text_fault (codes "{ rebind @k @zz }") ≡ stands (Text kinds.Unexpected) 12)
    × (text_fault (codes "@zz") ≡ stands (Text kinds.Unexpected) 0)
    × (text_fault (codes "{ exit } { throw @zz } }") ≡ stands Unknown 17)
    × (text_fault (codes "{ push @k pop 1 exit }") ≡ stands Unknown 7)
    × (text_fault (codes "{ pop 1 pop @zz }") ≡ stands (Text kinds.Unexpected) 8)
unfolding tokens_from tokens_within next_of gap_len words directives common_names elements mark name numeral global count action popping pushing edit kept_value argument pass way rebind reply ending inside entry script
the_first_stands = (refl, refl, refl, refl, refl, refl, refl, refl)
