-- Texts of the sample grammar, with each kind of fault at its place. Tokens stand at 0, 1, 2 and so on.
use Rattle.std.specs.Prelude.{◌≡◌, refl, None, [], ◌∷◌}
use Rattle.text_forms.specs.declared.symbol.Symbol.TheVariants as symbols
use Rattle.text_forms.specs.declared.fault.FaultKind.TheVariants as kinds
use Rattle.text_forms.specs.Reading.{elements}
use Rattle.text_forms.specs.Sample.{fault, stands, nested_fault}

-- ---- texts with no fault, and texts that do not go on

-- .typedef int (the end)
pub a_type : fault (symbols.DotTypedef ∷ symbols.Int ∷ symbols.End ∷ []) ≡ None
unfolding elements
a_type = refl

-- .funcdef { L : L = RET ( L L ) RET ( ) } (the end)
pub a_body : fault (symbols.DotFuncdef ∷ symbols.BraceOpen ∷ symbols.Local ∷ symbols.Colon ∷ symbols.Local ∷ symbols.Equals ∷ symbols.Ret ∷ symbols.Open ∷ symbols.Local ∷ symbols.Local ∷ symbols.Close ∷ symbols.Ret ∷ symbols.Open ∷ symbols.Close ∷ symbols.BraceClose ∷ symbols.End ∷ []) ≡ None
unfolding elements
a_body = refl

-- .typedef (the end)
pub ends_too_soon : fault (symbols.DotTypedef ∷ symbols.End ∷ []) ≡ stands kinds.Unexpected 1
unfolding elements
ends_too_soon = refl

-- .typedef RET int (the end)
pub goes_wrong : fault (symbols.DotTypedef ∷ symbols.Ret ∷ symbols.Int ∷ symbols.End ∷ []) ≡ stands kinds.Unexpected 1
unfolding elements
goes_wrong = refl

-- .typedef int } (the end)
pub goes_on_too_long : fault (symbols.DotTypedef ∷ symbols.Int ∷ symbols.BraceClose ∷ symbols.End ∷ []) ≡ stands kinds.Unexpected 2
unfolding elements
goes_on_too_long = refl

-- ---- lexical faults: where they are reached, and where another fault comes first

-- .typedef ?byte
pub bad_byte : fault (symbols.DotTypedef ∷ symbols.BadByte ∷ []) ≡ stands kinds.BadByte 1
unfolding elements
bad_byte = refl

-- .typedef ?name
pub bad_name : fault (symbols.DotTypedef ∷ symbols.BadName ∷ []) ≡ stands kinds.BadName 1
unfolding elements
bad_name = refl

-- .typedef ?large
pub number_too_large : fault (symbols.DotTypedef ∷ symbols.NumberTooLarge ∷ []) ≡ stands kinds.NumberTooLarge 1
unfolding elements
number_too_large = refl

-- ?long
pub too_long : fault (symbols.TooLong ∷ []) ≡ stands kinds.TooLong 0
unfolding elements
too_long = refl

-- RET ?byte
pub bad_byte_behind : fault (symbols.Ret ∷ symbols.BadByte ∷ []) ≡ stands kinds.Unexpected 0
unfolding elements
bad_byte_behind = refl

-- .funcdef { L : L ?byte
pub bad_byte_ahead : fault (symbols.DotFuncdef ∷ symbols.BraceOpen ∷ symbols.Local ∷ symbols.Colon ∷ symbols.Local ∷ symbols.BadByte ∷ []) ≡ stands kinds.BadByte 5
unfolding elements
bad_byte_ahead = refl

-- ---- words that are left out: at their place, and elsewhere

-- .expose (the end)
pub left_out_directive : fault (symbols.DotExpose ∷ symbols.End ∷ []) ≡ stands kinds.NotInProfile 0
unfolding elements
left_out_directive = refl

-- .typedef double (the end)
pub left_out_type : fault (symbols.DotTypedef ∷ symbols.Double ∷ symbols.End ∷ []) ≡ stands kinds.NotInProfile 1
unfolding elements
left_out_type = refl

-- .funcdef { L : FADD (the end)
pub left_out_instruction : fault (symbols.DotFuncdef ∷ symbols.BraceOpen ∷ symbols.Local ∷ symbols.Colon ∷ symbols.Fadd ∷ symbols.End ∷ []) ≡ stands kinds.NotInProfile 4
unfolding elements
left_out_instruction = refl

-- .funcdef { L : COMMINST G (the end)
pub left_out_name : fault (symbols.DotFuncdef ∷ symbols.BraceOpen ∷ symbols.Local ∷ symbols.Colon ∷ symbols.Comminst ∷ symbols.Global ∷ symbols.End ∷ []) ≡ stands kinds.NotInProfile 5
unfolding elements
left_out_name = refl

-- .typedef .expose (the end)
pub directive_elsewhere : fault (symbols.DotTypedef ∷ symbols.DotExpose ∷ symbols.End ∷ []) ≡ stands kinds.Unexpected 1
unfolding elements
directive_elsewhere = refl

-- .funcdef { L : double (the end)
pub type_elsewhere : fault (symbols.DotFuncdef ∷ symbols.BraceOpen ∷ symbols.Local ∷ symbols.Colon ∷ symbols.Double ∷ symbols.End ∷ []) ≡ stands kinds.Unexpected 4
unfolding elements
type_elsewhere = refl

-- ---- elements past a limit; what could be no element there, or is left out, is no such

-- .typedef int .typedef int .typedef int (the end)
pub third_item : fault (symbols.DotTypedef ∷ symbols.Int ∷ symbols.DotTypedef ∷ symbols.Int ∷ symbols.DotTypedef ∷ symbols.Int ∷ symbols.End ∷ []) ≡ stands kinds.TooMany 4
unfolding elements
third_item = refl

-- .funcdef { L : RET ( L L L (the end)
pub third_name : fault (symbols.DotFuncdef ∷ symbols.BraceOpen ∷ symbols.Local ∷ symbols.Colon ∷ symbols.Ret ∷ symbols.Open ∷ symbols.Local ∷ symbols.Local ∷ symbols.Local ∷ symbols.End ∷ []) ≡ stands kinds.TooMany 8
unfolding elements
third_name = refl

-- .typedef int .typedef int .expose (the end)
pub third_item_left_out : fault (symbols.DotTypedef ∷ symbols.Int ∷ symbols.DotTypedef ∷ symbols.Int ∷ symbols.DotExpose ∷ symbols.End ∷ []) ≡ stands kinds.NotInProfile 4
unfolding elements
third_item_left_out = refl

-- .typedef int .typedef int RET (the end)
pub third_item_unexpected : fault (symbols.DotTypedef ∷ symbols.Int ∷ symbols.DotTypedef ∷ symbols.Int ∷ symbols.Ret ∷ symbols.End ∷ []) ≡ stands kinds.Unexpected 4
unfolding elements
third_item_unexpected = refl

-- .funcdef { L : RET ( ) RET ( ) RET (the end)
pub third_instruction : fault (symbols.DotFuncdef ∷ symbols.BraceOpen ∷ symbols.Local ∷ symbols.Colon ∷ symbols.Ret ∷ symbols.Open ∷ symbols.Close ∷ symbols.Ret ∷ symbols.Open ∷ symbols.Close ∷ symbols.Ret ∷ symbols.End ∷ []) ≡ stands kinds.TooMany 10
unfolding elements
third_instruction = refl

-- .funcdef { L : RET ( ) RET ( ) FADD (the end)
pub third_instruction_left_out : fault (symbols.DotFuncdef ∷ symbols.BraceOpen ∷ symbols.Local ∷ symbols.Colon ∷ symbols.Ret ∷ symbols.Open ∷ symbols.Close ∷ symbols.Ret ∷ symbols.Open ∷ symbols.Close ∷ symbols.Fadd ∷ symbols.End ∷ []) ≡ stands kinds.NotInProfile 10
unfolding elements
third_instruction_left_out = refl

-- ---- a local name: the next token tells whether an instruction or a block begins, and the fault stands at the name

-- .funcdef { L : RET ( ) RET ( ) L = (the end)
pub named_instruction : fault (symbols.DotFuncdef ∷ symbols.BraceOpen ∷ symbols.Local ∷ symbols.Colon ∷ symbols.Ret ∷ symbols.Open ∷ symbols.Close ∷ symbols.Ret ∷ symbols.Open ∷ symbols.Close ∷ symbols.Local ∷ symbols.Equals ∷ symbols.End ∷ []) ≡ stands kinds.TooMany 10
unfolding elements
named_instruction = refl

-- .funcdef { L : L : L : (the end)
pub named_block : fault (symbols.DotFuncdef ∷ symbols.BraceOpen ∷ symbols.Local ∷ symbols.Colon ∷ symbols.Local ∷ symbols.Colon ∷ symbols.Local ∷ symbols.Colon ∷ symbols.End ∷ []) ≡ stands kinds.TooMany 6
unfolding elements
named_block = refl

-- .funcdef { L : L : L ( (the end)
pub named_block_with_list : fault (symbols.DotFuncdef ∷ symbols.BraceOpen ∷ symbols.Local ∷ symbols.Colon ∷ symbols.Local ∷ symbols.Colon ∷ symbols.Local ∷ symbols.Open ∷ symbols.End ∷ []) ≡ stands kinds.TooMany 6
unfolding elements
named_block_with_list = refl

-- .funcdef { L : RET ( ) RET ( ) L : RET ( ) } (the end)
pub block_behind_instructions : fault (symbols.DotFuncdef ∷ symbols.BraceOpen ∷ symbols.Local ∷ symbols.Colon ∷ symbols.Ret ∷ symbols.Open ∷ symbols.Close ∷ symbols.Ret ∷ symbols.Open ∷ symbols.Close ∷ symbols.Local ∷ symbols.Colon ∷ symbols.Ret ∷ symbols.Open ∷ symbols.Close ∷ symbols.BraceClose ∷ symbols.End ∷ []) ≡ None
unfolding elements
block_behind_instructions = refl

-- .funcdef { L : L : RET ( ) RET ( ) L RET (the end)
pub neither : fault (symbols.DotFuncdef ∷ symbols.BraceOpen ∷ symbols.Local ∷ symbols.Colon ∷ symbols.Local ∷ symbols.Colon ∷ symbols.Ret ∷ symbols.Open ∷ symbols.Close ∷ symbols.Ret ∷ symbols.Open ∷ symbols.Close ∷ symbols.Local ∷ symbols.Ret ∷ symbols.End ∷ []) ≡ stands kinds.Unexpected 13
unfolding elements
neither = refl

-- .funcdef { L : L : RET ( ) RET ( ) L ?byte
pub neither_lexical : fault (symbols.DotFuncdef ∷ symbols.BraceOpen ∷ symbols.Local ∷ symbols.Colon ∷ symbols.Local ∷ symbols.Colon ∷ symbols.Ret ∷ symbols.Open ∷ symbols.Close ∷ symbols.Ret ∷ symbols.Open ∷ symbols.Close ∷ symbols.Local ∷ symbols.BadByte ∷ []) ≡ stands kinds.BadByte 13
unfolding elements
neither_lexical = refl

-- ---- `( )` behind a form whose list may be left out: it is that list, save before `=`

-- .funcdef { L : COMMINST EXIT } (the end)
pub list_left_out : fault (symbols.DotFuncdef ∷ symbols.BraceOpen ∷ symbols.Local ∷ symbols.Colon ∷ symbols.Comminst ∷ symbols.UvmThreadExit ∷ symbols.BraceClose ∷ symbols.End ∷ []) ≡ None
unfolding elements
list_left_out = refl

-- .funcdef { L : COMMINST EXIT ( ) COMMINST EXIT ( ) } (the end)
pub list_there : fault (symbols.DotFuncdef ∷ symbols.BraceOpen ∷ symbols.Local ∷ symbols.Colon ∷ symbols.Comminst ∷ symbols.UvmThreadExit ∷ symbols.Open ∷ symbols.Close ∷ symbols.Comminst ∷ symbols.UvmThreadExit ∷ symbols.Open ∷ symbols.Close ∷ symbols.BraceClose ∷ symbols.End ∷ []) ≡ None
unfolding elements
list_there = refl

-- .funcdef { L : COMMINST EXIT ( ) = RET ( ) } (the end)
pub results_behind : fault (symbols.DotFuncdef ∷ symbols.BraceOpen ∷ symbols.Local ∷ symbols.Colon ∷ symbols.Comminst ∷ symbols.UvmThreadExit ∷ symbols.Open ∷ symbols.Close ∷ symbols.Equals ∷ symbols.Ret ∷ symbols.Open ∷ symbols.Close ∷ symbols.BraceClose ∷ symbols.End ∷ []) ≡ None
unfolding elements
results_behind = refl

-- .funcdef { L : RET ( ) COMMINST EXIT ( ) = (the end)
pub results_past_limit : fault (symbols.DotFuncdef ∷ symbols.BraceOpen ∷ symbols.Local ∷ symbols.Colon ∷ symbols.Ret ∷ symbols.Open ∷ symbols.Close ∷ symbols.Comminst ∷ symbols.UvmThreadExit ∷ symbols.Open ∷ symbols.Close ∷ symbols.Equals ∷ symbols.End ∷ []) ≡ stands kinds.TooMany 9
unfolding elements
results_past_limit = refl

-- .funcdef { L : RET ( ) COMMINST EXIT ( L (the end)
pub named_results_past_limit : fault (symbols.DotFuncdef ∷ symbols.BraceOpen ∷ symbols.Local ∷ symbols.Colon ∷ symbols.Ret ∷ symbols.Open ∷ symbols.Close ∷ symbols.Comminst ∷ symbols.UvmThreadExit ∷ symbols.Open ∷ symbols.Local ∷ symbols.End ∷ []) ≡ stands kinds.TooMany 9
unfolding elements
named_results_past_limit = refl

-- .funcdef { L : RET ( ) COMMINST EXIT ( RET (the end)
pub neither_list_nor_results : fault (symbols.DotFuncdef ∷ symbols.BraceOpen ∷ symbols.Local ∷ symbols.Colon ∷ symbols.Ret ∷ symbols.Open ∷ symbols.Close ∷ symbols.Comminst ∷ symbols.UvmThreadExit ∷ symbols.Open ∷ symbols.Ret ∷ symbols.End ∷ []) ≡ stands kinds.Unexpected 10
unfolding elements
neither_list_nor_results = refl

-- .funcdef { L : RET ( ) COMMINST EXIT ( ) ( (the end)
pub results_behind_list : fault (symbols.DotFuncdef ∷ symbols.BraceOpen ∷ symbols.Local ∷ symbols.Colon ∷ symbols.Ret ∷ symbols.Open ∷ symbols.Close ∷ symbols.Comminst ∷ symbols.UvmThreadExit ∷ symbols.Open ∷ symbols.Close ∷ symbols.Open ∷ symbols.End ∷ []) ≡ stands kinds.TooMany 11
unfolding elements
results_behind_list = refl

-- .funcdef { L : RET ( ) ( ) } (the end)
pub no_list_behind_others : fault (symbols.DotFuncdef ∷ symbols.BraceOpen ∷ symbols.Local ∷ symbols.Colon ∷ symbols.Ret ∷ symbols.Open ∷ symbols.Close ∷ symbols.Open ∷ symbols.Close ∷ symbols.BraceClose ∷ symbols.End ∷ []) ≡ stands kinds.Unexpected 9
unfolding elements
no_list_behind_others = refl

-- ---- lists in one another, at most two deep

-- { { 1 } 1 }
pub two_deep : nested_fault (symbols.BraceOpen ∷ symbols.BraceOpen ∷ symbols.Number ∷ symbols.BraceClose ∷ symbols.Number ∷ symbols.BraceClose ∷ []) ≡ None
unfolding elements
two_deep = refl

-- { { { 1 } } }
pub three_deep : nested_fault (symbols.BraceOpen ∷ symbols.BraceOpen ∷ symbols.BraceOpen ∷ symbols.Number ∷ symbols.BraceClose ∷ symbols.BraceClose ∷ symbols.BraceClose ∷ []) ≡ stands kinds.Unexpected 2
unfolding elements
three_deep = refl
