-- Texts, with their tokens as the grammars see them.
use Rattle.std.specs.Prelude.{◌≡◌, ℕ, List, [], ◌∷◌, codes}
use Rattle.text_forms.specs.declared.symbol.Symbol.{Symbol}
use Rattle.text_forms.specs.declared.symbol.Symbol.TheVariants as symbols
use Rattle.text_forms.specs.Tokens.{Tok}
use Rattle.ir_lex.specs.Walk.{tokens_from}

abbrev pub tok : Symbol → ℕ → List ℕ → Tok
tok symbol place spelling = record { symbol = symbol; place = place; spelling = spelling }

abbrev pub Seen : Type 0
Seen =
    (tokens_from [] 0 ≡ tok symbols.End 0 [] ∷ [])
    × (tokens_from (codes "COMMINST @uvm.thread_exit ()") 0 ≡ tok symbols.Comminst 0 (codes "COMMINST") ∷ tok symbols.UvmThreadExit 9 (codes "@uvm.thread_exit") ∷ tok symbols.Open 26 (codes "(") ∷ tok symbols.Close 27 (codes ")") ∷ tok symbols.End 28 [] ∷ [])
    × (tokens_from (codes ".init @g = 0x10 // x") 0 ≡ tok symbols.DotInit 0 (codes ".init") ∷ tok symbols.Global 6 (codes "@g") ∷ tok symbols.Equals 9 (codes "=") ∷ tok symbols.Number 11 (codes "0x10") ∷ tok symbols.End 20 [] ∷ [])
    × (tokens_from (codes "throw fadd FADD . x") 0 ≡ tok symbols.ThrowReply 0 (codes "throw") ∷ tok symbols.Other 6 (codes "fadd") ∷ tok symbols.Fadd 11 (codes "FADD") ∷ tok symbols.BadName 16 [] ∷ [])
