-- A line that begins with ( behind a common instruction, where no ) follows.
use Rattle.std.proofs.Common.{◌≡◌, ℕ, Bool, true, false, List, [], ◌∷◌, Option, Some, Result, Ok, Err, refl}
use Rattle.text_forms.specs.declared.symbol.Symbol.TheVariants as symbols
use Rattle.text_forms.specs.declared.fault.Fault.{Fault}
use Rattle.text_forms.specs.Tokens.{Tok, at}
use Rattle.text_forms.specs.Forms.{within}
use Rattle.text_forms.specs.Begins.{steady}
use Rattle.text_forms.specs.Reading.{read_from, read}
use Rattle.text_forms.specs.Answers.{kept}
use Rattle.text_forms.specs.Lemmas.Lists.{steady_read}
use Rattle.ir_lex.specs.declared.name.Name.{Name}
use Rattle.ir_lex.specs.TokenForms.{mark}
use Rattle.ir_tree.specs.declared.code.Inst.{Inst}
use Rattle.ir_tree.specs.declared.code.Line.TheVariants as body_lines
use Rattle.ir_tree.specs.Instructions.{with_results}
use Rattle.ir_tree.specs.Bodies.{more_results, opened, opened_line}
use Rattle.ir_text.proofs.Fronts.{paired}

open_own : steady (mark symbols.Open) ≡ true
unfolding mark
open_own = refl

as_line : (place : ℕ) (r : Result ((List Name × Inst) × List Tok) Fault) →
    kept (λ (x : ℕ × Option (List Name × Inst)). opened_line x.0 x.1) (paired place (kept (λ (x : List Name × Inst). Some x) r))
    ≡ kept (λ (x : List Name × Inst). body_lines.Inst (with_results place x.0 x.1)) r
as_line place (Ok x) = refl
as_line place (Err e) = refl

pub opened_with_name : (full : Bool) (start place : ℕ) (ts rest : List Tok) → read (mark symbols.Open) ts ≡ Ok (place, rest) → at (symbols.Close ∷ []) rest ≡ false
    → read_from (opened full true) start ts ≡ kept (λ (x : List Name × Inst). body_lines.Inst (with_results place x.0 x.1)) (read_from (within more_results full) start rest)
opened_with_name full start place ts rest e off =
    rw (steady_read (mark symbols.Open) open_own start 0 ts, e, off) (as_line place (read_from (within more_results full) start rest))
