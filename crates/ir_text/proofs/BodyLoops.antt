-- Reading the lines of a body one at a time.
use Rattle.std.specs.Prelude.{nat_le}
use Rattle.std.proofs.Common.{◌≡◌, ℕ, suc, Bool, true, false, List, [], ◌∷◌, ◌++◌, length, Result, Ok, Err, refl, sym, ap, subst, ◌∙◌, arith, append_assoc}
use Rattle.std.proofs.lemmas.List.{append-nil, length-append}
use Rattle.text_forms.specs.declared.symbol.Symbol.TheVariants as symbols
use Rattle.text_forms.specs.declared.fault.Fault.{Fault}
use Rattle.text_forms.specs.declared.fault.ReadError.{ReadError}
use Rattle.text_forms.specs.Tokens.{Tok, at, first, rest_of}
use Rattle.text_forms.specs.Forms.{Form, lines, three_flags}
use Rattle.text_forms.specs.Reading.{read_from, read}
use Rattle.text_forms.specs.Answers.{Gives, kept}
use Rattle.text_forms.specs.Lemmas.Lists.{goes_on_by, is_done_by, fails_by}
use Rattle.ir_lex.specs.TokenForms.{mark}
use Rattle.ir_tree.specs.declared.code.Block.{Block}
use Rattle.ir_tree.specs.declared.code.Inst.{Inst}
use Rattle.ir_tree.specs.declared.code.BlockHead.{BlockHead}
use Rattle.ir_tree.specs.declared.code.Line.{Line}
use Rattle.ir_tree.specs.declared.code.Line.TheVariants as body_lines
use Rattle.ir_tree.specs.Instructions.{leaves_out}
use Rattle.ir_tree.specs.Bodies.{Body, line, step, flags, parted}
use Rattle.ir_text.specs.declared.bodies.BodySoFar.{BodySoFar}
use Rattle.ir_text.specs.BodiesSoFar.{followed, counted, blocks_with, blocks_so_far}
use Rattle.ir_text.proofs.Insides.{line_element}

abbrev Total : Type 0
Total = Result (List Block × List Tok) Fault

-- the lines from a state on
abbrev pub lines_from : Body → Form (List Line × ℕ)
lines_from s = lines three_flags flags step line (symbols.BraceClose ∷ []) (mark symbols.BraceClose) s

abbrev block : BlockHead → List Inst → Block
block h is = record { head = h; insts = is }

pub flagged : (b : BodySoFar) (full crowded : Bool) → full ≡ nat_le 4096 (length b.insts) → crowded ≡ nat_le 4096 (suc (length b.whole)) → (full, crowded, b.open_list) ≡ flags (counted b)
flagged b full crowded e f = rw (e, f) refl

one_more : {A : Type 0} (xs : List A) (x : A) → length (xs ++ x ∷ []) ≡ suc (length xs)
one_more xs x = omega (arith, length-append xs (x ∷ []))

counts : (b : BodySoFar) (l : Line) → step (counted b) l ≡ counted (followed b l)
counts b (body_lines.Inst i) = ap (λ (n : ℕ). record { insts = n; blocks = suc (length b.whole); open_list = leaves_out i.op }) (sym (one_more b.insts i))
counts b (body_lines.Head h) = ap (λ (n : ℕ). record { insts = 0; blocks = suc n; open_list = false }) (sym (one_more b.whole (block b.head b.insts)))
counts b body_lines.EmptyList = refl

means : (b : BodySoFar) (l : Line) (ls : List Line) → blocks_with b (l ∷ ls) ≡ blocks_with (followed b l) ls
means b (body_lines.Inst i) ls = ap (λ (is : List Inst). b.whole ++ block b.head is ∷ (parted ls).1) (sym (append_assoc b.insts (i ∷ []) (parted ls).0))
means b (body_lines.Head h) ls =
    ap (λ (is : List Inst). b.whole ++ block b.head is ∷ block h (parted ls).0 ∷ (parted ls).1) (append-nil b.insts)
    ∙ sym (append_assoc b.whole (block b.head b.insts ∷ []) (block h (parted ls).0 ∷ (parted ls).1))
means b body_lines.EmptyList ls = refl

pub goes_on : (b : BodySoFar) (ts : List Tok) (l : Line) (rest : List Tok) (total : Total) → at (symbols.BraceClose ∷ []) ts ≡ false → read_from (line (flags (counted b))) (first ts).place ts ≡ Ok (l, rest)
    → kept (λ (x : List Line × ℕ). blocks_with b x.0) (read (lines_from (counted b)) ts) ≡ total → kept (λ (x : List Line × ℕ). blocks_with (followed b l) x.0) (read (lines_from (counted (followed b l))) rest) ≡ total
goes_on b ts l rest total off one so_far =
    subst (λ (s : Body). kept (λ (x : List Line × ℕ). blocks_with (followed b l) x.0) (read (lines_from s) rest) ≡ total) (counts b l)
    (goes_on_by three_flags flags step line (symbols.BraceClose ∷ []) (mark symbols.BraceClose) line_element 0 (counted b) (λ (x : List Line × ℕ). blocks_with b x.0) (λ (x : List Line × ℕ). blocks_with (followed b l) x.0) ts l rest total
    (λ ls place. means b l ls) off one so_far)

pub fails_with : (b : BodySoFar) (ts rest : List Tok) (total : Total) (e : ReadError) → at (symbols.BraceClose ∷ []) ts ≡ false → Gives {A = Line} (Err e) rest (read_from (line (flags (counted b))) (first ts).place ts)
    → kept (λ (x : List Line × ℕ). blocks_with b x.0) (read (lines_from (counted b)) ts) ≡ total → Gives {A = List Block} (Err e) rest total
fails_with b ts rest total e off one so_far =
    fails_by three_flags flags step line (symbols.BraceClose ∷ []) (mark symbols.BraceClose) line_element 0 (counted b) (λ (x : List Line × ℕ). blocks_with b x.0) ts rest total e off one so_far

closed : (ts : List Tok) → at (symbols.BraceClose ∷ []) ts ≡ true → read (mark symbols.BraceClose) ts ≡ Ok ((first ts).place, rest_of ts)
unfolding mark
closed ts here = rw here refl

pub is_done : (b : BodySoFar) (ts : List Tok) (total : Total) → at (symbols.BraceClose ∷ []) ts ≡ true
    → kept (λ (x : List Line × ℕ). blocks_with b x.0) (read (lines_from (counted b)) ts) ≡ total → total ≡ Ok (blocks_so_far b, rest_of ts)
is_done b ts total here so_far =
    is_done_by three_flags flags step line (symbols.BraceClose ∷ []) (mark symbols.BraceClose) line_element 0 (counted b) (λ (x : List Line × ℕ). blocks_with b x.0) ts (first ts).place (rest_of ts) total here (closed ts here) so_far
    ∙ ap (λ (is : List Inst). Ok (b.whole ++ block b.head is ∷ [], rest_of ts)) (append-nil b.insts)
