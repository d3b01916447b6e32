-- The words of instructions.
use Rattle.std.proofs.Common.{◌≡◌, ℕ, true, false, List, [], ◌∷◌, ◌++◌, Option, Some, None, refl, sym, ap, ◌∙◌, append_assoc, inl, inr}
use Rattle.std.specs.Prelude.{codes}
use Rattle.std.proofs.lemmas.List.{append-nil}
use Rattle.text_forms.specs.declared.symbol.Symbol.TheVariants as symbols
use Rattle.text_forms.specs.Tokens.{Tok}
use Rattle.text_forms.specs.Derives.{Derives}
use Rattle.ir_lex.specs.declared.token.Mark.TheVariants as marks
use Rattle.ir_lex.specs.declared.name.Name.{Name}
use Rattle.ir_lex.specs.Printed.{Piece}
use Rattle.ir_lex.specs.WordTable.{words}
use Rattle.ir_lex.specs.TokenForms.{mark}
use Rattle.ir_tree.specs.declared.common.CommonInst.{CommonInst}
use Rattle.ir_tree.specs.declared.common.CommonInst.TheVariants as commons
use Rattle.ir_tree.specs.declared.code.Op.{Op}
use Rattle.ir_tree.specs.declared.code.Op.TheVariants as ops
use Rattle.ir_tree.specs.declared.code.Inst.{Inst}
use Rattle.ir_tree.specs.Instructions.{op, label, labelled, common_leaves_out, leaves_out}
use Rattle.ir_tree.specs.Blocks.{result}
use Rattle.ir_print.specs.Spellings.{spelling}
use Rattle.ir_print.specs.Words.{tight, spaced, mark as mark_piece, word as word_piece, local as local_piece}
use Rattle.ir_print.specs.Lists.{local_list_words}
use Rattle.ir_print.specs.Computations.{computation_words}
use Rattle.ir_print.specs.Control.{control_words}
use Rattle.ir_print.specs.Objects.{allocation_words, addressing_words}
use Rattle.ir_print.specs.Accesses.{access_words}
use Rattle.ir_print.specs.Stacks.{trapping_words, stack_switch_words}
use Rattle.ir_print.specs.Instructions.{op_words, labelled_words, results_words}
use Rattle.ir_print.specs.Placeless.{bare_name, bare_common_inst, bare_op, bare_inst}
use Rattle.ir_print.specs.Lemmas.Prints.{Prints, both_prints, made_prints, on_prints, after_prints, before_prints, left_out_prints}
use Rattle.ir_print.specs.Lemmas.Tokens.{local_prints, mark_at, word_at}
use Rattle.ir_print.specs.Lemmas.ComputationForms.{computation_prints}
use Rattle.ir_print.specs.Lemmas.ControlForms.{control_prints}
use Rattle.ir_print.specs.Lemmas.ObjectForms.{allocation_prints, addressing_prints}
use Rattle.ir_print.specs.Lemmas.AccessForms.{access_prints}
use Rattle.ir_print.specs.Lemmas.StackForms.{trapping_prints, stack_switch_prints}
use Rattle.ir_print.specs.Lemmas.CommonForms.{core_words, tail_of, common_parts, common_inst_prints, square_open_prints, square_close_prints}

-- ---- instructions without a list of values that is ()

abbrev pub op_core : List ℕ → Op → List Piece
op_core space (ops.Computation x) = computation_words space x
op_core space (ops.ControlFlow x) = control_words space x
op_core space (ops.Allocation x) = allocation_words space x
op_core space (ops.Addressing x) = addressing_words space x
op_core space (ops.Access x) = access_words space x
op_core space (ops.Trapping x) = trapping_words space x
op_core space (ops.StackSwitch x) = stack_switch_words space x
op_core space (ops.Common x) = word_piece space (codes "COMMINST") ∷ core_words spaced x

abbrev pub labelled_core : List ℕ → Option Name → Op → List Piece
labelled_core space None o = op_core space o
labelled_core space (Some l) o = mark_piece space marks.OpenBracket ∷ local_piece tight l ∷ mark_piece tight marks.CloseBracket ∷ op_core spaced o

abbrev pub results_core : List ℕ → List Name → Option Name → Op → List Piece
results_core space [] l o = labelled_core space l o
results_core space (n ∷ []) l o = local_piece space n ∷ mark_piece spaced marks.Equals ∷ labelled_core spaced l o
results_core space (m ∷ n ∷ ns) l o = local_list_words space (m ∷ n ∷ ns) ++ mark_piece spaced marks.Equals ∷ labelled_core spaced l o

op_parts : (space : List ℕ) (o : Op) → op_words space o ≡ op_core space o ++ tail_of (leaves_out o)
unfolding op_words words spelling
op_parts space (ops.Computation x) = sym (append-nil (computation_words space x))
op_parts space (ops.ControlFlow x) = sym (append-nil (control_words space x))
op_parts space (ops.Allocation x) = sym (append-nil (allocation_words space x))
op_parts space (ops.Addressing x) = sym (append-nil (addressing_words space x))
op_parts space (ops.Access x) = sym (append-nil (access_words space x))
op_parts space (ops.Trapping x) = sym (append-nil (trapping_words space x))
op_parts space (ops.StackSwitch x) = sym (append-nil (stack_switch_words space x))
op_parts space (ops.Common x) = ap (λ (l : List Piece). word_piece space (codes "COMMINST") ∷ l) (common_parts x)

labelled_parts : (space : List ℕ) (l : Option Name) (o : Op) → labelled_words space l o ≡ labelled_core space l o ++ tail_of (leaves_out o)
unfolding labelled_words
labelled_parts space None o = op_parts space o
labelled_parts space (Some l) o = ap (λ (w : List Piece). mark_piece space marks.OpenBracket ∷ local_piece tight l ∷ mark_piece tight marks.CloseBracket ∷ w) (op_parts spaced o)

pub results_parts : (space : List ℕ) (ns : List Name) (l : Option Name) (o : Op) → results_words space ns l o ≡ results_core space ns l o ++ tail_of (leaves_out o)
unfolding results_words
results_parts space [] l o = labelled_parts space l o
results_parts space (n ∷ []) l o = ap (λ (w : List Piece). local_piece space n ∷ mark_piece spaced marks.Equals ∷ w) (labelled_parts spaced l o)
results_parts space (m ∷ n ∷ ns) l o =
    ap (λ (w : List Piece). local_list_words space (m ∷ n ∷ ns) ++ mark_piece spaced marks.Equals ∷ w) (labelled_parts spaced l o)
    ∙ sym (append_assoc (local_list_words space (m ∷ n ∷ ns)) (mark_piece spaced marks.Equals ∷ labelled_core spaced l o) (tail_of (leaves_out o)))

-- ---- their forms

abbrev bare : ℕ × Op → ℕ × Op
bare x = (0, bare_op x.1)

op_prints : Prints false false op bare bare (λ s x. op_core s x.1)
unfolding op words spelling
op_prints =
    on_prints (made_prints computation_prints (λ _. refl) (λ _ _. refl))
    (on_prints (made_prints control_prints (λ _. refl) (λ _ _. refl))
    (on_prints (made_prints allocation_prints (λ _. refl) (λ _ _. refl))
    (on_prints (made_prints addressing_prints (λ _. refl) (λ _ _. refl))
    (on_prints (made_prints access_prints (λ _. refl) (λ _ _. refl))
    (on_prints (made_prints trapping_prints (λ _. refl) (λ _ _. refl))
    (on_prints (made_prints stack_switch_prints (λ _. refl) (λ _ _. refl))
    (on_prints (made_prints (both_prints spaced refl refl (word_at symbols.Comminst (codes "COMMINST") refl) common_inst_prints) (λ _. refl) (λ _ _. refl))
    left_out_prints)))))))

label_prints : Prints true true label (λ x. (0, bare_name x.1)) (λ x. (0, bare_name x.1)) (λ s x. mark_piece s marks.OpenBracket ∷ local_piece tight x.1 ∷ mark_piece tight marks.CloseBracket ∷ [])
unfolding label
label_prints = both_prints tight refl refl square_open_prints (before_prints tight refl refl local_prints square_close_prints)

pub labelled_prints : Prints false false labelled bare_inst bare_inst (λ s i. labelled_core s i.label i.op)
unfolding labelled
labelled_prints = on_prints (made_prints (both_prints spaced refl refl label_prints op_prints) (λ _. refl) (λ _ _. refl)) (made_prints op_prints (λ _. refl) (λ _ _. refl))

pub equals_prints : Prints true true (mark symbols.Equals) (λ _. 0) (λ _. 0) (λ space _. mark_piece space marks.Equals ∷ [])
equals_prints = mark_at symbols.Equals marks.Equals refl refl

-- = label? op
pub result_prints : Prints true false result bare_inst bare_inst (λ s i. mark_piece s marks.Equals ∷ labelled_core spaced i.label i.op)
unfolding result
result_prints = after_prints spaced refl refl equals_prints labelled_prints

-- ---- what follows an instruction does not tell places

common_leaves_again : (x : CommonInst) → common_leaves_out (bare_common_inst x) ≡ common_leaves_out x
common_leaves_again (commons.NewStack signature function) = refl
common_leaves_again (commons.KillStack stack) = refl
common_leaves_again commons.ThreadExit = refl
common_leaves_again commons.CurrentStack = refl
common_leaves_again (commons.SetThreadlocal reference) = refl
common_leaves_again commons.GetThreadlocal = refl
common_leaves_again (commons.FutexWait of_type location value) = refl
common_leaves_again (commons.FutexWake of_type location count) = refl
common_leaves_again (commons.FutexWaitTimeout of_type location value limit) = refl

pub leaves_again : (o : Op) → leaves_out (bare_op o) ≡ leaves_out o
leaves_again (ops.Computation x) = refl
leaves_again (ops.ControlFlow x) = refl
leaves_again (ops.Allocation x) = refl
leaves_again (ops.Addressing x) = refl
leaves_again (ops.Access x) = refl
leaves_again (ops.Trapping x) = refl
leaves_again (ops.StackSwitch x) = refl
leaves_again (ops.Common x) = common_leaves_again x

-- an instruction behind its results has none of its own
pub no_results : (ts : List Tok) (i : Inst) → Derives labelled ts i → i.results ≡ []
unfolding labelled
no_results ts i (inl (x, d, e)) = ap (λ (z : Inst). z.results) e
no_results ts i (inr (x, d, e)) = ap (λ (z : Inst). z.results) e
