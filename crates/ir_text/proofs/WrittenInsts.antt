-- Instructions as they are read and as they are written: behind a common instruction ( ) may stand.
use Rattle.std.proofs.Common.{◌≡◌, ℕ, true, false, List, [], ◌++◌, Option, Some, None, refl, sym, ap, subst, ◌∙◌, append_assoc, inl, inr}
use Rattle.std.specs.Prelude.{◌⊎◌}
use Rattle.std.proofs.lemmas.List.{append-nil}
use Rattle.text_forms.specs.declared.symbol.Symbol.TheVariants as symbols
use Rattle.text_forms.specs.Tokens.{Tok}
use Rattle.text_forms.specs.Forms.{Form, ◌▸◌, ◌◂◌}
use Rattle.text_forms.specs.Derives.{Derives}
use Rattle.ir_lex.specs.TokenForms.{mark}
use Rattle.ir_tree.specs.declared.common.CommonInst.{CommonInst}
use Rattle.ir_tree.specs.declared.code.Op.{Op}
use Rattle.ir_tree.specs.declared.code.Op.TheVariants as ops
use Rattle.ir_tree.specs.declared.code.Inst.{Inst}
use Rattle.ir_tree.specs.CommonForms.{new_stack, kill_stack, thread_exit, current_stack, set_threadlocal, get_threadlocal, futex_wait, futex_wake, futex_wait_timeout, common_inst}
use Rattle.ir_tree.specs.Instructions.{op, op_with, labelled, common_leaves_out, leaves_out}
use Rattle.ir_tree.specs.Written.{no_values, written_common, written_labelled}

-- ( )
abbrev pub Brackets : List Tok → Type 0
Brackets v = (place : ℕ) × Derives (mark symbols.Open ▸ mark symbols.Close) v place

no : {A : Type 0} → false ≡ true → A
no e = absurd (let wrong : ⊥ = cc in wrong)

left_out : Derives no_values [] None
unfolding no_values
left_out = inr (refl, refl)

there : (v : List Tok) (b : Brackets v) → Derives no_values v (Some b.0)
unfolding no_values
there v (place, d) = inl (place, d, refl)

either : (v : List Tok) (o : Option ℕ) → Derives no_values v o → (v ≡ []) ⊎ Brackets v
unfolding no_values
either v o (inl (place, d, e)) = inr (place, d)
either v o (inr (e, q)) = inl e

module _ (f : Form CommonInst) where
  alone : (u : List Tok) (y : CommonInst) → Derives f u y → Derives (f ◂ no_values) u y
  alone u y d = ((y, None), (u, [], sym (append-nil u), d, left_out), refl)

  followed : (u v : List Tok) (y : CommonInst) → Derives f u y → Brackets v → Derives (f ◂ no_values) (u ++ v) y
  followed u v y d b = ((y, Some b.0), (u, v, refl, d, there v b), refl)

-- ---- common instructions

pub common_plain : (u : List Tok) (y : CommonInst) → Derives common_inst u y → Derives written_common u y
unfolding common_inst written_common
common_plain u y (inl d) = inl d
common_plain u y (inr (inl d)) = inr (inl d)
common_plain u y (inr (inr (inl d))) = inr (inr (inl (alone thread_exit u y d)))
common_plain u y (inr (inr (inr (inl d)))) = inr (inr (inr (inl (alone current_stack u y d))))
common_plain u y (inr (inr (inr (inr (inl d))))) = inr (inr (inr (inr (inl d))))
common_plain u y (inr (inr (inr (inr (inr (inl d)))))) = inr (inr (inr (inr (inr (inl (alone get_threadlocal u y d))))))
common_plain u y (inr (inr (inr (inr (inr (inr (inl d))))))) = inr (inr (inr (inr (inr (inr (inl d))))))
common_plain u y (inr (inr (inr (inr (inr (inr (inr (inl d)))))))) = inr (inr (inr (inr (inr (inr (inr (inl d)))))))
common_plain u y (inr (inr (inr (inr (inr (inr (inr (inr (inl d))))))))) = inr (inr (inr (inr (inr (inr (inr (inr d)))))))
common_plain u y (inr (inr (inr (inr (inr (inr (inr (inr (inr d))))))))) = absurd d

pub common_list : (u v : List Tok) (y : CommonInst) → common_leaves_out y ≡ true → Brackets v → Derives common_inst u y → Derives written_common (u ++ v) y
unfolding common_inst written_common new_stack kill_stack set_threadlocal futex_wait futex_wake futex_wait_timeout
common_list u v y l b (inl (x, d, e)) = no (ap common_leaves_out (sym e) ∙ l)
common_list u v y l b (inr (inl (x, d, e))) = no (ap common_leaves_out (sym e) ∙ l)
common_list u v y l b (inr (inr (inl d))) = inr (inr (inl (followed thread_exit u v y d b)))
common_list u v y l b (inr (inr (inr (inl d)))) = inr (inr (inr (inl (followed current_stack u v y d b))))
common_list u v y l b (inr (inr (inr (inr (inl (x, d, e)))))) = no (ap common_leaves_out (sym e) ∙ l)
common_list u v y l b (inr (inr (inr (inr (inr (inl d)))))) = inr (inr (inr (inr (inr (inl (followed get_threadlocal u v y d b))))))
common_list u v y l b (inr (inr (inr (inr (inr (inr (inl (x, d, e)))))))) = no (ap common_leaves_out (sym e) ∙ l)
common_list u v y l b (inr (inr (inr (inr (inr (inr (inr (inl (x, d, e))))))))) = no (ap common_leaves_out (sym e) ∙ l)
common_list u v y l b (inr (inr (inr (inr (inr (inr (inr (inr (inl (x, d, e)))))))))) = no (ap common_leaves_out (sym e) ∙ l)
common_list u v y l b (inr (inr (inr (inr (inr (inr (inr (inr (inr d))))))))) = absurd d

-- as it is read, or as it is read and then ( )
abbrev Common : List Tok → CommonInst → Type 0
Common u y = Derives common_inst u y ⊎ ((w v : List Tok) × (u ≡ w ++ v) × Derives common_inst w y × (common_leaves_out y ≡ true) × Brackets v)

parted : (f : Form CommonInst) (u : List Tok) (y : CommonInst) → ((w : List Tok) → Derives f w y → Derives common_inst w y) → ((w : List Tok) → Derives f w y → common_leaves_out y ≡ true) → Derives (f ◂ no_values) u y → Common u y
parted f u y h k (x, (w, v, p, d, n), e) =
    let d' : Derives f w y = subst (λ (c : CommonInst). Derives f w c) (sym e) d in
    elim (either v x.1 n) [
      | inl none ↦ inl (subst (λ (l : List Tok). Derives common_inst l y) (sym (p ∙ ap (λ (l : List Tok). w ++ l) none ∙ append-nil w)) (h w d'))
      | inr b ↦ inr (w, v, p, h w d', k w d', b)
    ]

pub common_back : (u : List Tok) (y : CommonInst) → Derives written_common u y → Common u y
unfolding common_inst written_common thread_exit current_stack get_threadlocal
common_back u y (inl d) = inl (inl d)
common_back u y (inr (inl d)) = inl (inr (inl d))
common_back u y (inr (inr (inl d))) = parted thread_exit u y (λ w e. inr (inr (inl e))) (λ w e. ap common_leaves_out e.2) d
common_back u y (inr (inr (inr (inl d)))) = parted current_stack u y (λ w e. inr (inr (inr (inl e)))) (λ w e. ap common_leaves_out e.2) d
common_back u y (inr (inr (inr (inr (inl d))))) = inl (inr (inr (inr (inr (inl d)))))
common_back u y (inr (inr (inr (inr (inr (inl d)))))) = parted get_threadlocal u y (λ w e. inr (inr (inr (inr (inr (inl e)))))) (λ w e. ap common_leaves_out e.2) d
common_back u y (inr (inr (inr (inr (inr (inr (inl d))))))) = inl (inr (inr (inr (inr (inr (inr (inl d)))))))
common_back u y (inr (inr (inr (inr (inr (inr (inr (inl d)))))))) = inl (inr (inr (inr (inr (inr (inr (inr (inl d))))))))
common_back u y (inr (inr (inr (inr (inr (inr (inr (inr d)))))))) = inl (inr (inr (inr (inr (inr (inr (inr (inr (inl d)))))))))

-- ---- what an instruction does

abbrev written_op : Form (ℕ × Op)
written_op = op_with written_common

leaves : (x : ℕ × Op) (o : Op) (n : ℕ) → x ≡ (n, o) → leaves_out x.1 ≡ true → leaves_out o ≡ true
leaves x o n e l = ap (λ (z : ℕ × Op). leaves_out z.1) (sym e) ∙ l

pub op_plain : (u : List Tok) (x : ℕ × Op) → Derives op u x → Derives written_op u x
unfolding op
op_plain u x (inl d) = inl d
op_plain u x (inr (inl d)) = inr (inl d)
op_plain u x (inr (inr (inl d))) = inr (inr (inl d))
op_plain u x (inr (inr (inr (inl d)))) = inr (inr (inr (inl d)))
op_plain u x (inr (inr (inr (inr (inl d))))) = inr (inr (inr (inr (inl d))))
op_plain u x (inr (inr (inr (inr (inr (inl d)))))) = inr (inr (inr (inr (inr (inl d)))))
op_plain u x (inr (inr (inr (inr (inr (inr (inl d))))))) = inr (inr (inr (inr (inr (inr (inl d))))))
op_plain u x (inr (inr (inr (inr (inr (inr (inr (inl (y, (a, b, p, m, d), e))))))))) = inr (inr (inr (inr (inr (inr (inr (inl (y, (a, b, p, m, common_plain b y.1 d), e))))))))
op_plain u x (inr (inr (inr (inr (inr (inr (inr (inr d)))))))) = absurd d

pub op_list : (u v : List Tok) (x : ℕ × Op) → leaves_out x.1 ≡ true → Brackets v → Derives op u x → Derives written_op (u ++ v) x
unfolding op
op_list u v x l r (inl (y, d, e)) = no (leaves x _ _ e l)
op_list u v x l r (inr (inl (y, d, e))) = no (leaves x _ _ e l)
op_list u v x l r (inr (inr (inl (y, d, e)))) = no (leaves x _ _ e l)
op_list u v x l r (inr (inr (inr (inl (y, d, e))))) = no (leaves x _ _ e l)
op_list u v x l r (inr (inr (inr (inr (inl (y, d, e)))))) = no (leaves x _ _ e l)
op_list u v x l r (inr (inr (inr (inr (inr (inl (y, d, e))))))) = no (leaves x _ _ e l)
op_list u v x l r (inr (inr (inr (inr (inr (inr (inl (y, d, e)))))))) = no (leaves x _ _ e l)
op_list u v x l r (inr (inr (inr (inr (inr (inr (inr (inl (y, (a, b, p, m, d), e))))))))) =
    inr (inr (inr (inr (inr (inr (inr (inl (y, (a, b ++ v, ap (λ (t : List Tok). t ++ v) p ∙ append_assoc a b v, m, common_list b v y.1 (leaves x (ops.Common y.1) y.0 e l) r d), e))))))))
op_list u v x l r (inr (inr (inr (inr (inr (inr (inr (inr d)))))))) = absurd d

abbrev Operation : List Tok → ℕ × Op → Type 0
Operation u x = Derives op u x ⊎ ((w v : List Tok) × (u ≡ w ++ v) × Derives op w x × (leaves_out x.1 ≡ true) × Brackets v)

pub op_back : (u : List Tok) (x : ℕ × Op) → Derives written_op u x → Operation u x
unfolding op
op_back u x (inl d) = inl (inl d)
op_back u x (inr (inl d)) = inl (inr (inl d))
op_back u x (inr (inr (inl d))) = inl (inr (inr (inl d)))
op_back u x (inr (inr (inr (inl d)))) = inl (inr (inr (inr (inl d))))
op_back u x (inr (inr (inr (inr (inl d))))) = inl (inr (inr (inr (inr (inl d)))))
op_back u x (inr (inr (inr (inr (inr (inl d)))))) = inl (inr (inr (inr (inr (inr (inl d))))))
op_back u x (inr (inr (inr (inr (inr (inr (inl d))))))) = inl (inr (inr (inr (inr (inr (inr (inl d)))))))
op_back u x (inr (inr (inr (inr (inr (inr (inr (inl (y, (a, b, p, m, d), e))))))))) =
    elim (common_back b y.1 d) [
      | inl c ↦ inl (inr (inr (inr (inr (inr (inr (inr (inl (y, (a, b, p, m, c), e)))))))))
      | inr s ↦ inr (a ++ s.0, s.1, p ∙ ap (λ (t : List Tok). a ++ t) s.2 ∙ sym (append_assoc a s.0 s.1), inr (inr (inr (inr (inr (inr (inr (inl (y, (a, s.0, refl, m, s.3), e)))))))), ap (λ (z : ℕ × Op). leaves_out z.1) e ∙ s.4, s.5)
    ]
op_back u x (inr (inr (inr (inr (inr (inr (inr (inr d)))))))) = absurd d

-- ---- label? op

pub labelled_plain : (u : List Tok) (i : Inst) → Derives labelled u i → Derives written_labelled u i
unfolding labelled written_labelled
labelled_plain u i (inl (x, (a, b, p, k, d), e)) = inl (x, (a, b, p, k, op_plain b x.1 d), e)
labelled_plain u i (inr (x, d, e)) = inr (x, op_plain u x d, e)

pub labelled_list : (u v : List Tok) (i : Inst) → leaves_out i.op ≡ true → Brackets v → Derives labelled u i → Derives written_labelled (u ++ v) i
unfolding labelled written_labelled
labelled_list u v i l r (inl (x, (a, b, p, k, d), e)) =
    inl (x, (a, b ++ v, ap (λ (t : List Tok). t ++ v) p ∙ append_assoc a b v, k, op_list b v x.1 (ap (λ (j : Inst). leaves_out j.op) (sym e) ∙ l) r d), e)
labelled_list u v i l r (inr (x, d, e)) = inr (x, op_list u v x (ap (λ (j : Inst). leaves_out j.op) (sym e) ∙ l) r d, e)

abbrev pub Labelled : List Tok → Inst → Type 0
Labelled u i = Derives labelled u i ⊎ ((w v : List Tok) × (u ≡ w ++ v) × Derives labelled w i × (leaves_out i.op ≡ true) × Brackets v)

pub labelled_back : (u : List Tok) (i : Inst) → Derives written_labelled u i → Labelled u i
unfolding labelled written_labelled
labelled_back u i (inl (x, (a, b, p, k, d), e)) =
    elim (op_back b x.1 d) [
      | inl c ↦ inl (inl (x, (a, b, p, k, c), e))
      | inr s ↦ inr (a ++ s.0, s.1, p ∙ ap (λ (t : List Tok). a ++ t) s.2 ∙ sym (append_assoc a s.0 s.1), inl (x, (a, s.0, refl, k, s.3), e), ap (λ (j : Inst). leaves_out j.op) e ∙ s.4, s.5)
    ]
labelled_back u i (inr (x, d, e)) =
    elim (op_back u x d) [
      | inl c ↦ inl (inr (x, c, e))
      | inr s ↦ inr (s.0, s.1, s.2, inr (x, s.3, e), ap (λ (j : Inst). leaves_out j.op) e ∙ s.4, s.5)
    ]
