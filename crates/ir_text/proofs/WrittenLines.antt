-- Lines as they are read, and instructions and heads as they are written.
use Rattle.std.proofs.Common.{◌≡◌, ℕ, ◌≤◌, Bool, true, false, List, [], ◌∷◌, ◌++◌, length, Option, Some, None, refl, sym, ap, subst, ◌∙◌, arith, append_assoc, inl, inr}
use Rattle.std.specs.Prelude.{◌⊎◌}
use Rattle.std.proofs.lemmas.List.{append-nil}
use Rattle.text_forms.specs.declared.symbol.Symbol.TheVariants as symbols
use Rattle.text_forms.specs.Tokens.{Tok}
use Rattle.text_forms.specs.Forms.{Form, both, on, made, many, up_to, within, ◌◂◌}
use Rattle.text_forms.specs.Derives.{Derives}
use Rattle.text_forms.specs.Lemmas.Usual.{until_is_each, up_to_is_short}
use Rattle.ir_lex.specs.declared.name.Name.{Name}
use Rattle.ir_lex.specs.TokenForms.{mark}
use Rattle.ir_tree.specs.declared.code.Inst.{Inst}
use Rattle.ir_tree.specs.declared.code.Line.{Line}
use Rattle.ir_tree.specs.declared.code.Line.TheVariants as body_lines
use Rattle.ir_tree.specs.Lists.{local}
use Rattle.ir_tree.specs.Instructions.{labelled, with_results}
use Rattle.ir_tree.specs.Blocks.{HeadRest, head_rest, head, result}
use Rattle.ir_tree.specs.Bodies.{named_line, named, results, more_results, opened_line, opened, line}
use Rattle.ir_tree.specs.Written.{results_of, written_results}
use Rattle.ir_text.proofs.WrittenInsts.{Brackets}

-- an instruction, without the ( ) that may stand behind it
abbrev pub plain_inst : Form Inst
plain_inst = on (symbols.Local ∷ symbols.Open ∷ []) (made (λ x. with_results x.0.0 x.0.1 x.1) (both written_results labelled)) labelled

-- ---- L* )

names_closed : (ts : List Tok) (names : List Name) → Derives (up_to 256 (symbols.Close ∷ []) local) ts names → Derives (many local ◂ mark symbols.Close) ts names × (length names ≤ 256)
unfolding mark
names_closed ts names d =
    let s = (up_to_is_short local 256 (symbols.Close ∷ []) ts names).0 d in
    let (u, t, p, k, each) = (until_is_each local (symbols.Close ∷ []) ts names).0 s.0 in
    (((names, t.place), (u, t ∷ [], p, each, (t, (refl, k), refl)), refl), s.1)

names_opened : (ts : List Tok) (names : List Name) → Derives (many local ◂ mark symbols.Close) ts names → length names ≤ 256 → Derives (up_to 256 (symbols.Close ∷ []) local) ts names
unfolding mark
names_opened ts names (x, (u, v, p, each, (t, (q, k), r)), e) le =
    (up_to_is_short local 256 (symbols.Close ∷ []) ts names).1
    ((until_is_each local (symbols.Close ∷ []) ts names).1 (u, t, p ∙ ap (λ (w : List Tok). u ++ w) q, k, subst (λ (l : List Name). Derives (many local) u l) (sym e) each), le)

-- ---- from a line

abbrev pub Meant : Bool → Bool → Bool → List Tok → Line → Type 0
Meant full crowded open_list u (body_lines.Inst i) = (full ≡ false) × Derives plain_inst u i × (length i.results ≤ 256)
Meant full crowded open_list u (body_lines.Head h) = (crowded ≡ false) × Derives head u h
Meant full crowded open_list u body_lines.EmptyList = (open_list ≡ true) × Brackets u

within_is : {A : Type 0} (f : Form A) (full : Bool) (u : List Tok) (a : A) → Derives (within f full) u a → (full ≡ false) × Derives f u a
within_is f false u a d = (refl, d)
within_is f true u a d = absurd d

behind_name : (n : Name) (u a b : List Tok) (j : Inst) → u ≡ a ++ b → Derives local a n → Derives result b j → Derives plain_inst u (with_results n.place (n ∷ []) j)
unfolding result written_results
behind_name n u a b j p dn (z, (b1, b2, pb, de, dl), ej) =
    inl (((n.place, n ∷ []), z.1), (a ++ b1, b2, p ∙ ap (λ (t : List Tok). a ++ t) pb ∙ sym (append_assoc a b1 b2), inl (n, ((n, z.0), (a, b1, refl, dn, de), refl), refl), dl), ap (λ (k : Inst). with_results n.place (n ∷ []) k) ej)

behind_names : (place : ℕ) (u a b c : List Tok) (names : List Name) (j : Inst) → u ≡ a ++ (b ++ c) → Derives (mark symbols.Open) a place → Derives (many local ◂ mark symbols.Close) b names → Derives result c j → Derives plain_inst u (with_results place names j)
unfolding result written_results
behind_names place u a b c names j p dp dn (z, (c1, c2, pc, de, dl), ej) =
    inl (
      ((place, names), z.1),
      (
        a ++ (b ++ c1),
        c2,
        p ∙ ap (λ (t : List Tok). a ++ (b ++ t)) pc ∙ ap (λ (t : List Tok). a ++ t) (sym (append_assoc b c1 c2)) ∙ sym (append_assoc a (b ++ c1) c2),
        inr ((place, names), (a, b ++ c1, refl, dp, ((names, z.0), (b, c1, refl, dn, de), refl)), refl),
        dl,
      ),
      ap (λ (k : Inst). with_results place names k) ej,
    )

named_means : (full crowded open_list : Bool) (u : List Tok) (l : Line) → Derives (named full crowded) u l → Meant full crowded open_list u l
unfolding head
named_means full crowded open_list u l (x, (a, b, p, dn, inl (j, d, q)), e) =
    let w = within_is result full b j d in
    subst (Meant full crowded open_list u) (sym e)
    (subst (λ (k : Inst ⊎ HeadRest). Meant full crowded open_list u (named_line x.0 k)) (sym q) (w.0, behind_name x.0 u a b j p dn w.1, omega arith))
named_means full crowded open_list u l (x, (a, b, p, dn, inr (h, d, q)), e) =
    let w = within_is head_rest crowded b h d in
    subst (Meant full crowded open_list u) (sym e)
    (subst (λ (k : Inst ⊎ HeadRest). Meant full crowded open_list u (named_line x.0 k)) (sym q) (w.0, ((x.0, h), (a, b, p, dn, w.1), refl)))

results_mean : (full crowded open_list : Bool) (u : List Tok) (l : Line) → full ≡ false → Derives results u l → Meant full crowded open_list u l
unfolding results
results_mean full crowded open_list u l room (x, (a, b, p, dp, (b1, b2, pb, dn, dr)), e) =
    let c = names_closed b1 x.1.0 dn in
    subst (Meant full crowded open_list u) (sym e)
    (room, behind_names x.0 u a b1 b2 x.1.0 x.1.1 (p ∙ ap (λ (t : List Tok). a ++ t) pb) dp c.0 dr, c.1)

more_mean : (full crowded : Bool) (place : ℕ) (u a b : List Tok) (y : List Name × Inst) → full ≡ false → u ≡ a ++ b → Derives (mark symbols.Open) a place → Derives more_results b y → Meant full crowded true u (opened_line place (Some y))
unfolding more_results
more_mean full crowded place u a b y room p dp (z, (b1, b23, pb, dn, (b2, b3, pc, (k, els, ek), dr)), ez) =
    let c = names_closed (b1 ++ b2) (z.0 ∷ z.1.0) ((z.0 ∷ k.0, k.1), (b1, b2, refl, dn, els), ap (λ (l : List Name). z.0 ∷ l) ek) in
    let parts : u ≡ a ++ ((b1 ++ b2) ++ b3) = p ∙ ap (λ (t : List Tok). a ++ t) (pb ∙ ap (λ (t : List Tok). b1 ++ t) pc ∙ sym (append_assoc b1 b2 b3)) in
    subst (λ (w : List Name × Inst). Meant full crowded true u (opened_line place (Some w))) (sym ez)
    (room, behind_names place u a (b1 ++ b2) b3 (z.0 ∷ z.1.0) z.1.1 parts dp c.0 dr, c.1)

opened_means : (full crowded open_list : Bool) (u : List Tok) (l : Line) → Derives (opened full open_list) u l → Meant full crowded open_list u l
opened_means full crowded false u l d =
    let w = within_is results full u l d in
    results_mean full crowded false u l w.0 w.1
opened_means full crowded true u l (x, (a, b, p, dp, inl (y, (c, d, pc, dc, inl (j, dj, qj)), q)), e) =
    let w = within_is result full d j dj in
    subst (Meant full crowded true u) (sym e)
    (subst (λ (o : Option (List Name × Inst)). Meant full crowded true u (opened_line x.0 o)) (sym (q ∙ qj))
    (w.0, behind_names x.0 u a c d [] j (p ∙ ap (λ (t : List Tok). a ++ t) pc) dp (([], y.0), ([], c, refl, refl, dc), refl) w.1, omega arith))
opened_means full crowded true u l (x, (a, b, p, dp, inl (y, (c, d, pc, dc, inr (none, qn)), q)), e) =
    subst (Meant full crowded true u) (sym e)
    (subst (λ (o : Option (List Name × Inst)). Meant full crowded true u (opened_line x.0 o)) (sym (q ∙ qn))
    (refl, (y.0, ((x.0, y.0), (a, c, p ∙ ap (λ (t : List Tok). a ++ t) (pc ∙ ap (λ (t : List Tok). c ++ t) none ∙ append-nil c), dp, dc), refl))))
opened_means full crowded true u l (x, (a, b, p, dp, inr (y, dm, q)), e) =
    let w = within_is more_results full b y dm in
    subst (Meant full crowded true u) (sym e)
    (subst (λ (o : Option (List Name × Inst)). Meant full crowded true u (opened_line x.0 o)) (sym q) (more_mean full crowded x.0 u a b y w.0 p dp w.1))

no_results : (u : List Tok) (i : Inst) → Derives labelled u i → i.results ≡ []
unfolding labelled
no_results u i (inl (x, d, e)) = ap (λ (j : Inst). j.results) e
no_results u i (inr (x, d, e)) = ap (λ (j : Inst). j.results) e

pub line_means : (full crowded open_list : Bool) (u : List Tok) (l : Line) → Derives (line (full, crowded, open_list)) u l → Meant full crowded open_list u l
line_means full crowded open_list u l (inl d) = named_means full crowded open_list u l d
line_means full crowded open_list u l (inr (inl d)) = opened_means full crowded open_list u l d
line_means full crowded open_list u l (inr (inr (j, d, e))) =
    let w = within_is labelled full u j d in
    let short : length j.results ≤ 256 = subst (λ (ns : List Name). length ns ≤ 256) (sym (no_results u j w.1)) (omega arith) in
    subst (Meant full crowded open_list u) (sym e) (w.0, inr w.1, short)

-- ---- to a line

opened_names : (crowded : Bool) (place : ℕ) (u a b c : List Tok) (names : List Name) (j : Inst) → u ≡ a ++ (b ++ c) → Derives (mark symbols.Open) a place → Derives (up_to 256 (symbols.Close ∷ []) local) b names → Derives result c j
    → Derives (opened false true) u (body_lines.Inst (with_results place names j))
unfolding mark more_results
opened_names crowded place u a b c names j p dp (([], t), els, ek) dr =
    ((place, Some ([], j)), (a, b ++ c, p, dp, inl ((t.place, Some ([], j)), (b, c, refl, (t, els, refl), inl (j, dr, refl)), refl)), ap (λ (ns : List Name). body_lines.Inst (with_results place ns j)) ek)
opened_names crowded place u a b c names j p dp ((n ∷ ns, t), (u0, v0, q, d0, els), ek) dr = (
  (place, Some (n ∷ ns, j)),
  (a, b ++ c, p, dp, inr ((n ∷ ns, j), ((n, (ns, j)), (u0, v0 ++ c, ap (λ (l : List Tok). l ++ c) q ∙ append_assoc u0 v0 c, d0, (v0, c, refl, ((ns, t), els, refl), dr)), refl), refl)),
  ap (λ (ns : List Name). body_lines.Inst (with_results place ns j)) ek,
)

bracketed_line : (crowded open_list : Bool) (place : ℕ) (u a b c : List Tok) (names : List Name) (j : Inst) → u ≡ a ++ (b ++ c) → Derives (mark symbols.Open) a place → Derives (up_to 256 (symbols.Close ∷ []) local) b names → Derives result c j
    → Derives (line (false, crowded, open_list)) u (body_lines.Inst (with_results place names j))
unfolding results
bracketed_line crowded false place u a b c names j p dp dn dr = inr (inl ((place, (names, j)), (a, b ++ c, p, dp, (b, c, refl, dn, dr)), refl))
bracketed_line crowded true place u a b c names j p dp dn dr = inr (inl (opened_names crowded place u a b c names j p dp dn dr))

pub plain_line : (crowded open_list : Bool) (u : List Tok) (i : Inst) → Derives plain_inst u i → length i.results ≤ 256 → Derives (line (false, crowded, open_list)) u (body_lines.Inst i)
unfolding result written_results
plain_line crowded open_list u i (inr d) short = inr (inr (i, d, refl))
plain_line crowded open_list u i (inl (x, (w, v, p, inl (n, (xx, (a, b, pw, dn, de), en), er), dl), e)) short =
    let same : i ≡ with_results xx.0.place (xx.0 ∷ []) x.1 = e ∙ ap (λ (r : ℕ × List Name). with_results r.0 r.1 x.1) (er ∙ ap results_of en) in
    inl (
      (xx.0, inl x.1),
      (a, b ++ v, p ∙ ap (λ (t : List Tok). t ++ v) pw ∙ append_assoc a b v, dn, inl (x.1, ((xx.1, x.1), (b, v, refl, de, dl), refl), refl)),
      ap (λ (k : Inst). body_lines.Inst k) same,
    )
plain_line crowded open_list u i (inl (x, (w, v, p, inr (y, (a, b, pw, dp, (yy, (b1, b2, pb, dn, de), ey)), er), dl), e)) short =
    let same : i ≡ with_results y.0 yy.0 x.1 = e ∙ ap (λ (r : ℕ × List Name). with_results r.0 r.1 x.1) (er ∙ ap (λ (ns : List Name). (y.0, ns)) ey) in
    let fits : length yy.0 ≤ 256 = subst (λ (k : Inst). length k.results ≤ 256) same short in
    let parts : u ≡ a ++ (b1 ++ (b2 ++ v)) = p ∙ ap (λ (t : List Tok). t ++ v) pw ∙ append_assoc a b v ∙ ap (λ (t : List Tok). a ++ t) (ap (λ (t : List Tok). t ++ v) pb ∙ append_assoc b1 b2 v) in
    subst (λ (k : Inst). Derives (line (false, crowded, open_list)) u (body_lines.Inst k)) (sym same)
    (bracketed_line crowded open_list y.0 u a b1 (b2 ++ v) yy.0 x.1 parts dp (names_opened b1 yy.0 dn fits) ((yy.1, x.1), (b2, v, refl, de, dl), refl))

pub empty_line : (full crowded : Bool) (v : List Tok) → Brackets v → Derives (line (full, crowded, true)) v body_lines.EmptyList
empty_line full crowded v (place, (x, (a, b, p, dp, dc), e)) =
    inr (inl ((x.0, None), (a, b, p, dp, inl ((x.1, None), (b, [], sym (append-nil b), dc, inr (refl, refl)), refl)), refl))
