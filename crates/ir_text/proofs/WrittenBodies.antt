-- The body of a function as it is read, line by line, is the body as the rules are written, within the limits.
use Rattle.std.proofs.Common.{◌≡◌, ℕ, suc, ◌+◌, ◌<◌, ◌≤◌, Bool, true, false, List, [], ◌∷◌, ◌++◌, length, refl, sym, ap, subst, ◌∙◌, arith, append_assoc, inl, inr}
use Rattle.std.specs.Prelude.{nat_le, ◌⊎◌}
use Rattle.std.specs.List.{All}
use Rattle.std.proofs.lemmas.Bool.{lt-leb, le-leb, cases_lt}
use Rattle.std.proofs.lemmas.List.{append-nil}
use Rattle.std.proofs.lemmas.List.Elements.{All-nil, All-cons, All-head, All-tail}
use Rattle.text_forms.specs.declared.symbol.Symbol.TheVariants as symbols
use Rattle.text_forms.specs.Tokens.{Tok}
use Rattle.text_forms.specs.Derives.{Each, Elements, Derives}
use Rattle.ir_lex.specs.TokenForms.{mark}
use Rattle.ir_tree.specs.declared.code.Inst.{Inst}
use Rattle.ir_tree.specs.declared.code.Block.{Block}
use Rattle.ir_tree.specs.declared.code.BlockHead.{BlockHead}
use Rattle.ir_tree.specs.declared.code.Line.{Line}
use Rattle.ir_tree.specs.declared.code.Line.TheVariants as body_lines
use Rattle.ir_tree.specs.Instructions.{leaves_out}
use Rattle.ir_tree.specs.Blocks.{head}
use Rattle.ir_tree.specs.Bodies.{Body, line, step, flags, begun, body_rest, parted, blocks_of, body}
use Rattle.ir_tree.specs.Written.{written_inst, written_block, written_body}
use Rattle.ir_text.specs.WrittenBodies.{FitsInst, FitsBlock, FitsBody, BodyIsWritten}
use Rattle.ir_text.proofs.WrittenInsts.{Brackets, labelled_plain, labelled_list, labelled_back}
use Rattle.ir_text.proofs.WrittenLines.{plain_inst, line_means, plain_line, empty_line}

no : {A : Type 0} → false ≡ true → A
no e = absurd (let wrong : ⊥ = cc in wrong)

abbrev Rest : Body → List Tok → List Line → ℕ → Type 0
Rest s ts ls place = Elements flags step (λ y. Derives (line y)) (λ _ v. Derives (mark symbols.BraceClose) v place) s ts ls

abbrev block : BlockHead → List Inst → Block
block h is = record { head = h; insts = is }

-- ---- one instruction

-- behind it nothing stands, or ( ) where its list may be left out
abbrev Behind : Bool → List Tok → Type 0
Behind open_list v = (v ≡ []) ⊎ ((open_list ≡ true) × Brackets v)

plain_written : (u : List Tok) (i : Inst) → Derives plain_inst u i → Derives written_inst u i
unfolding written_inst
plain_written u i (inl (x, (a, b, p, r, d), e)) = inl (x, (a, b, p, r, labelled_plain b x.1 d), e)
plain_written u i (inr d) = inr (labelled_plain u i d)

list_written : (u v : List Tok) (i : Inst) → leaves_out i.op ≡ true → Brackets v → Derives plain_inst u i → Derives written_inst (u ++ v) i
unfolding written_inst
list_written u v i l k (inl (x, (a, b, p, r, d), e)) =
    inl (x, (a, b ++ v, ap (λ (t : List Tok). t ++ v) p ∙ append_assoc a b v, r, labelled_list b v x.1 (ap (λ (j : Inst). leaves_out j.op) (sym e) ∙ l) k d), e)
list_written u v i l k (inr d) = inr (labelled_list u v i l k d)

inst_written : (u v : List Tok) (i : Inst) → Derives plain_inst u i → Behind (leaves_out i.op) v → Derives written_inst (u ++ v) i
inst_written u v i d (inl none) = subst (λ (t : List Tok). Derives written_inst t i) (sym (ap (λ (t : List Tok). u ++ t) none ∙ append-nil u)) (plain_written u i d)
inst_written u v i d (inr k) = list_written u v i k.0 k.1 d

inst_back : (u : List Tok) (i : Inst) → Derives written_inst u i → Derives plain_inst u i ⊎ ((w v : List Tok) × (u ≡ w ++ v) × Derives plain_inst w i × (leaves_out i.op ≡ true) × Brackets v)
unfolding written_inst
inst_back u i (inl (x, (a, b, p, r, d), e)) =
    elim (labelled_back b x.1 d) [
      | inl c ↦ inl (inl (x, (a, b, p, r, c), e))
      | inr s ↦ inr (a ++ s.0, s.1, p ∙ ap (λ (t : List Tok). a ++ t) s.2 ∙ sym (append_assoc a s.0 s.1), inl (x, (a, s.0, refl, r, s.3), e), ap (λ (j : Inst). leaves_out j.op) e ∙ s.4, s.5)
    ]
inst_back u i (inr d) =
    elim (labelled_back u i d) [
      | inl c ↦ inl (inr c)
      | inr s ↦ inr (s.0, s.1, s.2, inr s.3, s.4, s.5)
    ]

-- ---- from lines

room : (n : ℕ) → nat_le 4096 n ≡ false → n < 4096
room n e = elim (cases_lt n 4096) [
  | inl lt ↦ lt
  | inr ge ↦ no (sym e ∙ le-leb 4096 n ge)
]

nothing_more : (t : List Tok) → Behind false t → t ≡ []
nothing_more t (inl none) = none
nothing_more t (inr k) = no k.0

block_written : (u v : List Tok) (h : BlockHead) (is : List Inst) → Derives head u h → Each (Derives written_inst) v is → Derives written_block (u ++ v) (block h is)
unfolding written_block
block_written u v h is dh each = ((h, is), (u, v, refl, dh, each), refl)

record Split (s : Body) (ts : List Tok) (ls : List Line) (place : ℕ) : Type 0 where
  pub extra : List Tok
  pub insts : List Tok
  pub blocks : List Tok
  pub close : List Tok
  pub parts : ts ≡ extra ++ (insts ++ (blocks ++ close))
  pub behind : Behind s.open_list extra
  pub each_inst : Each (Derives written_inst) insts (parted ls).0
  pub each_block : Each (Derives written_block) blocks (parted ls).1
  pub closed : Derives (mark symbols.BraceClose) close place
  pub insts_fit : length (parted ls).0 + s.insts ≤ 4096
  pub all_insts : All FitsInst (parted ls).0
  pub blocks_fit : length (parted ls).1 + s.blocks ≤ 4096
  pub all_blocks : All FitsBlock (parted ls).1

split : (ls : List Line) (s : Body) (ts : List Tok) (place : ℕ) → s.insts ≤ 4096 → s.blocks ≤ 4096 → Rest s ts ls place → Split s ts ls place
split [] s ts place li lb d = record {
  extra = [];
  insts = [];
  blocks = [];
  close = ts;
  parts = refl;
  behind = inl refl;
  each_inst = refl;
  each_block = refl;
  closed = d;
  insts_fit = omega arith;
  all_insts = All-nil FitsInst;
  blocks_fit = omega arith;
  all_blocks = All-nil FitsBlock;
}
split (body_lines.Inst i ∷ ls) s ts place li lb (u, v, p, d, e) =
    let m = line_means (nat_le 4096 s.insts) (nat_le 4096 s.blocks) s.open_list u (body_lines.Inst i) d in
    let lt : s.insts < 4096 = room s.insts m.0 in
    let next : suc s.insts ≤ 4096 = omega arith in
    let r = split ls (step s (body_lines.Inst i)) v place next lb e in
    let fit : length (parted ls).0 + suc s.insts ≤ 4096 = r.insts_fit in
    let fits : length (i ∷ (parted ls).0) + s.insts ≤ 4096 = omega arith in
    record {
      extra = [];
      insts = (u ++ r.extra) ++ r.insts;
      blocks = r.blocks;
      close = r.close;
      parts = p ∙ ap (λ (t : List Tok). u ++ t) r.parts ∙ sym (append_assoc u r.extra (r.insts ++ (r.blocks ++ r.close))) ∙ sym (append_assoc (u ++ r.extra) r.insts (r.blocks ++ r.close));
      behind = inl refl;
      each_inst = (u ++ r.extra, r.insts, refl, inst_written u r.extra i m.1 r.behind, r.each_inst);
      each_block = r.each_block;
      closed = r.closed;
      insts_fit = fits;
      all_insts = All-cons FitsInst i (parted ls).0 m.2 r.all_insts;
      blocks_fit = r.blocks_fit;
      all_blocks = r.all_blocks;
    }
split (body_lines.Head h ∷ ls) s ts place li lb (u, v, p, d, e) =
    let m = line_means (nat_le 4096 s.insts) (nat_le 4096 s.blocks) s.open_list u (body_lines.Head h) d in
    let lt : s.blocks < 4096 = room s.blocks m.0 in
    let next : suc s.blocks ≤ 4096 = omega arith in
    let none : 0 ≤ 4096 = omega arith in
    let r = split ls (step s (body_lines.Head h)) v place none next e in
    let start : r.extra ≡ [] = nothing_more r.extra r.behind in
    let fit : length (parted ls).0 + 0 ≤ 4096 = r.insts_fit in
    let short : length (parted ls).0 ≤ 4096 = omega arith in
    let more : length (parted ls).1 + suc s.blocks ≤ 4096 = r.blocks_fit in
    let fits : length (block h (parted ls).0 ∷ (parted ls).1) + s.blocks ≤ 4096 = omega arith in
    record {
      extra = [];
      insts = [];
      blocks = (u ++ r.insts) ++ r.blocks;
      close = r.close;
      parts =
          p ∙ ap (λ (t : List Tok). u ++ t) (r.parts ∙ ap (λ (t : List Tok). t ++ (r.insts ++ (r.blocks ++ r.close))) start) ∙ sym (append_assoc u r.insts (r.blocks ++ r.close))
          ∙ sym (append_assoc (u ++ r.insts) r.blocks r.close);
      behind = inl refl;
      each_inst = refl;
      each_block = (u ++ r.insts, r.blocks, refl, block_written u r.insts h (parted ls).0 m.1 r.each_inst, r.each_block);
      closed = r.closed;
      insts_fit = omega arith;
      all_insts = All-nil FitsInst;
      blocks_fit = fits;
      all_blocks = All-cons FitsBlock (block h (parted ls).0) (parted ls).1 (short, r.all_insts) r.all_blocks;
    }
split (body_lines.EmptyList ∷ ls) s ts place li lb (u, v, p, d, e) =
    let m = line_means (nat_le 4096 s.insts) (nat_le 4096 s.blocks) s.open_list u body_lines.EmptyList d in
    let r = split ls (step s body_lines.EmptyList) v place li lb e in
    let start : r.extra ≡ [] = nothing_more r.extra r.behind in
    record {
      extra = u;
      insts = r.insts;
      blocks = r.blocks;
      close = r.close;
      parts = p ∙ ap (λ (t : List Tok). u ++ t) (r.parts ∙ ap (λ (t : List Tok). t ++ (r.insts ++ (r.blocks ++ r.close))) start);
      behind = inr m;
      each_inst = r.each_inst;
      each_block = r.each_block;
      closed = r.closed;
      insts_fit = r.insts_fit;
      all_insts = r.all_insts;
      blocks_fit = r.blocks_fit;
      all_blocks = r.all_blocks;
    }

to_written : (ts : List Tok) (bs : List Block) → Derives body ts bs → Derives written_body ts bs × FitsBody bs
unfolding body body_rest written_body
to_written ts bs (x, (y, (a, b, p, dp, (b1, b2, pb, dh, dr)), ey), e) =
    let ls : List Line = y.1.1.0 in
    let none : 0 ≤ 4096 = omega arith in
    let one : 1 ≤ 4096 = omega arith in
    let r = split ls begun b2 y.1.1.1 none one dr in
    let start : r.extra ≡ [] = nothing_more r.extra r.behind in
    let first : Block = block y.1.0 (parted ls).0 in
    let same : first ∷ (parted ls).1 ≡ bs = sym (e ∙ ap (λ (z : BlockHead × (List Line × ℕ)). blocks_of z.0 z.1.0) ey) in
    let fit : length (parted ls).0 + 0 ≤ 4096 = r.insts_fit in
    let short : length (parted ls).0 ≤ 4096 = omega arith in
    let more : length (parted ls).1 + 1 ≤ 4096 = r.blocks_fit in
    let fits : length (first ∷ (parted ls).1) ≤ 4096 = omega arith in
    let parts : b ≡ ((b1 ++ r.insts) ++ r.blocks) ++ r.close =
    pb ∙ ap (λ (t : List Tok). b1 ++ t) (r.parts ∙ ap (λ (t : List Tok). t ++ (r.insts ++ (r.blocks ++ r.close))) start) ∙ sym (append_assoc b1 r.insts (r.blocks ++ r.close))
    ∙ sym (append_assoc (b1 ++ r.insts) r.blocks r.close)
    in
    subst (λ (l : List Block). Derives written_body ts l × FitsBody l) same (
      (
        (first, (parted ls).1),
        (
          (y.0, (first, (parted ls).1)),
          (
            a,
            b,
            p,
            dp,
            (
              ((first, (parted ls).1), y.1.1.1),
              ((b1 ++ r.insts) ++ r.blocks, r.close, parts, (b1 ++ r.insts, r.blocks, refl, block_written b1 r.insts y.1.0 (parted ls).0 dh r.each_inst, r.each_block), r.closed),
              refl,
            ),
          ),
          refl,
        ),
        refl,
      ),
      (fits, All-cons FitsBlock first (parted ls).1 (short, r.all_insts) r.all_blocks),
    )

-- ---- to lines

abbrev Lined : Body → List Tok → ℕ → List Inst → List Block → Type 0
Lined s ts place is bs = (ls : List Line) × Rest s ts ls place × (parted ls ≡ (is, bs))

inst_line : (s : Body) (u : List Tok) (i : Inst) → s.insts < 4096 → length i.results ≤ 256 → Derives plain_inst u i → Derives (line (flags s)) u (body_lines.Inst i)
inst_line s u i lt short d =
    subst (λ (full : Bool). Derives (line (full, nat_le 4096 s.blocks, s.open_list)) u (body_lines.Inst i)) (sym (lt-leb 4096 s.insts lt)) (plain_line (nat_le 4096 s.blocks) s.open_list u i d short)

list_line : (s : Body) (v : List Tok) → s.open_list ≡ true → Brackets v → Derives (line (flags s)) v body_lines.EmptyList
list_line s v e k = subst (λ (o : Bool). Derives (line (nat_le 4096 s.insts, nat_le 4096 s.blocks, o)) v body_lines.EmptyList) (sym e) (empty_line (nat_le 4096 s.insts) (nat_le 4096 s.blocks) v k)

head_line : (s : Body) (u : List Tok) (h : BlockHead) → s.blocks < 4096 → Derives head u h → Derives (line (flags s)) u (body_lines.Head h)
unfolding head
head_line s u h lt (y, (a, b, p, dn, dr), e) =
    subst (λ (crowded : Bool). Derives (line (nat_le 4096 s.insts, crowded, s.open_list)) u (body_lines.Head h)) (sym (lt-leb 4096 s.blocks lt))
    (inl ((y.0, inr y.1), (a, b, p, dn, inr (y.1, dr, refl)), ap (λ (k : BlockHead). body_lines.Head k) e))

insts_lines : (is : List Inst) (s : Body) (t rest : List Tok) (place : ℕ) (bs : List Block) → Each (Derives written_inst) t is → All FitsInst is → length is + s.insts ≤ 4096
    → ((next : Body) → next.blocks ≡ s.blocks → Lined next rest place [] bs) → Lined s (t ++ rest) place is bs
insts_lines [] s t rest place bs none all fit k =
    let (ls, d, e) = k s refl in
    (ls, subst (λ (w : List Tok). Rest s w ls place) (ap (λ (w : List Tok). w ++ rest) (sym none)) d, e)
insts_lines (i ∷ is) s t rest place bs (u, v, p, d, each) all fit k =
    let short : length i.results ≤ 256 = All-head FitsInst i is all in
    let others = All-tail FitsInst i is all in
    let lt : s.insts < 4096 = omega arith in
    let left : length is + suc s.insts ≤ 4096 = omega arith in
    elim (inst_back u i d) [
      | inl c ↦
          let r = insts_lines is (step s (body_lines.Inst i)) v rest place bs each others left k in
          (body_lines.Inst i ∷ r.0, (u, v ++ rest, ap (λ (w : List Tok). w ++ rest) p ∙ append_assoc u v rest, inst_line s u i lt short c, r.1), ap (λ (z : List Inst × List Block). (i ∷ z.0, z.1)) r.2)
      | inr q ↦
          let r = insts_lines is (step (step s (body_lines.Inst i)) body_lines.EmptyList) v rest place bs each others left k in (
            body_lines.Inst i ∷ body_lines.EmptyList ∷ r.0,
            (
              q.0,
              q.1 ++ (v ++ rest),
              ap (λ (w : List Tok). w ++ rest) p ∙ append_assoc u v rest ∙ ap (λ (w : List Tok). w ++ (v ++ rest)) q.2 ∙ append_assoc q.0 q.1 (v ++ rest),
              inst_line s q.0 i lt short q.3,
              (q.1, v ++ rest, refl, list_line (step s (body_lines.Inst i)) q.1 q.4 q.5, r.1),
            ),
            ap (λ (z : List Inst × List Block). (i ∷ z.0, z.1)) r.2,
          )
    ]

blocks_lines : (bs : List Block) (s : Body) (t close : List Tok) (place : ℕ) → Each (Derives written_block) t bs → All FitsBlock bs → length bs + s.blocks ≤ 4096 → Derives (mark symbols.BraceClose) close place → Lined s (t ++ close) place [] bs
unfolding written_block
blocks_lines [] s t close place none all fit dc = ([], subst (λ (w : List Tok). Derives (mark symbols.BraceClose) w place) (ap (λ (w : List Tok). w ++ close) (sym none)) dc, refl)
blocks_lines (b ∷ bs) s t close place (u, v, p, (x, (a, c, pa, dh, di), e), each) all fit dc =
    let short : FitsBlock (block x.0 x.1) = subst FitsBlock e (All-head FitsBlock b bs all) in
    let others = All-tail FitsBlock b bs all in
    let lt : s.blocks < 4096 = omega arith in
    let left : length bs + suc s.blocks ≤ 4096 = omega arith in
    let few : length x.1 ≤ 4096 = short.0 in
    let fits : length x.1 + 0 ≤ 4096 = omega arith in
    let r =
    insts_lines x.1 (step s (body_lines.Head x.0)) c (v ++ close) place bs di short.1 fits
    (λ next same. blocks_lines bs next v close place each others (subst (λ (n : ℕ). length bs + n ≤ 4096) (sym same) left) dc)
    in (
      body_lines.Head x.0 ∷ r.0,
      (
        a,
        c ++ (v ++ close),
        ap (λ (w : List Tok). w ++ close) p ∙ append_assoc u v close ∙ ap (λ (w : List Tok). w ++ (v ++ close)) pa ∙ append_assoc a c (v ++ close),
        head_line s a x.0 lt dh,
        r.1,
      ),
      ap (λ (z : List Inst × List Block). ([], block x.0 z.0 ∷ z.1)) r.2 ∙ ap (λ (k : Block). ([], k ∷ bs)) (sym e),
    )

from_written : (ts : List Tok) (bs : List Block) → Derives written_body ts bs → FitsBody bs → Derives body ts bs
unfolding body body_rest written_body written_block
from_written ts bs (w, (z, (a, b, p, dp, (zz, (c, cl, pc, (c1, c2, pcc, (x, (h1, h2, ph, dh, di), e1), each), dc), ezz)), ez), ew) fits =
    let others : List Block = zz.0.1 in
    let same : bs ≡ block x.0 x.1 ∷ others = ew ∙ ap (λ (q : Block × List Block). q.0 ∷ q.1) (ez ∙ ezz) ∙ ap (λ (k : Block). k ∷ others) e1 in
    let all : FitsBody (block x.0 x.1 ∷ others) = subst FitsBody same fits in
    let short : FitsBlock (block x.0 x.1) = All-head FitsBlock (block x.0 x.1) others all.1 in
    let rest = All-tail FitsBlock (block x.0 x.1) others all.1 in
    let few : length x.1 ≤ 4096 = short.0 in
    let fit : length x.1 + 0 ≤ 4096 = omega arith in
    let many : length (block x.0 x.1 ∷ others) ≤ 4096 = all.0 in
    let left : length others + 1 ≤ 4096 = omega arith in
    let r =
    insts_lines x.1 begun h2 (c2 ++ cl) zz.1 others di short.1 fit
    (λ next same. blocks_lines others next c2 cl zz.1 each rest (subst (λ (n : ℕ). length others + n ≤ 4096) (sym same) left) dc)
    in
    let parts : b ≡ h1 ++ (h2 ++ (c2 ++ cl)) = pc ∙ ap (λ (t : List Tok). t ++ cl) (pcc ∙ ap (λ (t : List Tok). t ++ c2) ph) ∙ append_assoc (h1 ++ h2) c2 cl ∙ append_assoc h1 h2 (c2 ++ cl) in (
      (x.0, (r.0, zz.1)),
      ((z.0, (x.0, (r.0, zz.1))), (a, b, p, dp, (h1, h2 ++ (c2 ++ cl), parts, dh, r.1)), refl),
      same ∙ sym (ap (λ (q : List Inst × List Block). block x.0 q.0 ∷ q.1) r.2),
    )

pub body_is_written : BodyIsWritten
body_is_written ts bs = (to_written ts bs, λ d. from_written ts bs d.0 d.1)
