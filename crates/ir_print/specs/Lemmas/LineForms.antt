-- The words of a body: its lines one after the other, each read in the state that the lines before it leave.
use Rattle.std.proofs.Common.{◌≡◌, ℕ, suc, Bool, true, false, List, [], ◌∷◌, ◌++◌, map, refl, sym, ap, subst, ◌∙◌, append_assoc, inl, inr}
use Rattle.std.specs.Prelude.{nat_le, ◌||◌}
use Rattle.std.specs.List.{flat_map}
use Rattle.std.proofs.lemmas.Bool.{leb-true}
use Rattle.text_forms.specs.declared.symbol.Symbol.TheVariants as symbols
use Rattle.text_forms.specs.Tokens.{Tok}
use Rattle.text_forms.specs.Derives.{Elements, Derives}
use Rattle.ir_lex.specs.declared.token.Mark.TheVariants as marks
use Rattle.ir_lex.specs.Spellings.{mark as mark_spells}
use Rattle.ir_lex.specs.Printed.{Piece, IsPiece}
use Rattle.ir_lex.specs.TokenForms.{mark}
use Rattle.ir_tree.specs.declared.code.Inst.{Inst}
use Rattle.ir_tree.specs.declared.code.BlockHead.{BlockHead}
use Rattle.ir_tree.specs.declared.code.Block.{Block}
use Rattle.ir_tree.specs.declared.code.Line.{Line}
use Rattle.ir_tree.specs.declared.code.Line.TheVariants as body_lines
use Rattle.ir_tree.specs.Instructions.{leaves_out}
use Rattle.ir_tree.specs.Bodies.{line, Body, step, flags, begun, body_rest, parted, blocks_of, body}
use Rattle.ir_print.specs.Words.{tight, spaced, on_new_line, indented, mark as mark_piece}
use Rattle.ir_print.specs.CommonForms.{no_values}
use Rattle.ir_print.specs.Instructions.{inst_words}
use Rattle.ir_print.specs.Bodies.{head_words, block_words, body_words}
use Rattle.ir_print.specs.Placeless.{bare_inst, bare_head, bare_block}
use Rattle.ir_print.specs.Lemmas.Apart.{Apart, after, apart_append, after_append}
use Rattle.ir_print.specs.Lemmas.Prints.{AllGood, good_split, tok, toks, toks_append, erase, erased_split, Prints, both_prints, made_as, after_prints, fixed_prints}
use Rattle.ir_print.specs.Lemmas.Tokens.{mark_at}
use Rattle.ir_print.specs.Lemmas.CommonForms.{tail_of}
use Rattle.ir_print.specs.Lemmas.InstructionForms.{results_core, results_parts, leaves_again}
use Rattle.ir_print.specs.Lemmas.BodyForms.{head_prints, bare_line, line_again, line_closed, empty_line, line_unplaces}

-- ---- lines

abbrev Lines : Body → List Tok → List Line → ℕ → Type 0
Lines b ts ls n = Elements flags step (λ y. Derives (line y)) (λ _ v. Derives (mark symbols.BraceClose) v n) b ts ls

abbrev closed_at : ℕ → ℕ → Body
closed_at i k = record { insts = i; blocks = k; open_list = false }

abbrev close : Piece
close = mark_piece on_new_line marks.CloseBrace

-- the words of lines: an instruction has its list of values
abbrev lines_words : List Line → List Piece
lines_words [] = []
lines_words (body_lines.Inst i ∷ ls) = inst_words indented i ++ lines_words ls
lines_words (body_lines.Head h ∷ ls) = head_words on_new_line h ++ lines_words ls
lines_words (body_lines.EmptyList ∷ ls) = lines_words ls

abbrev behind : Bool → List Line → List Line
behind true ls = body_lines.EmptyList ∷ ls
behind false ls = ls

-- the lines that these words are read as
abbrev written : List Line → List Line
written [] = []
written (body_lines.Inst i ∷ ls) = body_lines.Inst (bare_inst i) ∷ behind (leaves_out i.op) (written ls)
written (body_lines.Head h ∷ ls) = body_lines.Head (bare_head h) ∷ written ls
written (body_lines.EmptyList ∷ ls) = written ls

-- what stands behind an instruction: its list of values, where that may be left out
tail_again : (b : Bool) (i k : ℕ) (ts : List Tok) (ls : List Line) → Lines (closed_at i k) ts ls 0 → Lines (record { insts = i; blocks = k; open_list = b }) (toks (tail_of b) ++ ts) (behind b ls) 0
tail_again true i k ts ls d = (toks no_values, ts, refl, empty_line (nat_le 4096 i) (nat_le 4096 k), d)
tail_again false i k ts ls d = d

open_piece : IsPiece (mark_piece spaced marks.Open)
open_piece = record { blanks = refl; spells = mark_spells marks.Open; is_token = record { short = leb-true 1 65536 refl; number = λ e. absurd (cc) } }

close_piece : IsPiece (mark_piece tight marks.Close)
close_piece = record { blanks = refl; spells = mark_spells marks.Close; is_token = record { short = leb-true 1 65536 refl; number = λ e. absurd (cc) } }

brace_piece : IsPiece close
brace_piece = record { blanks = refl; spells = mark_spells marks.CloseBrace; is_token = record { short = leb-true 1 65536 refl; number = λ e. absurd (cc) } }

or_true : (o : Bool) → (o || true) ≡ true
or_true true = refl
or_true false = refl

tail_apart : (b o : Bool) (ws : List Piece) → ((o : Bool) → Apart o ws) → Apart o (tail_of b ++ ws)
tail_apart true o ws h = (open_piece, or_true o, (close_piece, refl, h true))
tail_apart false o ws h = h o

-- a line that is no ( ), where ( ) is no line
not_empty : (i k : ℕ) (o : Bool) (ts : List Tok) (l : Line) → (l ≡ body_lines.EmptyList → ⊥) → Derives (line (nat_le 4096 i, nat_le 4096 k, o)) ts l → Derives (line (nat_le 4096 i, nat_le 4096 k, false)) ts l
not_empty i k o ts l other d = elim (line_closed (nat_le 4096 i) (nat_le 4096 k) o ts l d) as (λ _. Derives (line (nat_le 4096 i, nat_le 4096 k, false)) ts l) [
  | inl e ↦ absurd (other e)
  | inr d ↦ d
]

record LinesAgain (i k : ℕ) (ls : List Line) : Type 0 where
  derived : Lines (closed_at i k) (toks (lines_words ls ++ close ∷ [])) (written ls) 0
  apart : (o : Bool) → Apart o (lines_words ls ++ close ∷ [])

-- the words of an instruction and of what stands behind it
inst_parts : (i : Inst) (ws : List Piece) → inst_words indented i ++ ws ≡ results_core indented i.results i.label i.op ++ (tail_of (leaves_out i.op) ++ ws)
inst_parts i ws =
    ap (λ (l : List Piece). l ++ ws) (results_parts indented i.results i.label i.op)
    ∙ append_assoc (results_core indented i.results i.label i.op) (tail_of (leaves_out i.op)) ws

lines_again : (ls : List Line) (i k : ℕ) (o : Bool) (ts : List Tok) (n : ℕ) → AllGood ts → Lines (record { insts = i; blocks = k; open_list = o }) ts ls n → LinesAgain i k ls
unfolding mark
lines_again [] i k o ts n good d = record {
  derived = (tok close, (refl, refl), refl);
  apart = λ p. (brace_piece, or_true p, tt);
}
lines_again (body_lines.EmptyList ∷ ls) i k o ts n good (u, v, q, d, rest) =
    let (gu, gv) = good_split ts u v q good in
    let r = lines_again ls i k false v n gv rest in
    record { derived = r.derived; apart = r.apart }
lines_again (body_lines.Head h ∷ ls) i k o ts n good (u, v, q, d, rest) =
    let (gu, gv) = good_split ts u v q good in
    let here = line_again (nat_le 4096 i) (nat_le 4096 k) on_new_line refl refl u (body_lines.Head h) gu (not_empty i k o u (body_lines.Head h) (λ e. absurd (cc)) d) in
    let r = lines_again ls 0 (suc k) false v n gv rest in
    let parts : (head_words on_new_line h ++ lines_words ls) ++ close ∷ [] ≡ head_words on_new_line h ++ (lines_words ls ++ close ∷ []) = append_assoc (head_words on_new_line h) (lines_words ls) (close ∷ []) in
    record {
      derived = (toks (head_words on_new_line h), toks (lines_words ls ++ close ∷ []), ap toks parts ∙ toks_append (head_words on_new_line h) (lines_words ls ++ close ∷ []), here.derived, r.derived);
      apart = λ p. subst (Apart p) (sym parts) (apart_append p (head_words on_new_line h) (lines_words ls ++ close ∷ []) (here.apart p) (r.apart (after p (head_words on_new_line h))));
    }
lines_again (body_lines.Inst x ∷ ls) i k o ts n good (u, v, q, d, rest) =
    let (gu, gv) = good_split ts u v q good in
    let core = results_core indented x.results x.label x.op in
    let here = line_again (nat_le 4096 i) (nat_le 4096 k) indented refl refl u (body_lines.Inst x) gu (not_empty i k o u (body_lines.Inst x) (λ e. absurd (cc)) d) in
    let r = lines_again ls (suc i) k (leaves_out x.op) v n gv rest in
    let more = tail_of (leaves_out x.op) ++ (lines_words ls ++ close ∷ []) in
    let parts : (inst_words indented x ++ lines_words ls) ++ close ∷ [] ≡ core ++ more = append_assoc (inst_words indented x) (lines_words ls) (close ∷ []) ∙ inst_parts x (lines_words ls ++ close ∷ []) in
    let after_it = subst (λ (b : Bool). Lines (record { insts = suc i; blocks = k; open_list = b }) (toks more) (behind (leaves_out x.op) (written ls)) 0) (sym (leaves_again x.op))
    (subst (λ (l : List Tok). Lines (record { insts = suc i; blocks = k; open_list = leaves_out x.op }) l (behind (leaves_out x.op) (written ls)) 0)
    (sym (toks_append (tail_of (leaves_out x.op)) (lines_words ls ++ close ∷ [])))
    (tail_again (leaves_out x.op) (suc i) k (toks (lines_words ls ++ close ∷ [])) (written ls) r.derived)) in
    record {
      derived = (toks core, toks more, ap toks parts ∙ toks_append core more, here.derived, after_it);
      apart = λ p. subst (Apart p) (sym parts) (apart_append p core more (here.apart p) (tail_apart (leaves_out x.op) (after p core) (lines_words ls ++ close ∷ []) r.apart));
    }

-- ---- lines without places

step_again : (b : Body) (l : Line) → step b (bare_line l) ≡ step b l
step_again b (body_lines.Inst i) = ap (λ (o : Bool). record { insts = suc b.insts; blocks = b.blocks; open_list = o }) (leaves_again i.op)
step_again b (body_lines.Head h) = refl
step_again b body_lines.EmptyList = refl

record LinesPlaced (b : Body) (ts : List Tok) (ls : List Line) (n : ℕ) : Type 0 where
  lines : List Line
  last : ℕ
  derived : Lines b ts lines last
  same : map bare_line lines ≡ ls
  end : 0 ≡ n

brace_prints : Prints true true (mark symbols.BraceClose) (λ _. 0) (λ _. 0) (λ space _. mark_piece space marks.CloseBrace ∷ [])
brace_prints = mark_at symbols.BraceClose marks.CloseBrace refl refl

lines_placed : (ls : List Line) (b : Body) (ts : List Tok) (n : ℕ) → Lines b (erase ts) ls n → LinesPlaced b ts ls n
lines_placed [] b ts n d = let (m, dm, e) = brace_prints.placed ts n d in record { lines = []; last = m; derived = dm; same = refl; end = e }
lines_placed (l ∷ ls) b ts n (u, v, q, d, rest) =
    let s = erased_split ts u v q in
    let y = flags b in
    let (x, dx, ex) = line_unplaces y.0 y.1 y.2 s.front l (subst (λ (w : List Tok). Derives (line y) w l) (sym s.first) d) in
    let state : step b l ≡ step b x = ap (step b) (sym ex) ∙ step_again b x in
    let r = lines_placed ls (step b x) s.back n (subst (λ (z : Body). Lines z (erase s.back) ls n) state (subst (λ (w : List Tok). Lines (step b l) w ls n) (sym s.second) rest)) in
    record {
      lines = x ∷ r.lines;
      last = r.last;
      derived = (s.front, s.back, s.parts, dx, r.derived);
      same = ap (λ (z : Line). z ∷ map bare_line r.lines) ex ∙ ap (λ (z : List Line). l ∷ z) r.same;
      end = r.end;
    }

-- ---- blocks

abbrev rest_words : List Line → List Piece
rest_words ls = flat_map (inst_words indented) (parted ls).0 ++ flat_map (block_words on_new_line) (parted ls).1

blocks_words : (ls : List Line) → rest_words ls ≡ lines_words ls
unfolding block_words
blocks_words [] = refl
blocks_words (body_lines.Inst i ∷ ls) = append_assoc (inst_words indented i) (flat_map (inst_words indented) (parted ls).0) (flat_map (block_words on_new_line) (parted ls).1) ∙ ap (λ (l : List Piece). inst_words indented i ++ l) (blocks_words ls)
blocks_words (body_lines.Head h ∷ ls) = append_assoc (head_words on_new_line h) (flat_map (inst_words indented) (parted ls).0) (flat_map (block_words on_new_line) (parted ls).1) ∙ ap (λ (l : List Piece). head_words on_new_line h ++ l) (blocks_words ls)
blocks_words (body_lines.EmptyList ∷ ls) = blocks_words ls

all_words : (h : BlockHead) (ls : List Line) → flat_map (block_words on_new_line) (blocks_of h ls) ≡ head_words on_new_line h ++ lines_words ls
unfolding block_words
all_words h ls = append_assoc (head_words on_new_line h) (flat_map (inst_words indented) (parted ls).0) (flat_map (block_words on_new_line) (parted ls).1) ∙ ap (λ (l : List Piece). head_words on_new_line h ++ l) (blocks_words ls)

abbrev bare_parts : List Inst × List Block → List Inst × List Block
bare_parts x = (map bare_inst x.0, map bare_block x.1)

abbrev add_inst : Inst → List Inst × List Block → List Inst × List Block
add_inst i x = (i ∷ x.0, x.1)

abbrev add_head : BlockHead → List Inst × List Block → List Inst × List Block
add_head h x = ([], record { head = h; insts = x.0 } ∷ x.1)

parted_behind : (b : Bool) (ls : List Line) → parted (behind b ls) ≡ parted ls
parted_behind true ls = refl
parted_behind false ls = refl

written_parts : (ls : List Line) → parted (written ls) ≡ bare_parts (parted ls)
written_parts [] = refl
written_parts (body_lines.Inst i ∷ ls) = ap (add_inst (bare_inst i)) (parted_behind (leaves_out i.op) (written ls) ∙ written_parts ls)
written_parts (body_lines.Head h ∷ ls) = ap (add_head (bare_head h)) (written_parts ls)
written_parts (body_lines.EmptyList ∷ ls) = written_parts ls

bare_lines_parts : (ls : List Line) → parted (map bare_line ls) ≡ bare_parts (parted ls)
bare_lines_parts [] = refl
bare_lines_parts (body_lines.Inst i ∷ ls) = ap (add_inst (bare_inst i)) (bare_lines_parts ls)
bare_lines_parts (body_lines.Head h ∷ ls) = ap (add_head (bare_head h)) (bare_lines_parts ls)
bare_lines_parts (body_lines.EmptyList ∷ ls) = bare_lines_parts ls

abbrev blocks_from : BlockHead → List Inst × List Block → List Block
blocks_from h x = record { head = h; insts = x.0 } ∷ x.1

written_blocks : (h : BlockHead) (ls : List Line) → map bare_block (blocks_of h ls) ≡ blocks_of (bare_head h) (written ls)
written_blocks h ls = ap (blocks_from (bare_head h)) (sym (written_parts ls))

bare_blocks : (h : BlockHead) (ls : List Line) → map bare_block (blocks_of h ls) ≡ blocks_of (bare_head h) (map bare_line ls)
bare_blocks h ls = ap (blocks_from (bare_head h)) (sym (bare_lines_parts ls))

-- ---- bodies

body_rest_prints : Prints true true body_rest (λ x. (written x.0, 0)) (λ x. (map bare_line x.0, 0)) (λ _ x. lines_words x.0 ++ close ∷ [])
unfolding body_rest
body_rest_prints = record {
  again = λ s ts x good d. (lines_again x.0 0 1 false ts x.1 good d).derived;
  apart = λ s ts x blank good d o loose. (lines_again x.0 0 1 false ts x.1 good d).apart o;
  ends = λ s ts x d o h. after_append o (lines_words x.0) (close ∷ []);
  placed = λ ts x d.
      let found = lines_placed x.0 begun ts x.1 d in
      ((found.lines, found.last), found.derived, ap (λ (l : List Line). (l, 0)) found.same ∙ ap (λ (n : ℕ). (x.0, n)) found.end);
}

brace_open_prints : Prints true true (mark symbols.BraceOpen) (λ _. 0) (λ _. 0) (λ _ _. mark_piece spaced marks.OpenBrace ∷ [])
brace_open_prints = fixed_prints spaced refl refl (mark_at symbols.BraceOpen marks.OpenBrace refl refl)

pub body_prints : Prints true true body (map bare_block) (map bare_block) (λ _ bs. body_words bs)
unfolding body body_words
body_prints = made_as
    (after_prints {ws = λ _. mark_piece spaced marks.OpenBrace ∷ []} on_new_line refl refl brace_open_prints (both_prints tight refl refl head_prints body_rest_prints))
    (λ x. written_blocks x.0 x.1.0) (λ x. bare_blocks x.0 x.1.0)
    (λ s x. ap (λ (l : List Piece). mark_piece spaced marks.OpenBrace ∷ l)
    (ap (λ (l : List Piece). l ++ close ∷ []) (all_words x.0 x.1.0) ∙ append_assoc (head_words on_new_line x.0) (lines_words x.1.0) (close ∷ [])))
