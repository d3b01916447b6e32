-- The words of what bodies are made of, and of each line of a body.
use Rattle.std.proofs.Common.{◌≡◌, ℕ, Bool, true, false, List, [], ◌∷◌, ◌++◌, map, Option, Some, None, refl, sym, ap, subst, ◌∙◌, append_assoc, inl, inr}
use Rattle.std.specs.Prelude.{option_map, ◌⊎◌, ◌||◌}
use Rattle.std.specs.List.{list_all}
use Rattle.text_forms.specs.declared.symbol.Symbol.TheVariants as symbols
use Rattle.text_forms.specs.Tokens.{Tok}
use Rattle.text_forms.specs.Forms.{Form, nothing, both, on, made, within, up_to, up_to_from, ◌▸◌}
use Rattle.text_forms.specs.Derives.{Derives}
use Rattle.ir_lex.specs.declared.token.Mark.TheVariants as marks
use Rattle.ir_lex.specs.declared.name.Name.{Name}
use Rattle.ir_lex.specs.Bytes.{is_blank}
use Rattle.ir_lex.specs.Printed.{Piece}
use Rattle.ir_lex.specs.TokenForms.{mark}
use Rattle.ir_tree.specs.declared.code.Inst.{Inst}
use Rattle.ir_tree.specs.declared.code.Parameter.{Parameter}
use Rattle.ir_tree.specs.declared.code.Line.{Line}
use Rattle.ir_tree.specs.declared.code.Line.TheVariants as body_lines
use Rattle.ir_tree.specs.Lists.{local}
use Rattle.ir_tree.specs.Instructions.{labelled, with_results}
use Rattle.ir_tree.specs.Blocks.{pair, params, handler, HeadRest, head_rest, head_of, head, result}
use Rattle.ir_tree.specs.Bodies.{named_line, named, results, more_results, opened_line, opened, line}
use Rattle.ir_print.specs.Words.{tight, spaced, mark as mark_piece, local as local_piece, local_words, listed, optional_words}
use Rattle.ir_print.specs.Lists.{local_list_words}
use Rattle.ir_print.specs.CommonForms.{no_values}
use Rattle.ir_print.specs.Bodies.{pair_words, handler_words, head_words}
use Rattle.ir_print.specs.Placeless.{bare_name, bare_op, bare_inst, bare_pair, bare_head}
use Rattle.ir_print.specs.Lemmas.Apart.{some, Apart}
use Rattle.ir_print.specs.Lemmas.Prints.{AllGood, good_split, tok, toks, Prints, both_prints, made_prints, on_prints, after_prints, before_prints, worded_prints, fixed_prints, optional_prints}
use Rattle.ir_print.specs.Lemmas.Choices.{Turns, Unplaces, first_alone, both_unplaces, made_unplaces, on_unplaces, nothing_unplaces}
use Rattle.ir_print.specs.Lemmas.Members.{Members, listed_from, listed_is, within_prints, up_to_prints}
use Rattle.ir_print.specs.Lemmas.Tokens.{local_prints, mark_at, close_is}
use Rattle.ir_print.specs.Lemmas.ListForms.{open_prints, close_prints, bracketed_prints}
use Rattle.ir_print.specs.Lemmas.ControlForms.{bracket, closing, bracket_good, closing_good, append_good}
use Rattle.ir_print.specs.Lemmas.CommonForms.{square_open_prints, square_close_prints}
use Rattle.ir_print.specs.Lemmas.InstructionForms.{labelled_core, results_core, labelled_prints, result_prints, no_results}

-- ---- heads

pair_prints : Prints true false pair bare_pair bare_pair pair_words
unfolding pair pair_words
pair_prints = made_prints (both_prints spaced refl refl bracketed_prints local_prints) (λ _. refl) (λ _ _. refl)

abbrev params_words : List ℕ → List Parameter → List Piece
params_words space ps = mark_piece space marks.Open ∷ (listed pair_words ps ++ mark_piece tight marks.Close ∷ [])

params_prints : Prints true true params (map bare_pair) (map bare_pair) params_words
unfolding params
params_prints = worded_prints _ (λ s xs. ap (λ (l : List Piece). mark_piece s marks.Open ∷ (l ++ mark_piece tight marks.Close ∷ [])) (listed_is pair_words xs))
    (after_prints tight refl refl open_prints (up_to_prints 256 (mark_piece tight marks.Close) (close_is symbols.Close marks.Close tight refl refl refl refl) pair_prints))

-- a head without brackets has no parameters, and is printed with brackets
nothing_turns : Turns (nothing []) params
unfolding params mark
nothing_turns ts a good (q, e) = record {
  tokens = bracket 0 ∷ closing ∷ [];
  good = (bracket_good 0, (closing_good, tt));
  derived = ((0, []), (bracket 0 ∷ [], closing ∷ [], refl, (bracket 0, (refl, refl), refl), (([], closing), (refl, refl), refl)), e);
}

written_params_prints : Prints true false (on (symbols.Open ∷ []) params (nothing [])) (map bare_pair) (map bare_pair) params_words
written_params_prints = first_alone nothing_turns (nothing_unplaces [] (map bare_pair) refl) params_prints

handler_prints : Prints true true handler bare_name bare_name handler_words
unfolding handler handler_words
handler_prints = after_prints tight refl refl square_open_prints (before_prints tight refl refl local_prints square_close_prints)

abbrev bare_rest : HeadRest → HeadRest
bare_rest h = (map bare_pair h.0, option_map bare_name h.1)

abbrev rest_words : List ℕ → HeadRest → List Piece
rest_words space h = params_words space h.0 ++ (optional_words handler_words h.1 ++ mark_piece tight marks.Colon ∷ [])

head_rest_prints : Prints true true head_rest bare_rest bare_rest rest_words
unfolding head_rest
head_rest_prints = both_prints spaced refl refl written_params_prints (before_prints tight refl refl (optional_prints handler_prints) (mark_at symbols.Colon marks.Colon refl refl))

head_worded : (space : List ℕ) (n : Name) (h : HeadRest) → head_words space (head_of n h) ≡ local_piece space n ∷ rest_words tight h
unfolding head_words
head_worded space n h =
    ap (λ (l : List Piece). local_piece space n ∷ mark_piece tight marks.Open ∷ l)
    (sym (append_assoc (listed pair_words h.0) (mark_piece tight marks.Close ∷ []) (optional_words handler_words h.1 ++ mark_piece tight marks.Colon ∷ [])))

pub head_prints : Prints false true head bare_head bare_head head_words
unfolding head
head_prints = made_prints (both_prints tight refl refl local_prints head_rest_prints) (λ _. refl) (λ s x. head_worded s x.0 x.1)

-- ---- lines

-- without a list of values that is ()
abbrev pub line_core : List ℕ → Line → List Piece
line_core space (body_lines.Inst i) = results_core space i.results i.label i.op
line_core space (body_lines.Head h) = head_words space h
line_core space body_lines.EmptyList = []

abbrev pub bare_line : Line → Line
bare_line (body_lines.Inst i) = body_lines.Inst (bare_inst i)
bare_line (body_lines.Head h) = body_lines.Head (bare_head h)
bare_line body_lines.EmptyList = body_lines.EmptyList

-- behind a name
abbrev after_name : Bool → Bool → Form (Inst ⊎ HeadRest)
after_name full crowded = on (symbols.Equals ∷ []) (made inl (within result full)) (made inr (within head_rest crowded))

abbrev after_name_words : Inst ⊎ HeadRest → List Piece
after_name_words (inl i) = mark_piece spaced marks.Equals ∷ labelled_core spaced i.label i.op
after_name_words (inr h) = rest_words tight h

abbrev bare_after_name : Inst ⊎ HeadRest → Inst ⊎ HeadRest
bare_after_name (inl i) = inl (bare_inst i)
bare_after_name (inr h) = inr (bare_rest h)

after_name_prints : (full crowded : Bool) → Prints true false (after_name full crowded) bare_after_name bare_after_name (λ _ x. after_name_words x)
after_name_prints full crowded =
    on_prints (made_prints (fixed_prints spaced refl refl (within_prints full result_prints)) (λ _. refl) (λ _ _. refl))
    (made_prints (fixed_prints tight refl refl (within_prints crowded head_rest_prints)) (λ _. refl) (λ _ _. refl))

named_meant : (n : Name) (x : Inst ⊎ HeadRest) → bare_line (named_line n x) ≡ named_line (bare_name n) (bare_after_name x)
named_meant n (inl i) = refl
named_meant n (inr h) = refl

named_worded : (space : List ℕ) (n : Name) (x : Inst ⊎ HeadRest) → line_core space (named_line n x) ≡ local_piece space n ∷ after_name_words x
named_worded space n (inl i) = refl
named_worded space n (inr h) = head_worded space n h

named_prints : (full crowded : Bool) → Prints false false (named full crowded) bare_line bare_line line_core
named_prints full crowded = made_prints (both_prints tight refl refl local_prints (after_name_prints full crowded)) (λ x. named_meant x.0 x.1) (λ s x. named_worded s x.0 x.1)

-- results in brackets
abbrev in_brackets : List ℕ → Line → List Piece
in_brackets space (body_lines.Inst i) = local_list_words space i.results ++ mark_piece spaced marks.Equals ∷ labelled_core spaced i.label i.op
in_brackets space (body_lines.Head h) = []
in_brackets space body_lines.EmptyList = []

results_prints : Prints true false results bare_line bare_line in_brackets
unfolding results local_list_words
results_prints = made_prints
    (both_prints tight refl refl open_prints (both_prints spaced refl refl (up_to_prints 256 (mark_piece tight marks.Close) (close_is symbols.Close marks.Close tight refl refl refl refl) local_prints) result_prints))
    (λ _. refl)
    (λ s x. ap (λ (l : List Piece). mark_piece s marks.Open ∷ ((l ++ mark_piece tight marks.Close ∷ []) ++ mark_piece spaced marks.Equals ∷ labelled_core spaced x.1.1.label x.1.1.op)) (listed_is local_words x.1.0))

-- ---- a line is read again

pub record LineAgain (full crowded : Bool) (space : List ℕ) (l : Line) : Type 0 where
  pub derived : Derives (line (full, crowded, false)) (toks (line_core space l)) (bare_line l)
  pub apart : (o : Bool) → Apart o (line_core space l)

loose_some : (o m s : Bool) → s ≡ true → (o || (m || s)) ≡ true
loose_some true m s h = refl
loose_some false true s h = refl
loose_some false false s h = h

name_again : (full crowded : Bool) (space : List ℕ) → list_all is_blank space ≡ true → some space ≡ true → (ts : List Tok) (l : Line) → AllGood ts → Derives (named full crowded) ts l → LineAgain full crowded space l
name_again full crowded space blank here ts l good d = record {
  derived = inl ((named_prints full crowded).again space ts l good d);
  apart = λ o. (named_prints full crowded).apart space ts l blank good d o (loose_some o false (some space) here);
}

-- an instruction without results
alone_again : (crowded : Bool) (space : List ℕ) → list_all is_blank space ≡ true → some space ≡ true → (ts : List Tok) (i : Inst) → AllGood ts → Derives labelled ts i → LineAgain false crowded space (body_lines.Inst (with_results 0 [] i))
alone_again crowded space blank here ts i good d = record {
  derived = inr (inr (bare_inst i, labelled_prints.again space ts i good d, ap (λ (ns : List Name). body_lines.Inst (record { place = 0; results = map bare_name ns; label = option_map bare_name i.label; op = bare_op i.op })) (sym (no_results ts i d))));
  apart = λ o. labelled_prints.apart space ts i blank good d o (loose_some o false (some space) here);
}

abbrev ResultList : List Tok → List Name → Type 0
ResultList ts ns = Derives (up_to 256 (symbols.Close ∷ []) local) ts ns

by_count : (crowded : Bool) (space : List ℕ) → list_all is_blank space ≡ true → some space ≡ true → (place : ℕ) (ns : List Name) (i : Inst) (ts u v : List Tok)
    → AllGood ts → Derives results ts (body_lines.Inst (with_results place ns i)) → AllGood u → ResultList u ns → AllGood v → Derives result v i
    → LineAgain false crowded space (body_lines.Inst (with_results place ns i))
unfolding result
by_count crowded space blank here place [] i ts u v good d gu dns gv (x, (a, b, q, dm, dl), e) =
    let (ga, gb) = good_split v a b q gv in
    let r = alone_again crowded space blank here b i gb (subst (λ (z : Inst). Derives labelled b z) (sym e) dl) in
    record { derived = r.derived; apart = r.apart }
by_count crowded space blank here place (n ∷ []) i ts u v good d gu (x, members, e) gv di =
    let (a, b, q, dl, rest) = subst (λ (l : List Name). Members local 256 (symbols.Close ∷ []) x.1 0 u l) (sym e) members in
    let (ga, gb) = good_split u a b q gu in
    let r = name_again false crowded space blank here (a ++ v) (named_line n (inl i)) (append_good a v ga gv) ((n, inl i), (a, v, refl, dl, inl (i, di, refl)), refl) in
    record { derived = r.derived; apart = r.apart }
by_count crowded space blank here place (m ∷ n ∷ ns) i ts u v good d gu dns gv di = record {
  derived = inr (inl (results_prints.again space ts (body_lines.Inst (with_results place (m ∷ n ∷ ns) i)) good d));
  apart = λ o. results_prints.apart space ts (body_lines.Inst (with_results place (m ∷ n ∷ ns) i)) blank good d o (loose_some o true (some space) here);
}

opened_again : (full crowded : Bool) (space : List ℕ) → list_all is_blank space ≡ true → some space ≡ true → (ts : List Tok) (l : Line) → AllGood ts → Derives (within results full) ts l → LineAgain full crowded space l
unfolding results
opened_again true crowded space blank here ts l good d = absurd d
opened_again false crowded space blank here ts l good (x, (u, v, q, dm, (v1, v2, q2, dl, di)), e) =
    let (gu, gv) = good_split ts u v q good in
    let (gl, gi) = good_split v v1 v2 q2 gv in
    subst (λ (z : Line). LineAgain false crowded space z) (sym e)
    (by_count crowded space blank here x.0 x.1.0 x.1.1 ts v1 v2 good (x, (u, v, q, dm, (v1, v2, q2, dl, di)), refl) gl dl gi di)

labelled_again : (full crowded : Bool) (space : List ℕ) → list_all is_blank space ≡ true → some space ≡ true → (ts : List Tok) (i : Inst) → AllGood ts → Derives (within labelled full) ts i → LineAgain full crowded space (body_lines.Inst i)
labelled_again true crowded space blank here ts i good d = absurd d
labelled_again false crowded space blank here ts i good d =
    let r = alone_again crowded space blank here ts i good d in
    subst (λ (ns : List Name). LineAgain false crowded space (body_lines.Inst (with_results i.place ns i))) (sym (no_results ts i d)) (record { derived = r.derived; apart = r.apart })

pub line_again : (full crowded : Bool) (space : List ℕ) → list_all is_blank space ≡ true → some space ≡ true → (ts : List Tok) (l : Line) → AllGood ts → Derives (line (full, crowded, false)) ts l → LineAgain full crowded space l
line_again full crowded space blank here ts l good (inl d) = name_again full crowded space blank here ts l good d
line_again full crowded space blank here ts l good (inr (inl d)) = opened_again full crowded space blank here ts l good d
line_again full crowded space blank here ts l good (inr (inr (i, d, e))) = subst (λ (z : Line). LineAgain full crowded space z) (sym e) (labelled_again full crowded space blank here ts i good d)

-- ---- where ( ) may still belong to the instruction before, a line is ( ) or reads alike

opened_closed : (full : Bool) (ts : List Tok) (l : Line) → Derives (opened full true) ts l → (l ≡ body_lines.EmptyList) ⊎ Derives (opened full false) ts l
unfolding results more_results mark
opened_closed full ts l ((place, o), (u, v, q, dm, inl ((c, o2), (u2, v2, q2, dc, inr (q3, e3)), e2)), e) = inl (e ∙ ap (opened_line place) (e2 ∙ e3))
opened_closed true ts l ((place, o), (u, v, q, dm, inl ((c, o2), (u2, v2, q2, dc, inl (i, di, e3)), e2)), e) = absurd di
opened_closed false ts l ((place, o), (u, v, q, dm, inl ((c, o2), (u2, v2, q2, (t, (qt, ht), et), inl (i, di, e3)), e2)), e) =
    inr ((place, ([], i)), (u, v, q, dm, (u2, v2, q2, (([], t), (qt, ht), refl), di)), e ∙ ap (opened_line place) (e2 ∙ e3))
opened_closed true ts l ((place, o), (u, v, q, dm, inr (r, dr, e2)), e) = absurd dr
opened_closed false ts l ((place, o), (u, v, q, dm, inr (r, (x, (a, b, q4, dl, (b1, b2, q5, ((ys, t), members, e6), di)), e5), e2)), e) =
    inr (
      (place, (x.0 ∷ x.1.0, x.1.1)),
      (u, v, q, dm, (a ++ b1, b2, q4 ∙ ap (λ (z : List Tok). a ++ z) q5 ∙ sym (append_assoc a b1 b2), ((x.0 ∷ ys, t), (a, b1, refl, dl, members), ap (λ (z : List Name). x.0 ∷ z) e6), di)),
      e ∙ ap (opened_line place) (e2 ∙ ap Some e5),
    )

pub line_closed : (full crowded open_list : Bool) (ts : List Tok) (l : Line) → Derives (line (full, crowded, open_list)) ts l → (l ≡ body_lines.EmptyList) ⊎ Derives (line (full, crowded, false)) ts l
line_closed full crowded false ts l d = inr d
line_closed full crowded true ts l (inl d) = inr (inl d)
line_closed full crowded true ts l (inr (inl d)) = elim (opened_closed full ts l d) as (λ _. (l ≡ body_lines.EmptyList) ⊎ Derives (line (full, crowded, false)) ts l) [
  | inl e ↦ inl e
  | inr d ↦ inr (inr (inl d))
]
line_closed full crowded true ts l (inr (inr d)) = inr (inr (inr d))

-- ( ) is a line there
pub empty_line : (full crowded : Bool) → Derives (line (full, crowded, true)) (toks no_values) body_lines.EmptyList
unfolding mark
empty_line full crowded =
    inr (inl (
      (0, None),
      (
        tok (mark_piece spaced marks.Open) ∷ [],
        tok (mark_piece tight marks.Close) ∷ [],
        refl,
        (tok (mark_piece spaced marks.Open), (refl, refl), refl),
        inl ((0, None), (tok (mark_piece tight marks.Close) ∷ [], [], refl, (tok (mark_piece tight marks.Close), (refl, refl), refl), inr (refl, refl)), refl),
      ),
      refl,
    ))

-- ---- lines without places

abbrev bare_opened : Option (List Name × Inst) → Option (List Name × Inst)
bare_opened None = None
bare_opened (Some r) = Some (map bare_name r.0, bare_inst r.1)

opened_meant : (place : ℕ) (o : Option (List Name × Inst)) → bare_line (opened_line place o) ≡ opened_line 0 (bare_opened o)
opened_meant place None = refl
opened_meant place (Some r) = refl

abbrev more_list : Form (List Name)
more_list = up_to_from 1 256 (symbols.Close ∷ []) local

more_list_prints : Prints false true more_list (map bare_name) (map bare_name) (λ space ns. listed_from local_words space ns ++ mark_piece tight marks.Close ∷ [])
more_list_prints = up_to_prints 256 (mark_piece tight marks.Close) (close_is symbols.Close marks.Close tight refl refl refl refl) local_prints

more_results_unplaces : Unplaces more_results (λ r. (map bare_name r.0, bare_inst r.1))
unfolding more_results
more_results_unplaces =
    made_unplaces (both local (both more_list result)) (λ x. (x.0 ∷ x.1.0, x.1.1)) (λ x. (bare_name x.0, (map bare_name x.1.0, bare_inst x.1.1))) (λ r. (map bare_name r.0, bare_inst r.1))
    (both_unplaces local (both more_list result) bare_name (λ x. (map bare_name x.0, bare_inst x.1)) local_prints.placed
    (both_unplaces more_list result (map bare_name) bare_inst more_list_prints.placed result_prints.placed))
    (λ _. refl)

within_unplaces : {A : Type 0} (f : Form A) (r : A → A) (b : Bool) → Unplaces f r → Unplaces (within f b) r
within_unplaces f r true P ts y d = absurd d
within_unplaces f r false P ts y d = P ts y d

-- behind the closing bracket, and behind the opening one
abbrev instruction_next : Bool → Form (Option (List Name × Inst))
instruction_next full = on (symbols.Equals ∷ []) (made (λ i. Some ([], i)) (within result full)) (nothing None)

abbrev bracket_next : Bool → Form (Option (List Name × Inst))
bracket_next full = on (symbols.Close ∷ []) (mark symbols.Close ▸ instruction_next full) (made Some (within more_results full))

instruction_unplaces : (full : Bool) → Unplaces (instruction_next full) bare_opened
instruction_unplaces full =
    on_unplaces (symbols.Equals ∷ []) (made (λ i. Some ([], i)) (within result full)) (nothing None) bare_opened
    (made_unplaces (within result full) (λ i. Some ([], i)) bare_inst bare_opened (within_unplaces result bare_inst full result_prints.placed) (λ _. refl))
    (nothing_unplaces None bare_opened refl)

bracket_unplaces : (full : Bool) → Unplaces (bracket_next full) bare_opened
bracket_unplaces full =
    on_unplaces (symbols.Close ∷ []) (mark symbols.Close ▸ instruction_next full) (made Some (within more_results full)) bare_opened
    (made_unplaces (both (mark symbols.Close) (instruction_next full)) (λ x. x.1) (λ x. (0, bare_opened x.1)) bare_opened
    (both_unplaces (mark symbols.Close) (instruction_next full) (λ _. 0) bare_opened close_prints.placed (instruction_unplaces full)) (λ _. refl))
    (made_unplaces (within more_results full) Some (λ r. (map bare_name r.0, bare_inst r.1)) bare_opened (within_unplaces more_results (λ r. (map bare_name r.0, bare_inst r.1)) full more_results_unplaces) (λ _. refl))

opened_unplaces : (full open_list : Bool) → Unplaces (opened full open_list) bare_line
opened_unplaces full false = within_unplaces results bare_line full results_prints.placed
opened_unplaces full true =
    made_unplaces (both (mark symbols.Open) (bracket_next full)) (λ x. opened_line x.0 x.1) (λ x. (0, bare_opened x.1)) bare_line
    (both_unplaces (mark symbols.Open) (bracket_next full) (λ _. 0) bare_opened open_prints.placed (bracket_unplaces full))
    (λ x. opened_meant x.0 x.1)

pub line_unplaces : (full crowded open_list : Bool) → Unplaces (line (full, crowded, open_list)) bare_line
line_unplaces full crowded open_list =
    on_unplaces (symbols.Local ∷ []) (named full crowded) (on (symbols.Open ∷ []) (opened full open_list) (made body_lines.Inst (within labelled full))) bare_line (named_prints full crowded).placed
    (on_unplaces (symbols.Open ∷ []) (opened full open_list) (made body_lines.Inst (within labelled full)) bare_line (opened_unplaces full open_list)
    (made_unplaces (within labelled full) body_lines.Inst bare_inst bare_line (within_unplaces labelled bare_inst full labelled_prints.placed) (λ _. refl)))
