-- Reading the lines of a script one at a time.
use Rattle.std.proofs.Common.{◌≡◌, ℕ, Bool, true, false, List, [], ◌∷◌, ◌++◌, Result, Ok, Err, refl, sym, ap, ◌∙◌, subst, append_assoc}
use Rattle.std.proofs.lemmas.List.{append-nil}
use Rattle.text_forms.specs.declared.symbol.Symbol.TheVariants as symbols
use Rattle.text_forms.specs.declared.fault.Fault.{Fault}
use Rattle.text_forms.specs.declared.fault.ReadError.{ReadError}
use Rattle.text_forms.specs.declared.fault.ReadError.TheVariants as errors
use Rattle.text_forms.specs.Tokens.{Tok, at, first, rest_of}
use Rattle.text_forms.specs.Forms.{Form, lines, one_flag}
use Rattle.text_forms.specs.Reading.{read, ◌>>=◌}
use Rattle.text_forms.specs.Answers.{Gives, GivesAll, kept}
use Rattle.text_forms.specs.Lemmas.Lists.{goes_on_by, is_done_by, fails_by, steady_read}
use Rattle.text_forms.specs.Lemmas.Loops.{IsPlain}
use Rattle.ir_lex.specs.TokenForms.{mark, name, numeral}
use Rattle.ir_tree.specs.Lists.{global, bracketed}
use Rattle.hail_load.specs.declared.tree.Piece.{Piece}
use Rattle.hail_load.specs.declared.tree.Command.{Command}
use Rattle.hail_load.specs.declared.tree.Command.TheVariants as commands
use Rattle.hail_load.specs.declared.tree.Line.{Line}
use Rattle.hail_load.specs.declared.tree.Line.TheVariants as ones
use Rattle.hail_load.specs.declared.commands.Script.{Script}
use Rattle.hail_load.specs.Sources.{object, root, index, target, reference, plain, members, list, source}
use Rattle.hail_load.specs.Grammar.{new_command, newhybrid_command, init_command, command, line, line_is_open, next_indexes, with_indexes, commands_of, hail}
use Rattle.hail_load.specs.ScriptSoFar.{index_piece, no_script, extended, followed, commands_with}

pub line_plain : (leads : Bool) → IsPlain (line leads)
unfolding mark name numeral global bracketed object root index target reference plain members list source new_command newhybrid_command init_command command
line_plain false = record { element = record { some = refl; decided = refl }; own = refl }
line_plain true = record { element = record { some = refl; decided = refl }; own = refl }

abbrev Total : Type 0
Total = Result (List Command × List Tok) Fault

-- the lines from here on
abbrev pub lines_from : Bool → Form (List Line × ℕ)
lines_from leads = lines one_flag (λ s. s) (λ s l. line_is_open l) line (symbols.End ∷ []) (mark symbols.End) leads

abbrev pub so_far : Script → List Tok → Total
so_far s ts = kept (λ (x : List Line × ℕ). commands_with s x.0) (read (lines_from s.leads) ts)

pub begins_so_far : (ts : List Tok) → so_far no_script ts ≡ read hail ts
unfolding hail
begins_so_far ts = refl

-- ---- indexes of the last command

with_none : (c : Command) → with_indexes c [] ≡ c
with_none (commands.New place n t) = refl
with_none (commands.NewHybrid place n t many) = refl
with_none (commands.Init t s) = ap (λ (ps : List Piece). commands.Init t ps) (append-nil s)

with_twice : (c : Command) (is js : List Piece) → with_indexes (with_indexes c is) js ≡ with_indexes c (is ++ js)
with_twice (commands.New place n t) is js = refl
with_twice (commands.NewHybrid place n t many) is js = refl
with_twice (commands.Init t s) is js = ap (λ (ps : List Piece). commands.Init t ps) (append_assoc s is js)

extended_none : (cs : List Command) → extended cs [] ≡ cs
extended_none [] = refl
extended_none (c ∷ []) = ap (λ (d : Command). d ∷ []) (with_none c)
extended_none (c ∷ d ∷ cs) = ap (λ (ds : List Command). c ∷ ds) (extended_none (d ∷ cs))

pub extended_last : (cs : List Command) (c : Command) (is : List Piece) → extended (cs ++ c ∷ []) is ≡ cs ++ with_indexes c is ∷ []
extended_last [] c is = refl
extended_last (d ∷ []) c is = refl
extended_last (d ∷ e ∷ cs) c is = ap (λ (ds : List Command). d ∷ ds) (extended_last (e ∷ cs) c is)

extended_twice : (cs : List Command) (is js : List Piece) → extended (extended cs is) js ≡ extended cs (is ++ js)
extended_twice [] is js = refl
extended_twice (c ∷ []) is js = ap (λ (d : Command). d ∷ []) (with_twice c is js)
extended_twice (c ∷ d ∷ []) is js = ap (λ (ds : List Command). c ∷ ds) (extended_twice (d ∷ []) is js)
extended_twice (c ∷ d ∷ e ∷ cs) is js = ap (λ (ds : List Command). c ∷ ds) (extended_twice (d ∷ e ∷ cs) is js)

means : (s : Script) (l : Line) (ls : List Line) → commands_with s (l ∷ ls) ≡ commands_with (followed s l) ls
means s (ones.Command c) ls =
    ap (λ (cs : List Command). cs ++ with_indexes c (next_indexes ls) ∷ commands_of ls) (extended_none s.commands)
    ∙ sym (append_assoc s.commands (with_indexes c (next_indexes ls) ∷ []) (commands_of ls))
    ∙ ap (λ (cs : List Command). cs ++ commands_of ls) (sym (extended_last s.commands c (next_indexes ls)))
means s (ones.Index i) ls = ap (λ (cs : List Command). cs ++ commands_of ls) (sym (extended_twice s.commands (index_piece i ∷ []) (next_indexes ls)))

opened : (s : Script) (l : Line) → (followed s l).leads ≡ line_is_open l
opened s (ones.Command c) = refl
opened s (ones.Index i) = refl

-- ---- one line more, and the end

pub goes_on : (s : Script) (ts : List Tok) (l : Line) (rest : List Tok) (total : Total) → at (symbols.End ∷ []) ts ≡ false → read (line s.leads) ts ≡ Ok (l, rest) → so_far s ts ≡ total → so_far (followed s l) rest ≡ total
goes_on s ts l rest total off one so =
    subst (λ (b : Bool). kept (λ (x : List Line × ℕ). commands_with (followed s l) x.0) (read (lines_from b) rest) ≡ total) (sym (opened s l))
    (goes_on_by one_flag (λ s. s) (λ s l. line_is_open l) line (symbols.End ∷ []) (mark symbols.End) (λ y. (line_plain y).element) 0 s.leads (λ (x : List Line × ℕ). commands_with s x.0) (λ (x : List Line × ℕ). commands_with (followed s l) x.0) ts l rest total
    (λ ls b. means s l ls) off (steady_read (line s.leads) (line_plain s.leads).own (first ts).place 0 ts ∙ one) so)

fails_with : (s : Script) (ts rest : List Tok) (total : Total) (e : ReadError) → at (symbols.End ∷ []) ts ≡ false → Gives {A = Line} (Err e) rest (read (line s.leads) ts) → so_far s ts ≡ total → Gives {A = List Command} (Err e) rest total
fails_with s ts rest total e off one so =
    fails_by one_flag (λ s. s) (λ s l. line_is_open l) line (symbols.End ∷ []) (mark symbols.End) (λ y. (line_plain y).element) 0 s.leads (λ (x : List Line × ℕ). commands_with s x.0) ts rest total e off
    (subst (λ (r : Result (Line × List Tok) Fault). Gives {A = Line} (Err e) rest r) (steady_read (line s.leads) (line_plain s.leads).own 0 (first ts).place ts) one) so

pub fails_whole : (s : Script) (ts rest : List Tok) (total : Total) (e : ReadError) → at (symbols.End ∷ []) ts ≡ false → Gives {A = Line} (Err e) rest (read (line s.leads) ts) → so_far s ts ≡ total → GivesAll {A = List Command} (Err e) (total >>= λ x. Ok x.0)
fails_whole s ts rest total errors.Memory off one so = tt
fails_whole s ts rest total (errors.Fault e) off one so = let gone : total ≡ Err e = fails_with s ts rest total (errors.Fault e) off one so in rw gone refl

closed : (ts : List Tok) → at (symbols.End ∷ []) ts ≡ true → read (mark symbols.End) ts ≡ Ok ((first ts).place, rest_of ts)
unfolding mark
closed ts here = rw here refl

pub is_done : (s : Script) (ts : List Tok) (total : Total) → at (symbols.End ∷ []) ts ≡ true → so_far s ts ≡ total → (total >>= λ x. Ok x.0) ≡ Ok s.commands
is_done s ts total here so =
    let all : total ≡ Ok (commands_with s [], rest_of ts) = is_done_by one_flag (λ s. s) (λ s l. line_is_open l) line (symbols.End ∷ []) (mark symbols.End) (λ y. (line_plain y).element) 0 s.leads (λ (x : List Line × ℕ). commands_with s x.0) ts (first ts).place (rest_of ts) total here (closed ts here) so in
    rw all (ap (λ (cs : List Command). Ok cs) (append-nil (extended s.commands []) ∙ extended_none s.commands))
