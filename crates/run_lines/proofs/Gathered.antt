-- The pieces of a run's text together are the text of its lines.
use Rattle.std.proofs.Common.{◌≡◌, ℕ, suc, List, [], ◌∷◌, ◌++◌, map, refl, sym, ap, ◌∙◌, append_assoc}
use Rattle.std.specs.Prelude.{flat_map, codes}
use Rattle.mem_axioms.specs.declared.types.Event.{Event}
use Rattle.ir_tree.specs.declared.items.Item.{Item}
use Rattle.mu_model.specs.declared.lines.Line.{Line}
use Rattle.mu_model.specs.declared.lines.Line.TheVariants as lines
use Rattle.mu_model.specs.declared.endings.Ending.{Ending}
use Rattle.run_texts.specs.EventTexts.{Text}
use Rattle.run_texts.specs.Texts.{line_text, note_text, ending_text}
use Rattle.run_texts.specs.Pieces.{pieces_of, lines_text}
use Rattle.log_lines.specs.EventTexts.{event_text}
use Rattle.log_lines.specs.Laws.{OtherLine, lines_text as log_lines_text}
use Rattle.run_lines.specs.Laws.{names_in, log_line, Numbered, all_lines, run_lines, whole}

pub event_line : (bundle : List Item) (n : ℕ) (e : Event) → line_text bundle (lines.Event n e) ≡ event_text (names_in bundle) n e ++ codes "\n"
event_line bundle n e = refl

shift : (e f l : Text) → e ++ 10 ∷ [] ++ f ++ l ≡ e ++ 10 ∷ (f ++ l)
shift e f l = append_assoc (e ++ 10 ∷ []) f l ∙ append_assoc e (10 ∷ []) (f ++ l)

-- lines, and a last one after them
lines_same : (bundle : List Item) (n : ℕ) (ls : List Line) (last : Text) → Numbered n ls →
    lines_text bundle ls ++ (last ++ codes "\n") ≡ log_lines_text (names_in bundle) n (map (log_line bundle) ls ++ OtherLine last ∷ [])
lines_same bundle n [] last h = refl
lines_same bundle n (lines.Event number e ∷ ls) last h =
    ap (λ (t : Text). t ++ lines_text bundle ls ++ (last ++ codes "\n")) (ap (λ (m : ℕ). line_text bundle (lines.Event m e)) h.0 ∙ event_line bundle n e)
    ∙ shift (event_text (names_in bundle) n e) (lines_text bundle ls) (last ++ codes "\n")
    ∙ ap (λ (t : Text). event_text (names_in bundle) n e ++ 10 ∷ t) (lines_same bundle (suc n) ls last h.1)
lines_same bundle n (lines.Note note ∷ ls) last h =
    shift (note_text bundle note) (lines_text bundle ls) (last ++ codes "\n")
    ∙ ap (λ (t : Text). note_text bundle note ++ 10 ∷ t) (lines_same bundle n ls last h)

both_lines : (bundle : List Item) (a b : List Line) → lines_text bundle (a ++ b) ≡ lines_text bundle a ++ lines_text bundle b
both_lines bundle [] b = refl
both_lines bundle (l ∷ a) b = ap (λ (t : Text). line_text bundle l ++ t) (both_lines bundle a b) ∙ sym (append_assoc (line_text bundle l) (lines_text bundle a) (lines_text bundle b))

append_nothing : (t : Text) → t ++ [] ≡ t
append_nothing [] = refl
append_nothing (b ∷ t) = ap (λ (r : Text). b ∷ r) (append_nothing t)

-- the pieces together are all lines, and the ending
pieces_same : (bundle : List Item) (steps : List (List Line)) (ls : List Line) (e : Ending) →
    whole (pieces_of bundle steps ls e) ≡ lines_text bundle (all_lines steps ls) ++ (ending_text bundle e ++ codes "\n")
pieces_same bundle [] ls e = append_nothing (lines_text bundle ls ++ ending_text bundle e ++ codes "\n") ∙ append_assoc (lines_text bundle ls) (ending_text bundle e) (codes "\n")
pieces_same bundle ([] ∷ steps) ls e = pieces_same bundle steps ls e
pieces_same bundle ((l ∷ more) ∷ steps) ls e =
    let last = ending_text bundle e ++ codes "\n" in
    let step = l ∷ more in
    let rest = all_lines steps ls in
    ap (λ (t : Text). lines_text bundle step ++ t) (pieces_same bundle steps ls e)
    ∙ sym (append_assoc (lines_text bundle step) (lines_text bundle rest) last)
    ∙ ap (λ (t : Text). t ++ last) (sym (both_lines bundle step rest) ∙ ap (lines_text bundle) (sym (append_assoc step (flat_map (λ l. l) steps) ls)))

pub run_text : (bundle : List Item) (steps : List (List Line)) (ls : List Line) (e : Ending) → Numbered 0 (all_lines steps ls) →
    whole (pieces_of bundle steps ls e) ≡ log_lines_text (names_in bundle) 0 (run_lines bundle steps ls e)
run_text bundle steps ls e h = pieces_same bundle steps ls e ∙ lines_same bundle 0 (all_lines steps ls) (ending_text bundle e) h
