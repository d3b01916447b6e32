-- The lines of a run can be read back.
use Rattle.std.specs.Prelude.{◌≡◌, List, [], ◌∷◌, ◌++◌, All, map, flat_map}
use Rattle.std.proofs.Common.{sym, ◌∙◌, ap, subst}
use Rattle.std.proofs.lemmas.List.Elements.{All-head, All-tail}
use Rattle.ir_tree.specs.declared.items.Item.{Item}
use Rattle.mem_axioms.specs.declared.types.Event.{Event}
use Rattle.mu_model.specs.declared.lines.Line.{Line}
use Rattle.mu_model.specs.declared.lines.Line.TheVariants as lines
use Rattle.mu_model.specs.declared.endings.Ending.{Ending}
use Rattle.mu_model.specs.Programs.{named}
use Rattle.text_programs.specs.Moments.{log_behind}
use Rattle.text_programs.specs.Lemmas.Numbers.{run_numbered}
use Rattle.text_programs.specs.Lemmas.RunLogs.{runs_leave_sound_logs}
use Rattle.run_texts.specs.Texts.{ending_text}
use Rattle.log_lines.specs.Readable.{EventIsReadable}
use Rattle.log_lines.specs.Laws.{OtherLine, LinesAreReadable}
use Rattle.run_lines.specs.Laws.{names_in, log_line, all_lines, run_lines}
use Rattle.run_lines.specs.PlainLines.{ArePlain}
use Rattle.run_lines.specs.RunsRead.{RunsOfTextsAreReadable}
use Rattle.run_lines.specs.Verdicts.{log_of}
use Rattle.run_lines.proofs.LogsRead.{logs_readable}
use Rattle.run_lines.proofs.PlainLines.{texts_plain}
use Rattle.run_lines.proofs.Sound.{after_more, after_steps}

module _ (bundle : List Item) (plain : ArePlain bundle) where
  -- what holds of each event of a log after lines holds of each event of the log before them
  before_them : (ls : List Line) (log : List Event) → All (EventIsReadable (names_in bundle)) (log_behind ls log) → All (EventIsReadable (names_in bundle)) log
  before_them [] log h = h
  before_them (lines.Event n e ∷ ls) log h = All-tail (EventIsReadable (names_in bundle)) e log (before_them ls (e ∷ log) h)
  before_them (lines.Note n ∷ ls) log h = before_them ls log h

  ending_readable : (e : Ending) → LinesAreReadable (names_in bundle) (OtherLine (ending_text bundle e) ∷ [])
  ending_readable e = (plain.endings e, tt)

  lines_readable : (ls : List Line) (log : List Event) (e : Ending) → All (EventIsReadable (names_in bundle)) (log_behind ls log) → LinesAreReadable (names_in bundle) (map (log_line bundle) ls ++ OtherLine (ending_text bundle e) ∷ [])
  lines_readable [] log e h = ending_readable e
  lines_readable (lines.Event n x ∷ ls) log e h = (All-head (EventIsReadable (names_in bundle)) x log (before_them ls (x ∷ log) h), lines_readable ls (x ∷ log) e h)
  lines_readable (lines.Note n ∷ ls) log e h = (plain.records n, lines_readable ls log e h)

  run_readable : (steps : List (List Line)) (ls : List Line) (e : Ending) → All (EventIsReadable (names_in bundle)) (log_of steps ls) → LinesAreReadable (names_in bundle) (run_lines bundle steps ls e)
  run_readable steps ls e h =
      let same : log_behind (all_lines steps ls) [] ≡ log_of steps ls = after_more (flat_map (λ l. l) steps) ls [] ∙ ap (log_behind ls) (after_steps steps []) in
      lines_readable (all_lines steps ls) [] e (subst (All (EventIsReadable (names_in bundle))) (sym same) h)

pub runs_readable : RunsOfTextsAreReadable
runs_readable bytes bundle read names checked s name n fits entered modest steps ls e ends =
    let plain = texts_plain bytes bundle read in
    let left = runs_leave_sound_logs bytes bundle read names checked s name n fits entered steps ls e ends in
    let h = logs_readable bytes bundle read names checked plain.names s name n fits entered modest (log_of steps ls) left in
    record { numbered = run_numbered (named bundle) s n steps ls e ends; lines = run_readable bundle plain steps ls e h.0; few = h.1 }
