use Rattle.std.proofs.Common.{◌<◌, ◌^◌, List, map, length, sym, ap, ◌∙◌, subst}
use Rattle.mem_axioms.specs.declared.types.Event.{Event}
use Rattle.mem_axioms.specs.declared.types.Rule.{Rule}
use Rattle.log_lines.specs.Texts.{nothing_read}
use Rattle.log_lines.specs.Readable.{event_for}
use Rattle.log_lines.specs.Laws.{after_lines}
use Rattle.verdicts.specs.Verdicts.{verdict}
use Rattle.verdicts.specs.Laws.{IsFaultless}
use Rattle.verdicts.specs.declared.types.Verdict.TheVariants.{Yes}
use Rattle.run_lines.specs.Laws.{names_in, run_lines}
use Rattle.run_lines.specs.Verdicts.{log_of}
use Rattle.run_lines.proofs.Sound.{faultless, revalued, long, after_run, few_events}
use Rattle.run_lines.proofs.laws.logs_get_yes.Goals as goal

pub returns-clause-log : goal.returns-clause-log
returns-clause-log c = λ p s function log left.
    let w = faultless c.accessed_initials_matter.ensures.alone c.least_race_is_named.ensures.race_free left.last.rule _ log left.sound.sound in
    (c.yes_is_exact.ensures s.rule log).1 (subst (λ (r : Rule). IsFaultless r log) left.rule w)

pub returns-clause-text : goal.returns-clause-text
returns-clause-text c = λ p s function bundle steps ls e left numbered readable few.
    let lines = run_lines bundle steps ls e in
    let named = names_in bundle in
    let read = after_lines named nothing_read lines in
    let log = log_of steps ls in
    let lines_are = after_run bundle steps ls e in
    let w = faultless c.accessed_initials_matter.ensures.alone c.least_race_is_named.ensures.race_free left.last.rule _ log left.sound.sound in
    let yes = (c.yes_is_exact.ensures s.rule log).1 (subst (λ (r : Rule). IsFaultless r log) left.rule w) in
    let replaced = c.values_are_replaced.ensures named lines readable ∙ ap (map (event_for named read.names)) lines_are in
    let new = c.values_do_not_matter.ensures s.rule log (map (event_for named read.names) log) (revalued named read.names log) yes in
    record {
      read = read;
      is_read = c.run_texts_are_read.ensures.text bundle steps ls e numbered readable (few_events lines (subst (λ (l : List Event). length l < 2 ^ 32) (sym lines_are) few));
      replaced = replaced;
      yes = ap (verdict s.rule) replaced ∙ new ∙ ap Yes (long named read.names log);
    }
