-- What is seen of a run is seen of it at each greater budget.
use Rattle.std.specs.Prelude.{◌≡◌, List, Option, Some, None, map, option_map, length, slice_index_or, IsSomeAnd, refl}
use Rattle.std.proofs.Common.{sym, ◌∙◌, ap, subst}
use Rattle.std.specs.List.{Contains}
use Rattle.ir_tree.specs.declared.items.Item.{Item}
use Rattle.mu_model.specs.declared.endings.Ending.TheVariants as endings
use Rattle.mu_model.specs.Programs.{named}
use Rattle.mu_model.specs.Run.{Setting, Run, Ends, Breaks, Unfinished, program_run}
use Rattle.run_texts.specs.EventTexts.{Text}
use Rattle.seen_runs.specs.Seen.{Found, by_picks, global_names, seen_of, seen_text, shows}
use Rattle.budget_laws.specs.Budgets.{with_more, SeenStays, ShownStay, CompleteStays}
use Rattle.budget_laws.proofs.Longer.{EndsOtherwise, more_steps}

-- the text of what is seen of a run
abbrev told : List Item → Setting → Run → Option Text
told bundle s r = option_map (seen_text bundle s.objects) (seen_of (length (global_names bundle)) s.objects r)

-- a run that shows something did not end by its budget
told_otherwise : (bundle : List Item) (s : Setting) (r : Run) (text : Text) → told bundle s r ≡ Some text → EndsOtherwise r
told_otherwise bundle s (Ends steps lines (endings.Budget n)) text h = cc
told_otherwise bundle s (Ends steps lines _) text h = tt
told_otherwise bundle s Breaks text h = cc
told_otherwise bundle s Unfinished text h = cc

pub seen_stays : SeenStays
seen_stays bundle s f k picks text h =
    let r : Run = program_run (named bundle) (by_picks s picks) f in
    ap (told bundle s) (more_steps (named bundle) (by_picks s picks) f k (told_otherwise bundle s r text h)) ∙ h

pub shown_stay : ShownStay
shown_stay bundle s f k found h = record {
  each = λ n o l. seen_stays bundle s f k (slice_index_or found n o).picks (slice_index_or found n o).text (h.each n o l);
  rising = h.rising;
  numbers = h.numbers;
}

pub complete_stays : CompleteStays
complete_stays bundle s f k found h picks = by (shows bundle s f picks) refl (h picks)
  where
    IsFound : Option Text → Type 0
    IsFound o = IsSomeAnd o (Contains (map (λ (o : Found). o.text) found))

    by : (o : Option Text) → shows bundle s f picks ≡ o → IsFound o → IsFound (shows bundle (with_more k s) f picks)
    by None is x = absurd x
    by (Some text) is x = subst IsFound (sym (seen_stays bundle s f k picks text is)) x
