-- What a search found is an answer.
use Rattle.std.proofs.Common.{◌≡◌, ◌≢◌, ◌∙◌, ℕ, zero, suc, ◌<◌, arith, inl, inr, ◌^◌, List, [], ◌∷◌, ◌++◌, length, map, refl, sym, ap, subst, Option, Some, None}
use Rattle.std.specs.Prelude.{Bool, true, false, ◌&&◌, All, IsSome, IsSomeAnd, is_some, is_none, option_map, take}
use Rattle.std.specs.Global.{Vec}
use Rattle.std.specs.BTreeMap.{BTreeMap, IsOrdered}
use Rattle.std.specs.List.{Contains}
use Rattle.std.specs.List.Sorted.{IsStrictlySortedBy}
use Rattle.std.specs.Cmp.Lexicographic.{slice_cmp}
use Rattle.std.specs.Ordering.{nat_cmp}
use Rattle.std.proofs.lemmas.Bool.Decides.{leb_tells}
use Rattle.std.proofs.lemmas.List.{length-map}
use Rattle.std.proofs.lemmas.List.Elements.{All-map}
use Rattle.mu_base.specs.declared.status.Status.{Status}
use Rattle.run_texts.specs.EventTexts.{Text}
use Rattle.odometer.specs.Trees.{Tree, leaf, AllLeaves}
use Rattle.odometer.specs.Odometer.{nth, nth_leaf, says, all_say, is_searched}
use Rattle.odometer.specs.Found.{Shown as MapShows, AreNumbers, IsAmongFound, HasRuns}
use Rattle.odometer.specs.ListedLaws.{text_cmp, entry_text, entries_shown, entries_fit, texts_rise, text_listed}
use Rattle.search_laws.specs.Programs.{shows_tree}
use Rattle.seen_runs.specs.Seen.{Found, Shown, shows}
use Rattle.local_laws.specs.LocalSearch.{LocalRunsAreShown, LocalSearchIsComplete}
use Rattle.leaf_laws.specs.Leaves.{leaf_list}
use Rattle.leaf_laws.specs.Local.{LocalRunsAreAmong}
use Rattle.leaf_laws.specs.Lemmas.Listed.{nth_within, get_nth}
use Rattle.leaf_laws.specs.Lemmas.Members.{among_take, among_fewer, all_taken, length_taken}
use Rattle.search_texts.specs.Texts.{outcome_text, entries_text, is_complete, last_line}
use Rattle.mu_texts.specs.Answer.{Answer}
use Rattle.run_search.specs.Given.{Given, setting_of, tree_of, shows_of}
use Rattle.conditions.specs.declared.tree.Condition.{Condition}
use Rattle.condition_answers.specs.Lines.{answer_lines, answers_status}
use Rattle.explore.specs.Answers.{outcomes_from, texts_of, search_status, search_answer, IsListed, IsSearch}
use Rattle.explore.specs.Parts.{started_of}

-- ---- the outcomes of a map from texts to schedules

abbrev found_of : Vec ℕ × Vec ℕ → Found
found_of e = record { text = e.0.items; picks = e.1.items }

abbrev found_in : BTreeMap (Vec ℕ) (Vec ℕ) → List Found
found_in m = map found_of m.entries

abbrev text_of : Found → Text
text_of o = o.text

same_texts : (es : List (Vec ℕ × Vec ℕ)) → map text_of (map found_of es) ≡ map entry_text es
same_texts [] = refl
same_texts (e ∷ es) = ap (λ ts. e.0.items ∷ ts) (same_texts es)

same_outcomes : (k : ℕ) (es : List (Vec ℕ × Vec ℕ)) → entries_text k es ≡ outcomes_from k (map found_of es)
same_outcomes k [] = refl
same_outcomes k (e ∷ es) = ap (λ t. outcome_text k e.0.items e.1.items ++ t) (same_outcomes (suc k) es)

listed : (m : BTreeMap (Vec ℕ) (Vec ℕ)) (text : Text) → Contains (map entry_text m.entries) text → Contains (map text_of (found_in m)) text
listed m text h = subst (λ ts. Contains ts text) (sym (same_texts m.entries)) h

among : (m : BTreeMap (Vec ℕ) (Vec ℕ)) (o : Option Text) → IsAmongFound m o → IsSomeAnd o (Contains (map text_of (found_in m)))
among m None h = absurd h
among m (Some text) h = listed m text (text_listed m text h)

-- ---- the answer

abbrev in_one : Text → Status → Answer
in_one text status = record { pieces = text ∷ []; status = status }

-- what was written: the outcomes, the lines of the answers, and the last line
abbrev written : BTreeMap (Vec ℕ) (Vec ℕ) → Text → Bool → Bool → Text
written m lines left all = entries_text 0 m.entries ++ lines ++ last_line (length m.entries) left all

said : (m : BTreeMap (Vec ℕ) (Vec ℕ)) (left all : Bool) (cs : List Condition) (text lines : Text) (status answered : Status) → text ≡ written m lines left all
    → lines ≡ answer_lines (map entry_text m.entries) (is_complete left all) cs → answered ≡ answers_status (map entry_text m.entries) (is_complete left all) cs → status ≡ search_status (is_complete left all) cs answered
    → in_one text status ≡ search_answer (found_in m) left all cs
said m left all cs text lines status answered e l a f =
    let same : map entry_text m.entries ≡ texts_of (found_in m) = sym (same_texts m.entries) in
    let lines_are : lines ≡ answer_lines (texts_of (found_in m)) (is_complete left all) cs = l ∙ ap (λ ts. answer_lines ts (is_complete left all) cs) same in
    let answered_is : answered ≡ answers_status (texts_of (found_in m)) (is_complete left all) cs = a ∙ ap (λ ts. answers_status ts (is_complete left all) cs) same in
    let text_is : text ≡ outcomes_from 0 (found_in m) ++ answer_lines (texts_of (found_in m)) (is_complete left all) cs ++ last_line (length (found_in m)) left all =
    e ∙ ap (λ ls. written m ls left all) lines_are ∙ ap (λ t. t ++ answer_lines (texts_of (found_in m)) (is_complete left all) cs ++ last_line (length m.entries) left all) (same_outcomes 0 m.entries)
    ∙ ap (λ n. outcomes_from 0 (found_in m) ++ answer_lines (texts_of (found_in m)) (is_complete left all) cs ++ last_line n left all) (sym (length-map m.entries found_of)) in
    ap (λ t. in_one t status) text_is
    ∙ ap (in_one (outcomes_from 0 (found_in m) ++ answer_lines (texts_of (found_in m)) (is_complete left all) cs ++ last_line (length (found_in m)) left all)) (f ∙ ap (search_status (is_complete left all) cs) answered_is)

-- ---- what the runs came to

-- a run that says nothing
silent : {A : Type 0} (t : Tree (Option A)) (n : ℕ) → all_say t n ≡ false → (ks : List ℕ) × (leaf t ks ≡ None)
silent t zero e = cc
silent {A} t (suc n) e = by (all_say t n) (nth t n) e (silent t n)
  where
    by : (b : Bool) (o : Option (List ℕ)) → (b && says (option_map (leaf t) o)) ≡ false → (b ≡ false → (ks : List ℕ) × (leaf t ks ≡ None)) → (ks : List ℕ) × (leaf t ks ≡ None)
    by false o e more = more refl
    by true None e more = cc
    by true (Some ks) e more = (ks, none (leaf t ks) e)
      where
        none : (o : Option A) → is_some o ≡ false → o ≡ None
        none None e = refl
        none (Some a) e = cc

-- where the first n runs say something, the first one does
first_says : {A : Type 0} (t : Tree (Option A)) (n : ℕ) → all_say t (suc n) ≡ true → IsSome (leaf t [])
first_says t zero e = e
first_says t (suc n) e = first_says t n (by (all_say t (suc n)) e)
  where
    by : (b : Bool) → (b && says (nth_leaf t (suc n))) ≡ true → b ≡ true
    by true e = refl
    by false e = cc

-- nor do they all, where one of them says nothing
unsaid : {A : Type 0} (t : Tree (Option A)) (n k : ℕ) → k < n → nth_leaf t k ≡ Some None → all_say t n ≡ false
unsaid t zero k l e = absurd (omega (arith, l))
unsaid t (suc n) k l e = elim (leb_tells n k) [
  | inl q ↦ let same : n ≡ k = omega (arith, l, q.1) in last (all_say t n) (says (nth_leaf t n)) (ap (λ k. says (nth_leaf t k)) same ∙ ap says e)
  | inr q ↦ ap (λ b. b && says (nth_leaf t n)) (unsaid t n k q.1 e)
]
  where
    last : (a b : Bool) → b ≡ false → (a && b) ≡ false
    last true b h = h
    last false b h = refl

complete_so : (o : Option (List ℕ)) (all : Bool) → is_complete (is_some o) all ≡ true → (is_none o && all) ≡ true
complete_so None all e = e
complete_so (Some ks) all e = cc

contains_some : (ts : List Text) (text : Text) → Contains ts text → ts ≢ []
contains_some [] text (k, l, e) = absurd (omega (arith, l))
contains_some (t ∷ ts) text h = λ e. cc

module _ (g : Given) (m : BTreeMap (Vec ℕ) (Vec ℕ)) (ordered : IsOrdered text_cmp m) where
  shown : MapShows (shows_of g) m → AreNumbers m → Shown g.bundle (setting_of g) g.entry (found_in m)
  unfolding shows_of
  shown h fit = record {
    each = All-map (λ (o : Found). shows g.bundle (setting_of g) g.entry o.picks ≡ Some o.text) found_of m.entries (entries_shown (shows_of g) m h ordered);
    rising = subst (IsStrictlySortedBy (slice_cmp nat_cmp)) (sym (same_texts m.entries)) (texts_rise m ordered);
    numbers = All-map (λ (o : Found). All (λ n. n < 2 ^ 32) o.picks) found_of m.entries (entries_fit m fit ordered);
  }

  found_some : (runs : ℕ) → HasRuns m (tree_of g) runs → 0 < runs → all_say (tree_of g) runs ≡ true → found_in m ≢ []
  found_some zero has low all = absurd (omega (arith, low))
  found_some (suc n) has low all = by (leaf (tree_of g) []) refl (first_says (tree_of g) n all)
    where
      by : (o : Option Text) → leaf (tree_of g) [] ≡ o → IsSome o → found_in m ≢ []
      by None is some = λ none. let no : false ≡ true = some in cc
      by (Some text) is some = λ none. contains_some (map text_of (found_in m)) text (listed m text (text_listed m text (has 0 low text (ap Some is)))) (ap (map text_of) none)

  is_listed : (runs : ℕ) (all : Bool) (k : ℕ) (o : Option Text) → HasRuns m (tree_of g) runs → all ≡ all_say (tree_of g) runs → k < runs → nth_leaf (tree_of g) k ≡ Some o → IsListed (found_in m) all o
  is_listed runs all k None has is l e = is ∙ unsaid (tree_of g) runs k l e
  is_listed runs all k (Some text) has is l e = listed m text (text_listed m text (has k l text e))

  pub is_search : (runs : ℕ) (left says : Bool) (cs : List Condition) (text lines : Text) (status answered : Status) → LocalSearchIsComplete → LocalRunsAreShown → LocalRunsAreAmong → MapShows (shows_of g) m → AreNumbers m → HasRuns m (tree_of g) runs → left ≡ is_some (nth (tree_of g) runs)
      → says ≡ all_say (tree_of g) runs → (is_searched (tree_of g) runs ≡ true → AllLeaves (IsAmongFound m) (tree_of g)) → text ≡ written m lines left says
      → lines ≡ answer_lines (map entry_text m.entries) (is_complete left says) cs → answered ≡ answers_status (map entry_text m.entries) (is_complete left says) cs → status ≡ search_status (is_complete left says) cs answered
      → IsSearch g.bundle (started_of g) runs cs (in_one text status)
  unfolding tree_of
  is_search runs left says cs text lines status answered complete are_shown are_among h fit has is_left all whole e l a f = record {
    outcomes = found_in m;
    left = left;
    says = says;
    shown = shown h fit;
    complete =
        λ done. complete g.bundle (setting_of g) g.entry (found_in m)
        (λ ps. among m (leaf (tree_of g) ps) (whole (complete_so (nth (tree_of g) runs) (all_say (tree_of g) runs) (subst (λ b. is_complete b (all_say (tree_of g) runs) ≡ true) is_left (subst (λ b. is_complete left b ≡ true) all done))) ps));
    made = take runs (leaf_list (tree_of g));
    by_schedules = among_take runs (leaf_list (tree_of g)) (leaf_list (shows_tree g.bundle (setting_of g) g.entry)) (are_among g.bundle (setting_of g) g.entry);
    listed = all_taken (IsListed (found_in m) says) runs (leaf_list (tree_of g)) (λ k o l e. is_listed runs says k o has all l (get_nth (tree_of g) k o e));
    cut =
        λ more. let low = nth_within (tree_of g) runs (sym is_left ∙ more) in
        let few = among_fewer (leaf_list (tree_of g)) (leaf_list (shows_tree g.bundle (setting_of g) g.entry)) (are_among g.bundle (setting_of g) g.entry) in
        (length_taken runs (leaf_list (tree_of g)) (omega (arith, low)), omega (arith, low, few));
    short = λ none. let q = silent (tree_of g) runs (sym all ∙ none) in let r = are_shown g.bundle (setting_of g) g.entry q.0 in (r.0, r.1 ∙ q.1);
    some = λ all_said low. found_some runs has low (sym all ∙ all_said);
    is = said m left says cs text lines status answered e l a f;
  }
