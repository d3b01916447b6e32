-- A machine that was made of what a player is given stands at the beginning of a run, and the run is the leaf of its numbers.
use Rattle.std.proofs.Common.{◌≡◌, ℕ, suc, ◌+◌, List, Option, Some, refl, ap, subst, sym, ◌∙◌, add-one}
use Rattle.std.specs.Prelude.{Result, Ok, Err, IfOk, OnOk, flat_map}
use Rattle.mem_axioms.specs.declared.types.Rule.{Rule}
use Rattle.typed_heap.specs.Objects.{HeapObject}
use Rattle.typed_heap.specs.Heap.{HeapContents}
use Rattle.checked_code.specs.Checking.{bundle_tables}
use Rattle.mu_model.specs.declared.lines.Line.{Line}
use Rattle.mu_model.specs.declared.endings.Ending.{Ending}
use Rattle.mu_model.specs.Clients.{Client}
use Rattle.mu_model.specs.Configuration.{Configuration}
use Rattle.mu_model.specs.Programs.{named}
use Rattle.mu_model.specs.Run.{Setting, cells_left, first_configuration, run}
use Rattle.model_laws.specs.Bounds.{HasEnding}
use Rattle.loaded_programs.specs.Laws.{IsScripted}
use Rattle.mu_texts.specs.Answer.{Part, loaded, client_part, run_of}
use Rattle.mu_texts.specs.Comes.{Comes, Fills, AreFilled, IsFilled, IsLoaded}
use Rattle.mu_texts.specs.declared.stop.Stop.{Stop}
use Rattle.mu_texts.specs.declared.stop.Stop.TheVariants.{Line as Refusal, Memory}
use Rattle.run_texts.specs.EventTexts.{Text}
use Rattle.odometer.specs.Trees.{leaf}
use Rattle.odometer.specs.Odometer.{path}
use Rattle.odometer.specs.declared.picks.Pick.{Pick}
use Rattle.seen_runs.specs.Seen.{by_picks, global_names}
use Rattle.seen_runs.specs.Finals.{finals_in, seen_by}
use Rattle.seen_runs.specs.declared.globals.Final.{Final}
use Rattle.search_laws.specs.Moved.{with_picks}
use Rattle.run_search.specs.Given.{Given, objects_of, client_of, setting_of, tree_of, shows_of, BeginsAt, IsReady}
use Rattle.run_search.specs.Steps.{AllEnd, MakesPicks, LeadsTo, RunsTo}
use Rattle.run_search.specs.Runs.{begins_with, run_by, run_path, run_leaf, run_shown}

-- what follows of a result follows where there is one
pub if_ok : {A E : Type 0} (P Q : A → Type 0) → ((a : A) → P a → Q a) → (r : Result A E) → IfOk r P → IfOk r Q
if_ok P Q f (Ok a) h = f a h
if_ok P Q f (Err e) h = tt

-- and what holds anyhow
pub always_ok : {A E : Type 0} (P : Type 0) (r : Result A E) → P → OnOk r P
always_ok P (Ok a) h = h
always_ok P (Err e) h = tt

-- ---- scripts that are accepted are refused at no place

pub heap_stops : (part : Part (List HeapObject)) (os : List HeapObject) (stop : Stop) → part ≡ Ok os → Fills part (Err stop) → stop ≡ Memory
heap_stops part os Memory e h = refl
heap_stops part os (Refusal text status) e h = cc

pub client_stops : (part : Part Client) (k : Client) (stop : Stop) → part ≡ Ok k → Comes {A = Client} part (Err stop) → stop ≡ Memory
client_stops part k Memory e h = refl
client_stops part k (Refusal text status) e h = cc

-- the same of what stands in a player
pub no_heap_line : (v g : Given) (hail : List ℕ) (stop : Stop) → v ≡ g → hail ≡ v.hail → IsReady g → Fills (loaded v.bundle v.cells hail) (Err stop) → stop ≡ Memory
no_heap_line v g hail stop same bytes ready h =
    heap_stops (loaded v.bundle v.cells hail) (setting_of g).objects stop (ap (loaded v.bundle v.cells) bytes ∙ ap (λ (g : Given). loaded g.bundle g.cells g.hail) same ∙ ready.objects) h

pub no_client_line : (v g : Given) (script : List ℕ) (stop : Stop) → v ≡ g → script ≡ v.client → IsReady g → Comes {A = Client} (client_part v.bundle v.auto script) (Err stop) → stop ≡ Memory
no_client_line v g script stop same bytes ready h =
    client_stops (client_part v.bundle v.auto script) (setting_of g).client stop (ap (client_part v.bundle v.auto) bytes ∙ ap (λ (g : Given). client_part g.bundle g.auto g.client) same ∙ ready.client) h

pub ruleset scripts = (heap_stops, client_stops)

-- the scripts came to this heap and this client
pub record AreMade (g : Given) (heap : HeapContents) (k : Client) : Type 0 where
  pub ready : IsReady g
  pub objects : loaded g.bundle g.cells g.hail ≡ Ok heap.objects
  pub filled : IsFilled g.bundle g.cells heap
  pub client : client_part g.bundle g.auto g.client ≡ Ok k
  pub scripted : IsScripted g.bundle k

module _ (g : Given) (ps : List ℕ) (heap : HeapContents) (k : Client) (m : AreMade g heap k) where
  same_objects : (setting_of g).objects ≡ heap.objects
  same_objects = ap objects_of m.objects

  same_client : (setting_of g).client ≡ k
  same_client = ap client_of m.client

  pub begins_so : (rule : Rule) (c : Configuration) → rule ≡ g.rule
      → ((cells : ℕ) → heap.left ≡ cells_left (bundle_tables g.bundle) cells heap.objects
      → first_configuration (named g.bundle) (record { objects = heap.objects; client = k; picks = ps; cells = cells; budget = g.budget; rule = rule }) g.entry ≡ Some c)
      → first_configuration (named g.bundle) (by_picks (setting_of g) ps) g.entry ≡ Some c
  begins_so rule c ruled first =
      ap (λ (os : List HeapObject). first_configuration (named g.bundle) (record { objects = os; client = (setting_of g).client; picks = ps; cells = g.cells; budget = g.budget; rule = g.rule }) g.entry) same_objects
      ∙ ap (λ (k : Client). first_configuration (named g.bundle) (record { objects = heap.objects; client = k; picks = ps; cells = g.cells; budget = g.budget; rule = g.rule }) g.entry) same_client
      ∙ ap (λ (r : Rule). first_configuration (named g.bundle) (record { objects = heap.objects; client = k; picks = ps; cells = g.cells; budget = g.budget; rule = r }) g.entry) (sym ruled)
      ∙ first g.cells m.filled.left

  pub ends_so : (c : Configuration) → first_configuration (named g.bundle) (by_picks (setting_of g) ps) g.entry ≡ Some c → AllEnd (named g.bundle) (g.budget + 1) c
  unfolding run_of
  ends_so c begins = record { each = each }
    where
      each : (qs : List ℕ) → HasEnding (run (named g.bundle) (g.budget + 1) (with_picks qs c))
      each qs =
          let s : Setting = by_picks (setting_of g) qs in
          let given : IsLoaded g.bundle s = record { objects = subst (AreFilled g.bundle) (sym same_objects) m.filled.objects; client = subst (IsScripted g.bundle) (sym same_client) m.scripted } in
          let whole : HasEnding (run_of g.bundle g.entry s) = m.ready.begins.ends s given in
          subst HasEnding (run_by g.bundle (setting_of g) g.entry ps c begins qs ∙ ap (λ n. run (named g.bundle) n (with_picks qs c)) (sym (add-one g.budget))) whole

-- the same of what stands in a player
module _ (v g : Given) (ps : List ℕ) (heap : HeapContents) (k : Client) (rule : Rule) (c : Configuration) (same : v ≡ g) (m : AreMade g heap k) (ruled : rule ≡ v.rule)
    (first : (cells : ℕ) → heap.left ≡ cells_left (bundle_tables v.bundle) cells heap.objects
    → first_configuration (named v.bundle) (record { objects = heap.objects; client = k; picks = ps; cells = cells; budget = v.budget; rule = rule }) v.entry ≡ Some c) where
  first_is : first_configuration (named g.bundle) (by_picks (setting_of g) ps) g.entry ≡ Some c
  first_is =
      begins_so g ps heap k m rule c (ruled ∙ ap (λ (g : Given). g.rule) same)
      (subst (λ (g : Given). (cells : ℕ) → heap.left ≡ cells_left (bundle_tables g.bundle) cells heap.objects
      → first_configuration (named g.bundle) (record { objects = heap.objects; client = k; picks = ps; cells = cells; budget = g.budget; rule = rule }) g.entry ≡ Some c) same first)

  pub first_by : BeginsAt g ps c
  first_by = record { is = first_is }

  pub ends_by : AllEnd (named g.bundle) (g.budget + 1) c
  ends_by = ends_so g ps heap k m c first_is

  pub picks_by : c.picks ≡ ps
  picks_by = (begins_with g.bundle (setting_of g) g.entry ps c first_is).0

-- ---- the run

module _ (v g : Given) (ps ns : List ℕ) (c : Configuration) (same : v ≡ g) (numbers : ps ≡ ns) (first : BeginsAt g ps c) where
  begins : first_configuration (named g.bundle) (by_picks (setting_of g) ns) g.entry ≡ Some c
  begins = subst (λ ps. first_configuration (named g.bundle) (by_picks (setting_of g) ps) g.entry ≡ Some c) numbers first.is

  pub path_so : (made : List Pick) → MakesPicks (named v.bundle) (v.budget + 1) c ns made → made ≡ path (tree_of g) ns
  unfolding tree_of
  path_so made is =
      let whole : MakesPicks (named g.bundle) (g.budget + 1) c ns made = subst (λ (g : Given). MakesPicks (named g.bundle) (g.budget + 1) c ns made) same is in
      let counted : MakesPicks (named g.bundle) (suc g.budget) c ns made = subst (λ n. MakesPicks (named g.bundle) n c ns made) (add-one g.budget) whole in
      run_path g.bundle (setting_of g) g.entry ns c begins made counted

  -- what is seen of the lines that were kept
  seen_is : IsReady g → (steps kept : List (List Line)) (fs : List Final) (e : Ending) (o : Option Text) → fs ≡ v.finals → kept ≡ steps → seen_by v.bundle fs (flat_map (λ ls. ls) kept) e ≡ o
      → seen_by g.bundle (finals_in 0 (global_names g.bundle) (setting_of g).objects) (flat_map (λ ls. ls) steps) e ≡ o
  seen_is ready steps kept fs e o finals lines seen =
      ap (λ fs. seen_by g.bundle fs (flat_map (λ ls. ls) steps) e) (sym ready.finals) ∙ ap (λ (g : Given). seen_by g.bundle g.finals (flat_map (λ ls. ls) steps) e) (sym same)
      ∙ ap (λ fs. seen_by v.bundle fs (flat_map (λ ls. ls) steps) e) (sym finals) ∙ ap (λ (ks : List (List Line)). seen_by v.bundle fs (flat_map (λ ls. ls) ks) e) (sym lines) ∙ seen

  pub leaf_so : IsReady g → (steps kept : List (List Line)) (fs : List Final) (e : Ending) (o : Option Text) → fs ≡ v.finals → kept ≡ steps
      → LeadsTo (named v.bundle) (v.budget + 1) c ns (flat_map (λ ls. ls) steps) e → seen_by v.bundle fs (flat_map (λ ls. ls) kept) e ≡ o → leaf (tree_of g) ns ≡ o
  unfolding tree_of
  leaf_so ready steps kept fs e o finals lines is seen =
      let ran : LeadsTo (named g.bundle) (g.budget + 1) c ns (flat_map (λ ls. ls) steps) e = subst (λ (g : Given). LeadsTo (named g.bundle) (g.budget + 1) c ns (flat_map (λ ls. ls) steps) e) same is in
      let counted : LeadsTo (named g.bundle) (suc g.budget) c ns (flat_map (λ ls. ls) steps) e = subst (λ n. LeadsTo (named g.bundle) n c ns (flat_map (λ ls. ls) steps) e) (add-one g.budget) ran in
      run_leaf g.bundle (setting_of g) g.entry ns c begins (flat_map (λ ls. ls) steps) e counted ∙ seen_is ready steps kept fs e o finals lines seen

  pub shown_so : IsReady g → (schedule : List ℕ) (steps kept : List (List Line)) (fs : List Final) (e : Ending) (o : Option Text) → fs ≡ v.finals → kept ≡ steps
      → RunsTo (named v.bundle) (v.budget + 1) c schedule (flat_map (λ ls. ls) steps) e → seen_by v.bundle fs (flat_map (λ ls. ls) kept) e ≡ o → shows_of g schedule ≡ o
  unfolding shows_of
  shown_so ready schedule steps kept fs e o finals lines is seen =
      let ran : RunsTo (named g.bundle) (g.budget + 1) c schedule (flat_map (λ ls. ls) steps) e = subst (λ (g : Given). RunsTo (named g.bundle) (g.budget + 1) c schedule (flat_map (λ ls. ls) steps) e) same is in
      let counted : RunsTo (named g.bundle) (suc g.budget) c schedule (flat_map (λ ls. ls) steps) e = subst (λ n. RunsTo (named g.bundle) n c schedule (flat_map (λ ls. ls) steps) e) (add-one g.budget) ran in
      run_shown g.bundle (setting_of g) g.entry ns c begins schedule (flat_map (λ ls. ls) steps) e counted ∙ seen_is ready steps kept fs e o finals lines seen
