-- The log that a run leaves can be read back from its lines.
use Rattle.std.specs.Prelude.{◌≡◌, ◌≤◌, ◌<◌, ◌+◌, ◌*◌, ◌^◌, ◌&&◌, ℕ, suc, true, List, Option, Some, All, length, nat_lt, slice_get}
use Rattle.std.proofs.Common.{sym, ◌∙◌, ap, arith, lit<}
use Rattle.std.proofs.lemmas.Bool.{and_parts}
use Rattle.std.proofs.lemmas.Bool.Decides.{nat_tests}
use Rattle.std.proofs.lemmas.List.Elements.{All-cons, All-weaker}
use Rattle.std.proofs.lemmas.List.{length-map}
use Rattle.std.proofs.lemmas.Option.{slice_get_within}
use Rattle.mu_values.specs.Constants.{width_of}
use Rattle.check_tables.specs.declared.tables.Tables.{Tables}
use Rattle.check_tables.specs.Lookups.{noted_signature}
use Rattle.checked_code.specs.Checking.{bundle_tables}
use Rattle.bundle_facts.specs.Lemmas.Accepted as facts
use Rattle.typed_heap.specs.Objects.{HeapObject}
use Rattle.typed_heap.specs.Fits.{signature_classes}
use Rattle.mem_axioms.specs.EventFits.{is_thread}
use Rattle.mem_axioms.specs.Axioms.{is_coherent, is_seq_cst_ordered, meets_axioms}
use Rattle.mem_axioms.specs.Form.{has_form}
use Rattle.mem_axioms.specs.declared.types.Event.{Event}
use Rattle.mem_axioms.specs.declared.types.Kind.TheVariants as kinds
use Rattle.mem_axioms.specs.declared.types.Rule.{Rule}
use Rattle.mu_values.specs.declared.cells.CellId.{CellId}
use Rattle.mu_values.specs.declared.scalars.Scalar.{Scalar}
use Rattle.mu_model.specs.Accesses.{initial}
use Rattle.mu_model.specs.Acts.{Program}
use Rattle.mu_model.specs.Changes.{event}
use Rattle.mu_model.specs.Configuration.{Active, Configuration, Thread}
use Rattle.mu_model.specs.Programs.{named}
use Rattle.mu_model.specs.Types.{type_graph}
use Rattle.model_laws.specs.Places.{Places}
use Rattle.model_laws.specs.Printable.{EventIsPrintable, HasFewCells}
use Rattle.model_laws.specs.ThreadsFit.{IsOn}
use Rattle.model_laws.specs.Values.{world}
use Rattle.model_laws.specs.WellTyped.{WellTyped}
use Rattle.model_laws.specs.Lemmas.Basics.{some_of}
use Rattle.model_laws.specs.Lemmas.Bounded.{first_in_bounds}
use Rattle.model_laws.specs.Lemmas.Proved.{first_well}
use Rattle.model_laws.specs.Lemmas.Printing.{first_is_printable}
use Rattle.typed_programs.specs.PlacesOf.{places_of}
use Rattle.typed_programs.specs.Lemmas.Running.{accepted_is_typed}
use Rattle.text_programs.specs.Moments.{IsLastLog, as_before, left}
use Rattle.text_programs.specs.Lemmas.Entered.{nothing_is_taken}
use Rattle.text_programs.specs.Lemmas.Moments.{first_budget, stays_in_bounds, stays_typed}
use Rattle.text_programs.specs.Lemmas.Printable.{stays_printable}
use Rattle.text_programs.specs.Lemmas.Texts.{read_have_blocks}
use Rattle.log_lines.specs.EventTexts.{NameOf}
use Rattle.log_lines.specs.Readable.{EventIsReadable}
use Rattle.run_lines.specs.Laws.{names_in}
use Rattle.run_lines.specs.RunsRead.{LogsOfTextsAreReadable}
use Rattle.run_lines.proofs.EventsRead.{IsBounded, log_readable}

signatures_long : (p : Tables) → length (signature_classes p) ≡ length p.functions
signatures_long p = length-map p.functions (λ s. noted_signature (slice_get p.signatures s))

form_of : (rule : Rule) (first : CellId → Scalar) (log : List Event) → meets_axioms rule first log ≡ true → has_form first log ≡ true
unfolding meets_axioms
form_of rule first log h = (and_parts (has_form first log) (is_coherent rule log) (and_parts (has_form first log && is_coherent rule log) (is_seq_cst_ordered rule log) h).0).0

module _ (named : NameOf) (p : Program) (t : Places) (c : Configuration) (well : WellTyped p t c) (b : IsBounded named (type_graph p.tables) (world p.tables c)) (names : All (EventIsPrintable (length c.stacks)) c.log)
    (short : suc (length c.log) < 2 ^ 32) where
  known_below : (j : ℕ) → is_thread c.log j ≡ true → j < 64
  known_below j h = let l : nat_lt j (length c.threads) ≡ true = sym (well.log.threads j) ∙ h in omega (arith, below l, well.most)
    where
      below : nat_lt j (length c.threads) ≡ true → j < length c.threads
      below l = grind (arith, nat_tests)

  here_readable : All (EventIsReadable named) c.log
  here_readable = log_readable named (type_graph p.tables) (world p.tables c) b (initial c) c.log well.log.events names well.log.follows (form_of c.rule (initial c) c.log well.log.sound.axioms) known_below (omega (arith, short))

  pub last_readable : (log : List Event) → IsLastLog c log → All (EventIsReadable named) log × (length log < 2 ^ 32)
  last_readable log as_before = (here_readable, omega (arith, short))
  last_readable log (left i k fs there) =
      let o : (x : Option Thread) × (slice_get c.threads i ≡ Some x) × IsOn k x = some_of _ (IsOn k) (well.owners.threads i k fs there) in (
        All-cons (EventIsReadable named) (event i (kinds.Leave k)) c.log
            (omega (arith, slice_get_within c.threads i o.0 o.1, well.most), omega (arith, slice_get_within c.stacks k (Active i fs) there, b.stacks)) here_readable,
        short,
      )

pub logs_readable : LogsOfTextsAreReadable
logs_readable bytes bundle read names checked have s name n fits entered modest log by =
    let p = named bundle in
    let t = places_of bundle in
    let typed = accepted_is_typed bundle names checked (read_have_blocks bytes bundle read) in
    let first = by.first in
    let last = by.last in
    let well = first_well p t s n first typed fits.globals fits.objects fits.client (nothing_is_taken bundle name n entered) by.begins in
    let readable = stays_printable p t typed modest.most first last well (first_is_printable p s n first modest.most modest.sized modest.cells by.begins) by.reached in
    let now = stays_typed p t typed first last well by.reached in
    let bounds = stays_in_bounds p t typed (length s.objects) first last well (first_in_bounds p s n first by.begins) by.reached in
    let budget : last.budget ≤ 1000000 = omega (arith, bounds.1, first_budget p s n first by.begins, modest.budget) in
    let steps : last.steps ≤ last.budget = now.steps in
    let events : length last.log ≤ 66 * last.steps = bounds.0.events in
    let objects : length last.objects ≤ length s.objects + last.steps = bounds.0.objects in
    let stacks : length last.stacks ≤ 1 + last.steps = bounds.0.stacks in
    let big : 66000002 < 2 ^ 32 = lit< tt in
    last_readable (names_in bundle) p t last now (record {
      wide = λ c v e. (facts.widths_are_allowed bundle names checked c v (ap width_of e)).1;
      functions = λ f l. have f (omega (arith, l, signatures_long (bundle_tables bundle)));
      objects = omega (arith, objects, steps, budget, modest.objects);
      cells = All-weaker (HasFewCells modest.most) (λ (o : HeapObject). length o.leaves < 2 ^ 32) (λ o l. omega (arith, l, modest.few)) last.objects readable.objects;
      stacks = omega (arith, stacks, steps, budget, big);
      threads = now.most;
    }) readable.log (omega (arith, events, steps, budget, big)) log by.sound.last
