-- Answers by entries are a way that fits, and runs by them are those of the abstract machine.
use Rattle.std.specs.Prelude.{◌≡◌, ℕ, zero, suc, false, List, [], ◌∷◌, All, drop, reverse, refl}
use Rattle.std.proofs.Common.{◌∙◌, ap}
use Rattle.std.proofs.lemmas.List.Elements.{All-cons, All-nil, All-tail}
use Rattle.check_tables.specs.declared.tables.Tables.{Tables}
use Rattle.typed_heap.specs.Fits.{World}
use Rattle.mu_model.specs.Acts.{Program}
use Rattle.mu_model.specs.Answers.{advanced}
use Rattle.mu_model.specs.Clients.{Client, ScriptEntry}
use Rattle.mu_model.specs.Configuration.{Configuration}
use Rattle.mu_model.specs.Outcomes.{Outcome, Next, End, Asks, Stuck}
use Rattle.mu_model.specs.Programs.{named}
use Rattle.mu_model.specs.Run.{behind, client_answers, goes_on, run}
use Rattle.mu_model.specs.Step.{step}
use Rattle.model_laws.specs.ClientsFit.{ClientFits, ScriptEntryFits}
use Rattle.model_laws.specs.Lemmas.Answering.{answer_fits}
use Rattle.typed_programs.specs.PlacesOf.{places_of}
use Rattle.typed_programs.specs.Lemmas.Running.{accepted_is_typed}
use Rattle.text_programs.specs.Lemmas.Texts.{read_have_blocks}
use Rattle.client_hooks.specs.Ways.{by_entries, entries_answer}
use Rattle.way_laws.specs.Runs.{run_by}
use Rattle.way_laws.specs.Laws.{EntriesFit, EntryAnswersFit, RunsByEntriesAreSame}

-- a client past its first entry
advanced_fits : (p : Tables) (k : Client) → ClientFits p k → ClientFits p (advanced k)
advanced_fits p k h = λ w globals. by w k.entries (h w globals)
  where
    by : (w : World) (es : List ScriptEntry) → All (ScriptEntryFits p w) es → All (ScriptEntryFits p w) (drop 1 es)
    by w [] h = h
    by w (e ∷ es) h = All-tail (ScriptEntryFits p w) e es h

pub entries_fit : EntriesFit
entries_fit bytes bundle read names checked =
    let p = named bundle in
    let typed = accepted_is_typed bundle names checked (read_have_blocks bytes bundle read) in
    record {
      answers = λ w globals view k shown fits. answer_fits p (places_of bundle) typed w globals view k shown fits;
      past = λ k fits. advanced_fits p.tables k fits;
    }

pub entry_answers_fit : EntryAnswersFit
entry_answers_fit bytes bundle read names checked e fits w globals view shown =
    let p = named bundle in
    let typed = accepted_is_typed bundle names checked (read_have_blocks bytes bundle read) in
    let alone : Client = record { entries = e ∷ []; auto = false } in
    answer_fits p (places_of bundle) typed w globals view alone shown (λ w globals. All-cons (ScriptEntryFits p.tables w) e [] (fits w globals) (All-nil (ScriptEntryFits p.tables w)))

goes_same : (p : Program) (n : ℕ) → ((c : Configuration) → run_by by_entries p n c ≡ run p n c) → (o : Outcome) → goes_on (run_by by_entries p n) o ≡ goes_on (run p n) o
goes_same p n more (Next d) = ap (behind (reverse d.lines)) (more d)
goes_same p n more (End ls e) = refl
goes_same p n more (Asks view go) = refl
goes_same p n more Stuck = refl

pub same_runs : RunsByEntriesAreSame
same_runs p zero c = refl
same_runs p (suc n) c =
    ap (goes_on (run_by by_entries p n)) (entries_answer p c.client (step p c)) ∙ goes_same p n (same_runs p n) (client_answers p c.client (step p c))
