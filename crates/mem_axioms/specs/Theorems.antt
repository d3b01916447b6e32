-- The laws of the memory model. Each is the contract of a function of `laws` that does nothing, and each holds under both
-- rules of release sequences, of every log unless it says more.
use Rattle.std.specs.Prelude.{◌≡◌, ◌↔◌, ℕ, ◌<◌, ◌≤◌, Bool, true, List, ◌∷◌, length, Some, MatchOption}
use Rattle.mu_values.specs.declared.scalars.Scalar.{Scalar}
use Rattle.mu_values.specs.declared.cells.CellId.{CellId}
use Rattle.mem_axioms.specs.Events.{accesses, position_of}
use Rattle.mem_axioms.specs.Logs.{event_at, past_of}
use Rattle.mem_axioms.specs.Synchronizes.{heads, released}
use Rattle.mem_axioms.specs.HappensBefore.{happens_before, Before}
use Rattle.mem_axioms.specs.Form.{has_form_by, has_form, has_form_alone}
use Rattle.mem_axioms.specs.Axioms.{is_coherent, is_seq_cst_ordered, meets_axioms, Coherent, SeqCstOrdered, MeetsAxioms}
use Rattle.mem_axioms.specs.Races.{race, is_race_free, Racing}
use Rattle.mem_axioms.specs.declared.types.Event.{Event}
use Rattle.mem_axioms.specs.declared.types.Rule.{Rule}

-- ---- Extension: a new last event changes nothing between earlier ones.

abbrev pub EventsStay : Type 0
EventsStay = (e : Event) (log : List Event) (j : ℕ) → j < length log → event_at (e ∷ log) j ≡ event_at log j

-- Synchronizes-with is judged by two events and the past of the later, so it stays too.
abbrev pub PastsStay : Type 0
PastsStay = (e : Event) (log : List Event) (j : ℕ) → j < length log → past_of (e ∷ log) j ≡ past_of log j

abbrev pub HappensBeforeStays : Type 0
HappensBeforeStays = (rule : Rule) (e : Event) (log : List Event) (i j : ℕ) → j < length log → happens_before rule (e ∷ log) i j ≡ happens_before rule log i j

-- ---- Own synchronization: what a read synchronizes with by a release never forbids the position that it reads. `right`
-- stands for either form of a log.

-- Whatever accesses the cell before a head has a smaller position than the head.
abbrev pub HeadsRise : Type 0
HeadsRise = (right : List Event → CellId → ℕ → Scalar → Bool) (rule : Rule) (log : List Event) (cell : CellId) (position h k : ℕ) (head ek : Event) →
    has_form_by right log ≡ true → event_at log h ≡ Some head → heads rule log cell position h head ≡ true →
    k < h → event_at log k ≡ Some ek → accesses cell ek ≡ true → position_of ek < position_of head

-- Whatever accesses the cell up to the release of a position has no greater position.
abbrev pub ReleasedIsAllowed : Type 0
ReleasedIsAllowed = (right : List Event → CellId → ℕ → Scalar → Bool) (rule : Rule) (log : List Event) (cell : CellId) (position i k : ℕ) (ei ek : Event) →
    has_form_by right log ≡ true → released rule log cell position i ei ≡ true →
    k ≤ i → event_at log k ≡ Some ek → accesses cell ek ≡ true → position_of ek ≤ position

-- ---- Happens-before is the least transitive relation that holds sequenced-before and synchronizes-with.

abbrev pub HappensBeforeIsLeast : Type 0
HappensBeforeIsLeast = (rule : Rule) (log : List Event) (i j : ℕ) → (happens_before rule log i j ≡ true) ↔ Before rule log i j

abbrev pub HappensBeforeGoesOn : Type 0
HappensBeforeGoesOn = (rule : Rule) (log : List Event) (i j : ℕ) → happens_before rule log i j ≡ true → (i < j) × (j < length log)

-- ---- Each test of the axioms is its relation.

abbrev pub CoherentIsRelation : Type 0
CoherentIsRelation = (rule : Rule) (log : List Event) → (is_coherent rule log ≡ true) ↔ Coherent rule log

abbrev pub SeqCstOrderedIsRelation : Type 0
SeqCstOrderedIsRelation = (rule : Rule) (log : List Event) → (is_seq_cst_ordered rule log ≡ true) ↔ SeqCstOrdered rule log

abbrev pub MeetsAxiomsIsRelation : Type 0
MeetsAxiomsIsRelation = (rule : Rule) (initial : CellId → Scalar) (log : List Event) → (meets_axioms rule initial log ≡ true) ↔ MeetsAxioms rule initial log

-- ---- Races: the event that is named races with the new one and is the least that does, and none is where none does.

abbrev pub RaceIsLeast : Type 0
RaceIsLeast = (rule : Rule) (log : List Event) (e : Event) → MatchOption (race rule log e)
    ((i : ℕ) → Racing rule (e ∷ log) i (length log) → ⊥)
    (λ i. Racing rule (e ∷ log) i (length log) × ((k : ℕ) → Racing rule (e ∷ log) k (length log) → i ≤ k))

abbrev pub RaceFreeIsRelation : Type 0
RaceFreeIsRelation = (rule : Rule) (log : List Event) → (is_race_free rule log ≡ true) ↔ ((i j : ℕ) → Racing rule log i j → ⊥)

-- ---- Initial scalars: a log has the form without them exactly where it has it with some, and only those of accessed cells
-- matter.

abbrev pub FormStandsAlone : Type 0
FormStandsAlone = (initial : CellId → Scalar) (log : List Event) → has_form initial log ≡ true → has_form_alone log ≡ true

abbrev pub FormHasInitials : Type 0
FormHasInitials = (log : List Event) → has_form_alone log ≡ true → (initial : CellId → Scalar) × (has_form initial log ≡ true)

abbrev pub OtherInitialsDoNotMatter : Type 0
OtherInitialsDoNotMatter = (rule : Rule) (initial initial' : CellId → Scalar) (log : List Event) →
    ((i : ℕ) (ei : Event) (cell : CellId) → event_at log i ≡ Some ei → accesses cell ei ≡ true → initial cell ≡ initial' cell) →
    meets_axioms rule initial log ≡ meets_axioms rule initial' log
