-- The verdict on a log whose initial scalars are not known. It says what fails first at the least event where anything fails:
-- the form of a log, axiom 1, axiom 3, or the absence of races. Axiom 2 cannot fail, since an update has one position.
use Rattle.std.specs.Prelude.{ℕ, suc, Bool, true, false, ◌&&◌, ◌==◌, nat_le, List, [], ◌∷◌, length, Option, Some, None, option_map, option_and_then}
use Rattle.mem_axioms.specs.Events.{order_of, is_seq_cst}
use Rattle.mem_axioms.specs.Logs.{any_event, least_event}
use Rattle.mem_axioms.specs.HappensBefore.{happens_before}
use Rattle.mem_axioms.specs.Form.{fits_form_alone}
use Rattle.mem_axioms.specs.Axioms.{reads_older, comes_first, is_or_fences, is_or_is_fenced}
use Rattle.mem_axioms.specs.Races.{race}
use Rattle.mem_axioms.specs.declared.types.Rule.{Rule}
use Rattle.mem_axioms.specs.declared.types.Event.{Event}
use Rattle.verdicts.specs.declared.types.Verdict.{Verdict}
use Rattle.verdicts.specs.declared.types.Verdict.TheVariants.{Yes, Form, Axiom1, Axiom3, Race}

-- Axiom 1 is broken: event i of the past happens before the event e that comes next, which reads an older position of the same cell.
abbrev pub breaks_coherence : Rule → List Event → Event → ℕ → Event → Bool
breaks_coherence rule past e i ei = reads_older e ei && happens_before rule (e ∷ past) i (length past)

-- By axiom 3 event a must come before event b: there are accesses x and y of one cell of which x comes first, a is x or a fence that
-- happens before x, and b is y or a fence that y happens before.
abbrev pub must_precede : Rule → List Event → ℕ → Event → ℕ → Event → Bool
must_precede rule log a ea b eb =
    any_event (λ x ex. is_or_fences rule log a ea x && any_event (λ y ey. comes_first ex ey && is_or_is_fenced rule log y b eb) log) log

-- Axiom 3 is broken: a and b are SEQ_CST, and a does not come before b.
abbrev pub breaks_order : Rule → List Event → ℕ → Event → ℕ → Event → Bool
breaks_order rule log b eb a ea = is_seq_cst (order_of ea) && is_seq_cst (order_of eb) && nat_le b a && must_precede rule log a ea b eb

-- the least b of such a pair, and then the least a for that b
abbrev pub least_b : Rule → List Event → Option ℕ
least_b rule log = least_event (λ b eb. any_event (breaks_order rule log b eb) log) log

abbrev pub least_a : Rule → List Event → ℕ → Option ℕ
least_a rule log b = least_event (λ a ea. any_event (λ k eb. (k == b) && breaks_order rule log k eb a ea) log) log

abbrev pub least_pair : Rule → List Event → Option (ℕ × ℕ)
least_pair rule log = option_and_then (λ b. option_map (λ a. (b, a)) (least_a rule log b)) (least_b rule log)

-- The first of the four that fails at event n: whether the event fits the form, the least event with which it breaks axiom 1, the pair
-- (b, a) that breaks axiom 3, and the least event that it races with.
abbrev pub first_failing : ℕ → Bool → Option ℕ → Option (ℕ × ℕ) → Option ℕ → Verdict
first_failing n false earlier pair racing = Form n
first_failing n true (Some i) pair racing = Axiom1 i n
first_failing n true None (Some pair) racing = Axiom3 pair.1 pair.0
first_failing n true None None (Some i) = Race i n
first_failing n true None None None = Yes (suc n)

-- the verdict where nothing fails in the past and event e comes next
unfoldable pub next_verdict : Rule → List Event → Event → Verdict
next_verdict rule past e =
    first_failing (length past) (fits_form_alone past e) (least_event (breaks_coherence rule past e) past) (least_pair rule (e ∷ past)) (race rule past e)

-- A verdict that is not Yes stays, whatever comes next.
abbrev pub goes_on : Rule → List Event → Event → Verdict → Verdict
goes_on rule past e (Yes n) = next_verdict rule past e
goes_on rule past e v = v

-- of a log whose events stand newest first
abbrev pub verdict : Rule → List Event → Verdict
verdict rule [] = Yes 0
verdict rule (e ∷ past) = goes_on rule past e (verdict rule past)
