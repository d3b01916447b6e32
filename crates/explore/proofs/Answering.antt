-- The answer is written.
use Rattle.std.proofs.Common.{◌≡◌, ◌≢◌, ◌⊎◌, ◌∙◌, inl, inr, ℕ, List, [], ◌∷◌, ◌++◌, refl, sym, ap, subst, arith, Option, Some, None}
use Rattle.std.specs.Prelude.{Bool, true, false, Vec, Result, Ok, Err, if◌then◌else◌}
use Rattle.std.specs.List.{list_any}
use Rattle.std.specs.declared.alloc.Global.{Global}
use Rattle.mu_base.specs.declared.status.Status.{Status}
use Rattle.mu_base.specs.declared.status.Status.TheVariants as statuses
use Rattle.mu_base.specs.declared.status.Status.TheVariants.{Done, Budget, Refused, Memory}
use Rattle.mu_base.specs.Outcome.{Outcome, got, failed, too_long}
use Rattle.demands.specs.declared.fault.Fault.{Fault}
use Rattle.demands.specs.declared.fault.Fault.TheVariants as faults
use Rattle.demands.specs.Demands.{first_unmet}
use Rattle.name_scopes.specs.Names.{Names}
use Rattle.ir_tree.specs.declared.items.Item.{Item}
use Rattle.run_texts.specs.EventTexts.{Text}
use Rattle.search_texts.specs.Texts.{is_complete}
use Rattle.conditions.specs.declared.fault.ConditionKind.{ConditionKind}
use Rattle.conditions.specs.declared.tree.Condition.{Condition}
use Rattle.conditions.specs.Texts.{condition_demands, conditions_in}
use Rattle.conditions.specs.Answers.{is_no, is_unknown}
use Rattle.condition_answers.specs.Lines.{answers_over, outcomes_in, answers_status}
use Rattle.mu_texts.specs.declared.what.What.{What}
use Rattle.mu_texts.specs.declared.stop.Stop.{Stop}
use Rattle.mu_texts.specs.declared.stop.Stop.TheVariants.{Line}
use Rattle.mu_texts.specs.declared.ready.Ready.{Ready}
use Rattle.mu_texts.specs.declared.ready.Ready.TheVariants as ready
use Rattle.mu_texts.specs.Start.{Started}
use Rattle.mu_texts.specs.Answer.{Answer, no_answer, Part, line}
use Rattle.mu_texts.specs.Lemmas.Accepting.{StopsSo}
use Rattle.mu_command.specs.Answer.{Outcomes, fetched, found}
use Rattle.mu_command.specs.Allowed.{Seen}
use Rattle.mu_command.specs.Written.{IsWhole, Writes}
use Rattle.mu_command.specs.Lemmas.Accepting.{finding_all}
use Rattle.explore.specs.declared.search.Search.{Search}
use Rattle.explore.specs.Asked.{search_of, run_of}
use Rattle.explore.specs.Conditions.{unread_line, long_line, read_conditions, shown_globals, asked_conditions}
use Rattle.explore.specs.Answers.{texts_of, search_status, IsSearch, IsConditioned, conditions_of, IsSearchOf, IsSearched, IsAnswer}
use Rattle.explore.specs.Explored.{Explored}
use Rattle.explore.specs.Parts.{HasAnswer, IsFound}

pub answered : (seen : Seen) (words : List (List ℕ)) (answer : Answer) (w0 w1 e0 e1 : Option (List ℕ)) (status : Status) → HasAnswer seen words answer → Writes answer w0 w1 e0 e1 status → Explored seen words w0 w1 e0 e1 status
answered seen words answer w0 w1 e0 e1 status a w = inl (record { outcomes = a.outcomes; allowed = a.allowed; condition = a.condition; allowed_too = a.allowed_too; answer = answer; is = a.is; writes = w })

-- a call that was out of memory and wrote nothing
pub gave_up : (seen : Seen) (words : List (List ℕ)) (w e : Option (List ℕ)) → Explored seen words w w e e Memory
gave_up seen words w e = inr (record { memory = refl; nothing = refl; no_end = refl })

-- ---- the kinds of statuses

-- 0 where the runs were made, 1 where a file or the entry stops the search, and 2 else
abbrev pub kind_of : Status → ℕ
kind_of Done = 0
kind_of Budget = 0
kind_of statuses.No = 0
kind_of Refused = 1
kind_of statuses.ReadFault = 1
kind_of statuses.TooLong = 1
kind_of Memory = 1
kind_of _ = 2

pub kind_is_whole : (s : Status) → kind_of s ≡ 0 → IsWhole s
kind_is_whole s k = ((λ e. let no : 2 ≡ 0 = ap kind_of (sym e) ∙ k in absurd (omega (arith, no))), (λ e. let no : 1 ≡ 0 = ap kind_of (sym e) ∙ k in absurd (omega (arith, no))))

pub made_is : (s : Status) → kind_of s ≡ 0 → (s ≡ Done) ⊎ (s ≡ Budget) ⊎ (s ≡ statuses.No)
made_is Done k = inl refl
made_is Budget k = inr (inl refl)
made_is Refused k = cc
made_is Memory k = cc
made_is statuses.ReadFault k = cc
made_is statuses.TooLong k = cc
made_is statuses.Usage k = cc
made_is statuses.SinkFault k = cc
made_is statuses.Stop k = cc
made_is statuses.Undefined k = cc
made_is statuses.HeapFull k = cc
made_is statuses.ThreadsFull k = cc
made_is statuses.AllWaiting k = cc
made_is statuses.No k = inr (inr refl)

pub stop_is : (s : Status) → kind_of s ≡ 1 → s ≢ Refused → s ≢ statuses.ReadFault → s ≢ statuses.TooLong → s ≢ Memory → ⊥
stop_is Done k a b c d = cc
stop_is Budget k a b c d = cc
stop_is Refused k a b c d = a refl
stop_is Memory k a b c d = d refl
stop_is statuses.ReadFault k a b c d = b refl
stop_is statuses.TooLong k a b c d = c refl
stop_is statuses.Usage k a b c d = cc
stop_is statuses.SinkFault k a b c d = cc
stop_is statuses.Stop k a b c d = cc
stop_is statuses.Undefined k a b c d = cc
stop_is statuses.HeapFull k a b c d = cc
stop_is statuses.ThreadsFull k a b c d = cc
stop_is statuses.AllWaiting k a b c d = cc
stop_is statuses.No k a b c d = cc

made_kind : (b : Bool) → kind_of (if b then Done else Budget) ≡ 0
made_kind true = refl
made_kind false = refl

status_kind : (no unknown : Bool) → kind_of (if no then statuses.No else (if unknown then Budget else Done)) ≡ 0
status_kind true unknown = refl
status_kind false true = refl
status_kind false false = refl

with_conditions : (b : Bool) (cs : List Condition) (s : Status) → kind_of s ≡ 0 → kind_of (search_status b cs s) ≡ 0
with_conditions b [] s k = made_kind b
with_conditions b (c ∷ cs) s k = k

answers_kind : (ts : List Text) (b : Bool) (cs : List Condition) → kind_of (answers_status ts b cs) ≡ 0
answers_kind ts b cs = status_kind (list_any is_no (answers_over (outcomes_in ts) b cs)) (list_any is_unknown (answers_over (outcomes_in ts) b cs))

pub answered_whole : (ts : List Text) (cs : List Condition) (b : Bool) (answered status : Status) → answered ≡ answers_status ts b cs → status ≡ search_status b cs answered → IsWhole status
answered_whole ts cs b answered status a e = kind_is_whole status (ap kind_of e ∙ with_conditions b cs answered (ap kind_of a ∙ answers_kind ts b cs))

pub search_kind : (code : List Item) (start : Started) (runs : ℕ) (cs : List Condition) (answer : Answer) → IsSearch code start runs cs answer → kind_of answer.status ≡ 0
search_kind code start runs cs answer h =
    let b : Bool = is_complete h.left h.says in
    ap (λ (a : Answer). kind_of a.status) h.is ∙ with_conditions b cs (answers_status (texts_of h.outcomes) b cs) (answers_kind (texts_of h.outcomes) b cs)

-- ---- conditions

-- what their file comes to
module _ (P : Answer → Type 0) (refused : (answer : Answer) → answer.status ≡ Refused → P answer) (memory : P no_answer) (unread : P unread_line) (long : P long_line) where
  reading : (cs : List Condition) (fault : Option (Fault ConditionKind)) → StopsSo P (read_conditions cs fault)
  reading cs None = tt
  reading cs (Some (faults.At kind place)) = refused _ refl
  reading cs (Some faults.Memory) = memory

  asking : (names : Names ℕ) (n : Option ℕ) (o : Outcome) → StopsSo P (asked_conditions names n o)
  asking names None o = tt
  asking names (Some n) (got bytes) = reading (conditions_in names bytes) (first_unmet (condition_demands names bytes))
  asking names (Some n) failed = unread
  asking names (Some n) too_long = long

-- an early end has a status of its own kind
abbrev pub IsStop : Answer → Type 0
IsStop a = kind_of a.status ≡ 1

fetch_stops : (what : What) (o : Outcome) → StopsSo IsStop (fetched what o)
fetch_stops what (got bytes) = tt
fetch_stops what failed = refl
fetch_stops what too_long = refl

pub conditions_stop : (names : Names ℕ) (n : Option ℕ) (o : Outcome) → StopsSo IsStop (asked_conditions names n o)
conditions_stop names n o = asking IsStop (λ answer e. ap kind_of e) refl refl refl names n o

pub found_stops : (words : List (List ℕ)) (s : Search) (o : Outcomes) → StopsSo IsStop (found words (run_of s) o)
found_stops words s o = finding_all IsStop (λ answer e. ap kind_of e) refl words o (λ what. fetch_stops what (o what)) (run_of s)

-- ---- the status of a line

-- an answer that is no line, or has the status of a whole text
abbrev HasWhole : Answer → Type 0
HasWhole a = (text : List ℕ) (s : Status) → line text s ≡ a → IsWhole s

by_status : (a : Answer) → IsWhole a.status → HasWhole a
by_status a u text s e = subst IsWhole (sym (ap (λ (x : Answer). x.status) e)) u

none_whole : HasWhole no_answer
none_whole text s e = absurd (let p : (text ++ 10 ∷ []) ∷ [] ≡ [] = ap (λ (x : Answer). x.pieces) e in cc)

refused_whole : (a : Answer) → a.status ≡ Refused → HasWhole a
refused_whole a e = by_status a (subst IsWhole (sym e) ((λ e. cc), (λ e. cc)))

fetch_whole : (what : What) (o : Outcome) → StopsSo HasWhole (fetched what o)
fetch_whole what (got bytes) = tt
fetch_whole what failed = by_status _ ((λ e. cc), (λ e. cc))
fetch_whole what too_long = by_status _ ((λ e. cc), (λ e. cc))

conditioned_whole : (code : List Item) (start : Started) (runs : ℕ) (p : Part (List Condition)) (text : List ℕ) (s : Status) → StopsSo HasWhole p → IsConditioned code start runs p (line text s) → IsWhole s
conditioned_whole code start runs (Ok cs) text s h a = kind_is_whole s (search_kind code start runs cs (line text s) a)
conditioned_whole code start runs (Err stop) text s h a = h text s a

entered_whole : (search : Search) (o : Outcome) (r : Ready) (text : List ℕ) (s : Status) → IsSearchOf search o r (line text s) → IsWhole s
entered_whole search o ready.Accepted text s a = absurd a
entered_whole search o (ready.Canonical bundle) text s a = absurd a
entered_whole search o (ready.Judged v) text s a = absurd a
entered_whole search o (ready.Entered code start telling) text s a =
    conditioned_whole code start search.runs (conditions_of code start search o) text s
    (asking HasWhole refused_whole none_whole (by_status unread_line ((λ e. cc), (λ e. cc))) (by_status long_line ((λ e. cc), (λ e. cc))) (shown_globals code start.setting.objects) search.condition o) a

searched_whole : (search : Search) (o : Outcome) (p : Part Ready) (text : List ℕ) (s : Status) → StopsSo HasWhole p → IsSearched search o p (line text s) → IsWhole s
searched_whole search o (Ok r) text s h a = entered_whole search o r text s a
searched_whole search o (Err stop) text s h a = h text s a

line_is_whole : (words : List (List ℕ)) (a : Option Search) (outcomes : Outcomes) (o : Outcome) (text : List ℕ) (s : Status) → IsAnswer words a outcomes o (line text s) → IsWhole s
line_is_whole words None outcomes o text s a = subst IsWhole (sym (ap (λ (x : Answer). x.status) a)) ((λ e. cc), (λ e. cc))
line_is_whole words (Some asked) outcomes o text s a =
    searched_whole asked o (found words (run_of asked) outcomes) text s (finding_all HasWhole refused_whole none_whole words outcomes (λ what. fetch_whole what (outcomes what)) (run_of asked)) a

pub early_is_whole : (seen : Seen) (words : List (List ℕ)) (r : Result (Vec ℕ Global × Status) Stop) (text : Vec ℕ Global) (s : Status) → r ≡ Err (Line text s) → IsFound seen words r → IsWhole s
early_is_whole seen words r text s e f =
    let a : HasAnswer seen words (line text.items s) = subst (IsFound seen words) e f in
    line_is_whole words (search_of words) a.outcomes a.condition text.items s a.is

pub ruleset answering = (gave_up, answered)
