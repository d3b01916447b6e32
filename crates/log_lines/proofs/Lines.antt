-- The line of an event is read as the event.
use Rattle.std.proofs.Common.{◌≡◌, ℕ, suc, ◌+◌, ◌<◌, ◌^◌, true, List, [], ◌∷◌, ◌++◌, length, append_assoc, refl, sym, ap, ◌∙◌, subst, arith}
use Rattle.std.specs.Prelude.{decimal, codes, Result, Ok, None}
use Rattle.std.specs.List.{list_all}
use Rattle.std.proofs.lemmas.Bool.{false≢true}
use Rattle.demands.specs.declared.fault.Fault.{Fault}
use Rattle.mu_base.specs.declared.order.Order.{Order}
use Rattle.mu_values.specs.declared.scalars.Scalar.{Scalar}
use Rattle.mu_values.specs.declared.cells.CellId.{CellId}
use Rattle.mem_axioms.specs.declared.types.Mode.{Mode}
use Rattle.mem_axioms.specs.declared.types.Mode.TheVariants as modes
use Rattle.mem_axioms.specs.declared.types.Kind.{Kind}
use Rattle.mem_axioms.specs.declared.types.Kind.TheVariants as kinds
use Rattle.mem_axioms.specs.declared.types.Event.{Event}
use Rattle.log_lines.specs.declared.types.LogKind.{LogKind}
use Rattle.log_lines.specs.Fields.{Text, parts, cell}
use Rattle.log_lines.specs.Words.{is_order_of, is_fence_order, order_text, look_up, kind_words}
use Rattle.log_lines.specs.Values.{Names, value}
use Rattle.log_lines.specs.Lines.{Read, placed, field, and_then, event_in, kind_after, all_read}
use Rattle.log_lines.specs.Texts.{is_printable, first_unprintable, begins_with_digit, line_read, with_event}
use Rattle.log_lines.specs.EventTexts.{NameOf, cell_text, scalar_text, kind_text, event_text}
use Rattle.log_lines.specs.Readable.{KindIsReadable, EventIsReadable, kind_for, kind_names, event_for, after_event}
use Rattle.log_lines.specs.Laws.{EventLinesAreRead}
use Rattle.log_lines.proofs.Bytes.{both_true, all_of, other_than, parts_one, parts_front, is_solid, solid_free, solid_printable, numeral}
use Rattle.log_lines.proofs.Fields.{number_read, exactly_read, thread_read, stack_read, cell_read, order_read, value_read, Solid, decimal_solid, cell_solid, order_solid, scalar_solid}

-- ---- fields with a space between them

-- a field, and then the others with a space before each
joined : Text → List Text → Text
joined f [] = f
joined f (g ∷ gs) = f ++ 32 ∷ joined g gs

AllSolid : List Text → Type 0
AllSolid [] = Unit {0}
AllSolid (f ∷ fs) = Solid f × AllSolid fs

free : (f : Text) → Solid f → list_all (other_than 32) f ≡ true
free f h = all_of is_solid (other_than 32) solid_free f h

parts_joined : (f : Text) (fs : List Text) → Solid f → AllSolid fs → parts 32 (joined f fs) ≡ f ∷ fs
unfolding joined AllSolid
parts_joined f [] h hs = parts_one 32 f (free f h)
parts_joined f (g ∷ gs) h hs = parts_front 32 f (joined g gs) (free f h) ∙ ap (λ (l : List Text). f ∷ l) (parts_joined g gs hs.0 hs.1)

printable_front : (at : ℕ) (f rest : Text) → list_all is_printable f ≡ true → ((k : ℕ) → first_unprintable k rest ≡ None) → first_unprintable at (f ++ rest) ≡ None
printable_front at [] rest h more = more at
printable_front at (b ∷ bs) rest h more = let r = both_true (is_printable b) (list_all is_printable bs) h in rw r.0 (printable_front (1 + at) bs rest r.1 more)

append_nothing : (f : Text) → f ++ [] ≡ f
append_nothing [] = refl
append_nothing (b ∷ bs) = ap (λ (l : Text). b ∷ l) (append_nothing bs)

printable_joined : (f : Text) (fs : List Text) → Solid f → AllSolid fs → (at : ℕ) → first_unprintable at (joined f fs) ≡ None
unfolding joined AllSolid
printable_joined f [] h hs at = subst (λ (l : Text). first_unprintable at l ≡ None) (append_nothing f) (printable_front at f [] (all_of is_solid is_printable solid_printable f h) (λ k. refl))
printable_joined f (g ∷ gs) h hs at =
    printable_front at f (32 ∷ joined g gs) (all_of is_solid is_printable solid_printable f h) (λ k. printable_joined g gs hs.0 hs.1 (1 + k))

-- ---- the fields of an event

mode_word : Mode → Text
mode_word modes.Read = codes "read"
mode_word modes.Write = codes "write"
mode_word modes.Update = codes "update"

word_of : Kind → Text
word_of (kinds.Access mode cell order position value) = mode_word mode
word_of (kinds.Fence order) = codes "fence"
word_of (kinds.NewStack k) = codes "stack"
word_of (kinds.NewThread i) = codes "thread"
word_of (kinds.Leave k) = codes "leave"
word_of (kinds.Enter k) = codes "enter"
word_of (kinds.Wake cell many) = codes "wake"
word_of (kinds.Woken n) = codes "woken"

rest_of : NameOf → Kind → List Text
rest_of name_of (kinds.Access mode cell order position value) = order_text order ∷ cell_text cell ∷ decimal position ∷ scalar_text name_of value ∷ []
rest_of name_of (kinds.Fence order) = order_text order ∷ []
rest_of name_of (kinds.NewStack k) = (115 ∷ decimal k) ∷ []
rest_of name_of (kinds.NewThread i) = (116 ∷ decimal i) ∷ []
rest_of name_of (kinds.Leave k) = (115 ∷ decimal k) ∷ []
rest_of name_of (kinds.Enter k) = (115 ∷ decimal k) ∷ []
rest_of name_of (kinds.Wake cell many) = cell_text cell ∷ decimal many ∷ []
rest_of name_of (kinds.Woken n) = decimal n ∷ []

regroup : (w o s c p v : Text) → w ++ o ++ s ++ c ++ s ++ p ++ s ++ v ≡ w ++ (o ++ (s ++ (c ++ (s ++ (p ++ (s ++ v))))))
regroup w o s c p v = simp append_assoc

regroup_wake : (w c s p : Text) → w ++ c ++ s ++ p ≡ w ++ (c ++ (s ++ p))
regroup_wake w c s p = simp append_assoc

regroup_event : (n s t k : Text) → n ++ s ++ t ++ s ++ k ≡ n ++ (s ++ (t ++ (s ++ k)))
regroup_event n s t k = simp append_assoc

kind_joined : (name_of : NameOf) (k : Kind) → kind_text name_of k ≡ joined (word_of k) (rest_of name_of k)
unfolding joined mode_word word_of rest_of
kind_joined name_of (kinds.Access modes.Read c o p v) = regroup (codes "read ") (order_text o) (codes " ") (cell_text c) (decimal p) (scalar_text name_of v)
kind_joined name_of (kinds.Access modes.Write c o p v) = regroup (codes "write ") (order_text o) (codes " ") (cell_text c) (decimal p) (scalar_text name_of v)
kind_joined name_of (kinds.Access modes.Update c o p v) = regroup (codes "update ") (order_text o) (codes " ") (cell_text c) (decimal p) (scalar_text name_of v)
kind_joined name_of (kinds.Fence order) = refl
kind_joined name_of (kinds.NewStack k) = refl
kind_joined name_of (kinds.NewThread i) = refl
kind_joined name_of (kinds.Leave k) = refl
kind_joined name_of (kinds.Enter k) = refl
kind_joined name_of (kinds.Wake c many) = regroup_wake (codes "wake ") (cell_text c) (codes " ") (decimal many)
kind_joined name_of (kinds.Woken n) = refl

fields_after : NameOf → Event → List Text
fields_after name_of e = (116 ∷ decimal e.thread) ∷ word_of e.kind ∷ rest_of name_of e.kind

event_joined : (name_of : NameOf) (n : ℕ) (e : Event) → event_text name_of n e ≡ joined (decimal n) (fields_after name_of e)
unfolding joined fields_after
event_joined name_of n e =
    regroup_event (decimal n) (codes " ") (116 ∷ decimal e.thread) (kind_text name_of e.kind)
    ∙ ap (λ (l : Text). decimal n ++ 32 ∷ 116 ∷ (decimal e.thread ++ 32 ∷ l)) (kind_joined name_of e.kind)

word_solid : (k : Kind) → Solid (word_of k)
unfolding word_of mode_word
word_solid (kinds.Access modes.Read cell order position value) = refl
word_solid (kinds.Access modes.Write cell order position value) = refl
word_solid (kinds.Access modes.Update cell order position value) = refl
word_solid (kinds.Fence order) = refl
word_solid (kinds.NewStack k) = refl
word_solid (kinds.NewThread i) = refl
word_solid (kinds.Leave k) = refl
word_solid (kinds.Enter k) = refl
word_solid (kinds.Wake cell many) = refl
word_solid (kinds.Woken n) = refl

lettered : (b n : ℕ) → is_solid b ≡ true → n < 2 ^ 128 → Solid (b ∷ decimal n)
lettered b n h l = rw (h, decimal_solid n l) refl

rest_solid : (name_of : NameOf) (k : Kind) → KindIsReadable name_of k → AllSolid (rest_of name_of k)
unfolding rest_of AllSolid
rest_solid name_of (kinds.Access mode cell order position value) h =
    (order_solid order, (cell_solid cell h.1, (decimal_solid position (let x = h.2 in omega arith), (scalar_solid name_of value h.3, tt))))
rest_solid name_of (kinds.Fence order) h = (order_solid order, tt)
rest_solid name_of (kinds.NewStack k) h = (lettered 115 k refl (omega arith), tt)
rest_solid name_of (kinds.NewThread i) h = (lettered 116 i refl (omega arith), tt)
rest_solid name_of (kinds.Leave k) h = (lettered 115 k refl (omega arith), tt)
rest_solid name_of (kinds.Enter k) h = (lettered 115 k refl (omega arith), tt)
rest_solid name_of (kinds.Wake cell many) h = (cell_solid cell h.0, (decimal_solid many (let x = h.1 in omega arith), tt))
rest_solid name_of (kinds.Woken n) h = (decimal_solid n (omega arith), tt)

all_solid : (name_of : NameOf) (e : Event) → EventIsReadable name_of e → AllSolid (fields_after name_of e)
unfolding AllSolid fields_after
all_solid name_of e h = (lettered 116 e.thread refl (let x = h.0 in omega arith), (word_solid e.kind, rest_solid name_of e.kind h.1))

-- ---- what is read of them

-- the fields of a kind are read as that kind, wherever they stand
KindRead : NameOf → Kind → Type 0
KindRead name_of k = (end at : ℕ) (names : Names) →
    and_then (field end (look_up kind_words) (placed at (word_of k ∷ rest_of name_of k))) (kind_after end names) ≡ Ok ((kind_for name_of names k, kind_names name_of names k), [])

access_read : (name_of : NameOf) (mode : Mode) (c : CellId) (o : Order) (p : ℕ) (v : Scalar) → KindIsReadable name_of (kinds.Access mode c o p v) → KindRead name_of (kinds.Access mode c o p v)
unfolding KindRead word_of rest_of mode_word
access_read name_of modes.Read c o p v h end at names = rw (order_read (is_order_of modes.Read) o h.0, cell_read c h.1, number_read (2 ^ 32) p h.2 (let x = h.2 in omega arith), value_read name_of names v h.3) refl
access_read name_of modes.Write c o p v h end at names = rw (order_read (is_order_of modes.Write) o h.0, cell_read c h.1, number_read (2 ^ 32) p h.2 (let x = h.2 in omega arith), value_read name_of names v h.3) refl
access_read name_of modes.Update c o p v h end at names = rw (order_read (is_order_of modes.Update) o h.0, cell_read c h.1, number_read (2 ^ 32) p h.2 (let x = h.2 in omega arith), value_read name_of names v h.3) refl

kind_read : (name_of : NameOf) (k : Kind) → KindIsReadable name_of k → KindRead name_of k
unfolding KindRead word_of rest_of
kind_read name_of (kinds.Access mode c o p v) h = access_read name_of mode c o p v h
kind_read name_of (kinds.Fence o) h = λ end at names. rw (order_read is_fence_order o h) refl
kind_read name_of (kinds.NewStack k) h = λ end at names. rw (stack_read k h) refl
kind_read name_of (kinds.NewThread i) h = λ end at names. rw (thread_read i h) refl
kind_read name_of (kinds.Leave k) h = λ end at names. rw (stack_read k h) refl
kind_read name_of (kinds.Enter k) h = λ end at names. rw (stack_read k h) refl
kind_read name_of (kinds.Wake c many) h = λ end at names. rw (cell_read c h.0, number_read (2 ^ 32) many h.1 (let x = h.1 in omega arith)) refl
kind_read name_of (kinds.Woken n) h = λ end at names. rw (number_read (2 ^ 32) n h (omega arith)) refl

abbrev gathered : ℕ → Read (Kind × Names) → Result (Event × Names) (Fault LogKind)
gathered i r = all_read (and_then r (λ k fs. Ok ((record { thread = i; kind = k.0 }, k.1), fs)))

event_read : (name_of : NameOf) (n end at : ℕ) (names : Names) (e : Event) → n < 2 ^ 32 → EventIsReadable name_of e →
    event_in end n names (placed at (decimal n ∷ fields_after name_of e)) ≡ Ok (event_for name_of names e, kind_names name_of names e.kind)
unfolding fields_after KindRead
event_read name_of n end at names e l h =
    let kind = kind_read name_of e.kind h.1 end (at + length (decimal n) + 1 + suc (length (decimal e.thread)) + 1) names in
    rw (exactly_read n (omega arith), thread_read e.thread h.0) (ap (gathered e.thread) kind)

begins_joined : (f : Text) (gs : List Text) → begins_with_digit f ≡ true → begins_with_digit (joined f gs) ≡ true
unfolding joined
begins_joined [] gs h = absurd (false≢true h)
begins_joined (b ∷ bs) [] h = h
begins_joined (b ∷ bs) (g ∷ gs) h = h

pub line_is_read : EventLinesAreRead
line_is_read name_of at t e l h =
    let n = length t.log in
    let fs = fields_after name_of e in
    let big : n < 2 ^ 128 = omega arith in
    let first = decimal_solid n big in
    let solid = all_solid name_of e h in
    let line = joined (decimal n) fs in
    subst (λ (line : Text). line_read at t line ≡ Ok (after_event name_of t e)) (sym (event_joined name_of n e))
    (rw (begins_joined (decimal n) fs (numeral n big).first, printable_joined (decimal n) fs first solid at, parts_joined (decimal n) fs first solid)
    (ap (with_event t) (event_read name_of n (at + length line) at t.names e l h)))

pub event_printable : (name_of : NameOf) (at n : ℕ) (e : Event) → n < 2 ^ 128 → EventIsReadable name_of e → first_unprintable at (event_text name_of n e) ≡ None
event_printable name_of at n e big h =
    subst (λ (line : Text). first_unprintable at line ≡ None) (sym (event_joined name_of n e)) (printable_joined (decimal n) (fields_after name_of e) (decimal_solid n big) (all_solid name_of e h) at)
