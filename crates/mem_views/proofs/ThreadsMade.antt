-- The threads of a run, and what holds of its log.
use Rattle.std.proofs.Common.{◌≡◌, ℕ, ◌<◌, ◌≤◌, Bool, true, false, ◌&&◌, ◌||◌, eqb, List, [], ◌∷◌, ◌++◌, length, length-append, Some, None, refl, sym, ap, ◌∙◌, inl, inr, ◌⊎◌, arith}
use Rattle.std.specs.Prelude.{All, Contains}
use Rattle.std.proofs.lemmas.Bool.{false≢true, or_cases, eqb-true, eq-eqb, cases_lt}
use Rattle.std.proofs.lemmas.List.{get_or_push, get_or_append_left}
use Rattle.std.proofs.lemmas.List.Elements.{Contains-append_left, Contains-append_right}
use Rattle.mu_values.specs.declared.scalars.Scalar.{Scalar}
use Rattle.mu_values.specs.declared.cells.CellId.{CellId}
use Rattle.mem_axioms.specs.Events.{accesses}
use Rattle.mem_axioms.specs.Logs.{event_at}
use Rattle.mem_axioms.specs.Synchronizes.{makes_thread}
use Rattle.mem_axioms.specs.EventFits.{is_thread, EventFits}
use Rattle.mem_axioms.specs.Races.{race}
use Rattle.mem_axioms.specs.declared.types.Event.{Event}
use Rattle.mem_axioms.specs.declared.types.Rule.{Rule}
use Rattle.mem_axioms.specs.declared.types.Kind.{Kind}
use Rattle.mem_axioms.specs.declared.types.Kind.TheVariants.{Access, Fence, NewStack, NewThread, Leave, Enter, Wake, Woken}
use Rattle.mem_axioms.specs.Lemmas.Numbers.{event-cases}
use Rattle.mem_axioms.specs.Lemmas.Growing.{cells-more, sound-more, sound-none, cells-none}
use Rattle.mem_axioms.specs.Lemmas.Widening.{cells-wider, sound-wider}
use Rattle.mem_views.specs.Threads.{threads_of}
use Rattle.mem_views.specs.Holding.{LogHolds, MadeHolds}
use Rattle.view_parts.specs.Holding.{CellHolds}
use Rattle.view_parts.specs.Families.{belongs}
use Rattle.view_parts.specs.Touched.{entries_at}
use Rattle.mem_axioms.specs.Events.{position_of}
use Rattle.write_history.specs.declared.access_index.Entry.{Entry}
use Rattle.view_parts.specs.Indexed.{entries_by, by_thread}
use Rattle.view_parts.specs.Looks.{IsMade, AllMade}
use Rattle.view_parts.specs.declared.cell.CellViews.{CellViews}
use Rattle.view_parts.specs.Lemmas.Entries.{entries-none}

or_left : (a b : Bool) → a ≡ true → (a || b) ≡ true
or_left true b h = refl
or_left false b h = absurd (false≢true h)

or_right : (a b : Bool) → b ≡ true → (a || b) ≡ true
or_right true b h = refl
or_right false b h = h

-- a thread is one for good
pub thread-kept : (e : Event) (log : List Event) (t : ℕ) → is_thread log t ≡ true → is_thread (e ∷ log) t ≡ true
thread-kept e log t h = elim (or_cases (eqb t 0) _ h) [
  | inl p ↦ or_left (eqb t 0) _ p
  | inr p ↦ or_right (eqb t 0) _ (or_right (makes_thread t e) _ p)
]

-- it was one already, or the event makes it
pub thread-cases : (e : Event) (log : List Event) (t : ℕ) → is_thread (e ∷ log) t ≡ true → (is_thread log t ≡ true) ⊎ (makes_thread t e ≡ true)
thread-cases e log t h = elim (or_cases (eqb t 0) _ h) [
  | inl p ↦ inl (or_left (eqb t 0) _ p)
  | inr p ↦ elim (or_cases (makes_thread t e) _ p) [ inl q ↦ inr q | inr q ↦ inl (or_right (eqb t 0) _ q) ]
]

made-kind : (t : ℕ) (k : Kind) (log : List Event) (u : ℕ) → makes_thread u (record { thread = t; kind = k }) ≡ true → Contains (threads_of (record { thread = t; kind = k } ∷ log)) u
made-kind t (NewThread child) log u h = Contains-append_right (threads_of log) (child ∷ []) u (0, omega arith, eqb-true child u h)
made-kind t (Access mode cell o p x) log u h = absurd (false≢true h)
made-kind t (Fence o) log u h = absurd (false≢true h)
made-kind t (NewStack o) log u h = absurd (false≢true h)
made-kind t (Leave o) log u h = absurd (false≢true h)
made-kind t (Enter o) log u h = absurd (false≢true h)
made-kind t (Wake o n) log u h = absurd (false≢true h)
made-kind t (Woken o) log u h = absurd (false≢true h)

older-kind : (t : ℕ) (k : Kind) (log : List Event) (u : ℕ) → Contains (threads_of log) u → Contains (threads_of (record { thread = t; kind = k } ∷ log)) u
older-kind t (NewThread child) log u h = Contains-append_left (threads_of log) (child ∷ []) u h
older-kind t (Access mode cell o p x) log u h = h
older-kind t (Fence o) log u h = h
older-kind t (NewStack o) log u h = h
older-kind t (Leave o) log u h = h
older-kind t (Enter o) log u h = h
older-kind t (Wake o n) log u h = h
older-kind t (Woken o) log u h = h

-- all threads are on the list
pub threads-listed : (log : List Event) (u : ℕ) → is_thread log u ≡ true → Contains (threads_of log) u
threads-listed [] u h = elim (or_cases (eqb u 0) _ h) [ inl p ↦ (0, omega arith, sym (eqb-true u 0 p)) | inr p ↦ absurd (false≢true p) ]
threads-listed (e ∷ past) u h = elim (thread-cases e past u h) [
  | inl p ↦ older-kind e.thread e.kind past u (threads-listed past u p)
  | inr p ↦ made-kind e.thread e.kind past u p
]

-- and no others
listed-kind : (t : ℕ) (k : Kind) (log : List Event) → All (λ u. is_thread log u ≡ true) (threads_of log) → All (λ u. is_thread (record { thread = t; kind = k } ∷ log) u ≡ true) (threads_of (record { thread = t; kind = k } ∷ log))
listed-kind t (NewThread child) log h i d l = elim (cases_lt i (length (threads_of log))) [
  | inl p ↦ ap (λ (u : ℕ). is_thread (record { thread = t; kind = NewThread child } ∷ log) u) (get_or_append_left (threads_of log) (child ∷ []) d i p)
      ∙ thread-kept (record { thread = t; kind = NewThread child }) log _ (h i d p)
  | inr p ↦ (let n = length-append (threads_of log) (child ∷ []) in
      let q : length (threads_of log) ≡ i = omega (arith, n, l) in
      ap (λ (u : ℕ). is_thread (record { thread = t; kind = NewThread child } ∷ log) u) (get_or_push (threads_of log) child d i q)
      ∙ or_right (eqb child 0) _ (or_left (eqb child child) _ (eq-eqb child child refl)))
]
listed-kind t (Access mode cell o p x) log h i d l = thread-kept (record { thread = t; kind = Access mode cell o p x }) log _ (h i d l)
listed-kind t (Fence o) log h i d l = thread-kept (record { thread = t; kind = Fence o }) log _ (h i d l)
listed-kind t (NewStack o) log h i d l = thread-kept (record { thread = t; kind = NewStack o }) log _ (h i d l)
listed-kind t (Leave o) log h i d l = thread-kept (record { thread = t; kind = Leave o }) log _ (h i d l)
listed-kind t (Enter o) log h i d l = thread-kept (record { thread = t; kind = Enter o }) log _ (h i d l)
listed-kind t (Wake o n) log h i d l = thread-kept (record { thread = t; kind = Wake o n }) log _ (h i d l)
listed-kind t (Woken o) log h i d l = thread-kept (record { thread = t; kind = Woken o }) log _ (h i d l)

pub listed-threads : (log : List Event) → All (λ u. is_thread log u ≡ true) (threads_of log)
listed-threads [] i d l = let z : i ≡ 0 = omega arith in rw z refl
listed-threads (e ∷ past) i d l = listed-kind e.thread e.kind past (listed-threads past) i d l

-- the log with one more event
small-kind : (rule : Rule) (objects : List (List Scalar)) (log : List Event) (t : ℕ) (k : Kind) (u : ℕ) → EventFits rule objects log (record { thread = t; kind = k }) → makes_thread u (record { thread = t; kind = k }) ≡ true → u < 64
small-kind rule objects log t (NewThread child) u f h = let c = f.child.1 in let e = eqb-true child u h in omega (arith, c, e)
small-kind rule objects log t (Access mode cell o p x) u f h = absurd (false≢true h)
small-kind rule objects log t (Fence o) u f h = absurd (false≢true h)
small-kind rule objects log t (NewStack o) u f h = absurd (false≢true h)
small-kind rule objects log t (Leave o) u f h = absurd (false≢true h)
small-kind rule objects log t (Enter o) u f h = absurd (false≢true h)
small-kind rule objects log t (Wake o n) u f h = absurd (false≢true h)
small-kind rule objects log t (Woken o) u f h = absurd (false≢true h)

-- a thread that an event makes is below 64
pub child-small : (rule : Rule) (objects : List (List Scalar)) (log : List Event) (e : Event) (u : ℕ) → EventFits rule objects log e → makes_thread u e ≡ true → u < 64
child-small rule objects log e = small-kind rule objects log e.thread e.kind

pub log-more : (rule : Rule) (objects : List (List Scalar)) (log : List Event) (e : Event) → EventFits rule objects log e → race rule log e ≡ None → LogHolds rule objects log → LogHolds rule objects (e ∷ log)
log-more rule objects log e f r h = record {
  sound = sound-more rule objects log e f r h.sound;
  cells = cells-more rule objects log e f h.cells;
  threads = λ i ei at. elim (event-cases e log i ei at) [
    | inl p ↦ ap (λ (x : Event). is_thread (e ∷ log) x.thread) p.1 ∙ thread-kept e log e.thread f.thread
    | inr p ↦ thread-kept e log ei.thread (h.threads i ei p.1)
  ];
  small = λ t w. elim (thread-cases e log t w) [ inl p ↦ h.small t p | inr p ↦ child-small rule objects log e t f p ];
}

pub log-none : (rule : Rule) (objects : List (List Scalar)) → LogHolds rule objects []
log-none rule objects = record {
  sound = sound-none rule objects;
  cells = cells-none objects;
  threads = λ i e at. absurd (cc);
  small = λ t w. elim (or_cases (eqb t 0) _ w) [ inl p ↦ (let z = eqb-true t 0 p in omega (arith, z)) | inr p ↦ absurd (false≢true p) ];
}

pub log-wider : (rule : Rule) (objects : List (List Scalar)) (more : List Scalar) (log : List Event) → LogHolds rule objects log → LogHolds rule (objects ++ more ∷ []) log
log-wider rule objects more log h = record {
  sound = sound-wider objects (more ∷ []) rule log h.cells h.sound;
  cells = cells-wider objects (more ∷ []) log h.cells;
  threads = h.threads;
  small = h.small;
}

-- The list that is kept.
nothing-before : (log : List Event) (made : List ℕ) → MadeHolds made log → (log ≡ []) ⊎ (made ≡ threads_of log)
nothing-before log [] m = inl (m.none refl)
nothing-before log (x ∷ xs) m = inr (m.all (omega arith))

pub made-small : (rule : Rule) (objects : List (List Scalar)) (log : List Event) (made : List ℕ) → LogHolds rule objects log → MadeHolds made log → All (λ t. t < 64) made
made-small rule objects log [] h m i d l = absurd (omega arith)
made-small rule objects log (x ∷ xs) h m i d l =
    let e : x ∷ xs ≡ threads_of log = m.all (omega arith) in
    let k = ap (λ (ys : List ℕ). length ys) e in
    rw e (h.small _ (listed-threads log i d (omega (arith, l, k))))

pub made-few : (log : List Event) (made : List ℕ) → MadeHolds made log → length made ≤ length (threads_of log)
made-few log [] m = omega arith
made-few log (x ∷ xs) m = let e : x ∷ xs ≡ threads_of log = m.all (omega arith) in let l = ap (λ (ys : List ℕ). length ys) e in omega (arith, l)

-- only made threads have entries
pub entries-made : (position : ℕ → Event → ℕ) (test : ℕ → Event → Bool) (rule : Rule) (objects : List (List Scalar)) (log : List Event) (made : List ℕ) (entries : ℕ → List Entry)
    → LogHolds rule objects log → MadeHolds made log → ((u : ℕ) (e : Event) → test u e ≡ true → u ≡ e.thread) → ((u : ℕ) → entries u ≡ entries_by position (test u) log) → IsMade made entries
entries-made position test rule objects log made entries h m own ix u = go (is_thread log u) refl (nothing-before log made m)
  where
    none : ((i : ℕ) (e : Event) → event_at log i ≡ Some e → test u e ≡ false) → entries u ≡ []
    none f = ix u ∙ entries-none position (test u) log f

    stranger : is_thread log u ≡ false → (i : ℕ) (e : Event) → event_at log i ≡ Some e → test u e ≡ false
    stranger q i e at = pick (test u e) refl
      where
        pick : (b : Bool) → test u e ≡ b → b ≡ false
        pick false p = refl
        pick true p = let o = own u e p in absurd (false≢true (sym q ∙ rw o (h.threads i e at)))

    go : (b : Bool) → is_thread log u ≡ b → (log ≡ []) ⊎ (made ≡ threads_of log) → Contains made u ⊎ (entries u ≡ [])
    go b p (inl z) = inr (ix u ∙ ap (λ (l : List Event). entries_by position (test u) l) z)
    go true p (inr z) = inl (rw z (threads-listed log u p))
    go false p (inr z) = inr (none (stranger p))

family-own : (family : Event → Bool) (cell : CellId) (u : ℕ) (e : Event) → by_thread family cell u e ≡ true → u ≡ e.thread
family-own family cell u e h = eqb-true u e.thread (last (accesses cell e && family e) (eqb u e.thread) h)
  where
    last : (a b : Bool) → (a && b) ≡ true → b ≡ true
    last true b h = h
    last false b h = absurd (false≢true h)

pub cell-made : (rule : Rule) (objects : List (List Scalar)) (log : List Event) (made : List ℕ) (cell : CellId) (kept : CellViews) → LogHolds rule objects log → MadeHolds made log → CellHolds log cell kept → AllMade made kept
cell-made rule objects log made cell kept h m c family = entries-made (λ n e. position_of e) (λ u. by_thread (belongs family) cell u) rule objects log made (entries_at kept.accesses family) h m (family-own (belongs family) cell) (c.accesses family)

-- a made thread joins the list
more-kind : (t : ℕ) (k : Kind) (log : List Event) (made made' : List ℕ) → 0 < length made → MadeHolds made log
    → made' ≡ elim k [ NewThread child ↦ made ++ child ∷ [] | _ ↦ made ] → MadeHolds made' (record { thread = t; kind = k } ∷ log)
more-kind t (NewThread child) log made made' n m e =
    let q = m.all n in
    record { all = λ l. e ∙ rw q refl; none = λ z. (let s = ap (λ (ys : List ℕ). length ys) e in absurd (longer made child (sym s ∙ z))) }
  where
    longer : (xs : List ℕ) (x : ℕ) → length (xs ++ x ∷ []) ≡ 0 → ⊥
    longer [] x h = omega arith
    longer (y ∷ ys) x h = omega arith
more-kind t (Access mode cell o p x) log made made' n m e = record { all = λ l. e ∙ m.all n; none = λ z. (let s = ap (λ (ys : List ℕ). length ys) e in absurd (omega (arith, s, z, n))) }
more-kind t (Fence o) log made made' n m e = record { all = λ l. e ∙ m.all n; none = λ z. (let s = ap (λ (ys : List ℕ). length ys) e in absurd (omega (arith, s, z, n))) }
more-kind t (NewStack o) log made made' n m e = record { all = λ l. e ∙ m.all n; none = λ z. (let s = ap (λ (ys : List ℕ). length ys) e in absurd (omega (arith, s, z, n))) }
more-kind t (Leave o) log made made' n m e = record { all = λ l. e ∙ m.all n; none = λ z. (let s = ap (λ (ys : List ℕ). length ys) e in absurd (omega (arith, s, z, n))) }
more-kind t (Enter o) log made made' n m e = record { all = λ l. e ∙ m.all n; none = λ z. (let s = ap (λ (ys : List ℕ). length ys) e in absurd (omega (arith, s, z, n))) }
more-kind t (Wake o w) log made made' n m e = record { all = λ l. e ∙ m.all n; none = λ z. (let s = ap (λ (ys : List ℕ). length ys) e in absurd (omega (arith, s, z, n))) }
more-kind t (Woken o) log made made' n m e = record { all = λ l. e ∙ m.all n; none = λ z. (let s = ap (λ (ys : List ℕ). length ys) e in absurd (omega (arith, s, z, n))) }

pub made-more : (e : Event) (log : List Event) (made made' : List ℕ) → 0 < length made → MadeHolds made log → made' ≡ elim e.kind [ NewThread child ↦ made ++ child ∷ [] | _ ↦ made ] → MadeHolds made' (e ∷ log)
made-more e log = more-kind e.thread e.kind log

pub made-none : MadeHolds [] []
made-none = record { all = λ l. absurd (omega arith); none = λ z. refl }

pub made-first : (log : List Event) (made : List ℕ) → length made ≡ 0 → MadeHolds made log → MadeHolds (0 ∷ []) log
made-first log made z m = record { all = λ l. rw (m.none z) refl; none = λ l. absurd (omega arith) }
