-- The number of a name stays the same when more names are used.
use Rattle.std.proofs.Common.{◌≡◌, ℕ, suc, Bool, true, false, not, ◌&&◌, ◌||◌, List, [], ◌∷◌, ◌++◌, map, refl, ap}
use Rattle.std.specs.Prelude.{if◌then◌else◌, bytes_eq}
use Rattle.std.proofs.lemmas.Bool.{false≢true}
use Rattle.std.proofs.lemmas.Slice.Eq.{bytes_eq-Decides}
use Rattle.mu_values.specs.declared.scalars.Scalar.{Scalar}
use Rattle.mu_values.specs.declared.scalars.Scalar.TheVariants as scalars
use Rattle.mem_axioms.specs.declared.types.Kind.{Kind}
use Rattle.mem_axioms.specs.declared.types.Kind.TheVariants as kinds
use Rattle.mem_axioms.specs.declared.types.Event.{Event}
use Rattle.log_lines.specs.Fields.{Text}
use Rattle.log_lines.specs.Values.{Names, place_among, is_among, is_name, names_with}
use Rattle.log_lines.specs.Texts.{ReadLog, nothing_read}
use Rattle.log_lines.specs.EventTexts.{NameOf}
use Rattle.log_lines.specs.Readable.{KindIsReadable, scalar_for, kind_for, kind_names, event_for, after_event}
use Rattle.log_lines.specs.Laws.{Line, EventLine, OtherLine, LinesAreReadable, after_lines, log_after, ValuesAreReplaced}

same_text : (f : Text) → bytes_eq f f ≡ true
same_text f = (bytes_eq-Decides f f).1 refl

kept_one : (names : Names) (f g : Text) → is_among names f ≡ true → place_among (names ++ g ∷ []) f ≡ place_among names f
kept_one [] f g h = absurd (false≢true h)
kept_one (n ∷ ns) f g h = go (bytes_eq n f) h (kept_one ns f g)
  where
    go : (b : Bool) → (b || is_among ns f) ≡ true → (is_among ns f ≡ true → place_among (ns ++ g ∷ []) f ≡ place_among ns f) → (if b then 0 else suc (place_among (ns ++ g ∷ []) f)) ≡ (if b then 0 else suc (place_among ns f))
    go true h ih = refl
    go false h ih = ap suc (ih h)

new_one : (names : Names) (f : Text) → is_among names f ≡ false → place_among (names ++ f ∷ []) f ≡ place_among names f
new_one [] f h = rw (same_text f) refl
new_one (n ∷ ns) f h = go (bytes_eq n f) h (new_one ns f)
  where
    go : (b : Bool) → (b || is_among ns f) ≡ false → (is_among ns f ≡ false → place_among (ns ++ f ∷ []) f ≡ place_among ns f) → (if b then 0 else suc (place_among (ns ++ f ∷ []) f)) ≡ (if b then 0 else suc (place_among ns f))
    go true h ih = refl
    go false h ih = ap suc (ih h)

among_longer : (names : Names) (f g : Text) → is_among names f ≡ true → is_among (names ++ g ∷ []) f ≡ true
among_longer [] f g h = absurd (false≢true h)
among_longer (n ∷ ns) f g h = go (bytes_eq n f) h (among_longer ns f g)
  where
    go : (b : Bool) → (b || is_among ns f) ≡ true → (is_among ns f ≡ true → is_among (ns ++ g ∷ []) f ≡ true) → (b || is_among (ns ++ g ∷ []) f) ≡ true
    go true h ih = refl
    go false h ih = ih h

among_last : (names : Names) (f : Text) → is_among (names ++ f ∷ []) f ≡ true
among_last [] f = rw (same_text f) refl
among_last (n ∷ ns) f = rw (among_last ns f) (or_true (bytes_eq n f))
  where
    or_true : (b : Bool) → (b || true) ≡ true
    or_true true = refl
    or_true false = refl

-- ---- with one more name

with_kept : (names : Names) (f g : Text) → is_among names f ≡ true → place_among (names_with names g) f ≡ place_among names f
with_kept names f g h = go (is_name g && not (is_among names g))
  where
    go : (b : Bool) → place_among (if b then names ++ g ∷ [] else names) f ≡ place_among names f
    go true = kept_one names f g h
    go false = refl

with_stays : (names : Names) (f g : Text) → is_among names f ≡ true → is_among (names_with names g) f ≡ true
with_stays names f g h = go (is_name g && not (is_among names g))
  where
    go : (b : Bool) → is_among (if b then names ++ g ∷ [] else names) f ≡ true
    go true = among_longer names f g h
    go false = h

with_own : (names : Names) (f : Text) → is_name f ≡ true → (place_among (names_with names f) f ≡ place_among names f) × (is_among (names_with names f) f ≡ true)
with_own names f h = go (is_among names f) refl
  where
    go : (b : Bool) → is_among names f ≡ b → (place_among (names_with names f) f ≡ place_among names f) × (is_among (names_with names f) f ≡ true)
    go true q = rw (q, h) (refl, q)
    go false q = rw (q, h) (new_one names f q, among_last names f)

-- ---- values

-- the value is no function, or its name was used
Seen : NameOf → Names → Scalar → Type 0
Seen name_of names (scalars.Func f) = is_among names (name_of f) ≡ true
Seen name_of names v = Unit {0}

SeenKind : NameOf → Names → Kind → Type 0
SeenKind name_of names (kinds.Access mode cell order position value) = Seen name_of names value
SeenKind name_of names k = Unit {0}

SeenAll : NameOf → Names → List Event → Type 0
SeenAll name_of names [] = Unit {0}
SeenAll name_of names (e ∷ past) = SeenKind name_of names e.kind × SeenAll name_of names past

-- such a value is replaced alike when one more name is used, and its name was used then too
module _ (name_of : NameOf) (names : Names) (g : Text) where
  scalar_kept : (v : Scalar) → Seen name_of names v → (scalar_for name_of (names_with names g) v ≡ scalar_for name_of names v) × Seen name_of (names_with names g) v
  unfolding Seen
  scalar_kept (scalars.Func f) h = (ap scalars.Func (with_kept names (name_of f) g h), with_stays names (name_of f) g h)
  scalar_kept (scalars.Int w n) h = (refl, tt)
  scalar_kept scalars.Null h = (refl, tt)
  scalar_kept (scalars.Object n) h = (refl, tt)
  scalar_kept (scalars.Place n at) h = (refl, tt)
  scalar_kept (scalars.Stack k) h = (refl, tt)
  scalar_kept (scalars.Thread i) h = (refl, tt)

  kind_kept : (k : Kind) → SeenKind name_of names k → (kind_for name_of (names_with names g) k ≡ kind_for name_of names k) × SeenKind name_of (names_with names g) k
  unfolding SeenKind
  kind_kept (kinds.Access m c o p v) h = let r = scalar_kept v h in (ap (λ (x : Scalar). kinds.Access m c o p x) r.0, r.1)
  kind_kept (kinds.Fence o) h = (refl, tt)
  kind_kept (kinds.NewStack k) h = (refl, tt)
  kind_kept (kinds.NewThread i) h = (refl, tt)
  kind_kept (kinds.Leave k) h = (refl, tt)
  kind_kept (kinds.Enter k) h = (refl, tt)
  kind_kept (kinds.Wake c n) h = (refl, tt)
  kind_kept (kinds.Woken n) h = (refl, tt)

  all_kept : (log : List Event) → SeenAll name_of names log → (map (event_for name_of (names_with names g)) log ≡ map (event_for name_of names) log) × SeenAll name_of (names_with names g) log
  unfolding SeenAll
  all_kept [] h = (refl, tt)
  all_kept (e ∷ past) h = let r = kind_kept e.kind h.0 in let q = all_kept past h.1 in (rw (r.0, q.0) refl, (r.1, q.1))

-- so it is with the names of one more event, and with the event itself
record Goes (name_of : NameOf) (names : Names) (log : List Event) (e : Event) : Type 0 where
  same : map (event_for name_of (kind_names name_of names e.kind)) log ≡ map (event_for name_of names) log
  own : event_for name_of (kind_names name_of names e.kind) e ≡ event_for name_of names e
  seen : SeenAll name_of (kind_names name_of names e.kind) (e ∷ log)

goes : (name_of : NameOf) (names : Names) (log : List Event) (t : ℕ) (k : Kind) → KindIsReadable name_of k → SeenAll name_of names log → Goes name_of names log (record { thread = t; kind = k })
unfolding SeenAll SeenKind Seen
goes name_of names log t (kinds.Access m c o p (scalars.Func f)) h s =
    let r = all_kept name_of names (name_of f) log s in
    let w = with_own names (name_of f) h.3 in
    record { same = r.0; own = rw w.0 refl; seen = (w.1, r.1) }
goes name_of names log t (kinds.Access m c o p (scalars.Int w n)) h s = record { same = refl; own = refl; seen = (tt, s) }
goes name_of names log t (kinds.Access m c o p scalars.Null) h s = record { same = refl; own = refl; seen = (tt, s) }
goes name_of names log t (kinds.Access m c o p (scalars.Object n)) h s = record { same = refl; own = refl; seen = (tt, s) }
goes name_of names log t (kinds.Access m c o p (scalars.Place n at)) h s = record { same = refl; own = refl; seen = (tt, s) }
goes name_of names log t (kinds.Access m c o p (scalars.Stack k)) h s = record { same = refl; own = refl; seen = (tt, s) }
goes name_of names log t (kinds.Access m c o p (scalars.Thread i)) h s = record { same = refl; own = refl; seen = (tt, s) }
goes name_of names log t (kinds.Fence o) h s = record { same = refl; own = refl; seen = (tt, s) }
goes name_of names log t (kinds.NewStack k) h s = record { same = refl; own = refl; seen = (tt, s) }
goes name_of names log t (kinds.NewThread i) h s = record { same = refl; own = refl; seen = (tt, s) }
goes name_of names log t (kinds.Leave k) h s = record { same = refl; own = refl; seen = (tt, s) }
goes name_of names log t (kinds.Enter k) h s = record { same = refl; own = refl; seen = (tt, s) }
goes name_of names log t (kinds.Wake c n) h s = record { same = refl; own = refl; seen = (tt, s) }
goes name_of names log t (kinds.Woken n) h s = record { same = refl; own = refl; seen = (tt, s) }

all_replaced : (name_of : NameOf) (t : ReadLog) (log : List Event) (ls : List Line) → LinesAreReadable name_of ls → SeenAll name_of t.names log → t.log ≡ map (event_for name_of t.names) log →
    (after_lines name_of t ls).log ≡ map (event_for name_of (after_lines name_of t ls).names) (log_after log ls)
all_replaced name_of t log [] h s q = q
all_replaced name_of t log (EventLine e ∷ ls) h s q =
    let g = goes name_of t.names log e.thread e.kind h.0.1 s in
    all_replaced name_of (after_event name_of t e) (e ∷ log) ls h.1 g.seen (rw (g.own, g.same, q) refl)
all_replaced name_of t log (OtherLine text ∷ ls) h s q = all_replaced name_of t log ls h.1 s q

pub replaced : ValuesAreReplaced
unfolding SeenAll
replaced name_of ls h = all_replaced name_of nothing_read [] ls h tt refl
