-- What is wanted after each step of judging and of loading.
use Rattle.std.proofs.Common.{◌≡◌, ℕ, zero, suc, ◌+◌, ◌-◌, ◌<◌, ◌≤◌, ◌++◌, Bool, true, false, List, [], ◌∷◌, length, map, Option, Some, None, Result, Ok, Err, IfErr, OnOk, if◌then◌else◌, slice_get, refl, sym, ap, subst, ◌∙◌, inl, inr, arith, append_assoc}
use Rattle.std.specs.Prelude.{nat_le, ◌==◌}
use Rattle.std.specs.List.{All}
use Rattle.std.proofs.lemmas.Bool.{cases_lt}
use Rattle.std.proofs.lemmas.List.{length-map, length-append}
use Rattle.std.proofs.lemmas.List.Elements.{All-nil, All-cons, All-head, All-tail, All-append, All-map}
use Rattle.demands.specs.declared.fault.Fault.{Fault}
use Rattle.demands.specs.declared.fault.Fault.TheVariants.{Memory, At}
use Rattle.name_scopes.specs.Names.{Names, added}
use Rattle.type_definitions.specs.declared.definition.TypeDef.{TypeDef}
use Rattle.type_definitions.specs.declared.definition.TypeDef.TheVariants as types
use Rattle.type_definitions.specs.Definition.{arguments}
use Rattle.type_definitions.specs.Same.{IsGraph}
use Rattle.type_definitions.specs.Leaves.{times}
use Rattle.type_definitions.specs.Lemmas.Depth.{args_within}
use Rattle.demands.specs.Demands.{first_unmet}
use Rattle.mu_values.specs.declared.literals.ConstFault.{ConstFault}
use Rattle.mu_values.specs.declared.literals.ConstKind.TheVariants.{OutOfWidth, WrongShape}
use Rattle.mu_values.specs.declared.scalars.Scalar.TheVariants.{Int}
use Rattle.mu_values.specs.Constants.{fits, number_bits, number_demands}
use Rattle.ir_lex.specs.declared.name.Numeral.{Numeral}
use Rattle.mu_values.specs.declared.scalars.Scalar.{Scalar}
use Rattle.ir_lex.specs.declared.name.Name.{Name}
use Rattle.typed_heap.specs.declared.faults.HeapFault.{HeapFault}
use Rattle.typed_heap.specs.declared.faults.HeapFault.TheVariants as faults
use Rattle.typed_heap.specs.Objects.{HeapObject, leaf_classes, run_classes, object_of}
use Rattle.typed_heap.specs.Heap.{HeapContents, hybrid_classes}
use Rattle.typed_heap.specs.Lemmas.Runs.{times_length}
use Rattle.hail_load.specs.declared.fault.LoadKind.{LoadKind}
use Rattle.hail_load.specs.declared.fault.LoadKind.TheVariants.{WrongType, OutOfRange}
use Rattle.hail_load.specs.declared.parts.Part.{Part}
use Rattle.hail_load.specs.declared.parts.Part.TheVariants.{Value, Hybrid, Elements}
use Rattle.hail_load.specs.declared.tree.Index.{Index}
use Rattle.hail_load.specs.declared.tree.Piece.{Piece}
use Rattle.hail_load.specs.declared.tree.Piece.TheVariants as pieces
use Rattle.hail_load.specs.declared.parts.Made.{Made}
use Rattle.hail_load.specs.declared.tree.Command.{Command}
use Rattle.hail_load.specs.Code.{Code}
use Rattle.hail_load.specs.Parts.{value_parts, hybrid_parts, parts_of, leaves_of, size_of, ◌>>=◌}
use Rattle.hail_load.specs.Fitting.{Store, Scalars, number_scalars}
use Rattle.hail_load.specs.Judging.{wanted_by, part_scalars, judged}
use Rattle.hail_load.specs.Loading.{Stored, with_object, make, Loaded, go_on, done, load}
use Rattle.hail_load.specs.LoadAnswers.{AreGlobals}
use Rattle.hail_load.specs.Answering.{Makes, GoesOn, behind, before, called, not_made, IsThere, AreThere, AreWhole, store_of}

-- ---- sources

-- a list stands for the parts of its part
pub list_step : (wanted : Result (List Part) (Fault LoadKind)) (f : List Part → Scalars) (ss : List Scalar) (rest new : List Part) (r : Result (Unit {0}) (Fault LoadKind)) → Makes (before rest wanted) new r →
    GoesOn (behind ss (wanted >>= λ inner. f (inner ++ rest))) (behind ss (f new)) r
list_step (Ok inner) f ss rest new (Ok x) m = let same : inner ++ rest ≡ new = cc in ap (λ ps. behind ss (f ps)) same
list_step (Err e) f ss rest new (Ok x) m = cc
list_step wanted f ss rest new (Err Memory) m = tt
list_step (Ok inner) f ss rest new (Err (At kind place)) m = cc
list_step (Err e) f ss rest new (Err (At kind place)) m = let same : e ≡ At kind place = cc in ap (λ (x : Fault LoadKind). behind ss (Err x)) same

-- any other source has its scalars
pub plain_step : (these later : Scalars) (old new : List Scalar) (r : Result (Unit {0}) (Fault LoadKind)) → Makes (behind old these) new r →
    GoesOn (behind old (these >>= λ xs. later >>= λ ys. Ok (xs ++ ys))) (behind new later) r
plain_step (Ok xs) (Ok ys) old new (Ok x) m = let same : old ++ xs ≡ new = cc in ap (λ zs. Ok zs) (sym (append_assoc old xs ys) ∙ ap (λ zs. zs ++ ys) same)
plain_step (Ok xs) (Err e) old new (Ok x) m = refl
plain_step (Err e) later old new (Ok x) m = cc
plain_step these later old new (Err Memory) m = tt
plain_step (Ok xs) later old new (Err (At kind place)) m = cc
plain_step (Err e) later old new (Err (At kind place)) m = m

-- a list of as many sources as there are elements, and of another number
length_times : (many : ℕ) (p : Part) → length (times many (p ∷ [])) ≡ many
length_times zero p = refl
length_times (suc many) p = ap (λ n. suc n) (length_times many p)

pub elements_wanted : (place many wanted : ℕ) (p : Part) → many ≡ wanted → wanted_by place wanted (Some (times many (p ∷ []))) ≡ Ok (times many (p ∷ []))
elements_wanted place many wanted p e =
    let yes : (length (times many (p ∷ [])) == wanted) ≡ true = (let same : length (times many (p ∷ [])) ≡ wanted = length_times many p ∙ e in grind (arith, same)) in
    rw yes refl

pub elements_unwanted : (place many wanted : ℕ) (p : Part) → (many ≡ wanted → ⊥) → wanted_by place wanted (Some (times many (p ∷ []))) ≡ Err (At WrongType place)
elements_unwanted place many wanted p e =
    let no : (length (times many (p ∷ [])) == wanted) ≡ false = (let same : length (times many (p ∷ [])) ≡ many = length_times many p in grind (arith, same, e)) in
    rw no refl

-- a number that is no constant of its type
pub number_refused : (o : Option ℕ) (n : Numeral) (fault : ConstFault) → first_unmet (number_demands n.place o n.number.negative n.number.magnitude) ≡ Some (At fault.kind fault.place) →
    number_scalars o n ≡ Err (At (called fault.kind) fault.place)
number_refused None n fault e =
    let kind : WrongShape ≡ fault.kind = cc in
    let place : n.place ≡ fault.place = cc in
    rw (sym kind, sym place) refl
number_refused (Some w) n fault e = by (fits n.number.negative n.number.magnitude w) e
  where
    by : (b : Bool) → (if b then None else Some (At OutOfWidth n.place)) ≡ Some (At fault.kind fault.place) →
        (if b then Ok (Int w (number_bits w n.number.negative n.number.magnitude) ∷ []) else Err (At OutOfRange n.place)) ≡ Err (At (called fault.kind) fault.place)
    by true k = cc
    by false k =
        let kind : OutOfWidth ≡ fault.kind = cc in
        let place : n.place ≡ fault.place = cc in
        rw (sym kind, sym place) refl

-- ---- parts are there

abbrev pub All_there : List TypeDef → List Part → Type 0
All_there g ps = All (IsThere g) ps

times_there : (g : List TypeDef) (many t : ℕ) → t < length g → All_there g (times many (Value t ∷ []))
times_there g zero t l = All-nil (IsThere g)
times_there g (suc many) t l = All-cons (IsThere g) (Value t) (times many (Value t ∷ [])) l (times_there g many t l)

fields_there : (g : List TypeDef) (fields : List ℕ) → All (λ y. y < length g) fields → All_there g (map Value fields)
fields_there g fields a = All-map (IsThere g) Value fields a

front_there : (g : List TypeDef) (xs : List ℕ) (x : ℕ) → All (λ y. y < length g) (xs ++ x ∷ []) → All (λ y. y < length g) xs × (x < length g)
front_there g [] x a = (All-nil (λ y. y < length g), All-head (λ y. y < length g) x [] a)
front_there g (y ∷ xs) x a =
    let P : ℕ → Type 0 = λ z. z < length g in
    let more = front_there g xs x (All-tail P y (xs ++ x ∷ []) a) in
    (All-cons P y xs (All-head P y (xs ++ x ∷ []) a) more.0, more.1)

value_there : (g : List TypeDef) (o : Option TypeDef) (ps : List Part) → ((d : TypeDef) → o ≡ Some d → All (λ y. y < length g) (arguments d)) → value_parts o ≡ Some ps → All_there g ps
value_there g (Some (types.Struct fields)) ps a e = let same : map Value fields ≡ ps = cc in subst (All_there g) same (fields_there g fields (a (types.Struct fields) refl))
value_there g (Some (types.Array element size)) ps a e =
    let same : times size (Value element ∷ []) ≡ ps = cc in
    subst (All_there g) same (times_there g size element (All-head (λ y. y < length g) element [] (a (types.Array element size) refl)))
value_there g _ ps a e = cc

hybrid_there : (g : List TypeDef) (o : Option TypeDef) (many : ℕ) (ps : List Part) → ((d : TypeDef) → o ≡ Some d → All (λ y. y < length g) (arguments d)) → hybrid_parts o many ≡ Some ps → All_there g ps
hybrid_there g (Some (types.Hybrid fixed element)) many ps a e =
    let same : map Value fixed ++ Elements element many ∷ [] ≡ ps = cc in
    let both = front_there g fixed element (a (types.Hybrid fixed element) refl) in
    subst (All_there g) same (All-append (IsThere g) (map Value fixed) (Elements element many ∷ []) (fields_there g fixed both.0) (All-cons (IsThere g) (Elements element many) [] both.1 (All-nil (IsThere g))))
hybrid_there g _ many ps a e = cc

pub parts_there : (g : List TypeDef) → IsGraph g → (part : Part) (ps : List Part) → IsThere g part → parts_of g part ≡ Some ps → All_there g ps
parts_there g i (Value t) ps l e = value_there g (slice_get g t) ps (λ d h. args_within g i t d h) e
parts_there g i (Hybrid t many) ps l e = hybrid_there g (slice_get g t) many ps (λ d h. args_within g i t d h) e
parts_there g i (Elements t many) ps l e = let same : times many (Value t ∷ []) ≡ ps = cc in subst (All_there g) same (times_there g many t l)

-- the parts that a list stands for are there too
pub list_there : (g : List TypeDef) → IsGraph g → (part : Part) (place many : ℕ) (rest new : List Part) (r : Result (Unit {0}) (Fault LoadKind)) → IsThere g part → All_there g rest → Makes (before rest (wanted_by place many (parts_of g part))) new r →
    OnOk r (All_there g new)
list_there g i part place many rest new (Err e) here a m = tt
list_there g i part place many rest new (Ok x) here a m = by (parts_of g part) refl m
  where
    chosen : (ps : List Part) (b : Bool) → parts_of g part ≡ Some ps → before rest (if b then Ok ps else Err (At WrongType place)) ≡ Ok new → All_there g new
    chosen ps true e k = let same : ps ++ rest ≡ new = cc in subst (All_there g) same (All-append (IsThere g) ps rest (parts_there g i part ps here e) a)
    chosen ps false e k = cc

    by : (o : Option (List Part)) → parts_of g part ≡ o → before rest (wanted_by place many o) ≡ Ok new → All_there g new
    by None e k = cc
    by (Some ps) e k = chosen ps (length ps == many) e k

-- a piece that is no index and no list
pub plain_is : (c : Code) (s : Store) (part : Part) (parts : List Part) (p : Piece) (ps : List Piece) → ((i : Index) → p ≡ pieces.Index i → ⊥) → ((place many : ℕ) → p ≡ pieces.List place many → ⊥) →
    judged c s (part ∷ parts) (p ∷ ps) ≡ (part_scalars c s part p ps >>= λ these. judged c s parts ps >>= λ more. Ok (these ++ more))
plain_is c s part parts (pieces.Number n) ps a b = refl
plain_is c s part parts (pieces.Null place) ps a b = refl
plain_is c s part parts (pieces.Global n) ps a b = refl
plain_is c s part parts (pieces.Object n) ps a b = refl
plain_is c s part parts (pieces.Reference place root) ps a b = refl
plain_is c s part parts (pieces.Index i) ps a b = absurd (a i refl)
plain_is c s part parts (pieces.List place many) ps a b = absurd (b place many refl)

pub on_ok : (r : Result (Unit {0}) (Fault LoadKind)) (P : Type 0) → P → OnOk r P
on_ok (Ok x) P h = h
on_ok (Err e) P h = tt

-- ---- objects

is_le : (a b : ℕ) → a ≤ b → nat_le a b ≡ true
is_le a b l = grind (arith, l)

is_not_le : (a b : ℕ) → b < a → nat_le a b ≡ false
is_not_le a b l = grind (arith, l)

made_so : (c : Code) (old new : HeapContents) (es : Names Made) (n : Name) (part : Part) → new.objects ≡ old.objects ++ object_of c.graph (leaves_of c.graph part) ∷ [] → old.left - size_of c.graph part ≡ new.left →
    with_object c (store_of old es) n part ≡ store_of new (added es n.text (record { object = length old.objects; part = part }))
made_so c old new es n part objects left =
    let made = added es n.text (record { object = length old.objects; part = part }) in
    ap (λ (os : List HeapObject). let s : Store = record { objects = os; left = old.left - size_of c.graph part; made = made } in s) (sym objects)
    ∙ ap (λ (k : ℕ). let s : Store = record { objects = new.objects; left = k; made = made } in s) left

-- an object is made
pub make_done : (c : Code) (old new : HeapContents) (es : Names Made) (place : ℕ) (n : Name) (part : Part) → new.objects ≡ old.objects ++ object_of c.graph (leaves_of c.graph part) ∷ [] → new.left + size_of c.graph part ≡ old.left →
    make c (store_of old es) place n part ≡ Ok (store_of new (added es n.text (record { object = length old.objects; part = part })))
make_done c old new es place n part objects left =
    let enough : nat_le (size_of c.graph part) old.left ≡ true = is_le (size_of c.graph part) old.left (omega (arith, left)) in
    let rest : old.left - size_of c.graph part ≡ new.left = omega (arith, left) in
    rw (enough, make) (ap (λ (s : Store). let r : Stored = Ok s in r) (made_so c old new es n part objects rest))

-- it is not
pub make_refused : (c : Code) (s new : Store) (place : ℕ) (n : Name) (part : Part) (r : Result ℕ HeapFault) (fault : HeapFault) (asked left : ℕ) → r ≡ Err fault → (s.left < size_of c.graph part → r ≡ Err (faults.HeapFull asked left)) →
    (size_of c.graph part ≤ s.left → IfErr r (λ f. f ≡ faults.Memory)) → Makes (make c s place n part) new (Err (not_made fault place))
make_refused c s new place n part r fault asked left e full enough = elim (cases_lt s.left (size_of c.graph part)) [
  | inl l ↦
      let gone : nat_le (size_of c.graph part) s.left ≡ false = is_not_le (size_of c.graph part) s.left l in
      let is : faults.HeapFull asked left ≡ fault = (let both = full l in cc) in
      subst (λ (f : HeapFault). Makes (make c s place n part) new (Err (not_made f place))) is (rw (gone, make) refl)
  | inr l ↦
      let is : fault ≡ faults.Memory = subst (λ (x : Result ℕ HeapFault). IfErr x (λ f. f ≡ faults.Memory)) e (enough l) in
      subst (λ (f : HeapFault). Makes (make c s place n part) new (Err (not_made f place))) (sym is) tt
]

-- the same of a hybrid, whose leaves are counted
pub hybrid_size : (g : List TypeDef) (t many : ℕ) → length (hybrid_classes g t many) ≡ size_of g (Hybrid t many)
hybrid_size g t many = length-append (leaf_classes g t) (times many (run_classes g t)) ∙ ap (λ n. length (leaf_classes g t) + n) (times_length many (run_classes g t))

pub hybrid_done : (c : Code) (old new : HeapContents) (es : Names Made) (place : ℕ) (n : Name) (t many : ℕ) → new.objects ≡ old.objects ++ object_of c.graph (hybrid_classes c.graph t many) ∷ [] → new.left + length (hybrid_classes c.graph t many) ≡ old.left →
    make c (store_of old es) place n (Hybrid t many) ≡ Ok (store_of new (added es n.text (record { object = length old.objects; part = Hybrid t many })))
hybrid_done c old new es place n t many objects left =
    let size = hybrid_size c.graph t many in
    make_done c old new es place n (Hybrid t many) objects (ap (λ k. new.left + k) (sym size) ∙ left)

pub hybrid_refused : (c : Code) (s new : Store) (place : ℕ) (n : Name) (t many : ℕ) (r : Result ℕ HeapFault) (fault : HeapFault) (asked left : ℕ) → r ≡ Err fault → (s.left < length (hybrid_classes c.graph t many) → r ≡ Err (faults.HeapFull asked left)) →
    (length (hybrid_classes c.graph t many) ≤ s.left → IfErr r (λ f. f ≡ faults.Memory)) → Makes (make c s place n (Hybrid t many)) new (Err (not_made fault place))
hybrid_refused c s new place n t many r fault asked left e full enough =
    let size = hybrid_size c.graph t many in
    make_refused c s new place n (Hybrid t many) r fault asked left e (λ l. full (subst (λ k. s.left < k) (sym size) l)) (λ l. enough (subst (λ k. k ≤ s.left) (sym size) l))

pub globals_whole : (c : Code) (os : List HeapObject) → AreGlobals c os → AreWhole os
globals_whole c os e =
    let P = λ (o : HeapObject). length o.initial ≡ length o.leaves in
    let f = λ (t : ℕ). object_of c.graph (leaf_classes c.graph t) in
    subst (λ (xs : List HeapObject). AreWhole xs) (sym e) (All-map P f c.globals (each c.globals))
  where
    each : (ts : List ℕ) → All (λ t. length (object_of c.graph (leaf_classes c.graph t)).initial ≡ length (object_of c.graph (leaf_classes c.graph t)).leaves) ts
    each [] = All-nil (λ t. length (object_of c.graph (leaf_classes c.graph t)).initial ≡ length (object_of c.graph (leaf_classes c.graph t)).leaves)
    each (t ∷ ts) = All-cons (λ t. length (object_of c.graph (leaf_classes c.graph t)).initial ≡ length (object_of c.graph (leaf_classes c.graph t)).leaves) t ts (length-map (leaf_classes c.graph t) _) (each ts)

pub none_there : (g : List TypeDef) → AreThere g []
none_there g = All-nil (λ (x : List ℕ × Made). IsThere g x.1.part)

-- ---- commands in order

goes_behind : (s next : Store) (o : Stored) (f g : Store → Loaded) (last : Loaded) → ((n : Store) → f n ≡ record { store = next; fault = None } → g n ≡ last) → go_on s o f ≡ record { store = next; fault = None } → go_on s o g ≡ last
goes_behind s next (Ok n) f g last more e = more n e
goes_behind s next (Err fault) f g last more e = absurd (let gone : Some fault ≡ None = ap (λ (r : Loaded). r.fault) e in cc)

-- behind commands that are not refused the others go on
pub load_behind : (c : Code) (s next : Store) (xs ys : List Command) → load c s xs ≡ record { store = next; fault = None } → load c s (xs ++ ys) ≡ load c next ys
load_behind c s next [] ys e = let same : s ≡ next = ap (λ (r : Loaded). r.store) e in ap (λ (x : Store). load c x ys) same
load_behind c s next (x ∷ xs) ys e = goes_behind s next (done c s x) (λ n. load c n xs) (λ n. load c n (xs ++ ys)) (load c next ys) (λ n k. load_behind c n next xs ys k) e

-- one more command
pub load_more : (c : Code) (s here next : Store) (xs : List Command) (x : Command) → load c s xs ≡ record { store = here; fault = None } → done c here x ≡ Ok next → load c s (xs ++ x ∷ []) ≡ record { store = next; fault = None }
load_more c s here next xs x e f = load_behind c s here xs (x ∷ []) e ∙ rw f refl

-- a command that is refused
pub load_refused : (c : Code) (s here : Store) (xs ys : List Command) (x : Command) (fault : Fault LoadKind) → load c s xs ≡ record { store = here; fault = None } → done c here x ≡ Err fault →
    load c s (xs ++ x ∷ ys) ≡ record { store = here; fault = Some fault }
load_refused c s here xs ys x fault e f = load_behind c s here xs (x ∷ ys) e ∙ rw f refl
