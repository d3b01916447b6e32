-- Nothing that a reader believes of a run rests on this. It is the first configuration of a run, by the numbers of the code.
use Rattle.std.specs.Prelude.{◌≡◌, ℕ, zero, suc, ◌+◌, ◌-◌, ◌^◌, ◌<◌, ◌==◌, ◌||◌, false, nat_lt, List, [], ◌∷◌, ◌++◌, Option, Some, None, IsSome, IsSomeAnd, length, map, take, slice_get, slice_index_or, refl}
use Rattle.std.proofs.Common.{sym, ◌∙◌, ap, subst, arith, add-one, inl, inr}
use Rattle.std.proofs.lemmas.Bool.Decides.{nat_tests, eqb_tells}
use Rattle.std.proofs.Math.Seq.{take-suc}
use Rattle.std.specs.List.{All}
use Rattle.ir_tree.specs.declared.items.Item.{Item}
use Rattle.type_definitions.specs.declared.definition.TypeDef.{TypeDef}
use Rattle.type_definitions.specs.declared.definition.TypeDef.TheVariants.{Iref}
use Rattle.type_definitions.specs.declared.definition.TypeDef.TheVariants as types
use Rattle.type_definitions.specs.Definition.{arguments}
use Rattle.type_definitions.specs.Same.{IsGraph}
use Rattle.demands.specs.Demands.{first_unmet}
use Rattle.bundle_names.specs.Naming.{name_demands}
use Rattle.check_tables.specs.declared.tables.Tables.{Tables}
use Rattle.checked_code.specs.declared.blocks.Function.{Function}
use Rattle.checked_code.specs.Checking.{bundle_functions, bundle_tables, check_demands}
use Rattle.typed_heap.specs.Objects.{HeapObject, leaf_classes, object_of}
use Rattle.typed_heap.specs.Places.{with_some}
use Rattle.frames.specs.Chains.{Chain, frames_of}
use Rattle.mem_axioms.specs.declared.types.Rule.{Rule}
use Rattle.mem_axioms.specs.declared.types.Event.{Event}
use Rattle.mu_model.specs.Clients.{Client}
use Rattle.mu_model.specs.Configuration.{Active, Configuration}
use Rattle.mem_axioms.specs.EventFits.{is_thread}
use Rattle.mu_values.specs.declared.scalars.Scalar.TheVariants.{Null}
use Rattle.seats.specs.Seats.{Seats}
use Rattle.run_state.specs.Hand.{IsSound}
use Rattle.mu_model.specs.Types.{type_graph, class_definition}
use Rattle.mu_model.specs.Programs.{named}
use Rattle.mu_model.specs.Acts.{Program}
use Rattle.mu_model.specs.Run.{Setting, target_leaves, global_objects, cells_left, begins_in, first_configuration}
use Rattle.model_numbers.specs.Laws.{ProgramsAreSame}
use Rattle.model_numbers.specs.Numbered.{numbered}
use Rattle.run_state.specs.Held.{Held, configuration}
use Rattle.run_state.specs.Acting.{entered}
use Rattle.run_state.specs.StepLaws.{some_of, with_is, get_below}

unfoldable pub starting : List Item → Setting → ℕ → Option Configuration
starting bundle set f = first_configuration (numbered bundle) set f

-- ---- globals

abbrev pub leaves_of : List TypeDef → Option TypeDef → List ℕ
leaves_of graph (Some (Iref t)) = leaf_classes graph t
leaves_of graph _ = []

-- references to places, of a type with fewer than 2^32 leaves
abbrev pub AreFewPlaces : List TypeDef → Option TypeDef → Type 0
AreFewPlaces graph (Some (Iref t)) = length (leaf_classes graph t) < 2 ^ 32
AreFewPlaces graph _ = ⊥

abbrev pub HasFewPlaces : List TypeDef → ℕ → Type 0
HasFewPlaces graph c = AreFewPlaces graph (slice_get graph c)

-- the object of a global whose places have that class
unfoldable pub global_object : List TypeDef → ℕ → HeapObject
global_object graph c = object_of graph (leaves_of graph (slice_get graph c))

index_is : {A : Type 0} (xs : List A) (n : ℕ) (d x : A) → slice_get xs n ≡ Some x → slice_index_or xs n d ≡ x
index_is [] n d x e = cc
index_is (y ∷ ys) zero d x e = cc
index_is (y ∷ ys) (suc n) d x e = index_is ys n d x e

all_at : {A : Type 0} (P : A → Type 0) (xs : List A) (n : ℕ) (x : A) → All P xs → slice_get xs n ≡ Some x → P x
all_at P xs n x h e = subst P (index_is xs n x x e) (h n x (get_below xs n x e))

pub iref_within : (graph : List TypeDef) (c t : ℕ) → IsGraph graph → slice_get graph c ≡ Some (Iref t) → t < length graph
iref_within graph c t h e = all_at (λ d. All (λ y. y < length graph) (arguments d)) graph c (Iref t) h e 0 0 (omega arith)

pub iref_object : (graph : List TypeDef) (c t : ℕ) → slice_get graph c ≡ Some (Iref t) → global_object graph c ≡ object_of graph (leaf_classes graph t)
unfolding global_object
iref_object graph c t e = ap (λ d. object_of graph (leaves_of graph d)) e

pub ruleset irefs = (iref_within, iref_object)

leaves_some : (p : Tables) (d : TypeDef) → target_leaves p (Some d) ≡ leaves_of (type_graph p) (Some d)
leaves_some p (types.Int w) = refl
leaves_some p (types.Struct fs) = refl
leaves_some p (types.Array e n) = refl
leaves_some p (types.Hybrid fs e) = refl
leaves_some p types.Void = refl
leaves_some p (types.Ref t) = refl
leaves_some p (types.Iref t) = refl
leaves_some p (types.FuncRef f) = refl
leaves_some p types.StackRef = refl
leaves_some p types.ThreadRef = refl
leaves_some p (types.Sig a b) = refl

leaves_same : (p : Tables) (d : Option TypeDef) → target_leaves p d ≡ leaves_of (type_graph p) d
leaves_same p None = refl
leaves_same p (Some d) = leaves_some p d

objects_same : (p : Tables) (cs : List ℕ) → map (λ c. object_of (type_graph p) (target_leaves p (class_definition p c))) cs ≡ map (global_object (type_graph p)) cs
unfolding global_object
objects_same p [] = refl
objects_same p (c ∷ cs) = ap (λ ls. object_of (type_graph p) ls ∷ map (λ c. object_of (type_graph p) (target_leaves p (class_definition p c))) cs) (leaves_same p (class_definition p c)) ∙ ap (λ os. global_object (type_graph p) c ∷ os) (objects_same p cs)

-- the objects of the globals so far
unfoldable pub objects_so_far : Tables → ℕ → List HeapObject
objects_so_far p n = map (global_object p.types.definitions) (take n p.global_cells)

pub none_so_far : (p : Tables) → objects_so_far p 0 ≡ []
unfolding objects_so_far
none_so_far p = refl

map_behind : (f : ℕ → HeapObject) (xs ys : List ℕ) → map f (xs ++ ys) ≡ map f xs ++ map f ys
map_behind f [] ys = refl
map_behind f (x ∷ xs) ys = ap (λ zs. f x ∷ zs) (map_behind f xs ys)

pub one_more : (p : Tables) (n d : ℕ) → n < length p.global_cells → objects_so_far p (n + 1) ≡ objects_so_far p n ++ global_object p.types.definitions (slice_index_or p.global_cells n d) ∷ []
unfolding objects_so_far
one_more p n d h =
    let c = slice_index_or p.global_cells n d in
    let step : take (n + 1) p.global_cells ≡ take n p.global_cells ++ c ∷ [] = rw add-one (take-suc p.global_cells n d h) in
    ap (map (global_object p.types.definitions)) step ∙ map_behind (global_object p.types.definitions) (take n p.global_cells) (c ∷ [])

take_all : (xs : List ℕ) → take (length xs) xs ≡ xs
take_all [] = refl
take_all (x ∷ xs) = ap (λ ys. x ∷ ys) (take_all xs)

pub all_so_far : (p : Tables) (n : ℕ) → n ≡ length p.global_cells → objects_so_far p n ≡ global_objects p
unfolding objects_so_far
all_so_far p n e = ap (λ m. map (global_object p.types.definitions) (take m p.global_cells)) e ∙ ap (map (global_object p.types.definitions)) (take_all p.global_cells) ∙ sym (objects_same p p.global_cells)

pub ruleset globals = (none_so_far, one_more, all_so_far)

-- ---- the first configuration

pub start_there : (bundle : List Item) (f : ℕ) → IsSomeAnd ((numbered bundle).body f) IsSome
    → (function : Function) × (slice_get (bundle_functions bundle) f ≡ Some function) × (block : ℕ) × (function.first ≡ Some block) × (f < length (bundle_functions bundle))
start_there bundle f h = by (slice_get (bundle_functions bundle) f) refl h
  where
    by : (o : Option Function) → slice_get (bundle_functions bundle) f ≡ o → IsSomeAnd (with_some o (λ (f : Function). Some f.first)) IsSome
        → (function : Function) × (slice_get (bundle_functions bundle) f ≡ Some function) × (block : ℕ) × (function.first ≡ Some block) × (f < length (bundle_functions bundle))
    by None e k = absurd k
    by (Some function) e k = let r = some_of function.first k in (function, e, r.0, r.1, get_below (bundle_functions bundle) f function e)

not_first : (i : ℕ) → nat_lt (suc i) 1 ≡ false
not_first i = grind (arith, nat_tests)

not_zero : (i : ℕ) → (suc i == 0) ≡ false
not_zero i = elim (eqb_tells (suc i) 0) [ inl t ↦ absurd (omega (arith, t.1)) | inr f ↦ f.0 ]

first_made : (i : ℕ) → is_thread [] i ≡ nat_lt i 1
first_made zero = refl
first_made (suc i) = ap (λ b. b || false) (not_zero i) ∙ sym (not_first i)

-- no thread is in hand yet
abbrev pub first_state : Chain → List HeapObject → Client → List ℕ → Rule → ℕ → ℕ → ℕ → Held
first_state fr os k picks rule cells budget block =
    record {
      thread = 0;
      stack = 0;
      frames = fr;
      left = false;
      seats = record { threads = Some (record { stack = 0; own = Null }) ∷ []; stacks = Active 0 (entered block [] ∷ []) ∷ []; waiters = [] };
      objects = os;
      log = [];
      watched = [];
      client = k;
      picks = picks;
      skip = 0;
      rule = rule;
      cells = cells;
      steps = 0;
      budget = budget;
    }

abbrev pub state_of : Chain → Seats → List HeapObject → List Event → List ℕ → Client → List ℕ → Rule → ℕ → ℕ → Held
state_of fr seats os lg ws k picks rule cells budget =
    record { thread = 0; stack = 0; frames = fr; left = false; seats = seats; objects = os; log = lg; watched = ws; client = k; picks = picks; skip = 0; rule = rule; cells = cells; steps = 0; budget = budget }

seats_by : Chain → Seats
seats_by c = record { threads = Some (record { stack = 0; own = Null }) ∷ []; stacks = Active 0 (frames_of c) ∷ []; waiters = [] }

pub state_first : (os : List HeapObject) (k : Client) (picks : List ℕ) (rule r : Rule) (cells budget block : ℕ) (fr c : Chain) (seats : Seats) (lg : List Event) (ws : List ℕ) → c.top ≡ entered block [] → c.below ≡ []
    → seats ≡ record { threads = Some (record { stack = 0; own = Null }) ∷ []; stacks = Active 0 (frames_of c) ∷ []; waiters = [] } → lg ≡ [] → ws ≡ [] → r ≡ rule
    → state_of fr seats os lg ws k picks r cells budget ≡ first_state fr os k picks rule cells budget block
unfolding seats_by
state_first os k picks rule r cells budget block fr c seats lg ws top below seated none idle same =
    ap (λ seats. state_of fr seats os lg ws k picks r cells budget) seated ∙ ap (λ t. state_of fr (seats_by (record { top = t; below = c.below })) os lg ws k picks r cells budget) top
    ∙ ap (λ bs. state_of fr (seats_by (record { top = entered block []; below = bs })) os lg ws k picks r cells budget) below
    ∙ ap (λ lg. state_of fr (seats_by (record { top = entered block []; below = [] })) os lg ws k picks r cells budget) none
    ∙ ap (λ ws. state_of fr (seats_by (record { top = entered block []; below = [] })) os [] ws k picks r cells budget) idle ∙ ap (λ r. first_state fr os k picks r cells budget block) same

pub first_is : (bundle : List Item) (f block : ℕ) (function : Function) → slice_get (bundle_functions bundle) f ≡ Some function → function.first ≡ Some block → (numbered bundle).body f ≡ Some (Some block)
first_is bundle f block function there first = with_is (slice_get (bundle_functions bundle) f) function (λ (f : Function). Some f.first) there ∙ ap (λ (o : Option ℕ). Some o) first

pub start_is : (bundle : List Item) (fr : Chain) (os : List HeapObject) (k : Client) (picks : List ℕ) (rule : Rule) (left budget f block cells : ℕ) (s : Held) → (numbered bundle).body f ≡ Some (Some block)
    → s ≡ first_state fr os k picks rule left budget block → left ≡ cells_left (bundle_tables bundle) cells os → starting bundle (record { objects = os; client = k; picks = picks; cells = cells; budget = budget; rule = rule }) f ≡ Some (configuration s)
unfolding starting
start_is bundle fr os k picks rule left budget f block cells s first same enough =
    let set : Setting = record { objects = os; client = k; picks = picks; cells = cells; budget = budget; rule = rule } in
    let go : Option ℕ → Option Configuration = λ b. with_some b (λ block. Some (begins_in (numbered bundle) set f block)) in
    ap (λ o. with_some o go) first
    ∙ ap (λ n. Some (configuration (first_state fr os k picks rule n budget block))) (sym enough) ∙ ap (λ s. Some (configuration s)) (sym same)

-- the one thread is there from the start
pub first_sound : (seats : Seats) (log : List Event) → log ≡ [] → length seats.threads ≡ 1 → IsSound false 0 0 seats log
first_sound seats log none one =
    record {
      on_stack = λ e. cc;
      within = λ e. cc;
      made = λ i. ap (λ log. is_thread log i) none ∙ first_made i ∙ ap (nat_lt i) (sym one);
    }

pub ruleset first_blocks = (start_there, first_is)

pub ruleset starts = (start_is)

-- ---- by names

pub starts_so : (bundle : List Item) (set : Setting) (f : ℕ) → ProgramsAreSame → first_unmet (name_demands bundle) ≡ None → first_unmet (check_demands bundle) ≡ None → first_configuration (named bundle) set f ≡ starting bundle set f
unfolding starting
starts_so bundle set f same are met = ap (λ p. first_configuration p set f) (same bundle are met)

pub body_so : (bundle : List Item) (f : ℕ) → ProgramsAreSame → first_unmet (name_demands bundle) ≡ None → first_unmet (check_demands bundle) ≡ None → IsSomeAnd ((named bundle).body f) IsSome → IsSomeAnd ((numbered bundle).body f) IsSome
body_so bundle f same are met h = subst (λ (p : Program). IsSomeAnd (p.body f) IsSome) (same bundle are met) h

pub ruleset begins = (starts_so, body_so)
