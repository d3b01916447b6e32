-- How many objects a run begins with, and how many cells each of them has.
use Rattle.std.proofs.Common.{◌≡◌, ℕ, suc, ◌+◌, ◌<◌, ◌≤◌, ◌^◌, Bool, true, false, nat_le, nat_lt, List, [], ◌∷◌, ◌++◌, length, map, Option, Some, None, Ok, Err, slice_get, if◌then◌else◌, refl, sym, ◌∙◌, ap, subst, arith, inl, inr, lit<, length-append}
use Rattle.std.specs.Prelude.{Result, All}
use Rattle.std.proofs.Math.ListN.{length-set}
use Rattle.std.proofs.lemmas.Bool.Decides.{nat_tests}
use Rattle.std.proofs.lemmas.List.{length-map}
use Rattle.std.proofs.lemmas.Option.{slice_get_within}
use Rattle.std.proofs.lemmas.List.Elements.{All-nil, All-cons, All-push, All-set}
use Rattle.demands.specs.declared.fault.Fault.TheVariants.{At}
use Rattle.demands.specs.Demands.{AllMet, first_unmet}
use Rattle.name_scopes.specs.Names.{found}
use Rattle.demands.specs.Lemmas.Meeting.{all_met}
use Rattle.text_forms.specs.declared.fault.Fault.{Fault}
use Rattle.text_forms.specs.declared.symbol.Symbol.{Symbol}
use Rattle.text_forms.specs.declared.symbol.Symbol.TheVariants as symbols
use Rattle.text_forms.specs.Forms.{token, within}
use Rattle.text_forms.specs.Reading.{whole}
use Rattle.text_forms.specs.Tokens.{Tok}
use Rattle.text_forms.specs.Derives.{Derives, Elements}
use Rattle.type_definitions.specs.declared.definition.TypeDef.{TypeDef}
use Rattle.type_definitions.specs.Class.{class_of}
use Rattle.type_definitions.specs.Leaves.{leaves}
use Rattle.mu_values.specs.declared.scalars.Scalar.{Scalar}
use Rattle.ir_lex.specs.declared.name.Name.{Name}
use Rattle.ir_lex.specs.declared.token.Token.{Token}
use Rattle.ir_lex.specs.declared.token.LexFault.{LexFault}
use Rattle.ir_lex.specs.Seen.{seen}
use Rattle.ir_lex.specs.Texts.{Lexes, ends, stops, reads}
use Rattle.ir_lex.specs.TokenForms.{mark}
use Rattle.ir_lex.specs.Walk.{tokens_from, tokens_within}
use Rattle.ir_lex.specs.Lemmas.Lists.{lexed}
use Rattle.ir_lex.specs.Lemmas.Nexts.{next_within}
use Rattle.ir_tree.specs.declared.items.Item.{Item}
use Rattle.ir_tree.specs.declared.items.Item.TheVariants as items
use Rattle.ir_tree.specs.Items.{item, bundle as bundle_form}
use Rattle.ir_text.specs.TextAnswers.{bundle_read}
use Rattle.bundle_names.specs.declared.globals.Globals.{Globals}
use Rattle.bundle_names.specs.Globals.{globals_of}
use Rattle.check_tables.specs.declared.tables.Tables.{Tables}
use Rattle.check_tables.specs.Types.{definition_in, iref_in, leaves_in}
use Rattle.check_tables.specs.TypeTests.{is_hybrid, is_no_hybrid, is_sized}
use Rattle.check_tables.specs.Lookups.{leaves_named, or_zero, type_named, written_number}
use Rattle.mu_types.specs.Graph.{Table}
use Rattle.checked_code.specs.Entries.{global_entries, tables_of}
use Rattle.checked_code.specs.Rules.{globals_demands, most_leaves_of_globals}
use Rattle.checked_code.specs.Checking.{bundle_tables, check_demands}
use Rattle.bundle_facts.specs.Lemmas.Completed.{IsComplete, is_complete}
use Rattle.bundle_facts.specs.Lemmas.Shapes.{class_leaves, class_own, class_within}
use Rattle.typed_heap.specs.Objects.{HeapObject, filled, leaf_classes, object_of, with_filled}
use Rattle.hail_load.specs.declared.fault.LoadKind.TheVariants.{WrongType, HeapFull}
use Rattle.hail_load.specs.declared.parts.Part.{Part}
use Rattle.hail_load.specs.declared.parts.Part.TheVariants.{Value, Hybrid}
use Rattle.hail_load.specs.declared.parts.Spot.{Spot}
use Rattle.hail_load.specs.declared.tree.Target.{Target}
use Rattle.hail_load.specs.declared.tree.Piece.{Piece}
use Rattle.hail_load.specs.declared.tree.Line.{Line}
use Rattle.hail_load.specs.declared.tree.Line.TheVariants as ones
use Rattle.hail_load.specs.declared.tree.Command.{Command}
use Rattle.hail_load.specs.declared.tree.Command.TheVariants as commands
use Rattle.hail_load.specs.Code.{Code, code_of}
use Rattle.hail_load.specs.Fitting.{Store}
use Rattle.hail_load.specs.Grammar.{command, commands_of, hail, init_command, line, line_is_open, new_command, newhybrid_command}
use Rattle.hail_load.specs.Judging.{judged}
use Rattle.hail_load.specs.Laws.{ScriptIsDerived}
use Rattle.hail_load.specs.Loading.{Stored, with_object, make, new_of, newhybrid_of, fill, done, go_on, load}
use Rattle.hail_load.specs.Parts.{leaves_of, size_of, target_spot, ◌>>=◌}
use Rattle.hail_load.specs.Texts.{commands_in, hail_commands}
use Rattle.hail_load.specs.Lemmas.Steps.{hybrid_size}
use Rattle.mu_model.specs.Run.{global_objects, target_leaves}
use Rattle.mu_model.specs.Types.{class_definition}
use Rattle.model_laws.specs.Printable.{HasFewCells}
use Rattle.model_laws.specs.Lemmas.Keeps.{at_place}
use Rattle.loaded_programs.specs.Sizes.{GlobalsAreFew, LoadedObjectsAreFew, LoadedObjectsAreSmall, LoadedSettingsAreModest, ScriptsAreShort}
use Rattle.loaded_programs.proofs.Globals.{classed, leaves_same}
use Rattle.loaded_programs.proofs.Parts.{went}

-- ---- commands: so many objects at most, so many cells left at most, and so many cells in each object

record IsSized (cells most k : ℕ) (s : Store) : Type 0 where
  pub objects : length s.objects ≤ k
  pub left : s.left ≤ cells
  pub sized : All (HasFewCells most) s.objects

module _ (cells most : ℕ) (room : cells ≤ most) where
  more_sized : (k : ℕ) (s : Store) → IsSized cells most k s → IsSized cells most (suc k) s
  more_sized k s h = let o = h.objects in record { objects = omega (arith, o); left = h.left; sized = h.sized }

  fill_sized : (k : ℕ) (s : Store) (spot : Spot) (ss : List Scalar) → IsSized cells most k s → IsSized cells most (suc k) (fill s spot ss)
  fill_sized k s spot ss h = by (slice_get s.objects spot.object) refl
    where
      by : (o : Option HeapObject) → slice_get s.objects spot.object ≡ o → IsSized cells most (suc k) (record s { objects = with_filled s.objects spot.object spot.at ss o })
      by None e = more_sized k s h
      by (Some o) e =
          let few = h.objects in
          record {
            objects = omega (arith, few, length-set s.objects spot.object (filled spot.at ss o));
            left = h.left;
            sized = All-set (HasFewCells most) s.objects spot.object (filled spot.at ss o) (at_place (HasFewCells most) s.objects spot.object o h.sized e) h.sized;
          }

  made_sized : (k : ℕ) (c : Code) (s : Store) (n : Name) (part : Part) → length (leaves_of c.graph part) ≡ size_of c.graph part → size_of c.graph part ≤ s.left → IsSized cells most k s → IsSized cells most (suc k) (with_object c s n part)
  made_sized k c s n part long l h =
      let few = h.objects in
      let left = h.left in
      let o = object_of c.graph (leaves_of c.graph part) in
      record {
        objects = omega (arith, few, length-append s.objects (o ∷ []));
        left = omega (arith, left);
        sized = All-push (HasFewCells most) s.objects o h.sized (omega (arith, long, l, left, room));
      }

  make_sized : (k : ℕ) (c : Code) (s next : Store) (place : ℕ) (n : Name) (part : Part) → length (leaves_of c.graph part) ≡ size_of c.graph part → IsSized cells most k s → make c s place n part ≡ Ok next → IsSized cells most (suc k) next
  make_sized k c s next place n part long h e = by (nat_le (size_of c.graph part) s.left) refl e
    where
      made : (b : Bool) → Stored
      made b = elim b [ true ↦ Ok (with_object c s n part) | false ↦ Err (At HeapFull place) ]

      by : (b : Bool) → nat_le (size_of c.graph part) s.left ≡ b → made b ≡ Ok next → IsSized cells most (suc k) next
      by true t q =
          let same : with_object c s n part ≡ next = cc in
          let l : size_of c.graph part ≤ s.left = grind (arith, nat_tests) in
          subst (IsSized cells most (suc k)) same (made_sized k c s n part long l h)
      by false t q = cc

  new_sized : (k : ℕ) (c : Code) (s next : Store) (place : ℕ) (n of_type : Name) (o : Option ℕ) → IsSized cells most k s → new_of c s place n of_type o ≡ Ok next → IsSized cells most (suc k) next
  new_sized k c s next place n of_type None h e = cc
  new_sized k c s next place n of_type (Some t) h e = by (is_no_hybrid (slice_get c.graph t)) e
    where
      by : (b : Bool) → (if b then make c s place n (Value t) else Err (At WrongType of_type.place)) ≡ Ok next → IsSized cells most (suc k) next
      by true q = make_sized k c s next place n (Value t) refl h q
      by false q = cc

  hybrid_sized : (k : ℕ) (c : Code) (s next : Store) (place : ℕ) (n of_type : Name) (many : ℕ) (o : Option ℕ) → IsSized cells most k s → newhybrid_of c s place n of_type many o ≡ Ok next → IsSized cells most (suc k) next
  hybrid_sized k c s next place n of_type many None h e = cc
  hybrid_sized k c s next place n of_type many (Some t) h e = by (is_hybrid (slice_get c.graph t)) e
    where
      by : (b : Bool) → (if b then make c s place n (Hybrid t many) else Err (At WrongType of_type.place)) ≡ Ok next → IsSized cells most (suc k) next
      by true q = make_sized k c s next place n (Hybrid t many) (hybrid_size c.graph t many) h q
      by false q = cc

  init_sized : (k : ℕ) (c : Code) (s next : Store) (t : Target) (source : List Piece) → IsSized cells most k s → done c s (commands.Init t source) ≡ Ok next → IsSized cells most (suc k) next
  init_sized k c s next t source h e =
      let one = went (target_spot c s.made t.root t.indexes) (λ spot. judged c s (spot.part ∷ []) source >>= λ ss. Ok (fill s spot ss)) next e in
      let two = went (judged c s (one.0.part ∷ []) source) (λ ss. Ok (fill s one.0 ss)) next one.2 in
      let same : fill s one.0 two.0 ≡ next = (let z = two.2 in cc) in
      subst (IsSized cells most (suc k)) same (fill_sized k s one.0 two.0 h)

  done_sized : (k : ℕ) (c : Code) (s next : Store) (x : Command) → IsSized cells most k s → done c s x ≡ Ok next → IsSized cells most (suc k) next
  done_sized k c s next (commands.New place n of_type) h e = new_sized k c s next place n of_type (written_number (found c.names of_type.text)) h e
  done_sized k c s next (commands.NewHybrid place n of_type many) h e = hybrid_sized k c s next place n of_type many.number.magnitude (written_number (found c.names of_type.text)) h e
  done_sized k c s next (commands.Init t source) h e = init_sized k c s next t source h e

  wider : (k n : ℕ) (s : Store) → k ≤ n → IsSized cells most k s → IsSized cells most n s
  wider k n s l h = let o = h.objects in record { objects = omega (arith, o, l); left = h.left; sized = h.sized }

  load_sized : (k : ℕ) (c : Code) (s : Store) (xs : List Command) → IsSized cells most k s → IsSized cells most (k + length xs) (load c s xs).store
  load_sized k c s [] h = wider k (k + 0) s (omega arith) h
  load_sized k c s (x ∷ xs) h = by (done c s x) (λ next e. wider (suc k + length xs) (k + suc (length xs)) (load c next xs).store (omega arith) (load_sized (suc k) c next xs (done_sized k c s next x h e)))
    where
      by : (r : Stored) → ((next : Store) → r ≡ Ok next → IsSized cells most (k + suc (length xs)) (load c next xs).store) → IsSized cells most (k + suc (length xs)) (go_on s r (λ next. load c next xs)).store
      by (Ok next) f = f next refl
      by (Err fault) f = wider k (k + suc (length xs)) s (omega arith) h

-- ---- globals

-- a global's object has the leaves of its type
leaves_long : (p : Tables) → IsComplete p.types → (o : Option ℕ) → is_sized (definition_in p.types o) ≡ true → length (target_leaves p (class_definition p (or_zero (iref_in p.types o)))) ≡ length (leaves_in p.types o)
leaves_long p full None h = cc
leaves_long p full (Some t) h =
    let g = p.types.definitions in
    ap length (leaves_same p full (Some t) h ∙ ap (leaf_classes g) (classed p.types t h)) ∙ by (nat_lt t p.types.written) h
  where
    by : (b : Bool) → is_sized (if b then slice_get p.types.definitions t else None) ≡ true → length (leaf_classes p.types.definitions (class_of p.types.definitions t)) ≡ length (if b then leaves p.types.definitions t else [])
    by false k = cc
    by true k =
        let g = p.types.definitions in
        let l : t < length g = there (slice_get g t) refl k in
        ap length (sym (class_leaves g full.graph t (class_of g t) l (class_within g full.graph t l) (sym (class_own g full.graph t l)))) ∙ length-map (leaves g t) (class_of g)
      where
        there : (o : Option TypeDef) → slice_get p.types.definitions t ≡ o → is_sized o ≡ true → t < length p.types.definitions
        there None e k = cc
        there (Some d) e k = slice_get_within p.types.definitions t d e

globals_small : (p : Tables) (n most : ℕ) → most_leaves_of_globals ≤ most → (is : List Item) → IsComplete p.types → AllMet (globals_demands p n is) →
    All (HasFewCells most) (map (λ c. object_of p.types.definitions (target_leaves p (class_definition p c))) (global_entries p.types p.globals is))
globals_small p n most room [] full m = All-nil (HasFewCells most)
globals_small p n most room (items.Typedef d ∷ is) full m = globals_small p n most room is full m
globals_small p n most room (items.Funcsig d ∷ is) full m = globals_small p n most room is full m
globals_small p n most room (items.Const d ∷ is) full m = globals_small p n most room is full m
globals_small p n most room (items.GlobalCell d ∷ is) full m =
    let long : length (target_leaves p (class_definition p (or_zero (iref_in p.types (type_named p d.of_type))))) ≡ length (leaves_named p d.of_type) = leaves_long p full (type_named p d.of_type) m.0.0 in
    All-cons (HasFewCells most) (object_of p.types.definitions (target_leaves p (class_definition p (or_zero (iref_in p.types (type_named p d.of_type))))))
    (map (λ c. object_of p.types.definitions (target_leaves p (class_definition p c))) (global_entries p.types p.globals is))
    (omega (arith, long, room, met m.0.1)) (globals_small p (n + length (leaves_named p d.of_type)) most room is full m.1)
  where
    met : nat_le (n + length (leaves_named p d.of_type)) most_leaves_of_globals ≡ true → n + length (leaves_named p d.of_type) ≤ most_leaves_of_globals
    met e = grind (arith, nat_tests)
globals_small p n most room (items.Funcdecl d ∷ is) full m = globals_small p n most room is full m
globals_small p n most room (items.Funcdef d ∷ is) full m = globals_small p n most room is full m

first_small : (bundle : List Item) (most : ℕ) → most_leaves_of_globals ≤ most → first_unmet (check_demands bundle) ≡ None → All (HasFewCells most) (global_objects (bundle_tables bundle))
unfolding check_demands tables_of
first_small bundle most room checked = globals_small (bundle_tables bundle) 0 most room bundle (is_complete bundle checked) (all_met (check_demands bundle) checked).0.1.1.1

-- ---- both

loaded_sized : (bundle : List Item) → first_unmet (check_demands bundle) ≡ None → (commands : List Command) (cells : ℕ) →
    IsSized cells (cells + most_leaves_of_globals) (length (global_objects (bundle_tables bundle)) + length commands) (load (code_of bundle) (record { objects = global_objects (bundle_tables bundle); left = cells; made = [] }) commands).store
loaded_sized bundle checked commands cells =
    let p = bundle_tables bundle in
    let s : Store = record { objects = global_objects p; left = cells; made = [] } in
    load_sized cells (cells + most_leaves_of_globals) (omega arith) (length (global_objects p)) (code_of bundle) s commands
    (record { objects = omega arith; left = omega arith; sized = first_small bundle (cells + most_leaves_of_globals) (omega arith) checked })

pub objects_small : LoadedObjectsAreSmall
objects_small = λ bundle named checked commands cells. (loaded_sized bundle checked commands cells).sized

pub objects_few : LoadedObjectsAreFew
objects_few = λ bundle named checked commands cells.
    let p = bundle_tables bundle in
    let few = (loaded_sized bundle checked commands cells).objects in
    omega (arith, few, length-map p.global_cells (λ c. object_of p.types.definitions (target_leaves p (class_definition p c))))

-- ---- scripts

tokens_few : (text : List ℕ) (at : ℕ) (tokens : List Token) (end : Option LexFault) → at ≤ length text → Lexes text at tokens end → at + length (seen text tokens end) ≤ suc (length text)
tokens_few text at _ _ l (ends _ is) = omega (arith, l)
tokens_few text at _ _ l (stops _ f is) = omega (arith, l)
tokens_few text at _ _ l (reads _ t more end is later) =
    let w = next_within text at t is in
    let behind = w.behind in
    let some = w.some in
    let rest = tokens_few text t.to more end w.within later in
    omega (arith, behind, some, rest)

text_few : (text : List ℕ) → length (tokens_from text 0) ≤ suc (length text)
unfolding tokens_from
text_few text =
    let r = tokens_within (suc (length text)) text 0 in
    let few = tokens_few text 0 r.0 r.1 (omega arith) (lexed (length text) text 0 (omega arith)) in
    omega (arith, few)

-- a command has a token
marked : (s : Symbol) (ts : List Tok) (n : ℕ) → Derives (mark s) ts n → 1 ≤ length ts
unfolding mark
marked s ts n h = rw h.1.0 (omega arith)

first_of : (ts u v : List Tok) → ts ≡ u ++ v → 1 ≤ length u → 1 ≤ length ts
first_of ts u v e l = let long = length-append u v in subst (λ (x : List Tok). 1 ≤ length x) (sym e) (omega (arith, long, l))

command_some : (ts : List Tok) (c : Command) → Derives command ts c → 1 ≤ length ts
unfolding command new_command newhybrid_command init_command
command_some ts c (inl h) = first_of ts h.1.0 h.1.1 h.1.2 (marked symbols.DotNew h.1.0 h.0.0 h.1.3)
command_some ts c (inr (inl h)) = first_of ts h.1.0 h.1.1 h.1.2 (marked symbols.DotNewhybrid h.1.0 h.0.0 h.1.3)
command_some ts c (inr (inr h)) = first_of ts h.1.1.0 h.1.1.1 h.1.1.2 (marked symbols.DotInit h.1.1.0 h.1.0.0 h.1.1.3)

counts : Line → ℕ
counts (ones.Command c) = 1
counts (ones.Index i) = 0

line_some : (b : Bool) (ts : List Tok) (l : Line) → Derives (line b) ts l → counts l ≤ length ts
unfolding counts
line_some false ts l h = subst (λ (x : Line). counts x ≤ length ts) (sym h.2) (command_some ts h.0 h.1)
line_some true ts l (inl h) = subst (λ (x : Line). counts x ≤ length ts) (sym h.2) (omega arith)
line_some true ts l (inr h) = subst (λ (x : Line). counts x ≤ length ts) (sym h.2) (command_some ts h.0 h.1)

lines_some : (Q : Bool → List Tok → Type 0) (s : Bool) (ts : List Tok) (ls : List Line) → Elements (λ s. s) (λ s l. line_is_open l) (λ y. Derives (line y)) Q s ts ls → length (commands_of ls) ≤ length ts
unfolding counts
lines_some Q s ts [] h = omega arith
lines_some Q s ts (l ∷ ls) h =
    let one = line_some s h.0 l h.3 in
    let rest = lines_some Q (line_is_open l) h.1 ls h.4 in
    let long = length-append h.0 h.1 in
    subst (λ (x : List Tok). length (commands_of (l ∷ ls)) ≤ length x) (sym h.2) (by l one rest long)
  where
    by : (l : Line) → counts l ≤ length h.0 → length (commands_of ls) ≤ length h.1 → length (h.0 ++ h.1) ≡ length h.0 + length h.1 → length (commands_of (l ∷ ls)) ≤ length (h.0 ++ h.1)
    by (ones.Command c) one rest long = omega (arith, one, rest, long)
    by (ones.Index i) one rest long = omega (arith, rest, long)

hail_short : (ts : List Tok) (cs : List Command) → Derives hail ts cs → length cs ≤ length ts
unfolding hail
hail_short ts cs h = subst (λ (x : List Command). length x ≤ length ts) (sym h.2) (lines_some (λ _ v. Derives (mark symbols.End) v h.0.1) false ts h.0.0 h.1)

pub scripts_short : ScriptIsDerived → ScriptsAreShort
scripts_short derived text = by (whole hail (tokens_from text 0)) refl
  where
    by : (r : Result (List Command) Fault) → whole hail (tokens_from text 0) ≡ r → length (commands_in r) ≤ suc (length text)
    by (Err f) e = omega arith
    by (Ok cs) e = let few = hail_short (tokens_from text 0) cs ((derived text cs).0 e) in omega (arith, few, text_few text)

-- ---- bundles

entries_few : (t : Table) (g : Globals) (is : List Item) → length (global_entries t g is) ≤ length is
entries_few t g [] = omega arith
entries_few t g (items.Typedef d ∷ is) = omega (arith, entries_few t g is)
entries_few t g (items.Funcsig d ∷ is) = omega (arith, entries_few t g is)
entries_few t g (items.Const d ∷ is) = omega (arith, entries_few t g is)
entries_few t g (items.GlobalCell d ∷ is) = omega (arith, entries_few t g is)
entries_few t g (items.Funcdecl d ∷ is) = omega (arith, entries_few t g is)
entries_few t g (items.Funcdef d ∷ is) = omega (arith, entries_few t g is)

items_few : (many : ℕ) (Q : ℕ → List Tok → Type 0) (k : ℕ) (ts : List Tok) (is : List Item) → k ≤ many →
    Elements (λ k. nat_le many k) (λ k _. suc k) (λ full. Derives (within item full)) Q k ts is → k + length is ≤ many
items_few many Q k ts [] l h = omega (arith, l)
items_few many Q k ts (i ∷ is) l h =
    let rest = items_few many Q (suc k) h.1 is (by (nat_le many k) refl h.3) h.4 in
    omega (arith, rest)
  where
    by : (full : Bool) → nat_le many k ≡ full → Derives (within item full) h.0 i → suc k ≤ many
    by false e d = grind (arith, nat_tests)
    by true e d = absurd d

bundle_few : (ts : List Tok) (is : List Item) → Derives bundle_form ts is → length is ≤ 16384
unfolding bundle_form
bundle_few ts is h = let few = items_few 16384 (λ _ v. Derives (token (symbols.End ∷ [])) v h.0.1) 0 ts h.0.0 (omega arith) h.1 in subst (λ (x : List Item). length x ≤ 16384) (sym h.2) (omega (arith, few))

pub globals_few : GlobalsAreFew
unfolding tables_of
globals_few bytes bundle (bundle_read tokens end b lexes derives) =
    let few = bundle_few (seen bytes tokens end) bundle derives in
    let fewer = entries_few (bundle_tables bundle).types (globals_of bundle) bundle in
    omega (arith, few, fewer)

-- ---- a setting

pub settings_modest : ScriptIsDerived → LoadedSettingsAreModest
settings_modest derived bytes bundle read names checked s text short objects cells budget =
    let commands = hail_commands text in
    let few : length s.objects ≤ length (bundle_tables bundle).global_cells + length commands = subst (λ (os : List HeapObject). length os ≤ length (bundle_tables bundle).global_cells + length commands) (sym objects) (objects_few bundle names checked commands s.cells) in
    let globals = globals_few bytes bundle read in
    let script = scripts_short derived text in
    let big : 2081346 < 2 ^ 32 = lit< tt in
    record {
      budget = budget;
      objects = omega (arith, few, globals, script, short, big);
      most = s.cells + most_leaves_of_globals;
      few = omega (arith, cells, big);
      sized = subst (All (HasFewCells (s.cells + most_leaves_of_globals))) (sym objects) (objects_small bundle names checked commands s.cells);
      cells = omega arith;
    }
