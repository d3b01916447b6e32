-- A record or an ending has no line feed in it and does not begin with a digit; a function's name is a name.
use Rattle.std.specs.Prelude.{◌≡◌, ◌≤◌, ◌<◌, ◌==◌, ◌+◌, ◌/◌, ◌%◌, ℕ, zero, suc, Bool, true, false, not, nat_lt, List, [], ◌∷◌, ◌++◌, Option, Some, None, length, drop, map, zip, slice_get, codes, decimal, is_some, refl, if◌then◌else◌}
use Rattle.std.specs.List.{list_all}
use Rattle.std.proofs.Common.{sym, ◌∙◌, ap, arith, inl, inr}
use Rattle.std.specs.Fmt.{digits, digits_onto, digit_glyph}
use Rattle.std.proofs.lemmas.Bool.{and_parts, cases_eq, false≢true}
use Rattle.std.proofs.lemmas.Bool.Decides.{nat_tests}
use Rattle.mu_base.specs.declared.order.Order.{Order}
use Rattle.mu_base.specs.declared.order.Order.TheVariants as orders
use Rattle.mu_values.specs.declared.scalars.Scalar.{Scalar}
use Rattle.mu_values.specs.declared.scalars.Scalar.TheVariants as scalars
use Rattle.mu_values.specs.Slots.{TypedValues}
use Rattle.mu_values.specs.Constants.{member_count}
use Rattle.mu_values.specs.declared.cells.CellId.{CellId}
use Rattle.mem_axioms.specs.declared.types.Mode.{Mode}
use Rattle.mem_axioms.specs.declared.types.Mode.TheVariants as modes
use Rattle.mem_axioms.specs.declared.types.Kind.{Kind}
use Rattle.mem_axioms.specs.declared.types.Kind.TheVariants as kinds
use Rattle.ir_lex.specs.Bytes.{is_name_byte}
use Rattle.ir_lex.specs.declared.token.TokenKind.TheVariants as tokens
use Rattle.ir_lex.specs.Spellings.{Spells, global, local}
use Rattle.ir_tree.specs.declared.code.Block.{Block}
use Rattle.ir_tree.specs.declared.items.Funcdef.{Funcdef}
use Rattle.ir_tree.specs.declared.items.Item.{Item}
use Rattle.ir_tree.specs.declared.items.Item.TheVariants as items
use Rattle.name_scopes.specs.Names.{found}
use Rattle.bundle_names.specs.declared.globals.Sort.{Sort}
use Rattle.bundle_names.specs.Globals.{globals_of}
use Rattle.checked_code.specs.Entries.{declared_entry, defined_signatures, function_entries, is_function, noted_signature, tables_of}
use Rattle.checked_code.specs.Checking.{bundle_tables}
use Rattle.mu_model.specs.Clients.{Classed}
use Rattle.mu_model.specs.Operands.{Scope}
use Rattle.mu_model.specs.Programs.{scopes_from, scopes_in, scopes_of}
use Rattle.mu_model.specs.Types.{class_definition}
use Rattle.mu_model.specs.declared.endings.Case.{Case}
use Rattle.mu_model.specs.declared.endings.Case.TheVariants as cases
use Rattle.mu_model.specs.declared.endings.Raced.{Raced}
use Rattle.mu_model.specs.declared.endings.Ending.{Ending}
use Rattle.mu_model.specs.declared.endings.Ending.TheVariants as endings
use Rattle.mu_model.specs.declared.lines.Note.{Note}
use Rattle.mu_model.specs.declared.lines.Note.TheVariants as notes
use Rattle.run_texts.specs.EventTexts.{Text, function_text, full_name, place_text, cell_text, thread_text, scalar_text, spaced, value_text, values_text, order_text, mode_text, kind_text}
use Rattle.run_texts.specs.Texts.{note_text, case_text, race_text, ending_text}
use Rattle.log_lines.specs.Values.{is_name, is_name_byte as is_log_name_byte}
use Rattle.log_lines.specs.Texts.{begins_with_digit}
use Rattle.run_lines.specs.RunsRead.{HasNames}
use Rattle.bundle_facts.specs.Spelled.{BlocksAreSpelled, NamesAreSpelled}

-- ---- without a line feed

abbrev pub Plain : Text → Type 0
Plain s = list_all (λ b. not (b == 10)) s ≡ true

both : (a b : Text) → Plain a → Plain b → Plain (a ++ b)
both [] b h k = k
both (x ∷ a) b h k = let r = and_parts (not (x == 10)) (list_all (λ b. not (b == 10)) a) h in rw (r.0, both a b r.1 k) refl

all_but_one : (s : Text) → Plain s → Plain (drop 1 s)
all_but_one [] h = refl
all_but_one (x ∷ s) h = (and_parts (not (x == 10)) (list_all (λ b. not (b == 10)) s) h).1

glyph_plain : (d : ℕ) → not (digit_glyph false d == 10) ≡ true
glyph_plain d = by (nat_lt d 10)
  where
    by : (b : Bool) → not ((if b then 48 + d else 87 + d) == 10) ≡ true
    by true = grind (arith, nat_tests)
    by false = grind (arith, nat_tests)

digits_plain : (k n : ℕ) (acc : Text) → Plain acc → Plain (digits_onto k 10 false n acc)
digits_plain zero n acc h = h
digits_plain (suc k) n acc h = by (n / 10 == 0) one (digits_plain k (n / 10) (digit_glyph false (n % 10) ∷ acc) one)
  where
    one : Plain (digit_glyph false (n % 10) ∷ acc)
    one = rw (glyph_plain (n % 10), h) refl

    by : (b : Bool) → Plain (digit_glyph false (n % 10) ∷ acc) → Plain (digits_onto k 10 false (n / 10) (digit_glyph false (n % 10) ∷ acc)) →
        Plain (if b then digit_glyph false (n % 10) ∷ acc else digits_onto k 10 false (n / 10) (digit_glyph false (n % 10) ∷ acc))
    by true x y = x
    by false x y = y

decimal_plain : (n : ℕ) → Plain (decimal n)
unfolding digits
decimal_plain n = digits_plain 64 n [] refl

-- ---- names

name_byte_same : (b : ℕ) → is_name_byte b ≡ true → is_log_name_byte b ≡ true
name_byte_same b h = grind (arith, nat_tests)

name_byte_plain : (b : ℕ) → is_name_byte b ≡ true → not (b == 10) ≡ true
name_byte_plain b h = grind (arith, nat_tests)

all_of : (p q : ℕ → Bool) → ((b : ℕ) → p b ≡ true → q b ≡ true) → (s : Text) → list_all p s ≡ true → list_all q s ≡ true
all_of p q more [] h = refl
all_of p q more (x ∷ s) h = let r = and_parts (p x) (list_all p s) h in rw (more x r.0, all_of p q more s r.1) refl

local_plain : (s : Text) → Spells tokens.Local s → Plain s
local_plain _ (local body some all) = all_of is_name_byte (λ b. not (b == 10)) name_byte_plain body all

global_plain : (s : Text) → Spells tokens.Global s → Plain s
global_plain _ (global body some all) = all_of is_name_byte (λ b. not (b == 10)) name_byte_plain body all

not_empty : (body : Text) → 0 < length body → not (length body == 0) ≡ true
not_empty body l = grind (arith, nat_tests)

global_name : (s : Text) → Spells tokens.Global s → is_name s ≡ true
global_name _ (global body some all) = rw (not_empty body some, all_of is_name_byte is_log_name_byte name_byte_same body all) refl

-- with one function more before the others: where it is the one with the number `n`, it has that name
upon : (o : Option Sort) (name rest : Text) (entry : ℕ) (entries : ℕ → List ℕ) (k n : ℕ) → k ≤ n → n < k + length (if is_function o k then entry ∷ entries (suc k) else entries k) → is_name name ≡ true →
    ((j : ℕ) → j ≤ n → n < j + length (entries j) → is_name rest ≡ true) → is_name (if is_function o n then name else rest) ≡ true
upon o name rest entry entries k n low high named ih = by (is_function o n) (is_function o k) refl refl high
  where
    by : (a b : Bool) → is_function o n ≡ a → is_function o k ≡ b → n < k + length (if b then entry ∷ entries (suc k) else entries k) → is_name (if a then name else rest) ≡ true
    by true b ea eb high = named
    by false false ea eb high = ih k low high
    by false true ea eb high =
        let other : k ≡ n → ⊥ = λ e. false≢true (sym ea ∙ ap (is_function o) (sym e) ∙ eb) in
        ih (suc k) (elim (cases_eq k n) [ inl e ↦ absurd (other e) | inr e ↦ omega (arith, low, e) ]) (omega (arith, high))

module _ (bundle : List Item) where
  -- a function that has an entry has a name
  named_from : (defined : List ℕ) (is : List Item) → NamesAreSpelled is → (n k : ℕ) → k ≤ n → n < k + length (function_entries (globals_of bundle) defined k is) → is_name (function_text bundle is n) ≡ true
  named_from defined [] h n k low high = absurd (omega (arith, low, high))
  named_from defined (items.Typedef d ∷ is) h n k low high = named_from defined is h.1 n k low high
  named_from defined (items.Funcsig d ∷ is) h n k low high = named_from defined is h.1 n k low high
  named_from defined (items.Const d ∷ is) h n k low high = named_from defined is h.1 n k low high
  named_from defined (items.GlobalCell d ∷ is) h n k low high = named_from defined is h.1 n k low high
  named_from defined (items.Funcdecl d ∷ is) h n k low high =
      upon (found (globals_of bundle).names d.name.text) d.name.text (function_text bundle is n) (declared_entry (globals_of bundle) defined d) (λ k. function_entries (globals_of bundle) defined k is) k n low high (global_name d.name.text h.0)
      (named_from defined is h.1 n)
  named_from defined (items.Funcdef d ∷ is) h n k low high =
      upon (found (globals_of bundle).names d.name.text) d.name.text (function_text bundle is n) (noted_signature (globals_of bundle) d.signature) (λ k. function_entries (globals_of bundle) defined k is) k n low high (global_name d.name.text h.0.0)
      (named_from defined is h.1 n)

  pub has_names : NamesAreSpelled bundle → HasNames bundle
  unfolding tables_of
  has_names h f l = named_from (defined_signatures (globals_of bundle) bundle) bundle h f 0 (omega arith) (omega (arith, l))

  -- ---- texts

  function_plain : (is : List Item) → NamesAreSpelled is → (n : ℕ) → Plain (function_text bundle is n)
  function_plain [] h n = refl
  function_plain (items.Typedef d ∷ is) h n = function_plain is h.1 n
  function_plain (items.Funcsig d ∷ is) h n = function_plain is h.1 n
  function_plain (items.Const d ∷ is) h n = function_plain is h.1 n
  function_plain (items.GlobalCell d ∷ is) h n = function_plain is h.1 n
  function_plain (items.Funcdecl d ∷ is) h n = either (is_function (found (globals_of bundle).names d.name.text) n) (global_plain d.name.text h.0) (function_plain is h.1 n)
    where
      either : (b : Bool) → Plain d.name.text → Plain (function_text bundle is n) → Plain (if b then d.name.text else function_text bundle is n)
      either true x y = x
      either false x y = y
  function_plain (items.Funcdef d ∷ is) h n = either (is_function (found (globals_of bundle).names d.name.text) n) (global_plain d.name.text h.0.0) (function_plain is h.1 n)
    where
      either : (b : Bool) → Plain d.name.text → Plain (function_text bundle is n) → Plain (if b then d.name.text else function_text bundle is n)
      either true x y = x
      either false x y = y

  abbrev AllPlain : List Scope → Type 0
  AllPlain [] = Unit {0}
  AllPlain (s ∷ ss) = Plain (full_name (Some s)) × AllPlain ss

  all_both : (xs ys : List Scope) → AllPlain xs → AllPlain ys → AllPlain (xs ++ ys)
  all_both [] ys h k = k
  all_both (x ∷ xs) ys h k = (h.0, all_both xs ys h.1 k)

  full_plain : (d : Funcdef) (first : ℕ) (b : Block) → Spells tokens.Global d.name.text → Spells tokens.Local d.version.text → Spells tokens.Local b.head.name.text →
      Plain (full_name (Some (record { bundle = bundle; function = d; first = first; block = b })))
  full_plain d first b name version block =
      let v = drop 1 d.version.text in
      let n = d.name.text in
      both (n ++ codes "." ++ v ++ codes ".") (drop 1 b.head.name.text)
      (both (n ++ codes "." ++ v) (codes ".") (both (n ++ codes ".") v (both n (codes ".") (global_plain n name) refl) (all_but_one d.version.text (local_plain d.version.text version))) refl)
      (all_but_one b.head.name.text (local_plain b.head.name.text block))

  blocks_plain : (d : Funcdef) (first : ℕ) (bs : List Block) → Spells tokens.Global d.name.text → Spells tokens.Local d.version.text → BlocksAreSpelled bs →
      AllPlain (map (λ (b : Block). record { bundle = bundle; function = d; first = first; block = b }) bs)
  blocks_plain d first [] name version h = tt
  blocks_plain d first (b ∷ bs) name version h = (full_plain d first b name version h.0, blocks_plain d first bs name version h.1)

  scopes_plain : (first : ℕ) (is : List Item) → NamesAreSpelled is → AllPlain (scopes_from bundle first is)
  scopes_plain first [] h = tt
  scopes_plain first (items.Typedef d ∷ is) h = scopes_plain first is h.1
  scopes_plain first (items.Funcsig d ∷ is) h = scopes_plain first is h.1
  scopes_plain first (items.Const d ∷ is) h = scopes_plain first is h.1
  scopes_plain first (items.GlobalCell d ∷ is) h = scopes_plain first is h.1
  scopes_plain first (items.Funcdecl d ∷ is) h = scopes_plain first is h.1
  scopes_plain first (items.Funcdef d ∷ is) h =
      all_both (scopes_in bundle d first) (scopes_from bundle (first + length d.blocks) is) (blocks_plain d first d.blocks h.0.0 h.0.1 h.0.2) (scopes_plain (first + length d.blocks) is h.1)

  at_plain : (ss : List Scope) (n : ℕ) → AllPlain ss → Plain (full_name (slice_get ss n))
  at_plain [] n h = refl
  at_plain (s ∷ ss) zero h = h.0
  at_plain (s ∷ ss) (suc n) h = at_plain ss n h.1

  cell_plain : (c : CellId) → Plain (cell_text c)
  cell_plain c = both (codes "#" ++ decimal c.object ++ codes "+") (decimal c.at) (both (codes "#" ++ decimal c.object) (codes "+") (both (codes "#") (decimal c.object) refl (decimal_plain c.object)) refl) (decimal_plain c.at)

  thread_plain : (i : ℕ) → Plain (thread_text i)
  thread_plain i = both (codes "t") (decimal i) refl (decimal_plain i)

  module _ (h : NamesAreSpelled bundle) where
    place_plain : (block at : ℕ) → Plain (place_text bundle block at)
    place_plain block at =
        let n = full_name (slice_get (scopes_of bundle) block) in
        both (n ++ codes " ") (decimal at) (both n (codes " ") (at_plain (scopes_of bundle) block (scopes_plain 0 bundle h)) refl) (decimal_plain at)

    scalar_plain : (s : Scalar) → Plain (scalar_text bundle s)
    scalar_plain (scalars.Int w n) = decimal_plain n
    scalar_plain scalars.Null = refl
    scalar_plain (scalars.Object n) = both (codes "#") (decimal n) refl (decimal_plain n)
    scalar_plain (scalars.Place n at) = cell_plain (record { object = n; at = at })
    scalar_plain (scalars.Func f) = function_plain bundle h f
    scalar_plain (scalars.Stack k) = both (codes "s") (decimal k) refl (decimal_plain k)
    scalar_plain (scalars.Thread i) = thread_plain i

    spaced_plain : {A : Type 0} (text : A → Text) → ((x : A) → Plain (text x)) → (xs : List A) → Plain (spaced text xs)
    spaced_plain text each [] = refl
    spaced_plain text each (x ∷ xs) = both (codes " " ++ text x) (spaced text xs) (both (codes " ") (text x) refl (each x)) (spaced_plain text each xs)

    value_plain : (v : Classed) → Plain (value_text bundle v)
    value_plain v = by (is_some (member_count (class_definition (bundle_tables bundle) v.0)))
      where
        inner : Plain (drop 1 (spaced (scalar_text bundle) v.1))
        inner = all_but_one (spaced (scalar_text bundle) v.1) (spaced_plain (scalar_text bundle) scalar_plain v.1)

        by : (b : Bool) → Plain (if b then codes "{" ++ drop 1 (spaced (scalar_text bundle) v.1) ++ codes "}" else drop 1 (spaced (scalar_text bundle) v.1))
        by true = both (codes "{" ++ drop 1 (spaced (scalar_text bundle) v.1)) (codes "}") (both (codes "{") (drop 1 (spaced (scalar_text bundle) v.1)) refl inner) refl
        by false = inner

    values_plain : (vs : TypedValues) → Plain (values_text bundle vs)
    values_plain vs = spaced_plain (value_text bundle) value_plain (zip vs.types vs.values)

    pub note_plain : (n : Note) → Plain (note_text bundle n)
    note_plain (notes.Returned i vs) = both (codes "returned " ++ thread_text i) (values_text bundle vs) (both (codes "returned ") (thread_text i) refl (thread_plain i)) (values_plain vs)
    note_plain (notes.Exited i) = both (codes "exited ") (thread_text i) refl (thread_plain i)
    note_plain (notes.Trap i block at) =
        both (codes "trap " ++ thread_text i ++ codes " ") (place_text bundle block at) (both (codes "trap " ++ thread_text i) (codes " ") (both (codes "trap ") (thread_text i) refl (thread_plain i)) refl) (place_plain block at)
    note_plain (notes.Watchpoint i block at n) =
        let a = codes "watchpoint " ++ thread_text i ++ codes " " in
        both (a ++ place_text bundle block at ++ codes " ") (decimal n)
        (both (a ++ place_text bundle block at) (codes " ") (both a (place_text bundle block at) (both (codes "watchpoint " ++ thread_text i) (codes " ") (both (codes "watchpoint ") (thread_text i) refl (thread_plain i)) refl) (place_plain block at)) refl)
        (decimal_plain n)
    note_plain (notes.Frame n block at) =
        both (codes "frame " ++ decimal n ++ codes " ") (place_text bundle block at) (both (codes "frame " ++ decimal n) (codes " ") (both (codes "frame ") (decimal n) refl (decimal_plain n)) refl) (place_plain block at)
    note_plain (notes.Kept n vs) = both (codes "kept " ++ decimal n) (values_text bundle vs) (both (codes "kept ") (decimal n) refl (decimal_plain n)) (values_plain vs)
    note_plain (notes.TimedOut i cell) =
        both (codes "timed out " ++ thread_text i ++ codes " ") (cell_text cell) (both (codes "timed out " ++ thread_text i) (codes " ") (both (codes "timed out ") (thread_text i) refl (thread_plain i)) refl) (cell_plain cell)

    pub note_begins : (n : Note) → begins_with_digit (note_text bundle n) ≡ false
    note_begins (notes.Returned i vs) = refl
    note_begins (notes.Exited i) = refl
    note_begins (notes.Trap i block at) = refl
    note_begins (notes.Watchpoint i block at n) = refl
    note_begins (notes.Frame n block at) = refl
    note_begins (notes.Kept n vs) = refl
    note_begins (notes.TimedOut i cell) = refl

    order_plain : (o : Order) → Plain (order_text o)
    order_plain orders.NotAtomic = refl
    order_plain orders.Relaxed = refl
    order_plain orders.Consume = refl
    order_plain orders.Acquire = refl
    order_plain orders.Release = refl
    order_plain orders.AcqRel = refl
    order_plain orders.SeqCst = refl

    mode_plain : (m : Mode) → Plain (mode_text m)
    mode_plain modes.Read = refl
    mode_plain modes.Write = refl
    mode_plain modes.Update = refl

    kind_plain : (k : Kind) → Plain (kind_text bundle k)
    kind_plain (kinds.Access mode cell order position value) =
        let a = mode_text mode ++ order_text order in
        let b = a ++ codes " " ++ cell_text cell in
        let c = b ++ codes " " ++ decimal position in
        let pa : Plain a = both (mode_text mode) (order_text order) (mode_plain mode) (order_plain order) in
        let pb : Plain b = both (a ++ codes " ") (cell_text cell) (both a (codes " ") pa refl) (cell_plain cell) in
        let pc : Plain c = both (b ++ codes " ") (decimal position) (both b (codes " ") pb refl) (decimal_plain position) in
        both (c ++ codes " ") (scalar_text bundle value) (both c (codes " ") pc refl) (scalar_plain value)
    kind_plain (kinds.Fence order) = both (codes "fence ") (order_text order) refl (order_plain order)
    kind_plain (kinds.NewStack k) = both (codes "stack s") (decimal k) refl (decimal_plain k)
    kind_plain (kinds.NewThread i) = both (codes "thread t") (decimal i) refl (decimal_plain i)
    kind_plain (kinds.Leave k) = both (codes "leave s") (decimal k) refl (decimal_plain k)
    kind_plain (kinds.Enter k) = both (codes "enter s") (decimal k) refl (decimal_plain k)
    kind_plain (kinds.Wake cell many) =
        both (codes "wake " ++ cell_text cell ++ codes " ") (decimal many) (both (codes "wake " ++ cell_text cell) (codes " ") (both (codes "wake ") (cell_text cell) refl (cell_plain cell)) refl) (decimal_plain many)
    kind_plain (kinds.Woken n) = both (codes "woken ") (decimal n) refl (decimal_plain n)

    case_plain : (k : Case) → Plain (case_text k)
    case_plain cases.DivideByZero = refl
    case_plain cases.NullAccess = refl
    case_plain cases.OutOfRange = refl
    case_plain cases.BadCast = refl
    case_plain cases.DeadCell = refl
    case_plain cases.DataRace = refl
    case_plain cases.StackNotReady = refl
    case_plain cases.StackTypes = refl
    case_plain cases.Uncaught = refl
    case_plain cases.NullCall = refl
    case_plain cases.NoBody = refl
    case_plain cases.ClientMisuse = refl

    race_plain : (r : Option Raced) → Plain (race_text bundle r)
    race_plain None = refl
    race_plain (Some r) =
        let a = codes " " ++ kind_text bundle r.event.kind in
        both (a ++ codes " with ") (decimal r.earlier) (both a (codes " with ") (both (codes " ") (kind_text bundle r.event.kind) refl (kind_plain r.event.kind)) refl) (decimal_plain r.earlier)

    pub ending_plain : (e : Ending) → Plain (ending_text bundle e)
    ending_plain endings.Done = refl
    ending_plain endings.Stop = refl
    ending_plain (endings.Undefined k i block at r) =
        let a = codes "undefined " ++ case_text k in
        let b = a ++ codes " " ++ thread_text i in
        let c = b ++ codes " " ++ place_text bundle block at in
        let pa : Plain a = both (codes "undefined ") (case_text k) refl (case_plain k) in
        let pb : Plain b = both (a ++ codes " ") (thread_text i) (both a (codes " ") pa refl) (thread_plain i) in
        let pc : Plain c = both (b ++ codes " ") (place_text bundle block at) (both b (codes " ") pb refl) (place_plain block at) in
        both c (race_text bundle r) pc (race_plain r)
    ending_plain (endings.HeapFull i asked left) =
        let a = codes "heap full " ++ thread_text i in
        let b = a ++ codes " asked " ++ decimal asked in
        let pa : Plain a = both (codes "heap full ") (thread_text i) refl (thread_plain i) in
        let pb : Plain b = both (a ++ codes " asked ") (decimal asked) (both a (codes " asked ") pa refl) (decimal_plain asked) in
        both (b ++ codes " left ") (decimal left) (both b (codes " left ") pb refl) (decimal_plain left)
    ending_plain (endings.ThreadsFull i) = both (codes "threads full ") (thread_text i) refl (thread_plain i)
    ending_plain (endings.AllWaiting is) = both (codes "all waiting") (spaced thread_text is) refl (spaced_plain thread_text thread_plain is)
    ending_plain (endings.Budget n) = both (codes "budget ") (decimal n) refl (decimal_plain n)

    pub ending_begins : (e : Ending) → begins_with_digit (ending_text bundle e) ≡ false
    ending_begins endings.Done = refl
    ending_begins endings.Stop = refl
    ending_begins (endings.Undefined k i block at r) = refl
    ending_begins (endings.HeapFull i asked left) = refl
    ending_begins (endings.ThreadsFull i) = refl
    ending_begins (endings.AllWaiting is) = refl
    ending_begins (endings.Budget n) = refl
