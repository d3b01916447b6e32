-- A local name stands for the variable at its place among the names of the block.
use Rattle.std.proofs.Common.{◌≡◌, ℕ, suc, ◌+◌, Bool, true, false, List, [], ◌∷◌, ◌++◌, Option, Some, None, map, flat_map, length, slice_get, option_map, option_to_list, position, bytes_eq, cond, if◌then◌else◌, refl, sym, ◌∙◌, ap, subst, append_assoc, append-nil, length-append, arith}
use Rattle.std.specs.List.{position_from}
use Rattle.std.proofs.lemmas.Iterator.Adapters.{position_from-zero}
use Rattle.demands.specs.Demands.{AllMet, first_unmet, or_else}
use Rattle.name_scopes.specs.Names.{found}
use Rattle.demands.specs.Lemmas.Meeting.{all_met}
use Rattle.ir_lex.specs.declared.name.Name.{Name}
use Rattle.ir_tree.specs.declared.code.Inst.{Inst}
use Rattle.ir_tree.specs.declared.code.Parameter.{Parameter}
use Rattle.ir_tree.specs.declared.items.Item.{Item}
use Rattle.bundle_names.specs.Naming.{name_demands}
use Rattle.check_tables.specs.declared.tables.Tables.{Tables}
use Rattle.check_tables.specs.Types.{ref_void}
use Rattle.check_tables.specs.Lookups.{noted_class}
use Rattle.checked_code.specs.declared.scopes.Body.{Body}
use Rattle.checked_code.specs.declared.scopes.Locals.{Locals}
use Rattle.checked_code.specs.declared.scopes.Variable.{Variable}
use Rattle.checked_code.specs.Instructions.{no_locals, bound, bound_results, after, after_all, gives, inst_demands, insts_demands, is_ending}
use Rattle.bundle_laws.specs.Lemmas.TypedOperands.{nat_eq_is}
use Rattle.checked_code.specs.Blocks.{bound_parameters, bound_handler, head_locals}
use Rattle.checked_code.specs.Checking.{check_demands}
use Rattle.typed_heap.specs.Places.{with_some}
use Rattle.frames.specs.Activations.{Value}
use Rattle.mu_model.specs.Operands.{Scope, tables_in, variables, local_value}
use Rattle.mu_model.specs.Programs.{scopes_of}
use Rattle.model_numbers.specs.Laws.{variable_names}
use Rattle.model_numbers.specs.Lemmas.Names.{found_added}
use Rattle.model_numbers.specs.Lemmas.Operands.{body}
use Rattle.model_numbers.proofs.Scopes.{IsMet, each_of, scopes_met}

abbrev is_name : List ℕ → Name → Bool
is_name name n = bytes_eq name n.text

abbrev number_in : Option Variable → Option ℕ
number_in o = option_map (λ (v : Variable). v.number) o

-- each name stands for the variable at its place
record AreNamed (ls : Locals) (ns : List Name) : Type 0 where
  many : length ls.classes ≡ length ns
  each : (name : List ℕ) → number_in (found ls.names name) ≡ position_from (is_name name) 0 ns

none_named : AreNamed no_locals []
none_named = record { many = refl; each = λ name. refl }

-- ---- one more name

at_end : (name : List ℕ) (k : ℕ) (ns : List Name) (n : Name) →
    position_from (is_name name) k (ns ++ n ∷ []) ≡ or_else (position_from (is_name name) k ns) (cond (is_name name n) (Some (k + length ns)) None)
at_end name k [] n = let same : k ≡ k + 0 = omega arith in ap (λ (m : ℕ). cond (is_name name n) (Some m) None) same
at_end name k (x ∷ ns) n = by (is_name name x) (at_end name (k + 1) ns n)
  where
    same : (k + 1) + length ns ≡ k + suc (length ns)
    same = omega arith

    by : (c : Bool) → position_from (is_name name) (k + 1) (ns ++ n ∷ []) ≡ or_else (position_from (is_name name) (k + 1) ns) (cond (is_name name n) (Some ((k + 1) + length ns)) None) →
        cond c (Some k) (position_from (is_name name) (k + 1) (ns ++ n ∷ []))
        ≡ or_else (cond c (Some k) (position_from (is_name name) (k + 1) ns)) (cond (is_name name n) (Some (k + suc (length ns))) None)
    by true rest = refl
    by false rest = rest ∙ ap (λ (m : ℕ). or_else (position_from (is_name name) (k + 1) ns) (cond (is_name name n) (Some m) None)) same

bound_named : (ls : Locals) (ns : List Name) (n : Name) (c : ℕ) → AreNamed ls ns → AreNamed (bound ls n c) (ns ++ n ∷ [])
bound_named ls ns n c named = record {
  many = omega (arith, named.many, length-append ls.classes (c ∷ []), length-append ns (n ∷ []));
  each = λ name.
      ap number_in (found_added ls.names n.text name (record { number = length ls.classes; class = c }))
      ∙ by (found ls.names name) (is_name name n)
      ∙ ap (λ (o : Option ℕ). or_else o (cond (is_name name n) (Some (length ls.classes)) None)) (named.each name)
      ∙ ap (λ (m : ℕ). or_else (position_from (is_name name) 0 ns) (cond (is_name name n) (Some m) None)) at
      ∙ sym (at_end name 0 ns n);
}
  where
    at : length ls.classes ≡ 0 + length ns
    at = omega (arith, named.many)

    by : (o : Option Variable) (b : Bool) → number_in (or_else o (if b then Some (record { number = length ls.classes; class = c }) else None))
        ≡ or_else (number_in o) (cond b (Some (length ls.classes)) None)
    by (Some v) b = refl
    by None true = refl
    by None false = refl

-- ---- those of a block

parameters_named : (p : Tables) (ls : Locals) (ns : List Name) (qs : List Parameter) → AreNamed ls ns → AreNamed (bound_parameters p ls qs) (ns ++ map (λ (q : Parameter). q.name) qs)
parameters_named p ls ns [] named = subst (λ (xs : List Name). AreNamed ls xs) (sym (append-nil ns)) named
parameters_named p ls ns (q ∷ qs) named =
    subst (λ (xs : List Name). AreNamed (bound_parameters p ls (q ∷ qs)) xs) (append_assoc ns (q.name ∷ []) (map (λ (q : Parameter). q.name) qs))
    (parameters_named p (bound ls q.name (noted_class p q.of_type)) (ns ++ q.name ∷ []) qs (bound_named ls ns q.name (noted_class p q.of_type) named))

handler_named : (p : Tables) (ls : Locals) (ns : List Name) (handler : Option Name) → AreNamed ls ns → AreNamed (bound_handler p ls handler) (ns ++ option_to_list handler)
handler_named p ls ns None named = subst (λ (xs : List Name). AreNamed ls xs) (sym (append-nil ns)) named
handler_named p ls ns (Some n) named = bound_named ls ns n (ref_void p.types) named

results_named : (ls : Locals) (ns rs : List Name) (cs : List ℕ) → length rs ≡ length cs → AreNamed ls ns → AreNamed (bound_results ls rs cs) (ns ++ rs)
results_named ls ns [] cs many named = subst (λ (xs : List Name). AreNamed ls xs) (sym (append-nil ns)) named
results_named ls ns (r ∷ rs) [] many named = absurd (omega (arith, many))
results_named ls ns (r ∷ rs) (c ∷ cs) many named =
    subst (λ (xs : List Name). AreNamed (bound_results ls (r ∷ rs) (c ∷ cs)) xs) (append_assoc ns (r ∷ []) rs)
    (results_named (bound ls r c) (ns ++ r ∷ []) rs cs (omega (arith, many)) (bound_named ls ns r c named))

-- an instruction has as many results as it gives
as_many : (p : Tables) (f : Body) (ls : Locals) (ended : Bool) (i : Inst) → AllMet (inst_demands p f ls ended i) → length i.results ≡ length (gives p i.op)
unfolding inst_demands
as_many p f ls ended i met = nat_eq_is (length i.results) (length (gives p i.op)) met.1.0

insts_named : (p : Tables) (f : Body) (ls : Locals) (ended : Bool) (ns : List Name) (is : List Inst) → AllMet (insts_demands p f ls ended is) → AreNamed ls ns →
    AreNamed (after_all p ls is) (ns ++ flat_map (λ (i : Inst). i.results) is)
insts_named p f ls ended ns [] met named = subst (λ (xs : List Name). AreNamed ls xs) (sym (append-nil ns)) named
insts_named p f ls ended ns (i ∷ is) met named =
    subst (λ (xs : List Name). AreNamed (after_all p ls (i ∷ is)) xs) (append_assoc ns i.results (flat_map (λ (i : Inst). i.results) is))
    (insts_named p f (after p ls i) (is_ending i.op) (ns ++ i.results) is met.1 (results_named ls ns i.results (gives p i.op) (as_many p f ls ended i met.0) named))

variables_named : (s : Scope) → IsMet s → AreNamed (variables s) (variable_names s.block)
variables_named s met =
    let p = tables_in s in
    let h = s.block.head in
    let parameters = map (λ (q : Parameter). q.name) h.parameters in
    insts_named p (body s) (head_locals p h) false (parameters ++ option_to_list h.handler) s.block.insts met
    (handler_named p (bound_parameters p no_locals h.parameters) parameters h.handler (parameters_named p no_locals [] h.parameters none_named))

-- ---- values

by_number : (vars : List Value) (o : Option Variable) → with_some o (λ (v : Variable). slice_get vars v.number) ≡ with_some (number_in o) (slice_get vars)
by_number vars None = refl
by_number vars (Some v) = refl

pub local_is : (bundle : List Item) → first_unmet (name_demands bundle) ≡ None → first_unmet (check_demands bundle) ≡ None → (block : ℕ) (s : Scope) → slice_get (scopes_of bundle) block ≡ Some s →
    (vars : List Value) (n : Name) → local_value s vars n ≡ with_some (position (is_name n.text) (variable_names s.block)) (slice_get vars)
unfolding check_demands
local_is bundle names checked block s there vars n =
    let met : IsMet s = each_of IsMet (scopes_of bundle) block s (scopes_met bundle 0 bundle (all_met (check_demands bundle) checked).1) there in
    by_number vars (found (variables s).names n.text)
    ∙ ap (λ (o : Option ℕ). with_some o (slice_get vars)) ((variables_named s met).each n.text)
    ∙ ap (λ (o : Option ℕ). with_some o (slice_get vars)) (sym (position_from-zero (is_name n.text) (variable_names s.block)))
