-- At a place of an accepted bundle, with values that fit the variables there, each operand has a value that fits.
use Rattle.std.proofs.Common.{◌≡◌, ◌<◌, nat_lt, ℕ, zero, suc, Bool, true, false, List, [], ◌∷◌, ◌++◌, Option, Some, None, IsSomeAnd, length, map, take, slice_get, is_some, nat_eq, if◌then◌else◌, refl, sym, ◌∙◌, ap, subst, append_assoc, append-nil, arith}
use Rattle.std.proofs.lemmas.Bool.Decides.{nat_tests}
use Rattle.std.specs.Option.{option_map_or}
use Rattle.demands.specs.Demands.{AllMet, none}
use Rattle.name_scopes.specs.Names.{found}
use Rattle.ir_lex.specs.declared.name.Name.{Name}
use Rattle.ir_tree.specs.declared.operands.Operand.TheVariants.{Local}
use Rattle.ir_tree.specs.declared.code.Block.{Block}
use Rattle.ir_tree.specs.declared.code.Inst.{Inst}
use Rattle.ir_tree.specs.declared.items.Funcdef.{Funcdef}
use Rattle.ir_tree.specs.declared.items.Item.{Item}
use Rattle.type_definitions.specs.declared.definition.TypeDef.{TypeDef}
use Rattle.type_definitions.specs.declared.definition.TypeDef.TheVariants as types
use Rattle.type_definitions.specs.Class.{class_of}
use Rattle.mu_values.specs.declared.scalars.Scalar.TheVariants.{Int}
use Rattle.check_tables.specs.declared.fault.CheckKind.TheVariants.{OperandType}
use Rattle.check_tables.specs.declared.tables.Tables.{Tables}
use Rattle.check_tables.specs.Types.{class_at, definition_at}
use Rattle.check_tables.specs.TypeTests.{is_int64}
use Rattle.checked_code.specs.declared.scopes.Variable.{Variable}
use Rattle.checked_code.specs.declared.scopes.Locals.{Locals}
use Rattle.checked_code.specs.declared.scopes.Body.{Body}
use Rattle.checked_code.specs.declared.code.Source.{Source}
use Rattle.checked_code.specs.Operands.{is_class, variable_class, variable_demands, source_of}
use Rattle.checked_code.specs.Instructions.{after, after_all, gives, is_ending, inst_demands, insts_demands, keepalive_of, exceptional_of, normal_of}
use Rattle.bundle_laws.specs.Typed.{joined, SourceFits, Int64Fits, LocalsFit}
use Rattle.bundle_laws.specs.TypedLaws.{all_gives}
use Rattle.bundle_laws.specs.Lemmas.TypedOperands.{operand_fits, int64_fits}
use Rattle.bundle_laws.specs.Lemmas.TypedInstructions.{after_fits, after_classes}
use Rattle.checked_code.specs.Checking.{bundle_tables}
use Rattle.typed_heap.specs.Fits.{World, DefinitionFits}
use Rattle.frames.specs.Activations.{Value}
use Rattle.mu_model.specs.Types.{type_graph}
use Rattle.mu_model.specs.Operands.{Scope, tables_in, variables, value_named, scalar_in}
use Rattle.mu_model.specs.Programs.{kept_class}
use Rattle.model_laws.specs.Lemmas.Fitting.{Grows as Later, globals_more, values_append, values_more}
use Rattle.model_numbers.specs.Sources.{value_at}
use Rattle.model_numbers.specs.Lemmas.Names.{Stay, all_stay}
use Rattle.model_numbers.specs.Lemmas.Operands.{ScopeFits, value_same, int64_same}
use Rattle.bundle_facts.specs.Lemmas.Accepted as facts
use Rattle.typed_programs.specs.Lemmas.Blocks.{scope_of}
use Rattle.typed_programs.specs.Lemmas.Classes.{int_is}
use Rattle.typed_programs.specs.Lemmas.Sources.{graph_of, Moment, source_fits, one_leaf}
use Rattle.operand_laws.specs.Asked.{Asked, Wanted, OfClass, Int64, of_class, form_operands, optional_operands, operands_before, operands_after}
use Rattle.operand_laws.specs.Laws.{IsInt, Fits, HasValue, HaveValues, body_in, kept_operands, OperandsHaveValues}
use Rattle.operand_laws.proofs.Demanded.{both_of, each_more, IsDemanded, IsDemandedOf, AreDemanded, form_demanded, optional_exceptional_demanded, optional_normal_demanded}

-- ---- an instruction, with what the checker knows of the variables before it

-- the variables after the instructions that are left are those of the block
pub record IsKnown (s : Scope) (ls : Locals) (left : List Inst) : Type 0 where
  pub whole : after_all (tables_in s) ls left ≡ variables s
  pub fits : LocalsFit ls

knows : (s : Scope) (ls : Locals) (left : List Inst) → IsKnown s ls left → ScopeFits s ls
knows s ls left k =
    let stay : Stay ls (after_all (tables_in s) ls left) = all_stay (tables_in s) ls left in
    record {
      each = λ name v e. subst (λ (l : Locals). found l.names name ≡ Some v) k.whole (stay.names name v e);
      fits = k.fits;
      more = λ n c e. subst (λ (l : Locals). slice_get l.classes n ≡ Some c) k.whole (stay.classes n c e);
    }

-- the instruction at a place of a list, before which these are the classes of the variables
pub record Met (s : Scope) (is : List Inst) (at : ℕ) (ks : List ℕ) : Type 0 where
  pub inst : Inst
  pub there : slice_get is at ≡ Some inst
  pub locals : Locals
  pub ended : Bool
  pub met : AllMet (inst_demands (tables_in s) (body_in s) locals ended inst)
  pub classes : locals.classes ≡ ks
  pub known : ScopeFits s locals
  pub later : ScopeFits s (after (tables_in s) locals inst)

pub insts_met : (s : Scope) (ls : Locals) (ended : Bool) (is : List Inst) (at : ℕ) → IsKnown s ls is → AllMet (insts_demands (tables_in s) (body_in s) ls ended is) → at < length is →
    Met s is at (ls.classes ++ joined (take at (all_gives (tables_in s) is)))
insts_met s ls ended [] at k m low = absurd (omega arith)
insts_met s ls ended (i ∷ is) zero k m low = record {
  inst = i;
  there = refl;
  locals = ls;
  ended = ended;
  met = m.0;
  classes = sym (append-nil ls.classes);
  known = knows s ls (i ∷ is) k;
  later = knows s (after (tables_in s) ls i) is (record { whole = k.whole; fits = after_fits (tables_in s) ls i k.fits });
}
insts_met s ls ended (i ∷ is) (suc at) k m low =
    let p : Tables = tables_in s in
    let rest = insts_met s (after p ls i) (is_ending i.op) is at (record { whole = k.whole; fits = after_fits p ls i k.fits }) m.1 (omega (arith, low)) in
    record {
      inst = rest.inst;
      there = rest.there;
      locals = rest.locals;
      ended = rest.ended;
      met = rest.met;
      classes =
          rest.classes
          ∙ ap (λ (cs : List ℕ). cs ++ joined (take at (all_gives p is))) (after_classes p (body_in s) ls ended i m.0)
          ∙ append_assoc ls.classes (gives p i.op) (joined (take at (all_gives p is)));
      known = rest.known;
      later = rest.later;
    }

-- ---- one operand

is_int64_there : (d : Option TypeDef) → is_int64 d ≡ true → d ≡ Some (types.Int 64)
is_int64_there (Some (types.Int w)) h = let e : w ≡ 64 = grind (arith, nat_tests) in ap (λ (x : ℕ). Some (types.Int x)) e
is_int64_there _ h = cc

-- a value whose one scalar is an integer
one_int : (graph : List TypeDef) (w : World) (width : ℕ) (o : Option Value) → IsSomeAnd (scalar_in o) (DefinitionFits graph w (types.Int width)) → IsSomeAnd o (IsInt width)
one_int graph w width None h = absurd h
one_int graph w width (Some []) h = absurd h
one_int graph w width (Some (Int v n ∷ [])) h = (n, ap (λ (x : ℕ). Int x n ∷ []) h.0, h.1)
one_int graph w width (Some (_ ∷ [])) h = absurd h
one_int graph w width (Some (x ∷ y ∷ ss)) h = absurd h

module _ (bundle : List Item) (r : Moment bundle) where
  int64_value : (s : Source) → Int64Fits (bundle_tables bundle) r.classes s → IsSomeAnd (value_at bundle r.values s) (IsInt 64)
  int64_value s h =
      let written : definition_at (bundle_tables bundle).types h.0 ≡ Some (types.Int 64) = is_int64_there (definition_at (bundle_tables bundle).types h.0) h.2 in
      let c : class_at (bundle_tables bundle).types h.0 ≡ Some (class_of (graph_of bundle) h.0) = by (nat_lt h.0 (bundle_tables bundle).types.written) written in
      let k = int_is bundle r.names r.checked h.0 (class_of (graph_of bundle) h.0) 64 c written in
      let leaf = sym (facts.classes_are_defined bundle r.names r.checked h.0 (class_of (graph_of bundle) h.0) c).class.leaves ∙ k.class.leaf in
      one_int (graph_of bundle) r.world 64 (value_at bundle r.values s) (one_leaf bundle r h.0 (class_of (graph_of bundle) h.0) (types.Int 64) s leaf k.class.definition h.1)
    where
      by : (b : Bool) → (if b then slice_get (graph_of bundle) h.0 else None) ≡ Some (types.Int 64) → (if b then Some (class_of (graph_of bundle) h.0) else None) ≡ Some (class_of (graph_of bundle) h.0)
      by true e = refl
      by false e = cc

  class_value : (s : Source) (c : Option ℕ) → IsSomeAnd c (λ k. SourceFits (bundle_tables bundle) r.classes s k) → IsSomeAnd (value_at bundle r.values s) (Fits (bundle_tables bundle) r.world (OfClass c))
  class_value s None h = absurd h
  class_value s (Some k) h = source_fits bundle r s k h

  module _ (definition : Funcdef) (first : ℕ) (block : Block) (ls : Locals) (fits : ScopeFits (scope_of bundle definition first block) ls) (same : ls.classes ≡ r.classes) where
    -- an operand of which the checker demands what is asked
    has_value : (a : Asked) → IsDemanded (bundle_tables bundle) ls a → HasValue (scope_of bundle definition first block) r.world r.values a
    has_value a m = by a.wanted m
      where
        p : Tables
        p = bundle_tables bundle

        s : Scope
        s = scope_of bundle definition first block

        by : (wanted : Wanted) → IsDemandedOf p ls a.operand wanted → IsSomeAnd (value_named s r.values a.operand) (Fits p r.world wanted)
        by (OfClass c) m =
            subst (λ (o : Option Value). IsSomeAnd o (Fits p r.world (OfClass c))) (sym (value_same s ls r.values fits a.operand c m))
            (class_value (source_of p ls a.operand) c
            (subst (λ (ks : List ℕ). IsSomeAnd c (λ k. SourceFits p ks (source_of p ls a.operand) k)) same (operand_fits p ls OperandType a.operand c fits.fits m)))
        by Int64 m =
            subst (λ (o : Option Value). IsSomeAnd o (IsInt 64)) (sym (int64_same s ls r.values fits a.operand m))
            (int64_value (source_of p ls a.operand) (subst (λ (ks : List ℕ). Int64Fits p ks (source_of p ls a.operand)) same (int64_fits p ls a.operand fits.fits m)))

    pub have_values : (xs : List Asked) → AreDemanded (bundle_tables bundle) ls xs → HaveValues (scope_of bundle definition first block) r.world r.values xs
    have_values xs m = each_more (IsDemanded (bundle_tables bundle) ls) (HasValue (scope_of bundle definition first block) r.world r.values) xs has_value m

    -- a variable that is kept, of its own class
    kept_demanded : (n : Name) (o : Option Variable) → found ls.names n.text ≡ o → is_some o ≡ true →
        IsDemanded (bundle_tables bundle) ls (of_class (Local n) (kept_class (scope_of bundle definition first block) n))
    kept_demanded n None e there = cc
    kept_demanded n (Some v) e there =
        let s : Scope = scope_of bundle definition first block in
        let own : nat_eq v.class v.class ≡ true = grind arith in
        (ap (λ (o : Option Variable). is_some o) e, ap (λ (o : Option Variable). is_class (variable_class o) (kept_class s n)) e ∙ ap (λ (o : Option Variable). is_class (Some v.class) (variable_class o)) (fits.each n.text v e) ∙ own)

    kept_have_values : (ns : List Name) → AllMet (variable_demands ls ns) →
        HaveValues (scope_of bundle definition first block) r.world r.values (map (λ n. of_class (Local n) (kept_class (scope_of bundle definition first block) n)) ns)
    kept_have_values [] m = tt
    kept_have_values (n ∷ ns) m = (has_value (of_class (Local n) (kept_class (scope_of bundle definition first block) n)) (kept_demanded n (found ls.names n.text) refl m.0), kept_have_values ns m.1)

    pub all_kept : (ns : Option (List Name)) → AllMet (option_map_or (variable_demands ls) ns none) → HaveValues (scope_of bundle definition first block) r.world r.values (kept_operands (scope_of bundle definition first block) ns)
    all_kept None m = tt
    all_kept (Some ns) m = kept_have_values ns m

-- ---- an instruction

module _ (bundle : List Item) (r : Moment bundle) (definition : Funcdef) (first : ℕ) (block : Block) (is : List Inst) (at : ℕ) where
  pub operands_have_values : (m : Met (scope_of bundle definition first block) is at r.classes) → OperandsHaveValues (scope_of bundle definition first block) r.world r.values m.inst.op
  unfolding inst_demands
  operands_have_values m = record {
    before = have_values bundle r definition first block m.locals m.known m.classes (operands_before p f i.op)
        (both_of (IsDemanded p m.locals) (form_operands p f i.op) (optional_operands f (exceptional_of i.op)) (form_demanded p f m.locals i.op m.met.1.1.0)
        (optional_exceptional_demanded p f m.locals (exceptional_of i.op) m.met.1.1.1.1.0));
    kept = all_kept bundle r definition first block m.locals m.known m.classes (keepalive_of i.op) m.met.1.1.1.1.1;
    after = λ later more results fit.
        let g : Later r.world later = record { objects = more.objects; signatures = more.signatures; stacks = more.stacks; threads = more.threads } in
        have_values bundle
        (record {
          names = r.names;
          checked = r.checked;
          world = later;
          globals = globals_more p r.world later g r.globals;
          classes = r.classes ++ gives p i.op;
          values = r.values ++ results;
          fit = values_append (type_graph p) later r.classes (gives p i.op) r.values results (values_more (type_graph p) r.world later r.classes r.values g r.fit) fit;
        })
        definition first block (after p m.locals i) m.later
        (after_classes p f m.locals m.ended i m.met ∙ ap (λ (ks : List ℕ). ks ++ gives p i.op) m.classes) (operands_after f i.op)
        (optional_normal_demanded p f (after p m.locals i) (normal_of i.op) m.met.1.1.1.0);
  }
    where
      p : Tables
      p = bundle_tables bundle

      f : Body
      f = body_in (scope_of bundle definition first block)

      i : Inst
      i = m.inst
