-- What is said of instructions among sample types, globals, blocks and variables.
use Rattle.std.specs.Prelude.{◌≡◌, refl, ℕ, true, false, List, [], ◌∷◌, ◌++◌, map, ◌+◌, ◌*◌, Option, Some, None, Result, Ok, Err, codes}
use Rattle.text_forms.specs.declared.fault.Fault as texts
use Rattle.demands.specs.declared.fault.Fault.{Fault}
use Rattle.demands.specs.declared.fault.Fault.TheVariants.{At}
use Rattle.demands.specs.Demands.{first_unmet}
use Rattle.name_scopes.specs.Names.{Names}
use Rattle.ir_tree.specs.declared.code.Op.{Op}
use Rattle.ir_tree.specs.declared.code.Inst.{Inst}
use Rattle.ir_tree.specs.Samples.{named}
use Rattle.type_definitions.specs.declared.definition.TypeDef.{TypeDef}
use Rattle.type_definitions.specs.declared.definition.TypeDef.TheVariants.{Int, Struct, Array, Hybrid, Void, Ref, Iref, FuncRef, StackRef, Sig}
use Rattle.type_definitions.specs.Same.{alike}
use Rattle.type_definitions.specs.Class.{class_of}
use Rattle.mu_types.specs.Implied.{complete}
use Rattle.bundle_names.specs.declared.globals.Sort.{Sort}
use Rattle.bundle_names.specs.declared.globals.Sort.TheVariants as sorts
use Rattle.check_tables.specs.declared.fault.CheckKind.{CheckKind}
use Rattle.check_tables.specs.declared.tables.Tables.{Tables}
use Rattle.check_tables.specs.Types.{ref_at, iref_at, funcref_at}
use Rattle.checked_code.specs.declared.scopes.Body.{Body}
use Rattle.checked_code.specs.declared.scopes.Locals.{Locals}
use Rattle.checked_code.specs.declared.scopes.Variable.{Variable}
use Rattle.checked_code.specs.Instructions.{insts_demands}

-- ---- types

-- the types, then the signatures (@long) -> (@long) and () -> ()
abbrev pub sample_types : List TypeDef
sample_types =
    Int 1
    ∷ Int 64
    ∷ Void
    ∷ Ref 2
    ∷ Struct (1 ∷ 0 ∷ [])
    ∷ Array 1 4
    ∷ Hybrid (1 ∷ []) 0
    ∷ Int 32
    ∷ Iref 1
    ∷ Ref 1
    ∷ Array 0 257
    ∷ StackRef
    ∷ FuncRef 14
    ∷ FuncRef 15
    ∷ Sig (1 ∷ []) (1 ∷ [])
    ∷ Sig [] []
    ∷ []

-- no two of them are the same, so the class of each is its number; behind them stand void and the four implied types without
-- arguments, then the two references to each type, so these are the classes of the references to a type that are not written
abbrev pub ref_to : ℕ → ℕ
ref_to t = 21 + 2 * t

abbrev pub iref_to : ℕ → ℕ
iref_to t = 22 + 2 * t

-- ---- global names

abbrev type_names : Names Sort
type_names =
    (codes "@bit", sorts.Written 0)
    ∷ (codes "@long", sorts.Written 1)
    ∷ (codes "@void", sorts.Written 2)
    ∷ (codes "@object", sorts.Written 3)
    ∷ (codes "@pair", sorts.Written 4)
    ∷ (codes "@row", sorts.Written 5)
    ∷ (codes "@tail", sorts.Written 6)
    ∷ (codes "@word", sorts.Written 7)
    ∷ (codes "@place", sorts.Written 8)
    ∷ (codes "@box", sorts.Written 9)
    ∷ (codes "@many", sorts.Written 10)
    ∷ (codes "@stack", sorts.Written 11)
    ∷ []

-- a constant @one of @long and @yes of @bit, a global @cell of @long, and functions @map and @act of the two signatures
abbrev sample_names : Names Sort
sample_names =
    type_names
    ++ (codes "@maps", sorts.Signature 0)
    ∷ (codes "@acts", sorts.Signature 1)
    ∷ (codes "@one", sorts.Constant 0)
    ∷ (codes "@yes", sorts.Constant 1)
    ∷ (codes "@cell", sorts.GlobalCell 0)
    ∷ (codes "@map", sorts.Function 0)
    ∷ (codes "@act", sorts.Function 1)
    ∷ []

abbrev pub sample_tables : Tables
sample_tables =
    record {
      types = record { definitions = complete sample_types; written = 16 };
      globals =
          record {
            names = sample_names;
            declared = [];
            defined = [];
            counts = record { written = 16; signatures = 2; constants = 2; global_cells = 1; functions = 2; declarations = 0; definitions = 0 };
          };
      signatures = record { class = 14; funcref = 12; takes = 1 ∷ []; gives = 1 ∷ [] } ∷ record { class = 15; funcref = 13; takes = []; gives = [] } ∷ [];
      constants = 1 ∷ 0 ∷ [];
      global_cells = 8 ∷ [];
      functions = 0 ∷ 1 ∷ [];
      declarations = [];
    }

-- ---- a function, and the variables of a block of it

-- a block %n without parameters, a block %m of a @long, and a block %h of a @long with a handler; the function gives a @long
abbrev pub sample_body : Body
sample_body =
    record {
      blocks =
          (codes "%n", record { number = 0; takes = []; has_handler = false })
          ∷ (codes "%m", record { number = 1; takes = 1 ∷ []; has_handler = false })
          ∷ (codes "%h", record { number = 2; takes = 1 ∷ []; has_handler = true })
          ∷ [];
      gives = 1 ∷ [];
    }

abbrev variable : ℕ → ℕ → Variable
variable number class = record { number = number; class = class }

-- a variable of each of some types, then references to an object of type @pair and to places of types @pair, @row, @tail and @word
abbrev pub sample_locals : Locals
sample_locals =
    record {
      names =
          (codes "%bit", variable 0 0)
          ∷ (codes "%a", variable 1 1)
          ∷ (codes "%e", variable 2 3)
          ∷ (codes "%pair", variable 3 4)
          ∷ (codes "%word", variable 4 7)
          ∷ (codes "%place", variable 5 8)
          ∷ (codes "%box", variable 6 9)
          ∷ (codes "%stack", variable 7 11)
          ∷ (codes "%pair_box", variable 8 (ref_to 4))
          ∷ (codes "%pair_place", variable 9 (iref_to 4))
          ∷ (codes "%row_place", variable 10 (iref_to 5))
          ∷ (codes "%tail_place", variable 11 (iref_to 6))
          ∷ (codes "%word_place", variable 12 (iref_to 7))
          ∷ [];
      classes =
          0 ∷ 1 ∷ 3 ∷ 4 ∷ 7 ∷ 8 ∷ 9 ∷ 11 ∷ ref_to 4 ∷ iref_to 4 ∷ iref_to 5 ∷ iref_to 6 ∷ iref_to 7 ∷ [];
    }

-- ---- verdicts

abbrev Verdict : Type 0
Verdict = Result (Option (Fault CheckKind)) texts.Fault

abbrev judged : List Inst → Option (Fault CheckKind)
judged insts = first_unmet (insts_demands sample_tables sample_body sample_locals false insts)

abbrev with_results : List (List ℕ) → ℕ × Op → Inst
with_results results x = record { place = x.0; results = map (named 0) results; label = None; op = x.1 }

-- of an instruction with results of these names
abbrev pub verdict : List (List ℕ) → Result (ℕ × Op) texts.Fault → Verdict
verdict results (Ok x) = Ok (judged (with_results results x ∷ []))
verdict results (Err fault) = Err fault

-- of one without results
abbrev pub plain : Result (ℕ × Op) texts.Fault → Verdict
plain = verdict []

-- of one with the result %c
abbrev pub gives_c : Result (ℕ × Op) texts.Fault → Verdict
gives_c = verdict (codes "%c" ∷ [])

-- of one with the results %c and %d
abbrev pub gives_c_d : Result (ℕ × Op) texts.Fault → Verdict
gives_c_d = verdict (codes "%c" ∷ codes "%d" ∷ [])

-- of one with such results, and one without results behind it
abbrev pub in_turn : List (List ℕ) → Result (ℕ × Op) texts.Fault → Result (ℕ × Op) texts.Fault → Verdict
in_turn results (Ok x) (Ok y) = Ok (judged (with_results results x ∷ with_results [] y ∷ []))
in_turn results (Ok x) (Err fault) = Err fault
in_turn results (Err fault) y = Err fault

abbrev pub plain_then : Result (ℕ × Op) texts.Fault → Result (ℕ × Op) texts.Fault → Verdict
plain_then = in_turn []

abbrev pub gives_c_then : Result (ℕ × Op) texts.Fault → Result (ℕ × Op) texts.Fault → Verdict
gives_c_then = in_turn (codes "%c" ∷ [])

-- no demand is unmet, and the first that is
abbrev pub good : Verdict
good = Ok None

abbrev pub at : CheckKind → ℕ → Verdict
at kind place = Ok (Some (At kind place))

-- ---- the samples are what they say

-- the classes of the types and signatures, and of the references to some of them
classes_are_numbers : map (class_of (complete sample_types)) (0 ∷ 1 ∷ 2 ∷ 3 ∷ 4 ∷ 5 ∷ 6 ∷ 7 ∷ 8 ∷ 9 ∷ 10 ∷ 11 ∷ 12 ∷ 13 ∷ 14 ∷ 15 ∷ []) ≡ 0 ∷ 1 ∷ 2 ∷ 3 ∷ 4 ∷ 5 ∷ 6 ∷ 7 ∷ 8 ∷ 9 ∷ 10 ∷ 11 ∷ 12 ∷ 13 ∷ 14 ∷ 15 ∷ []
unfolding alike
classes_are_numbers = refl

references_stand_behind :
    map (iref_at sample_tables.types) (1 ∷ 4 ∷ 5 ∷ 6 ∷ 7 ∷ []) ≡ map (λ t. Some t) (8 ∷ iref_to 4 ∷ iref_to 5 ∷ iref_to 6 ∷ iref_to 7 ∷ [])
unfolding alike
references_stand_behind = refl

boxes_stand_behind : map (ref_at sample_tables.types) (1 ∷ 2 ∷ 4 ∷ []) ≡ map (λ t. Some t) (9 ∷ 3 ∷ ref_to 4 ∷ [])
unfolding alike
boxes_stand_behind = refl

functions_have_classes : map (funcref_at sample_tables.types) (14 ∷ 15 ∷ []) ≡ map (λ t. Some t) (12 ∷ 13 ∷ [])
unfolding alike
functions_have_classes = refl
