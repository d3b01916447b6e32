-- Lists that go on from nothing.
use Rattle.std.proofs.Common.{◌≡◌, List, [], ◌∷◌, refl}
use Rattle.std.specs.Prelude.{Result, Ok, Err}
use Rattle.text_forms.specs.declared.fault.Fault.{Fault}
use Rattle.text_forms.specs.Tokens.{Tok}
use Rattle.text_forms.specs.declared.symbol.Symbol.{Symbol}
use Rattle.text_forms.specs.declared.symbol.Symbol.TheVariants as symbols
use Rattle.text_forms.specs.Forms.{both, up_to_from}
use Rattle.text_forms.specs.Reading.{◌>>=◌, read}
use Rattle.text_forms.specs.Answers.{kept, with_front}
use Rattle.ir_lex.specs.declared.name.Name.{Name}
use Rattle.ir_lex.specs.TokenForms.{name}
use Rattle.ir_tree.specs.declared.code.Inst.{Inst}
use Rattle.ir_tree.specs.Lists.{local}
use Rattle.ir_tree.specs.Blocks.{result}
use Rattle.ir_tree.specs.Bodies.{more_results}
use Rattle.ir_text.specs.NameLists.{at_least_one}

-- behind nothing a list is read as it stands
pub front-nothing : {A : Type 0} (r : Result (List A × List Tok) Fault) → with_front [] r ≡ r
front-nothing (Ok x) = refl
front-nothing (Err e) = refl

-- ---- one after the other

abbrev pub paired : {A B : Type 0} → A → Result (B × List Tok) Fault → Result ((A × B) × List Tok) Fault
paired a r = r >>= λ y. Ok ((a, y.0), y.1)

abbrev pub then_read : {A B : Type 0} → Result (A × List Tok) Fault → (List Tok → Result (B × List Tok) Fault) → Result ((A × B) × List Tok) Fault
then_read a f = a >>= λ x. paired x.0 (f x.1)

abbrev pub in_front : {A : Type 0} → Result ((A × List A) × List Tok) Fault → Result (List A × List Tok) Fault
in_front r = kept (λ x. x.0 ∷ x.1) r

-- behind a first member, and then put in front of the others
pub behind_first : {A : Type 0} (first : A) (r : Result (List A × List Tok) Fault) → in_front (paired first r) ≡ with_front (first ∷ []) r
behind_first first (Ok x) = refl
behind_first first (Err e) = refl

pub at_least_one_read : (xs : List Symbol) (closing : Symbol) (ts rest : List Tok) (first : Name) → read (name xs) ts ≡ Ok (first, rest)
    → read (at_least_one xs closing) ts ≡ with_front (first ∷ []) (read (up_to_from 1 256 (closing ∷ []) (name xs)) rest)
at_least_one_read xs closing ts rest first e = rw e (behind_first first (read (up_to_from 1 256 (closing ∷ []) (name xs)) rest))

-- ---- a list with at least one name and an instruction behind it: the first name, the others and the instruction in turn, or the
-- list and then the instruction

abbrev in_front_of_both : Result ((Name × (List Name × Inst)) × List Tok) Fault → Result ((List Name × Inst) × List Tok) Fault
in_front_of_both r = kept (λ x. (x.0 ∷ x.1.0, x.1.1)) r

last_group : (first : Name) (names : List Name) (r : Result (Inst × List Tok) Fault) → in_front_of_both (paired first (paired names r)) ≡ paired (first ∷ names) r
last_group first names (Ok z) = refl
last_group first names (Err e) = refl

group_behind : (first : Name) (r : Result (List Name × List Tok) Fault) (c : List Tok → Result (Inst × List Tok) Fault) → in_front_of_both (paired first (then_read r c)) ≡ then_read (in_front (paired first r)) c
group_behind first (Ok y) c = last_group first y.0 (c y.1)
group_behind first (Err e) c = refl

grouped : (a : Result (Name × List Tok) Fault) (b : List Tok → Result (List Name × List Tok) Fault) (c : List Tok → Result (Inst × List Tok) Fault) →
    in_front_of_both (then_read a (λ ts. then_read (b ts) c)) ≡ then_read (in_front (then_read a b)) c
grouped (Ok x) b c = group_behind x.0 (b x.1) c
grouped (Err e) b c = refl

pub more_results_grouped : (ts : List Tok) → read more_results ts ≡ read (both (at_least_one (symbols.Local ∷ []) symbols.Close) result) ts
unfolding local more_results
more_results_grouped ts = grouped (read (name (symbols.Local ∷ [])) ts) (read (up_to_from 1 256 (symbols.Close ∷ []) (name (symbols.Local ∷ [])))) (read result)
