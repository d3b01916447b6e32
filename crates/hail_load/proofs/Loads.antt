-- What is loaded when a script ends, or is refused.
use Rattle.std.proofs.Common.{◌≡◌, ℕ, suc, ◌+◌, ◌<◌, List, [], ◌∷◌, ◌++◌, length, take, drop, get_or, Some, None, Ok, Err, sym, ap, subst, ◌∙◌, add-one}
use Rattle.std.proofs.lemmas.List.{take-append-drop}
use Rattle.std.proofs.Math.Seq.{take-suc, drop-cons}
use Rattle.demands.specs.declared.fault.Fault.{Fault}
use Rattle.demands.specs.declared.fault.Fault.TheVariants.{Memory, At}
use Rattle.name_scopes.specs.Names.{Names}
use Rattle.typed_heap.specs.Heap.{HeapContents}
use Rattle.hail_load.specs.declared.fault.LoadKind.{LoadKind}
use Rattle.hail_load.specs.declared.parts.Made.{Made}
use Rattle.hail_load.specs.declared.tree.Command.{Command}
use Rattle.hail_load.specs.Code.{Code}
use Rattle.hail_load.specs.Fitting.{Store}
use Rattle.hail_load.specs.Loading.{Loaded, done}
use Rattle.hail_load.specs.LoadAnswers.{Holds, Loads, loaded_from}
use Rattle.hail_load.specs.Answering.{Makes, IsSame, store_of}
use Rattle.hail_load.specs.Lemmas.Steps.{load_more, load_refused}

-- as far as so many commands are done
abbrev pub IsSoFar : Code → HeapContents → List Command → ℕ → HeapContents → Names Made → Type 0
IsSoFar c old commands i here es = loaded_from c old (take i commands) ≡ record { store = store_of here es; fault = None }

abbrev begun : HeapContents → Store
begun old = record { objects = old.objects; left = old.left; made = [] }

one_more : (xs : List Command) (i : ℕ) (x : Command) → i < length xs → x ≡ get_or xs i x → take (i + 1) xs ≡ take i xs ++ x ∷ []
one_more xs i x l e = ap (λ n. take n xs) (add-one i) ∙ take-suc xs i x l ∙ ap (λ (y : Command). take i xs ++ y ∷ []) (sym e)

split_at : (xs : List Command) (i : ℕ) (x : Command) → i < length xs → x ≡ get_or xs i x → xs ≡ take i xs ++ x ∷ drop (suc i) xs
split_at xs i x l e = sym (take-append-drop i xs) ∙ ap (λ ys. take i xs ++ ys) (drop-cons xs i x l ∙ ap (λ (y : Command). y ∷ drop (suc i) xs) (sym e))

pub loads_more : (c : Code) (old here next : HeapContents) (commands : List Command) (i : ℕ) (x : Command) (es fs : Names Made) → i < length commands → x ≡ get_or commands i x → IsSoFar c old commands i here es →
    done c (store_of here es) x ≡ Ok (store_of next fs) → IsSoFar c old commands (i + 1) next fs
loads_more c old here next commands i x es fs l e far step =
    ap (λ (xs : List Command). loaded_from c old xs) (one_more commands i x l e) ∙ load_more c (begun old) (store_of here es) (store_of next fs) (take i commands) x far step

pub loads_refused : (c : Code) (old here new : HeapContents) (commands : List Command) (i : ℕ) (x : Command) (es : Names Made) (next : Store) (e : Fault LoadKind) → i < length commands → x ≡ get_or commands i x →
    IsSoFar c old commands i here es → Makes (done c (store_of here es) x) next (Err e) → IsSame here new → Loads c commands old new (Err e)
loads_refused c old here new commands i x es next Memory l k far step same = (i, ap (λ (r : Loaded). r.fault) far, subst (λ (r : Loaded). Holds r.store new) (sym far) same)
loads_refused c old here new commands i x es next (At kind place) l k far step same =
    let all : loaded_from c old commands ≡ record { store = store_of here es; fault = Some (At kind place) } =
    ap (λ (xs : List Command). loaded_from c old xs) (split_at commands i x l k) ∙ load_refused c (record { objects = old.objects; left = old.left; made = [] }) (store_of here es) (take i commands) (drop (suc i) commands) x (At kind place) far step in
    (ap (λ (r : Loaded). r.fault) all, subst (λ (r : Loaded). Holds r.store new) (sym all) same)
