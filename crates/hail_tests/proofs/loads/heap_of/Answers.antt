use Rattle.std.proofs.Common.{◌≡◌, ℕ, zero, suc, ◌+◌, ◌<◌, List, [], ◌∷◌, ◌++◌, length, map, take, Some, slice_get, ap, ◌∙◌, sym, add-one}
use Rattle.typed_heap.specs.Objects.{HeapObject, leaf_classes, object_of}
use Rattle.checked_code.specs.Lemmas.ConstantMembers.{holds_at}
use Rattle.hail_load.specs.Code.{code_of}
use Rattle.hail_load.specs.Lemmas.Knowing.{is_known, narrow}
use Rattle.hail_tests.proofs.loads.heap_of.Goals as goal

mapped : (f : ℕ → HeapObject) (xs : List ℕ) (n x : ℕ) → slice_get xs n ≡ Some x → map f (take n xs) ++ f x ∷ [] ≡ map f (take (suc n) xs)
mapped f [] n x e = cc
mapped f (y ∷ xs) zero x e = let same : x ≡ y = cc in ap (λ k. f k ∷ []) same
mapped f (y ∷ xs) (suc n) x e = ap (λ os. f y ∷ os) (mapped f xs n x e)

pub leaves-requires : goal.leaves-requires
leaves-requires c =
    let g = (code_of c.args.code.now).graph in
    rw c.classes-classes.ensures.same (holds_at (λ t. t < length g) (code_of c.args.code.now).globals c.loop-n.n c.global_type-t.result (is_known c.args.code.now c.items-items.ensures.met).globals c.global_type-t.ensures)

pub add_global-requires-clause-t : goal.add_global-requires-clause-t
add_global-requires-clause-t c =
    let g = (code_of c.args.code.now).graph in
    rw c.classes-classes.ensures.same (holds_at (λ t. t < length g) (code_of c.args.code.now).globals c.loop-n.n c.global_type-t.result (is_known c.args.code.now c.items-items.ensures.met).globals c.global_type-t.ensures)

pub add_global-requires-clause-narrow : goal.add_global-requires-clause-narrow
add_global-requires-clause-narrow c =
    rw c.classes-classes.ensures.same (narrow (code_of c.args.code.now) (is_known c.args.code.now c.items-items.ensures.met))

pub loop-n-preserved : goal.loop-n-preserved
loop-n-preserved c =
    let g = (code_of c.args.code.now).graph in
    let xs = (code_of c.args.code.now).globals in
    let f : ℕ → HeapObject = λ t. object_of g (leaf_classes g t) in
    let objects = rw c.classes-classes.ensures.same at c.in_ok-add_global.ensures.objects in
    objects ∙ ap (λ (os : List HeapObject). os ++ f c.global_type-t.result ∷ []) c.loop-n.invariant ∙ mapped f xs c.loop-n.n c.global_type-t.result c.global_type-t.ensures ∙ ap (λ k. map f (take k xs)) (sym (add-one c.loop-n.n))
