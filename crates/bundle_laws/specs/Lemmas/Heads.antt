-- The variables at the head of a block: the number of each finds its class, and the classes are those of the parameters and the handler.
use Rattle.std.proofs.Common.{◌≡◌, ℕ, List, [], ◌∷◌, ◌++◌, Option, Some, None, refl, sym, ◌∙◌, ap, append_assoc, append-nil}
use Rattle.ir_lex.specs.declared.name.Name.{Name}
use Rattle.ir_tree.specs.declared.code.Parameter.{Parameter}
use Rattle.ir_tree.specs.declared.code.BlockHead.{BlockHead}
use Rattle.check_tables.specs.declared.tables.Tables.{Tables}
use Rattle.check_tables.specs.Types.{ref_void}
use Rattle.check_tables.specs.Lookups.{noted_class}
use Rattle.checked_code.specs.declared.scopes.Locals.{Locals}
use Rattle.checked_code.specs.Instructions.{no_locals, bound}
use Rattle.bundle_laws.specs.Typed.{LocalsFit}
use Rattle.bundle_laws.specs.Lemmas.TypedVariables.{no_locals_fit, bound_fits}
use Rattle.checked_code.specs.Blocks.{bound_parameters, bound_handler, head_locals, parameter_classes}
use Rattle.bundle_laws.specs.Accepted.{handler_classes, head_classes}

parameters_fit : (p : Tables) (ls : Locals) (qs : List Parameter) → LocalsFit ls → LocalsFit (bound_parameters p ls qs)
parameters_fit p ls [] fits = fits
parameters_fit p ls (q ∷ qs) fits = parameters_fit p (bound ls q.name (noted_class p q.of_type)) qs (bound_fits ls q.name (noted_class p q.of_type) fits)

handler_fits : (p : Tables) (ls : Locals) (handler : Option Name) → LocalsFit ls → LocalsFit (bound_handler p ls handler)
handler_fits p ls None fits = fits
handler_fits p ls (Some n) fits = bound_fits ls n (ref_void p.types) fits

pub head_fits : (p : Tables) (h : BlockHead) → LocalsFit (head_locals p h)
head_fits p h = handler_fits p (bound_parameters p no_locals h.parameters) h.handler (parameters_fit p no_locals h.parameters no_locals_fit)

parameters_classes : (p : Tables) (ls : Locals) (qs : List Parameter) → (bound_parameters p ls qs).classes ≡ ls.classes ++ parameter_classes p qs
parameters_classes p ls [] = sym (append-nil ls.classes)
parameters_classes p ls (q ∷ qs) =
    parameters_classes p (bound ls q.name (noted_class p q.of_type)) qs ∙ append_assoc ls.classes (noted_class p q.of_type ∷ []) (parameter_classes p qs)

with_handler : (p : Tables) (ls : Locals) (handler : Option Name) → (bound_handler p ls handler).classes ≡ ls.classes ++ handler_classes p handler
with_handler p ls None = sym (append-nil ls.classes)
with_handler p ls (Some n) = refl

pub head_has : (p : Tables) (h : BlockHead) → (head_locals p h).classes ≡ head_classes p h
head_has p h =
    with_handler p (bound_parameters p no_locals h.parameters) h.handler
    ∙ ap (λ (ks : List ℕ). ks ++ handler_classes p h.handler) (parameters_classes p no_locals h.parameters)
