-- Instructions that read or write memory, and that meet their demands, fit, one clause a form.
use Rattle.std.proofs.Common.{◌≡◌, false, None, refl}
use Rattle.demands.specs.Demands.{AllMet}
use Rattle.mu_base.specs.declared.operators.UpdateOp.{UpdateOp}
use Rattle.mu_base.specs.declared.operators.UpdateOp.TheVariants as updates
use Rattle.ir_tree.specs.declared.accessing.Access.{Access}
use Rattle.ir_tree.specs.declared.accessing.Access.TheVariants as accesses
use Rattle.check_tables.specs.declared.tables.Tables.{Tables}
use Rattle.check_tables.specs.Lookups.{type_named}
use Rattle.check_tables.specs.TypeTests.{is_scalar}
use Rattle.checked_code.specs.declared.scopes.Locals.{Locals}
use Rattle.checked_code.specs.Accesses.{updates_type, access_demands, access_gives, access_code}
use Rattle.bundle_laws.specs.Typed.{AccessFits, LocalsFit}
use Rattle.bundle_laws.specs.Lemmas.TypedOperands.{of_type_fits, place_fits, TypeIn, type_of}

nothing_is_updated : (op : UpdateOp) → updates_type op None ≡ false
nothing_is_updated updates.Xchg = refl
nothing_is_updated updates.Add = refl
nothing_is_updated updates.Sub = refl
nothing_is_updated updates.And = refl
nothing_is_updated updates.Nand = refl
nothing_is_updated updates.Or = refl
nothing_is_updated updates.Xor = refl
nothing_is_updated updates.Max = refl
nothing_is_updated updates.Min = refl
nothing_is_updated updates.Umax = refl
nothing_is_updated updates.Umin = refl

pub access_fits : (p : Tables) (ls : Locals) (a : Access) → LocalsFit ls → AllMet (access_demands p ls a) →
    AccessFits p ls.classes (access_code p ls a) (access_gives p a)
access_fits p ls (accesses.Load o t l e) fits m =
    let type : TypeIn p (type_named p t) is_scalar = type_of p t is_scalar refl m.1.0 in
    (m.0, type.type, place_fits p ls l (type_named p t) type.type.number fits type.is m.1.1, refl)
access_fits p ls (accesses.Store o t l a e) fits m =
    let type : TypeIn p (type_named p t) is_scalar = type_of p t is_scalar refl m.1.0 in (
      m.0,
      type.type,
      place_fits p ls l (type_named p t) type.type.number fits type.is m.1.1.0,
      of_type_fits p ls a t fits m.1.1.1,
      refl,
    )
access_fits p ls (accesses.Cmpxchg w s o t l a b e) fits m =
    let type : TypeIn p (type_named p t) is_scalar = type_of p t is_scalar refl m.1.1.0 in (
      m.0,
      m.1.0,
      type.type,
      place_fits p ls l (type_named p t) type.type.number fits type.is m.1.1.1.0,
      of_type_fits p ls a t fits m.1.1.1.1.0,
      of_type_fits p ls b t fits m.1.1.1.1.1,
      refl,
    )
access_fits p ls (accesses.Atomicrmw o op t l a e) fits m =
    let type : TypeIn p (type_named p t) (updates_type op) = type_of p t (updates_type op) (nothing_is_updated op) m.1.0 in (
      m.0,
      type.type,
      place_fits p ls l (type_named p t) type.type.number fits type.is m.1.1.0,
      of_type_fits p ls a t fits m.1.1.1,
      refl,
    )
access_fits p ls (accesses.Fence o) fits m = (m, refl)
