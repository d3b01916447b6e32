-- Two tables of types: which class of the second stands for a class of the first, and which number and definition go with a number and a definition.
use Rattle.std.proofs.Common.{◌≡◌, ℕ, zero, suc, ◌<◌, ◌≤◌, Bool, true, false, ◌&&◌, ◌==◌, List, [], ◌∷◌, length, nat_lt, Option, Some, None, slice_get, refl, sym, ◌∙◌, subst, arith}
use Rattle.std.proofs.lemmas.Bool.{false≢true, and_parts, eqb-true}
use Rattle.std.proofs.lemmas.Option.{slice_get_within}
use Rattle.type_definitions.specs.declared.definition.TypeDef.{TypeDef}
use Rattle.type_definitions.specs.declared.definition.TypeDef.TheVariants.{Int, Void, Ref, Iref, FuncRef, StackRef, ThreadRef}
use Rattle.type_definitions.specs.Definition.{constructor, number, arguments}
use Rattle.type_definitions.specs.Same.{pairs, agree, agree_at, same, IsGraph}
use Rattle.type_definitions.specs.Class.{class_of}
use Rattle.type_definitions.specs.Laws.{IsFinite}
use Rattle.type_definitions.specs.Parts.{parts_at}
use Rattle.type_definitions.specs.Lemmas.Depth.{alike_back}
use Rattle.type_definitions.specs.Lemmas.Proved.{decided, congruence}
use Rattle.kin_laws.specs.Kin.{akin, Kin}
use Rattle.kin_laws.specs.Lemmas.Kin.{kin_before, kin_after, kin_both, kin_decides}
use Rattle.mu_types.specs.Graph.{Table}
use Rattle.check_tables.specs.Types.{class_like, definition_at, definition_in, class_in, is_sig, is_type_there}
pub use Rattle.check_tables.specs.Lemmas.Like.{class_is_like}
pub use Rattle.bundle_facts.specs.Lemmas.Completed.{StandsIn}
use Rattle.join_laws.proofs.Tests.{IsKept}

-- ---- classes

-- class b of the second graph is that of the types which are kin to a
pub record Stands (g h : List TypeDef) (a b : ℕ) : Type 0 where
  pub kin : Kin g h a b
  pub class : class_of h b ≡ b

-- where the first has a class, the second has the one that stands for it
abbrev pub Goes : Table → Table → Option ℕ → Option ℕ → Type 0
Goes p q None o = Unit {0}
Goes p q (Some c) None = ⊥
Goes p q (Some c) (Some d) = Stands p.definitions q.definitions c d

-- the second classes stand for the first, one by one
abbrev pub AllGo : Table → Table → List ℕ → List ℕ → Type 0
AllGo p q [] [] = Unit {0}
AllGo p q (c ∷ cs) (d ∷ ds) = Stands p.definitions q.definitions c d × AllGo p q cs ds
AllGo p q [] (d ∷ ds) = ⊥
AllGo p q (c ∷ cs) [] = ⊥

-- what is known of the graph of a bundle whose names are all defined
pub record IsWhole (p : Table) : Type 0 where
  pub graph : IsGraph p.definitions
  pub written : p.written ≤ length p.definitions
  pub ref : (t : ℕ) → is_type_there (definition_at p t) ≡ true → StandsIn p.definitions (Ref t)
  pub iref : (t : ℕ) → is_type_there (definition_at p t) ≡ true → StandsIn p.definitions (Iref t)
  pub funcref : (t : ℕ) → is_sig (definition_at p t) ≡ true → StandsIn p.definitions (FuncRef t)
  pub bit : StandsIn p.definitions (Int 1)
  pub word : StandsIn p.definitions (Int 32)
  pub stack : StandsIn p.definitions StackRef
  pub thread : StandsIn p.definitions ThreadRef
  pub nothing : slice_get p.definitions p.written ≡ Some Void
  pub void : StandsIn p.definitions (Ref p.written)
  pub parts : (t n k : ℕ) → slice_get (parts_at (definition_at p t)) n ≡ Some k → is_type_there (definition_at p k) ≡ true

-- two types that are written, and kin
pub record IsWrittenKin (p q : Table) (t u : ℕ) : Type 0 where
  pub kin : Kin p.definitions q.definitions t u
  pub low : t < p.written
  pub there : u < q.written

-- two tables, where each type that is written in the first has kin that is written in the second
pub record Pair (p q : Table) : Type 0 where
  pub one : IsWhole p
  pub other : IsWhole q
  pub finite_one : IsFinite p.definitions
  pub finite_other : IsFinite q.definitions
  pub each : (t : ℕ) → t < p.written → (u : ℕ) × IsWrittenKin p q t u

stands_one : (p q : Table) → Pair p q → (a b c d : ℕ) → same p.definitions a b ≡ true → Stands p.definitions q.definitions a c → Stands p.definitions q.definitions b d → c ≡ d
stands_one p q pair a b c d e m n =
    let both = kin_decides p.definitions q.definitions pair.one.graph pair.other.graph a b c d e m.kin n.kin in
    sym m.class ∙ ((decided q.definitions pair.other.graph).equal c d m.kin.there n.kin.there).1 both ∙ n.class

-- one class alone stands for a class
pub stands_same : (p q : Table) → Pair p q → (a c d : ℕ) → Stands p.definitions q.definitions a c → Stands p.definitions q.definitions a d → c ≡ d
stands_same p q pair a c d m n =
    let both = kin_both p.definitions q.definitions a c d m.kin n.kin in
    sym m.class ∙ ((decided q.definitions pair.other.graph).equal c d m.kin.there n.kin.there).1 both ∙ n.class

class_low : (g : List TypeDef) → IsGraph g → (a : ℕ) → a < length g → class_of g a < length g
class_low g i a l = let m = (decided g i).no_later a l in omega (arith, m, l)

-- the classes of kin types
pub class_stands : (p q : Table) → Pair p q → (a b : ℕ) → Kin p.definitions q.definitions a b → Stands p.definitions q.definitions (class_of p.definitions a) (class_of q.definitions b)
class_stands p q pair a b m =
    let g = p.definitions in
    let h = q.definitions in
    let low : class_of g a < length g = class_low g pair.one.graph a m.low in
    let there : class_of h b < length h = class_low h pair.other.graph b m.there in
    let own = (decided h pair.other.graph).of_it b m.there in
    record {
      kin = kin_after g h pair.other.graph (class_of g a) b (class_of h b) there
          (kin_before g h pair.one.graph (class_of g a) a b low ((decided g pair.one.graph).of_it a m.low) m)
          (alike_back h (length h) (class_of h b) b own);
      class = ((decided h pair.other.graph).equal (class_of h b) b there m.there).1 own;
    }

-- ---- numbers of written types

abbrev pub NumberGoes : Table → Table → Option ℕ → Option ℕ → Type 0
NumberGoes p q None o = Unit {0}
NumberGoes p q (Some t) None = ⊥
NumberGoes p q (Some t) (Some u) = IsWrittenKin p q t u

-- ---- definitions

abbrev pub DefinitionGoes : Table → Table → Option TypeDef → Option TypeDef → Type 0
DefinitionGoes p q None o = Unit {0}
DefinitionGoes p q (Some d) None = ⊥
DefinitionGoes p q (Some d) (Some e) = (k : ℕ) → agree (akin p.definitions q.definitions k) d e ≡ true

pub below : (n many : ℕ) → n < many → nat_lt n many ≡ true
below n many l = grind (arith, l)

pub is_below : (n many : ℕ) → nat_lt n many ≡ true → n < many
is_below n many e = grind (arith, e)

-- kin types have definitions that go
pub kin_definitions : (p q : Table) (t u : ℕ) → Kin p.definitions q.definitions t u → DefinitionGoes p q (slice_get p.definitions t) (slice_get q.definitions u)
unfolding akin
kin_definitions p q t u m = by (slice_get p.definitions t) (slice_get q.definitions u) refl refl
  where
    by : (o s : Option TypeDef) → slice_get p.definitions t ≡ o → slice_get q.definitions u ≡ s → DefinitionGoes p q o s
    by None s e f = tt
    by (Some d) None e f =
        let h : agree_at (akin p.definitions q.definitions 0) (slice_get p.definitions t) (slice_get q.definitions u) ≡ true = m.to 1 in
        let z : agree_at (akin p.definitions q.definitions 0) (Some d) None ≡ true = rw (e, f) at h in absurd (false≢true z)
    by (Some d) (Some x) e f = λ k.
        let h : agree_at (akin p.definitions q.definitions k) (slice_get p.definitions t) (slice_get q.definitions u) ≡ true = m.to (suc k) in
        rw (e, f) at h

-- and types whose definitions go are kin
pub definitions_kin : (p q : Table) (t u : ℕ) (d e : TypeDef) → slice_get p.definitions t ≡ Some d → slice_get q.definitions u ≡ Some e → DefinitionGoes p q (Some d) (Some e) → Kin p.definitions q.definitions t u
unfolding akin
definitions_kin p q t u d e x y goes = record {
  low = slice_get_within p.definitions t d x;
  there = slice_get_within q.definitions u e y;
  to = λ k. by k;
}
  where
    by : (k : ℕ) → akin p.definitions q.definitions k t u ≡ true
    by zero = refl
    by (suc k) = rw (x, y) (goes k)

pub definition_goes : (p q : Table) (o s : Option ℕ) → NumberGoes p q o s → DefinitionGoes p q (definition_in p o) (definition_in q s)
definition_goes p q None s n = tt
definition_goes p q (Some t) None n = absurd n
definition_goes p q (Some t) (Some u) n = rw (below t p.written n.low, below u q.written n.there) (kin_definitions p q t u n.kin)

pub record Shaped (d e : TypeDef) : Type 0 where
  pub kind : constructor d ≡ constructor e
  pub sized : number d ≡ number e

pub shaped : (r : ℕ → ℕ → Bool) (d e : TypeDef) → agree r d e ≡ true → Shaped d e
shaped r d e h =
    let p = and_parts ((constructor d == constructor e) && (number d == number e)) (pairs r (arguments d) (arguments e)) h in
    let q = and_parts (constructor d == constructor e) (number d == number e) p.0 in
    record { kind = eqb-true (constructor d) (constructor e) q.0; sized = eqb-true (number d) (number e) q.1 }

-- a test that the first definition passes the second passes
pub test_goes : (p q : Table) (test : Option TypeDef → Bool) → IsKept test → (o s : Option TypeDef) → DefinitionGoes p q o s → test o ≡ true → test s ≡ true
test_goes p q test kept None s g h = let z : false ≡ true = sym kept.nothing ∙ h in cc
test_goes p q test kept (Some d) None g h = absurd g
test_goes p q test kept (Some d) (Some e) g h = let same = shaped (akin p.definitions q.definitions 0) d e (g 0) in kept.kept d e same.kind same.sized h

-- ---- classes of what is written

pub class_goes : (p q : Table) → Pair p q → (o s : Option ℕ) → NumberGoes p q o s → Goes p q (class_in p o) (class_in q s)
class_goes p q pair None s n = tt
class_goes p q pair (Some t) None n = absurd n
class_goes p q pair (Some t) (Some u) n = rw (below t p.written n.low, below u q.written n.there) (class_stands p q pair t u n.kin)

-- classes of types that are defined alike
pub like_stands : (p q : Table) → Pair p q → (d e : TypeDef) → StandsIn p.definitions d → StandsIn q.definitions e → DefinitionGoes p q (Some d) (Some e) →
    Stands p.definitions q.definitions (class_like p.definitions d) (class_like q.definitions e)
like_stands p q pair d e a b goes =
    subst (λ (x : ℕ). Stands p.definitions q.definitions x (class_like q.definitions e)) (class_is_like p.definitions (congruence p.definitions pair.one.graph) a.at d a.there)
    (subst (λ (x : ℕ). Stands p.definitions q.definitions (class_of p.definitions a.at) x) (class_is_like q.definitions (congruence q.definitions pair.other.graph) b.at e b.there)
    (class_stands p q pair a.at b.at (definitions_kin p q a.at b.at d e a.there b.there goes)))
