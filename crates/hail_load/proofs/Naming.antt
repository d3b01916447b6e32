-- What names lead to.
use Rattle.std.proofs.Common.{◌≡◌, ℕ, ◌<◌, Bool, true, false, List, [], ◌∷◌, length, Option, Some, None, Ok, slice_get, if◌then◌else◌, refl, subst}
use Rattle.std.specs.List.{All}
use Rattle.std.specs.Str.{bytes_eq}
use Rattle.std.proofs.lemmas.List.Elements.{All-head, All-tail}
use Rattle.name_scopes.specs.Names.{Names, found}
use Rattle.ir_lex.specs.declared.name.Name.{Name}
use Rattle.type_definitions.specs.declared.definition.TypeDef.{TypeDef}
use Rattle.bundle_names.specs.declared.globals.Sort.{Sort}
use Rattle.bundle_names.specs.declared.globals.Sort.TheVariants as sorts
use Rattle.checked_code.specs.Lemmas.ConstantMembers.{holds_at}
use Rattle.hail_load.specs.declared.parts.Made.{Made}
use Rattle.hail_load.specs.declared.parts.Part.TheVariants.{Value}
use Rattle.hail_load.specs.declared.parts.Spot.{Spot}
use Rattle.hail_load.specs.declared.tree.Root.{Root}
use Rattle.hail_load.specs.declared.tree.Root.TheVariants as roots_of
use Rattle.hail_load.specs.Code.{Code}
use Rattle.hail_load.specs.Known.{IsKnown}
use Rattle.hail_load.specs.Parts.{made_spot, typed_spot, global_spot, root_spot}
use Rattle.hail_load.specs.Answering.{IsThere, AreThere}

-- what holds of all things that names stand for holds of one that is found
pub all_found : {T : Type 0} (P : T → Type 0) (es : Names T) (name : List ℕ) (v : T) → All (λ (e : List ℕ × T). P e.1) es → found es name ≡ Some v → P v
all_found P [] name v a h = cc
all_found {T} P (e ∷ es) name v a h = by (bytes_eq name e.0) (λ k. all_found P es name v (All-tail (λ (x : List ℕ × T). P x.1) e es a) k) h
  where
    by : (b : Bool) → (found es name ≡ Some v → P v) → (if b then Some e.1 else found es name) ≡ Some v → P v
    by true more k = let same : e.1 ≡ v = cc in subst P same (All-head (λ (x : List ℕ × T). P x.1) e es a)
    by false more k = more k

made_there : (g : List TypeDef) (es : Names Made) (n : Name) (o : Option Made) (s : Spot) → AreThere g es → found es n.text ≡ o → made_spot n o ≡ Ok s → IsThere g s.part
made_there g es n None s a f e = cc
made_there g es n (Some m) s a f e =
    let same : record { object = m.object; at = 0; part = m.part } ≡ s = cc in
    subst (λ (x : Spot). IsThere g x.part) same (all_found (λ (x : Made). IsThere g x.part) es n.text m a f)

typed_there : (g : List TypeDef) (ts : List ℕ) (n : Name) (global : ℕ) (o : Option ℕ) (s : Spot) → All (λ t. t < length g) ts → slice_get ts global ≡ o → typed_spot n global o ≡ Ok s → IsThere g s.part
typed_there g ts n global None s a f e = cc
typed_there g ts n global (Some t) s a f e =
    let same : record { object = global; at = 0; part = Value t } ≡ s = cc in
    subst (λ (x : Spot). IsThere g x.part) same (holds_at (λ t. t < length g) ts global t a f)

global_there : (g : List TypeDef) (ts : List ℕ) (n : Name) (o : Option Sort) (s : Spot) → All (λ t. t < length g) ts → global_spot ts n o ≡ Ok s → IsThere g s.part
global_there g ts n (Some (sorts.GlobalCell global)) s a e = typed_there g ts n global (slice_get ts global) s a refl e
global_there g ts n (Some (sorts.Written k)) s a e = cc
global_there g ts n (Some (sorts.Signature k)) s a e = cc
global_there g ts n (Some (sorts.Constant k)) s a e = cc
global_there g ts n (Some (sorts.Function k)) s a e = cc
global_there g ts n None s a e = cc

-- the part that a target begins with
pub root_there : (c : Code) (es : Names Made) (root : Root) (s : Spot) → IsKnown c → AreThere c.graph es → root_spot c es root ≡ Ok s → IsThere c.graph s.part
root_there c es (roots_of.Object n) s k a e = made_there c.graph es n (found es n.text) s a refl e
root_there c es (roots_of.Global n) s k a e = global_there c.graph c.globals n (found c.names n.text) s k.globals e
