-- The joined bundle. The items of the bundles are gone through in order, and each is compared with what the bundles before its
-- own gave: what says the same is left out, what says otherwise is refused, and all else is kept. The items of one bundle are not compared.
use Rattle.std.specs.Prelude.{◌≡◌, ℕ, suc, Bool, true, false, ◌&&◌, nat_lt, List, [], ◌∷◌, ◌++◌, length, Option, Some, None, Result, Ok, Err, if◌then◌else◌}
use Rattle.ir_lex.specs.declared.name.Name.{Name}
use Rattle.ir_tree.specs.declared.items.Item.{Item}
use Rattle.ir_tree.specs.declared.items.Item.TheVariants as items
use Rattle.demands.specs.Demands.{or_else}
use Rattle.bundle_join.specs.declared.fault.JoinKind.TheVariants.{Duplicate, OtherType, OtherSignature, TooMany}
use Rattle.bundle_join.specs.declared.fault.JoinFault.{JoinFault}
use Rattle.bundle_join.specs.declared.fault.JoinFault.TheVariants.{Memory, At}
use Rattle.bundle_join.specs.declared.verdict.Verdict.{Verdict}
use Rattle.bundle_join.specs.declared.verdict.Verdict.TheVariants.{Kept, LeftOut, Refused}
use Rattle.bundle_join.specs.Alike.{same_name, alike_types, alike_signatures, alike_constants, alike_declarations}

-- ---- the parts of an item that are asked here

-- the global name that it defines
abbrev pub name_of : Item → Name
name_of (items.Typedef d) = d.name
name_of (items.Funcsig d) = d.name
name_of (items.Const d) = d.name
name_of (items.GlobalCell d) = d.name
name_of (items.Funcdecl d) = d.name
name_of (items.Funcdef d) = d.name

-- the place of its directive
abbrev pub place_of : Item → ℕ
place_of (items.Typedef d) = d.place
place_of (items.Funcsig d) = d.place
place_of (items.Const d) = d.place
place_of (items.GlobalCell d) = d.place
place_of (items.Funcdecl d) = d.place
place_of (items.Funcdef d) = d.place

abbrev pub same_named : Item → Item → Bool
same_named k i = same_name (name_of k) (name_of i)

abbrev pub same_directive : Item → Item → Bool
same_directive (items.Typedef d) (items.Typedef e) = true
same_directive (items.Funcsig d) (items.Funcsig e) = true
same_directive (items.Const d) (items.Const e) = true
same_directive (items.GlobalCell d) (items.GlobalCell e) = true
same_directive (items.Funcdecl d) (items.Funcdecl e) = true
same_directive (items.Funcdef d) (items.Funcdef e) = true
same_directive _ _ = false

-- ---- what becomes of an item: it is kept, left out, or refused with a kind and a place in the text of its bundle

-- an item d of an earlier bundle, and a later item e of the same name
abbrev pub against : Item → Item → Verdict
against (items.Typedef d) (items.Typedef e) = if alike_types d e then LeftOut else Refused OtherType e.name.place
against (items.Funcsig d) (items.Funcsig e) = if alike_signatures d e then LeftOut else Refused OtherSignature e.name.place
against (items.Const d) (items.Const e) = if alike_constants d e then LeftOut else Refused Duplicate e.name.place
against (items.Funcdecl d) (items.Funcdecl e) = if alike_declarations d e then LeftOut else Refused OtherSignature e.name.place
against (items.Funcdecl d) (items.Funcdef e) = if same_name d.signature e.signature then Kept else Refused OtherSignature e.signature.place
against (items.Funcdef d) (items.Funcdecl e) = if same_name d.signature e.signature then Kept else Refused OtherSignature e.signature.place
against _ e = Refused Duplicate (name_of e).place

abbrev pub first_where : (Item → Bool) → List Item → Option Item
first_where test [] = None
first_where test (i ∷ is) = if test i then Some i else first_where test is

-- it is compared with the first earlier item that has its name and its directive, or, where there is none, with the first that has its name
abbrev pub compared : List Item → Item → Option Item
compared earlier i = or_else (first_where (λ k. same_named k i && same_directive k i) earlier) (first_where (λ k. same_named k i) earlier)

abbrev pub verdict_by : Option Item → Item → Verdict
verdict_by None i = Kept
verdict_by (Some k) i = against k i

-- the earlier items are those that the bundles before its own gave to the joined bundle
abbrev pub verdict : List Item → Item → Verdict
verdict earlier i = verdict_by (compared earlier i) i

-- ---- all items in order

abbrev pub and_then : Result (List Item) JoinFault → (List Item → Result (List Item) JoinFault) → Result (List Item) JoinFault
and_then (Ok kept) more = more kept
and_then (Err fault) more = Err fault

-- the limit of a text, too
abbrev pub most_items : ℕ
most_items = 16384

-- with an item of bundle number n
abbrev pub with_one : ℕ → List Item → Item → Verdict → Result (List Item) JoinFault
with_one n kept i Kept = if nat_lt (length kept) most_items then Ok (kept ++ i ∷ []) else Err (At TooMany n (place_of i))
with_one n kept i LeftOut = Ok kept
with_one n kept i (Refused kind place) = Err (At kind n place)

-- with the items of bundle number n, each judged by the earlier ones
abbrev pub with_bundle : ℕ → List Item → List Item → List Item → Result (List Item) JoinFault
with_bundle n earlier kept [] = Ok kept
with_bundle n earlier kept (i ∷ is) = and_then (with_one n kept i (verdict earlier i)) (λ more. with_bundle n earlier more is)

-- with the bundles from number n on
abbrev pub joined_from : ℕ → List Item → List (List Item) → Result (List Item) JoinFault
joined_from n kept [] = Ok kept
joined_from n kept (b ∷ bs) = and_then (with_bundle n kept kept b) (λ more. joined_from (suc n) more bs)

-- the joined bundle, or the first fault. The places in a joined bundle mean nothing, since its items come from several texts.
abbrev pub joined : List (List Item) → Result (List Item) JoinFault
joined bundles = joined_from 0 [] bundles

-- an answer is the one that is meant, unless no memory was found
abbrev pub Answers : Result (List Item) JoinFault → Result (List Item) JoinFault → Type 0
Answers meant (Ok b) = meant ≡ Ok b
Answers meant (Err Memory) = Unit {0}
Answers meant (Err (At kind n place)) = meant ≡ Err (At kind n place)

-- an answer to bundles that are to be joined: the joined bundle, or the first fault
abbrev pub IsJoined : List (List Item) → Result (List Item) JoinFault → Type 0
IsJoined bundles answer = Answers (joined bundles) answer
