-- The demands that are checked, of a joined bundle: each is met in the bundle that its item comes from, and carried from there.
use Rattle.std.proofs.Common.{◌≡◌, ◌≤◌, true, List, arith}
use Rattle.join_laws.proofs.Members.{Member}
use Rattle.ir_tree.specs.declared.items.Funcdef.{Funcdef}
use Rattle.ir_tree.specs.declared.items.Item.{Item}
use Rattle.ir_tree.specs.declared.items.Item.TheVariants as items
use Rattle.demands.specs.Demands.{AllMet}
use Rattle.name_scopes.specs.Names.{found}
use Rattle.bundle_names.specs.Globals.{globals_of}
use Rattle.checked_code.specs.Rules.{constant_types}
use Rattle.checked_code.specs.Functions.{is_as_declared}
use Rattle.checked_code.specs.Checking.{bundle_tables, check_demands}
use Rattle.join_laws.proofs.Classes.{Pair}
use Rattle.join_laws.proofs.Lookups.{TablesGo, type_test}
use Rattle.join_laws.proofs.Tests.{sized_kept}
use Rattle.check_tables.specs.TypeTests.{is_sized}
use Rattle.join_laws.proofs.Blocks.{function_goes}
use Rattle.join_laws.proofs.Joining.{Among}
use Rattle.join_laws.proofs.Sorts.{IsJoin, AllNamed, represents, join_named}
use Rattle.join_laws.proofs.Tables.{table}
use Rattle.join_laws.proofs.Pairs.{each_kin, finite_join}
use Rattle.join_laws.proofs.Values.{FunctionsGo, tables_go}
use Rattle.join_laws.proofs.Single.{whole, finite}
use Rattle.join_laws.proofs.Types.{join_types}
use Rattle.join_laws.proofs.Constants.{constant_met_of, constants_all, constant_met_goes}
use Rattle.join_laws.proofs.Checks.{function_of, functions_all, signature_met_goes, signature_met_of, signatures_all, leaves_of_globals, global_of, globals_all}

abbrev pub AllChecked : List (List Item) → Type 0
AllChecked bundles = (b : List Item) → Among b bundles → AllMet (check_demands b)

-- the types of a bundle and of the joined bundle
pub pair_of : (bundles : List (List Item)) (j : List Item) → AllNamed bundles → AllChecked bundles → IsJoin bundles j → (b : List Item) → Among b bundles → Pair (table b) (table j)
pair_of bundles j named checked join b a = record {
  one = whole b (named b a);
  other = whole j (join_named bundles j named join);
  finite_one = finite b (named b a) (checked b a);
  finite_other = finite_join bundles j named join (λ c d. ((whole c (named c d)).graph, finite c (named c d) (checked c d)));
  each = each_kin b j (represents bundles j named join b a);
}

pub join_checked : (bundles : List (List Item)) (j : List Item) → AllNamed bundles → AllChecked bundles → IsJoin bundles j →
    ((b : List Item) → Among b bundles → FunctionsGo b j) →
    ((d : Funcdef) → Member (items.Funcdef d) j → is_as_declared (bundle_tables j) (found (bundle_tables j).globals.declared d.name.text) d.signature ≡ true) →
    leaves_of_globals (bundle_tables j) j ≤ 65536 → AllMet (check_demands j)
unfolding check_demands
join_checked bundles j named checked join functions declared few =
    let p = bundle_tables in
    let go : (b : List Item) (a : Among b bundles) → TablesGo (bundle_tables b) (bundle_tables j) = λ b a. tables_go b j (represents bundles j named join b a) (pair_of bundles j named checked join b a) (functions b a) in
    let other = whole j (join_named bundles j named join) in (
      (
        join_types bundles j named join (λ c d. ((whole c (named c d)).graph, finite c (named c d) (checked c d))) other.graph (λ b a. (checked b a).0.0),
        (
          constants_all (bundle_tables j) (constant_types (globals_of j) j) j (λ d m.
              let from = join.origin (items.Const d) m in
              constant_met_goes from.bundle j (represents bundles j named join from.bundle from.among) (whole from.bundle (named from.bundle from.among)).graph other.graph d from.member
              (constant_met_of (bundle_tables from.bundle) (constant_types (globals_of from.bundle) from.bundle) from.bundle d (checked from.bundle from.among).0.1.0 from.member)),
          (
            signatures_all (bundle_tables j) j (λ d m.
                let from = join.origin (items.Funcsig d) m in
                signature_met_goes (bundle_tables from.bundle) (bundle_tables j) d (go from.bundle from.among)
                (signature_met_of (bundle_tables from.bundle) from.bundle d (checked from.bundle from.among).0.1.1.0 from.member)),
            globals_all (bundle_tables j) 0 j (omega (arith, few)) (λ d m.
                let from = join.origin (items.GlobalCell d) m in
                type_test (bundle_tables from.bundle) (bundle_tables j) (go from.bundle from.among) is_sized sized_kept d.of_type
                (global_of (bundle_tables from.bundle) 0 from.bundle d (checked from.bundle from.among).0.1.1.1 from.member)),
          ),
        ),
      ),
      functions_all (bundle_tables j) 0 j (λ d k m.
          let from = join.origin (items.Funcdef d) m in
          let one = function_of (bundle_tables from.bundle) 0 from.bundle d (checked from.bundle from.among).1 from.member in
          function_goes (bundle_tables from.bundle) (bundle_tables j) one.0 k d (go from.bundle from.among) one.1 (declared d m)),
    )
