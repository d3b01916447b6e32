-- A joined bundle meets its demands.
use Rattle.std.proofs.Common.{◌≡◌, ◌≤◌, List, Ok}
use Rattle.ir_tree.specs.declared.items.Item.{Item}
use Rattle.demands.specs.Demands.{AllMet}
use Rattle.bundle_names.specs.Globals.{no_globals}
use Rattle.bundle_names.specs.Naming.{name_demands}
use Rattle.checked_code.specs.Entries.{tables_of}
use Rattle.checked_code.specs.Checking.{bundle_tables, check_demands}
use Rattle.bundle_join.specs.Joined.{joined}
use Rattle.join_laws.proofs.Classes.{Pair}
use Rattle.join_laws.proofs.Members.{met_once}
use Rattle.join_laws.proofs.Joining.{Among}
use Rattle.join_laws.proofs.Joined.{Represents}
use Rattle.join_laws.proofs.Sorts.{AllNamed, is_join, represents, join_named}
use Rattle.join_laws.proofs.Tables.{table}
use Rattle.join_laws.proofs.Checks.{leaves_of_globals}
use Rattle.join_laws.proofs.Linked.{Linked, join_linked}
use Rattle.join_laws.proofs.Declared.{same_signature, join_declared}
use Rattle.join_laws.proofs.Functions.{functions_go}
use Rattle.join_laws.proofs.Entries.{has_entries}
use Rattle.join_laws.proofs.Whole.{AllChecked, pair_of, join_checked}

-- where each bundle meets its demands by itself and the globals of the joined bundle have few leaves together, the joined bundle meets its demands
pub join_meets : (bundles : List (List Item)) (j : List Item) → AllNamed bundles → AllChecked bundles → joined bundles ≡ Ok j → leaves_of_globals (bundle_tables j) j ≤ 65536 →
    AllMet (name_demands j) × AllMet (check_demands j)
unfolding tables_of
join_meets bundles j named checked h few =
    let join = is_join bundles j named h in
    let here = join_named bundles j named join in
    let linked : Linked bundles j = join_linked bundles j h (λ b a. met_once no_globals b (named b a).0) in
    let go : (b : List Item) (a : Among b bundles) → Represents b j × Pair (table b) (table j) = λ b a. (represents bundles j named join b a, pair_of bundles j named checked join b a) in (
      here,
      join_checked bundles j named checked join
          (λ b a. functions_go b j (go b a).0 (go b a).1 here join.single (same_signature bundles j named checked here linked go) (has_entries j))
          (join_declared bundles j named checked here linked go) few,
    )
