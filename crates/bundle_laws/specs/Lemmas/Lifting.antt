-- Each block of a bundle that meets its demands is well typed.
use Rattle.std.proofs.Common.{◌≡◌, ℕ, ◌+◌, false, List, [], ◌∷◌, ◌++◌, None, length, ◌∙◌, ap, subst}
use Rattle.demands.specs.Demands.{AllMet, first_unmet}
use Rattle.demands.specs.Lemmas.Meeting.{all_met}
use Rattle.ir_tree.specs.declared.code.Block.{Block}
use Rattle.ir_tree.specs.declared.items.Item.{Item}
use Rattle.ir_tree.specs.declared.items.Item.TheVariants as items
use Rattle.check_tables.specs.declared.tables.Tables.{Tables}
use Rattle.checked_code.specs.declared.scopes.Body.{Body}
use Rattle.checked_code.specs.Instructions.{insts_code}
use Rattle.bundle_laws.specs.Typed.{Blocks, CodesFit, joined, BodyFits, TablesFit}
use Rattle.bundle_laws.specs.TypedLaws.{all_gives}
use Rattle.bundle_laws.specs.Lemmas.TypedInstructions.{insts_fit, all_classes}
use Rattle.bundle_laws.specs.Lemmas.TypedEndings.{ends_at_last}
use Rattle.bundle_names.specs.Naming.{name_demands}
use Rattle.checked_code.specs.Blocks.{head_locals, block_demands, blocks_demands}
use Rattle.checked_code.specs.Functions.{body_of, functions_demands}
use Rattle.checked_code.specs.Checking.{bundle_tables, check_demands}
use Rattle.bundle_laws.specs.Accepted.{blocks_from, BlockIsFit, EachFits, FunctionsFit}
use Rattle.bundle_laws.specs.Lemmas.Heads.{head_fits, head_has}
use Rattle.bundle_laws.specs.Lemmas.Bodies.{body_fits}
use Rattle.bundle_laws.specs.Lemmas.Tables.{tables_fit}

block_is_fit : (p : Tables) (blocks : Blocks) (f : Body) (b : Block) → TablesFit p → BodyFits blocks f → AllMet (block_demands p f b) → BlockIsFit p blocks f b
block_is_fit p blocks f b tables body m = record {
  code = record {
    given = all_gives p b.insts;
    codes =
        subst (λ (ks : List ℕ). CodesFit p blocks f.gives ks (insts_code p f (head_locals p b.head) b.insts) (all_gives p b.insts)) (head_has p b.head)
        (insts_fit p blocks f (head_locals p b.head) false b.insts tables body (head_fits p b.head) m.1.0);
    ending = ends_at_last p f (head_locals p b.head) false b.insts m.1.0 m.1.1;
  };
  classes =
      all_classes p f (head_locals p b.head) false b.insts m.1.0 ∙ ap (λ (ks : List ℕ). ks ++ joined (all_gives p b.insts)) (head_has p b.head);
}

each_fits : (p : Tables) (blocks : Blocks) (f : Body) (bs : List Block) → TablesFit p → BodyFits blocks f → AllMet (blocks_demands p f bs) → EachFits p blocks f bs
each_fits p blocks f [] tables body m = tt
each_fits p blocks f (b ∷ bs) tables body m = (block_is_fit p blocks f b tables body m.0, each_fits p blocks f bs tables body m.1)

functions_fit : (p : Tables) (first : ℕ) (is : List Item) → TablesFit p → AllMet (functions_demands p first is) → FunctionsFit p first is
functions_fit p first [] tables m = tt
functions_fit p first (items.Typedef d ∷ is) tables m = functions_fit p first is tables m
functions_fit p first (items.Funcsig d ∷ is) tables m = functions_fit p first is tables m
functions_fit p first (items.Const d ∷ is) tables m = functions_fit p first is tables m
functions_fit p first (items.GlobalCell d ∷ is) tables m = functions_fit p first is tables m
functions_fit p first (items.Funcdecl d ∷ is) tables m = functions_fit p first is tables m
functions_fit p first (items.Funcdef d ∷ is) tables m = (
  each_fits p (blocks_from p first d.blocks) (body_of p first d) d.blocks tables (body_fits p first d) m.0.1.1,
  functions_fit p (first + length d.blocks) is tables m.1,
)

pub bundle_fits : (bundle : List Item) → first_unmet (name_demands bundle) ≡ None → first_unmet (check_demands bundle) ≡ None → FunctionsFit (bundle_tables bundle) 0 bundle
unfolding check_demands
bundle_fits bundle named checked =
    functions_fit (bundle_tables bundle) 0 bundle (tables_fit bundle named checked) (all_met (check_demands bundle) checked).1
