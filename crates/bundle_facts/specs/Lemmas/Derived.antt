-- A bundle that the grammar derives: each function that is defined has a block.
use Rattle.std.proofs.Common.{◌≡◌, ℕ, suc, ◌<◌, Bool, true, false, List, [], ◌∷◌, nat_le, inl, inr, length, refl, sym, subst, arith}
use Rattle.text_forms.specs.declared.symbol.Symbol.TheVariants as symbols
use Rattle.text_forms.specs.Tokens.{Tok}
use Rattle.text_forms.specs.Forms.{token, within}
use Rattle.text_forms.specs.Derives.{Elements, Derives}
use Rattle.ir_tree.specs.declared.code.Block.{Block}
use Rattle.ir_tree.specs.declared.items.Funcdef.{Funcdef}
use Rattle.ir_tree.specs.declared.items.Item.{Item}
use Rattle.ir_tree.specs.declared.items.Item.TheVariants as items
use Rattle.ir_tree.specs.Bodies.{body}
use Rattle.ir_tree.specs.Items.{funcdef, item, bundle as bundle_form}
use Rattle.bundle_facts.specs.Facts.{HaveBlocks}
use Rattle.bundle_facts.specs.Texts.{DerivedHaveBlocks}

body_blocks : (tokens : List Tok) (bs : List Block) → Derives body tokens bs → 0 < length bs
unfolding body
body_blocks tokens bs h = let is = h.2 in rw is (omega arith)

funcdef_blocks : (tokens : List Tok) (d : Funcdef) → Derives funcdef tokens d → 0 < length d.blocks
unfolding funcdef
funcdef_blocks tokens d h = let is = h.2 in rw is (body_blocks h.1.4.4.4.1 h.0.1.1.1.1 h.1.4.4.4.4)

item_blocks : (tokens : List Tok) (i : Item) → Derives item tokens i → (d : Funcdef) → i ≡ items.Funcdef d → 0 < length d.blocks
unfolding item
item_blocks tokens i (inl h) d e = let is = h.2 in cc
item_blocks tokens i (inr (inl h)) d e = let is = h.2 in cc
item_blocks tokens i (inr (inr (inl h))) d e = let is = h.2 in cc
item_blocks tokens i (inr (inr (inr (inl h)))) d e = let is = h.2 in cc
item_blocks tokens i (inr (inr (inr (inr (inl h))))) d e = let is = h.2 in cc
item_blocks tokens i (inr (inr (inr (inr (inr (inl h)))))) d e = let same : h.0 ≡ d = cc in subst (λ (x : Funcdef). 0 < length x.blocks) same (funcdef_blocks tokens h.0 h.1)
item_blocks tokens i (inr (inr (inr (inr (inr (inr h)))))) d e = absurd h

with_item : (i : Item) (is : List Item) → ((d : Funcdef) → i ≡ items.Funcdef d → 0 < length d.blocks) → HaveBlocks is → HaveBlocks (i ∷ is)
with_item (items.Typedef d) is own rest = rest
with_item (items.Funcsig d) is own rest = rest
with_item (items.Const d) is own rest = rest
with_item (items.GlobalCell d) is own rest = rest
with_item (items.Funcdecl d) is own rest = rest
with_item (items.Funcdef d) is own rest = (own d refl, rest)

within_blocks : (full : Bool) (tokens : List Tok) (i : Item) → Derives (within item full) tokens i → (d : Funcdef) → i ≡ items.Funcdef d → 0 < length d.blocks
within_blocks false tokens i h d e = item_blocks tokens i h d e
within_blocks true tokens i h d e = absurd h

items_blocks : (many : ℕ) (Q : ℕ → List Tok → Type 0) (k : ℕ) (tokens : List Tok) (is : List Item) →
    Elements (λ k. nat_le many k) (λ k _. suc k) (λ full. Derives (within item full)) Q k tokens is → HaveBlocks is
items_blocks many Q k tokens [] h = tt
items_blocks many Q k tokens (i ∷ is) h = with_item i is (within_blocks (nat_le many k) h.0 i h.3) (items_blocks many Q (suc k) h.1 is h.4)

pub derived_have_blocks : DerivedHaveBlocks
unfolding bundle_form
derived_have_blocks = λ tokens b h.
    subst (λ (is : List Item). HaveBlocks is) (sym h.2) (items_blocks 16384 (λ _ v. Derives (token (symbols.End ∷ [])) v h.0.1) 0 tokens h.0.0 h.1)
