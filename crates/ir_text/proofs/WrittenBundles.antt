-- A bundle as it is read is the bundle as the rules are written, within the limits.
use Rattle.std.proofs.Common.{List, [], ◌∷◌, ◌++◌, refl, sym, ap, subst, ◌∙◌, inl, inr}
use Rattle.std.specs.List.{All}
use Rattle.std.proofs.lemmas.List.Elements.{All-nil, All-cons, All-head, All-tail}
use Rattle.text_forms.specs.declared.symbol.Symbol.TheVariants as symbols
use Rattle.text_forms.specs.Tokens.{Tok}
use Rattle.text_forms.specs.Derives.{Each, Derives}
use Rattle.text_forms.specs.Lemmas.Usual.{until_is_each, up_to_is_short}
use Rattle.ir_lex.specs.TokenForms.{mark}
use Rattle.ir_tree.specs.declared.items.Funcdef.{Funcdef}
use Rattle.ir_tree.specs.declared.items.Item.{Item}
use Rattle.ir_tree.specs.Items.{funcdef, item, bundle}
use Rattle.ir_text.specs.WrittenBodies.{FitsBody}
use Rattle.ir_text.specs.WrittenBundles.{written_funcdef, written_item, written_bundle, FitsItem, FitsBundle, BundleIsWritten}
use Rattle.ir_text.proofs.WrittenBodies.{body_is_written}

funcdef_to : (u : List Tok) (f : Funcdef) → Derives funcdef u f → Derives written_funcdef u f × FitsBody f.blocks
unfolding funcdef written_funcdef
funcdef_to u f (x, (a, b, p, dm, (c, d, q, dg, (e, g, r, dl, (h, k, s, db, body)))), ef) =
    let w = (body_is_written k x.1.1.1.1).0 body in
    ((x, (a, b, p, dm, (c, d, q, dg, (e, g, r, dl, (h, k, s, db, w.0)))), ef), subst (λ (j : Funcdef). FitsBody j.blocks) (sym ef) w.1)

funcdef_from : (u : List Tok) (f : Funcdef) → Derives written_funcdef u f → FitsBody f.blocks → Derives funcdef u f
unfolding funcdef written_funcdef
funcdef_from u f (x, (a, b, p, dm, (c, d, q, dg, (e, g, r, dl, (h, k, s, db, body)))), ef) fits =
    (x, (a, b, p, dm, (c, d, q, dg, (e, g, r, dl, (h, k, s, db, (body_is_written k x.1.1.1.1).1 (body, subst (λ (j : Funcdef). FitsBody j.blocks) ef fits))))), ef)

item_to : (u : List Tok) (i : Item) → Derives item u i → Derives written_item u i × FitsItem i
unfolding item written_item
item_to u i (inl (x, d, e)) = (inl (x, d, e), subst FitsItem (sym e) (tt {0}))
item_to u i (inr (inl (x, d, e))) = (inr (inl (x, d, e)), subst FitsItem (sym e) (tt {0}))
item_to u i (inr (inr (inl (x, d, e)))) = (inr (inr (inl (x, d, e))), subst FitsItem (sym e) (tt {0}))
item_to u i (inr (inr (inr (inl (x, d, e))))) = (inr (inr (inr (inl (x, d, e)))), subst FitsItem (sym e) (tt {0}))
item_to u i (inr (inr (inr (inr (inl (x, d, e)))))) = (inr (inr (inr (inr (inl (x, d, e))))), subst FitsItem (sym e) (tt {0}))
item_to u i (inr (inr (inr (inr (inr (inl (x, d, e))))))) =
    let w = funcdef_to u x d in
    (inr (inr (inr (inr (inr (x, w.0, e))))), subst FitsItem (sym e) w.1)
item_to u i (inr (inr (inr (inr (inr (inr d)))))) = absurd d

item_from : (u : List Tok) (i : Item) → Derives written_item u i → FitsItem i → Derives item u i
unfolding item written_item
item_from u i (inl d) fits = inl d
item_from u i (inr (inl d)) fits = inr (inl d)
item_from u i (inr (inr (inl d))) fits = inr (inr (inl d))
item_from u i (inr (inr (inr (inl d)))) fits = inr (inr (inr (inl d)))
item_from u i (inr (inr (inr (inr (inl d))))) fits = inr (inr (inr (inr (inl d))))
item_from u i (inr (inr (inr (inr (inr (x, d, e)))))) fits = inr (inr (inr (inr (inr (inl (x, funcdef_from u x d (subst FitsItem e fits), e))))))

each_to : (is : List Item) (u : List Tok) → Each (Derives item) u is → Each (Derives written_item) u is × All FitsItem is
each_to [] u d = (d, All-nil FitsItem)
each_to (i ∷ is) u (a, b, p, d, each) =
    let one = item_to a i d in
    let more = each_to is b each in
    ((a, b, p, one.0, more.0), All-cons FitsItem i is one.1 more.1)

each_from : (is : List Item) (u : List Tok) → Each (Derives written_item) u is → All FitsItem is → Each (Derives item) u is
each_from [] u d all = d
each_from (i ∷ is) u (a, b, p, d, each) all = (a, b, p, item_from a i d (All-head FitsItem i is all), each_from is b each (All-tail FitsItem i is all))

to_written : (ts : List Tok) (is : List Item) → Derives bundle ts is → Derives written_bundle ts is × FitsBundle is
unfolding mark bundle written_bundle
to_written ts is d =
    let s = (up_to_is_short item 16384 (symbols.End ∷ []) ts is).0 d in
    let (u, t, p, k, each) = (until_is_each item (symbols.End ∷ []) ts is).0 s.0 in
    let w = each_to is u each in
    (((is, t.place), (u, t ∷ [], p, w.0, (t, (refl, k), refl)), refl), (s.1, w.1))

from_written : (ts : List Tok) (is : List Item) → Derives written_bundle ts is → FitsBundle is → Derives bundle ts is
unfolding mark bundle written_bundle
from_written ts is (x, (u, v, p, each, (t, (q, k), r)), e) fits =
    let same : Each (Derives written_item) u is = subst (λ (l : List Item). Each (Derives written_item) u l) (sym e) each in
    (up_to_is_short item 16384 (symbols.End ∷ []) ts is).1
    ((until_is_each item (symbols.End ∷ []) ts is).1 (u, t, p ∙ ap (λ (w : List Tok). u ++ w) q, k, each_from is u same fits.1), fits.0)

pub bundle_is_written : BundleIsWritten
bundle_is_written ts is = (to_written ts is, λ d. from_written ts is d.0 d.1)
