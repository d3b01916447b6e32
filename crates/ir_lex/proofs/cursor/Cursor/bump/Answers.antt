use Rattle.std.proofs.Common.{◌≡◌, true, sym, ap, subst, ◌∙◌}
use Rattle.text_forms.specs.Tokens.{rest_of, goes_on_behind}
use Rattle.ir_lex.specs.Lemmas.Cursors.{holds, held_next}
use Rattle.ir_lex.proofs.cursor.Cursor.bump.Goals as goal

pub returns : goal.returns
returns c =
    let t = c.self.inside.token in
    let text = c.self.inside.text.now in
    let behind = subst (λ ts. goes_on_behind ts ≡ true) (sym c.self.view_is) c.requires in
    ap (holds text) c.held_at-self-inside.ensures.found ∙ held_next text t.symbol t.from t.to behind ∙ ap rest_of c.self.view_is
