-- What is computed of a text is the one answer that it has.
use Rattle.std.proofs.Common.{◌≡◌, ℕ, List, Result, Ok, Err, refl, sym, ap, subst, ◌∙◌}
use Rattle.text_forms.specs.declared.fault.Fault.{Fault}
use Rattle.text_forms.specs.Tokens.{IsText}
use Rattle.text_forms.specs.Reading.{whole}
use Rattle.text_forms.specs.Lemmas.Whole.{whole_ok, whole_only, whole_fault, fault_only}
use Rattle.ir_lex.specs.Seen.{seen}
use Rattle.ir_lex.specs.Walk.{tokens_from}
use Rattle.ir_lex.specs.Lemmas.Cursors.{tokens_are_seen, texts_end}
use Rattle.ir_lex.specs.Lemmas.Lists.{one_list}
use Rattle.ir_tree.specs.declared.items.Item.{Item}
use Rattle.ir_tree.specs.Items.{bundle}
use Rattle.ir_tree.specs.Lemmas.Grammatical.{is_grammar}
use Rattle.ir_text.specs.declared.fault.TextFault.TheVariants as faults
use Rattle.ir_text.specs.declared.fault.TextFault.TheVariants.{At}
use Rattle.ir_text.specs.TextAnswers.{Answer, IsAnswer, bundle_read, fault_first, answer_of, text_answer, AnswerIsOne, Answers, IfAnswer}

answered : (bytes : List ℕ) (r : Result (List Item) Fault) → whole bundle (tokens_from bytes 0) ≡ r → IsAnswer bytes (answer_of r)
answered bytes (Ok b) e =
    let l = one_list bytes in
    let same : tokens_from bytes 0 ≡ seen bytes l.0 l.1 = tokens_are_seen bytes 0 l.0 l.1 l.2 in
    bundle_read l.0 l.1 b l.2 (whole_ok bundle is_grammar (seen bytes l.0 l.1) b (subst IsText same (texts_end bytes)) (ap (whole bundle) (sym same) ∙ e))
answered bytes (Err f) e =
    let l = one_list bytes in
    let same : tokens_from bytes 0 ≡ seen bytes l.0 l.1 = tokens_are_seen bytes 0 l.0 l.1 l.2 in
    fault_first l.0 l.1 f l.2 (whole_fault bundle is_grammar (seen bytes l.0 l.1) f (subst IsText same (texts_end bytes)) (ap (whole bundle) (sym same) ∙ e))

only : (bytes : List ℕ) (r : Answer) → IsAnswer bytes r → text_answer bytes ≡ r
only bytes _ (bundle_read tokens end b lexes derives) =
    let same : tokens_from bytes 0 ≡ seen bytes tokens end = tokens_are_seen bytes 0 tokens end lexes in
    ap answer_of (ap (whole bundle) same ∙ whole_only bundle is_grammar (seen bytes tokens end) b derives)
only bytes _ (fault_first tokens end f lexes is) =
    let same : tokens_from bytes 0 ≡ seen bytes tokens end = tokens_are_seen bytes 0 tokens end lexes in
    ap answer_of (ap (whole bundle) same ∙ fault_only bundle is_grammar (seen bytes tokens end) f (subst IsText same (texts_end bytes)) is)

pub one_answer : AnswerIsOne
one_answer bytes r = (only bytes r, λ e. subst (IsAnswer bytes) e (answered bytes (whole bundle (tokens_from bytes 0)) refl))

-- what is returned as the computed answer is the answer
pub is_answer : (bytes : List ℕ) (r : Answer) → Answers r (text_answer bytes) → IfAnswer r (IsAnswer bytes)
is_answer bytes (Ok b) h = (one_answer bytes (Ok b)).1 h
is_answer bytes (Err faults.Memory) h = tt
is_answer bytes (Err (At kind place)) h = (one_answer bytes (Err (At kind place))).1 h

-- and no other is
pub is_only : (bytes : List ℕ) (r other : Answer) → Answers r (text_answer bytes) → IsAnswer bytes other → Answers r other
is_only bytes r other h is = subst (Answers r) ((one_answer bytes other).0 is) h
