-- Reading the actions of an entry one at a time, and its edit and its reply behind them.
use Rattle.std.proofs.Common.{◌≡◌, true, false, List, [], ◌∷◌, ◌++◌, Result, Ok, Err, refl, sym, ap, ◌∙◌, subst, append_assoc}
use Rattle.std.proofs.lemmas.List.{append-nil}
use Rattle.text_forms.specs.declared.fault.Fault.{Fault}
use Rattle.text_forms.specs.declared.fault.ReadError.{ReadError}
use Rattle.text_forms.specs.Tokens.{Tok, at, first}
use Rattle.text_forms.specs.Forms.{Form, lines, no_flag}
use Rattle.text_forms.specs.Reading.{read}
use Rattle.text_forms.specs.Answers.{Gives, kept}
use Rattle.text_forms.specs.Lemmas.Lists.{goes_on_by, is_done_by, fails_by, close_fails_by, steady_read}
use Rattle.ir_tree.specs.declared.items.Item.{Item}
use Rattle.client_script.specs.declared.tree.Action.{Action}
use Rattle.client_script.specs.declared.tree.Edit.{Edit}
use Rattle.client_script.specs.declared.tree.Reply.{Reply}
use Rattle.client_script.specs.declared.tree.Entry.{Entry}
use Rattle.client_script.specs.Grammar.{action, ending_words, ending, inside}
use Rattle.client_script.proofs.Elements.{action_plain}

abbrev Total : Type 0
Total = Result (Entry × List Tok) Fault

abbrev Ending : Type 0
Ending = Edit × Reply

abbrev entry_with : Ending → List Action → Entry
entry_with r front = record { actions = front; edit = r.0; reply = r.1 }

abbrev behind : List Action → List Action × Ending → Entry
behind front x = entry_with x.1 (front ++ x.0)

abbrev body : List Item → Form (List Action × Ending)
body bundle = lines no_flag (λ (_ : Unit {0}). tt {0}) (λ s _. s) (λ _. action) ending_words (ending bundle) (tt {0})

abbrev pub so_far : List Item → List Action → List Tok → Total
so_far bundle front ts = kept (behind front) (read (body bundle) ts)

pub begins_so_far : (bundle : List Item) (ts : List Tok) → so_far bundle [] ts ≡ read (inside bundle) ts
unfolding inside
begins_so_far bundle ts = refl

pub goes_on : (bundle : List Item) (front : List Action) (ts : List Tok) (a : Action) (rest : List Tok) (total : Total) → at ending_words ts ≡ false → read action ts ≡ Ok (a, rest) → so_far bundle front ts ≡ total → so_far bundle (front ++ a ∷ []) rest ≡ total
goes_on bundle front ts a rest total off one so =
    goes_on_by no_flag (λ (_ : Unit {0}). tt {0}) (λ s _. s) (λ _. action) ending_words (ending bundle) (λ _. action_plain.element) 0 (tt {0}) (behind front) (behind (front ++ a ∷ [])) ts a rest total
    (λ ys b. ap (entry_with b) (sym (append_assoc front (a ∷ []) ys))) off (steady_read action action_plain.own (first ts).place 0 ts ∙ one) so

pub fails_with : (bundle : List Item) (front : List Action) (ts rest : List Tok) (total : Total) (e : ReadError) → at ending_words ts ≡ false → Gives {A = Action} (Err e) rest (read action ts) → so_far bundle front ts ≡ total → Gives {A = Entry} (Err e) rest total
fails_with bundle front ts rest total e off one so =
    fails_by no_flag (λ (_ : Unit {0}). tt {0}) (λ s _. s) (λ _. action) ending_words (ending bundle) (λ _. action_plain.element) 0 (tt {0}) (behind front) ts rest total e off
    (subst (λ (r : Result (Action × List Tok) Fault). Gives {A = Action} (Err e) rest r) (steady_read action action_plain.own 0 (first ts).place ts) one) so

pub ending_fails : (bundle : List Item) (front : List Action) (ts rest : List Tok) (total : Total) (e : ReadError) → at ending_words ts ≡ true → Gives {A = Ending} (Err e) rest (read (ending bundle) ts) → so_far bundle front ts ≡ total → Gives {A = Entry} (Err e) rest total
ending_fails bundle front ts rest total e here one so =
    close_fails_by no_flag (λ (_ : Unit {0}). tt {0}) (λ s _. s) (λ _. action) ending_words (ending bundle) (λ _. action_plain.element) 0 (tt {0}) (behind front) ts rest total e here one so

pub is_done : (bundle : List Item) (front : List Action) (ts : List Tok) (r : Ending) (rest : List Tok) (total : Total) → at ending_words ts ≡ true → read (ending bundle) ts ≡ Ok (r, rest) → so_far bundle front ts ≡ total → total ≡ Ok (entry_with r front, rest)
is_done bundle front ts r rest total here one so =
    is_done_by no_flag (λ (_ : Unit {0}). tt {0}) (λ s _. s) (λ _. action) ending_words (ending bundle) (λ _. action_plain.element) 0 (tt {0}) (behind front) ts r rest total here one so
    ∙ ap (λ (actions : List Action). Ok (entry_with r actions, rest)) (append-nil front)
