-- A script, and then the hook that passes zero and NULL, is the client of the abstract machine that has its entries and does so.
use Rattle.std.specs.Prelude.{◌≡◌, Bool, true, false, List, [], ◌∷◌, ◌++◌, length, nat_eq, Option, Some, None, Result, Ok, Err, IfOk, IfErr}
use Rattle.std.specs.List.{Contains}
use Rattle.std.proofs.Common.{subst, sym, arith}
use Rattle.std.proofs.lemmas.List.{append-nil}
use Rattle.check_tables.specs.declared.tables.Tables.{Tables}
use Rattle.mu_model.specs.Clients.{Classed, Pass, Resume, ScriptEntry, Client, Answer}
use Rattle.mu_model.specs.Outcomes.{View}
use Rattle.mu_model.specs.Answers.{blank, plain_answer, answer_of}
use Rattle.client_hooks.specs.Chains.{of_answering}
use Rattle.client_hooks.specs.Laws.{blank_is_auto}
use Rattle.client_hooks.specs.Replies.{IsMisuse}
use Rattle.client_hooks.specs.declared.reply.ClientFault.{ClientFault}
use Rattle.client_script.specs.ScriptClients.{client_of, values_named}

abbrev pub auto_of : List ScriptEntry → Client
auto_of es = record { entries = es; auto = true }

not_spent : (e : ScriptEntry) (es : List ScriptEntry) → nat_eq (length (e ∷ es)) 0 ≡ false
not_spent e es = grind arith

abbrev IsBlank : Tables → View → Option Answer → Type 0
IsBlank p view o = (a : Answer) × (o ≡ Some a) × (a ≡ plain_answer (Resume (Pass (blank p view.asked))))

-- what the two may answer, one after the other
abbrev pub ChainMay : Tables → View → List ScriptEntry → Option Answer → Type 0
ChainMay p view es o = of_answering (nat_eq (length es) 0) (o ≡ answer_of p view (client_of es)) (IsBlank p view o)

chain_answers : (p : Tables) (view : View) (es : List ScriptEntry) (o : Option Answer) → ChainMay p view es o → o ≡ answer_of p view (auto_of es)
chain_answers p view [] o h = blank_is_auto p view o h
chain_answers p view (e ∷ es) o h = subst (λ (b : Bool). of_answering b (o ≡ answer_of p view (client_of (e ∷ es))) (IsBlank p view o)) (not_spent e es) h

pub chain_replies : {R E : Type 0} (p : Tables) (view : View) (es : List ScriptEntry) (answer : R → Answer) (r : Result R E) → IfOk r (λ r. ChainMay p view es (Some (answer r))) → IfOk r (λ r. Some (answer r) ≡ answer_of p view (auto_of es))
chain_replies p view es answer (Ok r) h = chain_answers p view es (Some (answer r)) h
chain_replies p view es answer (Err e) h = tt

pub chain_misuses : {R : Type 0} (p : Tables) (view : View) (es : List ScriptEntry) (r : Result R ClientFault) → IfErr r (λ e. IsMisuse e → ChainMay p view es None) → IfErr r (λ e. IsMisuse e → None ≡ answer_of p view (auto_of es))
chain_misuses p view es (Ok r) h = tt
chain_misuses p view es (Err e) h = λ misuse. chain_answers p view es None (h misuse)

-- the hook holds nothing
pub chain_held : (old new before after : Client) → old ≡ before → after ≡ new → ((v : Classed) → Contains (values_named new.entries ++ []) v → Contains (values_named old.entries ++ []) v)
    → (v : Classed) → Contains (values_named after.entries) v → Contains (values_named before.entries) v
chain_held old new before after was is less v h =
    let here : Contains (values_named new.entries) v = subst (λ (k : Client). Contains (values_named k.entries) v) is h in
    let there : Contains (values_named old.entries) v =
    subst (λ (vs : List Classed). Contains vs v) (append-nil (values_named old.entries)) (less v (subst (λ (vs : List Classed). Contains vs v) (sym (append-nil (values_named new.entries))) here)) in
    subst (λ (k : Client). Contains (values_named k.entries) v) was there
