-- The entries of a client's script that is accepted tell values that fit.
use Rattle.std.proofs.Common.{◌≡◌, ℕ, Bool, true, false, List, [], ◌∷◌, ◌++◌, Option, Some, None, Result, Ok, Err, if◌then◌else◌, refl, sym, subst, inl, inr}
use Rattle.std.specs.List.{All}
use Rattle.std.proofs.lemmas.List.Elements.{All-nil, All-cons, All-map}
use Rattle.text_forms.specs.declared.symbol.Symbol.{Symbol}
use Rattle.text_forms.specs.declared.symbol.Symbol.TheVariants as symbols
use Rattle.text_forms.specs.declared.fault.Fault.{Fault}
use Rattle.text_forms.specs.Tokens.{Tok, has}
use Rattle.text_forms.specs.Forms.{Form, token, nothing, both, on, made, until, ◌▸◌, ◌◂◌}
use Rattle.text_forms.specs.Derives.{Derives, Elements}
use Rattle.text_forms.specs.Reading.{whole}
use Rattle.text_forms.specs.Lemmas.Whole.{whole_ok}
use Rattle.demands.specs.Demands.{AllMet, none, demand, first_unmet}
use Rattle.name_scopes.specs.Names.{Names, found}
use Rattle.demands.specs.Lemmas.Meeting.{all_met}
use Rattle.ir_lex.specs.declared.name.Name.{Name}
use Rattle.ir_lex.specs.TokenForms.{mark, name}
use Rattle.ir_lex.specs.Walk.{tokens_from}
use Rattle.ir_lex.specs.Lemmas.Cursors.{texts_end}
use Rattle.ir_tree.specs.declared.items.Item.{Item}
use Rattle.ir_tree.specs.Lists.{globals, global}
use Rattle.bundle_names.specs.declared.globals.Sort.{Sort}
use Rattle.bundle_names.specs.declared.globals.Sort.TheVariants as sorts
use Rattle.bundle_names.specs.Globals.{globals_of}
use Rattle.bundle_names.specs.Naming.{name_demands}
use Rattle.bundle_names.specs.Uses.{is_operand}
use Rattle.checked_code.specs.Checking.{bundle_tables, check_demands}
use Rattle.typed_heap.specs.Fits.{World}
use Rattle.mu_model.specs.Types.{type_graph}
use Rattle.mu_model.specs.Clients.{ScriptEntry, Client}
use Rattle.model_laws.specs.Values.{HasGlobals}
use Rattle.model_laws.specs.ClientsFit.{PushFits, ArgumentFits, ArgumentsFit, EntryFits, ScriptEntryFits, ClientFits}
use Rattle.text_forms.specs.declared.fault.FaultKind.TheVariants as kinds
use Rattle.client_script.specs.declared.fault.ScriptKind.TheVariants.{Text, Unknown}
use Rattle.client_script.specs.declared.tree.Argument.{Argument}
use Rattle.client_script.specs.declared.tree.Pushed.{Pushed}
use Rattle.client_script.specs.declared.tree.Edit.{Edit}
use Rattle.client_script.specs.declared.tree.With.{With}
use Rattle.client_script.specs.declared.tree.With.TheVariants as ways
use Rattle.client_script.specs.declared.tree.Reply.{Reply}
use Rattle.client_script.specs.declared.tree.Reply.TheVariants as replies
use Rattle.client_script.specs.declared.tree.Entry.{Entry}
use Rattle.client_script.specs.Told.{told, pushed_told}
use Rattle.client_script.specs.Demands.{global_fits, token_demands, last_symbol}
use Rattle.client_script.specs.Grammar.{kept_value, argument, action, count, popping, pushing, edit, pass, way, rebind, reply, ending, inside, entry, script}
use Rattle.client_script.specs.Meaning.{argument_meant, way_meant, reply_meant, entry_meant, entries_meant}
use Rattle.client_script.specs.Texts.{demands_by, entries_in}
use Rattle.client_script.specs.Lemmas.Grammatical.{is_grammar}
use Rattle.loaded_programs.specs.Laws.{IsScripted}
use Rattle.loaded_programs.proofs.Told.{told_fits}
use Rattle.loaded_programs.proofs.Pushes.{pushes, pushed_fits}

-- ---- tokens of which each name is good

-- they stand after a token of that symbol
abbrev Good : Names Sort → Symbol → List Tok → Type 0
Good known before ts = AllMet (token_demands known before ts)

good_parts : (known : Names Sort) (before : Symbol) (u v ts : List Tok) → ts ≡ u ++ v → Good known before ts → Good known before u × Good known (last_symbol before u) v
good_parts known before u v ts parts good = by before u (subst (Good known before) parts good)
  where
    by : (before : Symbol) (u : List Tok) → Good known before (u ++ v) → Good known before u × Good known (last_symbol before u) v
    by before [] h = (tt, h)
    by before (t ∷ u) h = let more = by t.symbol u h.1 in ((h.0, more.0), more.1)

-- what may stand after some token is an operand
is_operand_at : (before : Symbol) (s : Option Sort) → global_fits before s ≡ true → is_operand s ≡ true
is_operand_at symbols.Push (Some (sorts.Function n)) h = refl
is_operand_at symbols.Push (Some (sorts.Constant n)) h = cc
is_operand_at symbols.Push (Some (sorts.GlobalCell n)) h = cc
is_operand_at symbols.Push (Some (sorts.Written n)) h = cc
is_operand_at symbols.Push (Some (sorts.Signature n)) h = cc
is_operand_at symbols.Push None h = cc
is_operand_at _ s h = h

-- a token that is a global name is no number
no_number : (s : Symbol) → has globals s ≡ true → has (symbols.Number ∷ []) s ≡ false
no_number symbols.Number e = cc
no_number _ e = refl

met_name : (number is_global : Bool) (place : ℕ) (count value : Bool) → number ≡ false → is_global ≡ true →
    AllMet (if number then demand place (Text kinds.Unexpected) count else (if is_global then demand place Unknown value else none)) → value ≡ true
met_name true is_global place count value e f h = cc
met_name false true place count value e f h = h
met_name false false place count value e f h = cc

-- ---- what holds of all that a form gives where each name is good

abbrev Gives : {A : Type 0} → Names Sort → (A → Type 0) → Form A → Type 0
Gives {A = A} known P f = (before : Symbol) (ts : List Tok) (x : A) → Good known before ts → Derives f ts x → P x

module _ (known : Names Sort) where
  named_gives : Gives known (λ (n : Name). is_operand (found known n.text) ≡ true) global
  unfolding global name
  named_gives before ts n good d =
      let here : Good known before (d.0 ∷ []) = subst (Good known before) d.1.0 good in
      subst (λ (n : Name). is_operand (found known n.text) ≡ true) (sym d.2) (is_operand_at before _ (met_name _ _ d.0.place _ _ (no_number d.0.symbol d.1.1) d.1.1 here.0))

  of_made : {A B : Type 0} (P : A → Type 0) (Q : B → Type 0) (h : A → B) (f : Form A) → ((a : A) → P a → Q (h a)) → Gives known P f → Gives known Q (made h f)
  of_made P Q h f more give before ts x good d = subst Q (sym d.2) (more d.0 (give before ts d.0 good d.1))

  of_both : {A B : Type 0} (P : A → Type 0) (Q : B → Type 0) (f : Form A) (g : Form B) → Gives known P f → Gives known Q g → Gives known (λ (x : A × B). P x.0 × Q x.1) (both f g)
  of_both P Q f g one two before ts x good d = let parts = good_parts known before d.0 d.1 ts d.2 good in (one before d.0 x.0 parts.0 d.3, two (last_symbol before d.0) d.1 x.1 parts.1 d.4)

  of_either : {A : Type 0} (P : A → Type 0) (xs : List Symbol) (f g : Form A) → Gives known P f → Gives known P g → Gives known P (on xs f g)
  of_either P xs f g one two before ts x good (inl d) = one before ts x good d
  of_either P xs f g one two before ts x good (inr d) = two before ts x good d

  of_second : {A B : Type 0} (Q : B → Type 0) (f : Form A) (g : Form B) → Gives known Q g → Gives known Q (f ▸ g)
  of_second Q f g give before ts x good d =
      let parts = good_parts known before d.1.0 d.1.1 ts d.1.2 good in
      subst Q (sym d.2) (give (last_symbol before d.1.0) d.1.1 d.0.1 parts.1 d.1.4)

  of_first : {A B : Type 0} (P : A → Type 0) (f : Form A) (g : Form B) → Gives known P f → Gives known P (f ◂ g)
  of_first P f g give before ts x good d =
      let parts = good_parts known before d.1.0 d.1.1 ts d.1.2 good in
      subst P (sym d.2) (give before d.1.0 d.0.0 parts.0 d.1.3)

  -- the elements of a list, and the tokens behind them
  of_elements : {A : Type 0} (P : A → Type 0) (f : Form A) (Q : Unit {0} → List Tok → Type 0) (before : Symbol) (ts : List Tok) (xs : List A) → Gives known P f → Good known before ts →
      Elements (λ (s : Unit {0}). tt {0}) (λ (s : Unit {0}) (x : A). s) (λ (y : Unit {0}). Derives f) Q (tt {0}) ts xs → All P xs
  of_elements P f Q before ts [] give good d = All-nil P
  of_elements P f Q before ts (x ∷ xs) give good d =
      let parts = good_parts known before d.0 d.1 ts d.2 good in
      All-cons P x xs (give before d.0 x parts.0 d.3) (of_elements P f Q (last_symbol before d.0) d.1 xs give parts.1 d.4)

  of_rest : {A : Type 0} (f : Form A) (Q : Unit {0} → List Tok → Type 0) (before : Symbol) (ts : List Tok) (xs : List A) → Good known before ts →
      Elements (λ (s : Unit {0}). tt {0}) (λ (s : Unit {0}) (x : A). s) (λ (y : Unit {0}). Derives f) Q (tt {0}) ts xs → (v : List Tok) × (last : Symbol) × Good known last v × Q (tt {0}) v
  of_rest f Q before ts [] good d = (ts, before, good, d)
  of_rest f Q before ts (x ∷ xs) good d = of_rest f Q (last_symbol before d.0) d.1 xs (good_parts known before d.0 d.1 ts d.2 good).1 d.4

  of_until : {A : Type 0} (P : A → Type 0) (xs : List Symbol) (f : Form A) → Gives known P f → Gives known (All P) (until xs f)
  of_until P xs f give before ts x good d = subst (All P) (sym d.2) (of_elements P f (λ (s : Unit {0}) (v : List Tok). Derives (token xs) v d.0.1) before ts d.0.0 give good d.1)

-- ---- the grammar of scripts

module _ (bundle : List Item) (names : first_unmet (name_demands bundle) ≡ None) (checked : first_unmet (check_demands bundle) ≡ None) (w : World) (told_globals : HasGlobals (bundle_tables bundle) w) where
  abbrev known : Names Sort
  known = (globals_of bundle).names

  abbrev IsGood : Argument → Type 0
  IsGood a = ArgumentFits (type_graph (bundle_tables bundle)) w (argument_meant a)

  abbrev IsGoodWay : With → Type 0
  IsGoodWay x = ArgumentsFit (type_graph (bundle_tables bundle)) w (way_meant x)

  abbrev IsGoodReply : Reply → Type 0
  IsGoodReply r = EntryFits (type_graph (bundle_tables bundle)) w (reply_meant r)

  abbrev IsGoodPush : Option Pushed → Type 0
  IsGoodPush o = PushFits (bundle_tables bundle) (pushes o)

  abbrev IsGoodEntry : Entry → Type 0
  IsGoodEntry e = ScriptEntryFits (bundle_tables bundle) w (entry_meant e)

  kept_gives : Gives known IsGood kept_value
  unfolding kept_value
  kept_gives before ts x good d = subst IsGood (sym d.2) tt

  argument_gives : Gives known IsGood (argument bundle)
  unfolding argument
  argument_gives =
      of_either known IsGood (symbols.Kept ∷ []) kept_value (made (told bundle) global) kept_gives
      (of_made known (λ (n : Name). is_operand (found known n.text) ≡ true) IsGood (told bundle) global (λ n is. told_fits bundle names checked w told_globals n is) (named_gives known))

  pass_gives : Gives known IsGoodWay (pass bundle)
  unfolding pass
  pass_gives =
      of_made known (All IsGood) IsGoodWay ways.Pass (mark symbols.Pass ▸ mark symbols.Open ▸ until (symbols.Close ∷ []) (argument bundle))
      (λ xs good. All-map (ArgumentFits (type_graph (bundle_tables bundle)) w) argument_meant xs good)
      (of_second known (All IsGood) (mark symbols.Pass) (mark symbols.Open ▸ until (symbols.Close ∷ []) (argument bundle))
      (of_second known (All IsGood) (mark symbols.Open) (until (symbols.Close ∷ []) (argument bundle)) (of_until known IsGood (symbols.Close ∷ []) (argument bundle) argument_gives)))

  way_gives : Gives known IsGoodWay (way bundle)
  unfolding way
  way_gives =
      of_either known IsGoodWay (symbols.Pass ∷ []) (pass bundle) (made ways.Throw (mark symbols.ThrowReply ▸ argument bundle)) pass_gives
      (of_made known IsGood IsGoodWay ways.Throw (mark symbols.ThrowReply ▸ argument bundle) (λ a good. good) (of_second known IsGood (mark symbols.ThrowReply) (argument bundle) argument_gives))

  rebind_gives : Gives known IsGoodReply (rebind bundle)
  unfolding rebind
  rebind_gives =
      of_made known (λ (x : Argument × With). IsGood x.0 × IsGoodWay x.1) IsGoodReply (λ x. replies.Rebind x.0 x.1) (mark symbols.Rebind ▸ both (argument bundle) (way bundle)) (λ x good. good)
      (of_second known (λ (x : Argument × With). IsGood x.0 × IsGoodWay x.1) (mark symbols.Rebind) (both (argument bundle) (way bundle))
      (of_both known IsGood IsGoodWay (argument bundle) (way bundle) argument_gives way_gives))

  abbrev exit : Form Reply
  exit = made (λ _. replies.Exit) (mark symbols.Exit)

  abbrev stop : Form Reply
  stop = made (λ _. replies.Stop) (mark symbols.Stop)

  abbrev resume : Form Reply
  resume = made replies.Resume (way bundle)

  exit_gives : Gives known IsGoodReply exit
  exit_gives before ts x good d = subst IsGoodReply (sym d.2) tt

  stop_gives : Gives known IsGoodReply stop
  stop_gives before ts x good d = subst IsGoodReply (sym d.2) tt

  reply_gives : Gives known IsGoodReply (reply bundle)
  unfolding reply
  reply_gives =
      of_either known IsGoodReply (symbols.Rebind ∷ []) (rebind bundle) (on (symbols.Exit ∷ []) exit (on (symbols.Stop ∷ []) stop resume)) rebind_gives
      (of_either known IsGoodReply (symbols.Exit ∷ []) exit (on (symbols.Stop ∷ []) stop resume) exit_gives
      (of_either known IsGoodReply (symbols.Stop ∷ []) stop resume stop_gives (of_made known IsGoodWay IsGoodReply replies.Resume (way bundle) (λ x good. good) way_gives)))

  popping_gives : Gives known (λ (n : ℕ). Unit {0}) popping
  popping_gives before ts x good d = tt

  nothing_pushed : Gives known IsGoodPush (nothing None)
  nothing_pushed before ts x good d = subst IsGoodPush (sym d.1) tt

  pushing_gives : Gives known IsGoodPush (pushing bundle)
  unfolding pushing
  pushing_gives =
      of_either known IsGoodPush (symbols.Push ∷ []) (made (pushed_told bundle) (mark symbols.Push ▸ global)) (nothing None)
      (of_made known (λ (n : Name). Unit {0}) IsGoodPush (pushed_told bundle) (mark symbols.Push ▸ global) (λ n good. pushed_fits bundle n) (λ before ts x good d. tt)) nothing_pushed

  edit_gives : Gives known (λ (e : Edit). IsGoodPush e.push) (edit bundle)
  unfolding edit
  edit_gives =
      of_made known (λ (x : ℕ × Option Pushed). Unit {0} × IsGoodPush x.1) (λ (e : Edit). IsGoodPush e.push) (λ x. record { pop = x.0; push = x.1 }) (both popping (pushing bundle)) (λ x good. good.1)
      (of_both known (λ (n : ℕ). Unit {0}) IsGoodPush popping (pushing bundle) popping_gives pushing_gives)

  ending_gives : Gives known (λ (x : Edit × Reply). IsGoodPush x.0.push × IsGoodReply x.1) (ending bundle)
  unfolding ending
  ending_gives = of_both known (λ (e : Edit). IsGoodPush e.push) IsGoodReply (edit bundle) (reply bundle) edit_gives reply_gives

  inside_gives : Gives known IsGoodEntry (inside bundle)
  unfolding inside
  inside_gives before ts x good d =
      let rest = of_rest known action (λ (s : Unit {0}) (v : List Tok). Derives (ending bundle) v d.0.1) before ts d.0.0 good d.1 in
      subst IsGoodEntry (sym d.2) (ending_gives rest.1 rest.0 d.0.1 rest.2 rest.3)

  entry_gives : Gives known IsGoodEntry (entry bundle)
  unfolding entry
  entry_gives = of_second known IsGoodEntry (mark symbols.BraceOpen) (inside bundle ◂ mark symbols.BraceClose) (of_first known IsGoodEntry (inside bundle) (mark symbols.BraceClose) inside_gives)

  script_gives : Gives known (All IsGoodEntry) (script bundle)
  unfolding script
  script_gives = of_until known IsGoodEntry (symbols.End ∷ []) (entry bundle) entry_gives

  -- a text that is no script has no entries
  entries_fit : (ts : List Tok) (r : Result (List Entry) Fault) → ((es : List Entry) → r ≡ Ok es → Derives (script bundle) ts es) → first_unmet (demands_by known ts r) ≡ None →
      All (ScriptEntryFits (bundle_tables bundle) w) (entries_meant (entries_in r))
  entries_fit ts (Ok es) derived met = All-map (ScriptEntryFits (bundle_tables bundle) w) entry_meant es (script_gives symbols.End ts es (all_met (token_demands known symbols.End ts) met) (derived es refl))
  entries_fit ts (Err f) derived met = All-nil (ScriptEntryFits (bundle_tables bundle) w)

pub scripted_fits : (bundle : List Item) → first_unmet (name_demands bundle) ≡ None → first_unmet (check_demands bundle) ≡ None → (k : Client) → IsScripted bundle k → ClientFits (bundle_tables bundle) k
scripted_fits bundle names checked k s w told_globals =
    let ts : List Tok = tokens_from s.text 0 in
    subst (λ (es : List ScriptEntry). All (ScriptEntryFits (bundle_tables bundle) w) es) (sym s.entries)
    (entries_fit bundle names checked w told_globals ts (whole (script bundle) ts) (λ es is. whole_ok (script bundle) (is_grammar bundle) ts es (texts_end s.text) is) s.accepted)
