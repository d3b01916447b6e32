-- Reading the entries of a script one at a time.
use Rattle.std.proofs.Common.{◌≡◌, true, false, List, [], ◌∷◌, ◌++◌, Result, Ok, Err, refl}
use Rattle.text_forms.specs.declared.symbol.Symbol.TheVariants as symbols
use Rattle.text_forms.specs.declared.fault.Fault.{Fault}
use Rattle.text_forms.specs.declared.fault.ReadError.{ReadError}
use Rattle.text_forms.specs.Tokens.{Tok, at}
use Rattle.text_forms.specs.Forms.{until}
use Rattle.text_forms.specs.Reading.{read, ◌>>=◌}
use Rattle.text_forms.specs.Answers.{Gives, GivesAll, with_front}
use Rattle.text_forms.specs.Lemmas.Loops as loops
use Rattle.ir_tree.specs.declared.items.Item.{Item}
use Rattle.client_script.specs.declared.tree.Entry.{Entry}
use Rattle.client_script.specs.Grammar.{entry, script}
use Rattle.client_script.proofs.Elements.{entry_plain}

abbrev Total : Type 0
Total = Result (List Entry × List Tok) Fault

abbrev pub so_far : List Item → List Entry → List Tok → Total
so_far bundle front ts = with_front front (read (until (symbols.End ∷ []) (entry bundle)) ts)

nothing_before : (r : Total) → with_front [] r ≡ r
nothing_before (Ok x) = refl
nothing_before (Err e) = refl

pub begins_so_far : (bundle : List Item) (ts : List Tok) → so_far bundle [] ts ≡ read (script bundle) ts
unfolding script
begins_so_far bundle ts = nothing_before (read (until (symbols.End ∷ []) (entry bundle)) ts)

pub goes_on : (bundle : List Item) (front : List Entry) (ts : List Tok) (a : Entry) (rest : List Tok) (total : Total) → at (symbols.End ∷ []) ts ≡ false → read (entry bundle) ts ≡ Ok (a, rest) → so_far bundle front ts ≡ total → so_far bundle (front ++ a ∷ []) rest ≡ total
goes_on bundle front ts a rest total off one so = loops.goes_on (symbols.End ∷ []) (entry bundle) (entry_plain bundle) front ts a rest total off one so

pub fails : (bundle : List Item) (front : List Entry) (ts rest : List Tok) (total : Total) (e : ReadError) → at (symbols.End ∷ []) ts ≡ false → Gives {A = Entry} (Err e) rest (read (entry bundle) ts) → so_far bundle front ts ≡ total → GivesAll {A = List Entry} (Err e) (total >>= λ x. Ok x.0)
fails bundle front ts rest total e off one so = loops.fails_whole (symbols.End ∷ []) (entry bundle) (entry_plain bundle) front ts rest total e off one so

pub is_done : (bundle : List Item) (front : List Entry) (ts : List Tok) (total : Total) → at (symbols.End ∷ []) ts ≡ true → so_far bundle front ts ≡ total → (total >>= λ x. Ok x.0) ≡ Ok front
is_done bundle front ts total here so = rw (loops.is_done (symbols.End ∷ []) (entry bundle) (entry_plain bundle) front ts total here so) refl
