-- The text of a script as it is written, over the bundle that its names are of.
--
--   script = entry*
--   entry  = { action* edit? reply }
--   action = frames | kept N | watch N | unwatch N
--   edit   = pop N | push G | pop N push G
--   reply  = with | rebind arg with | exit | stop
--   with   = pass ( arg* ) | throw arg
--   arg    = G | kept N N
use Rattle.std.specs.Prelude.{ℕ, true, false, List, [], ◌∷◌, Option, None}
use Rattle.text_forms.specs.declared.symbol.Symbol.{Symbol}
use Rattle.text_forms.specs.declared.symbol.Symbol.TheVariants as symbols
use Rattle.text_forms.specs.Forms.{Form, no_flag, both, on, made, nothing, lines, until, ◌▸◌, ◌◂◌}
use Rattle.ir_lex.specs.TokenForms.{mark, numeral}
use Rattle.ir_tree.specs.declared.items.Item.{Item}
use Rattle.ir_tree.specs.Lists.{global}
use Rattle.client_script.specs.declared.tree.Argument.{Argument}
use Rattle.client_script.specs.declared.tree.Argument.TheVariants as arguments
use Rattle.client_script.specs.declared.tree.Action.{Action}
use Rattle.client_script.specs.declared.tree.Action.TheVariants as actions
use Rattle.client_script.specs.declared.tree.Pushed.{Pushed}
use Rattle.client_script.specs.declared.tree.Edit.{Edit}
use Rattle.client_script.specs.declared.tree.With.{With}
use Rattle.client_script.specs.declared.tree.With.TheVariants as ways
use Rattle.client_script.specs.declared.tree.Reply.{Reply}
use Rattle.client_script.specs.declared.tree.Reply.TheVariants as replies
use Rattle.client_script.specs.declared.tree.Entry.{Entry}
use Rattle.client_script.specs.Numbers.{count_in}
use Rattle.client_script.specs.Told.{told, pushed_told}

-- N
unfoldable pub count : Form ℕ
count = made count_in numeral

-- action = frames | kept N | watch N | unwatch N
unfoldable pub action : Form Action
action =
    on (symbols.Frames ∷ []) (made (λ _. actions.TellFrames) (mark symbols.Frames))
    (on (symbols.Kept ∷ []) (made actions.TellKept (mark symbols.Kept ▸ count))
    (on (symbols.Watch ∷ []) (made (λ n. actions.Watch n true) (mark symbols.Watch ▸ count))
    (made (λ n. actions.Watch n false) (mark symbols.Unwatch ▸ count))))

-- pop N, or nothing, which pops no frame
unfoldable pub popping : Form ℕ
popping = on (symbols.Pop ∷ []) (mark symbols.Pop ▸ count) (nothing 0)

-- push G, or nothing
unfoldable pub pushing : List Item → Form (Option Pushed)
pushing bundle = on (symbols.Push ∷ []) (made (pushed_told bundle) (mark symbols.Push ▸ global)) (nothing None)

-- edit?
unfoldable pub edit : List Item → Form Edit
edit bundle = made (λ x. record { pop = x.0; push = x.1 }) (both popping (pushing bundle))

-- kept N N
unfoldable pub kept_value : Form Argument
kept_value = made (λ x. arguments.KeptValue x.0 x.1) (mark symbols.Kept ▸ both count count)

-- arg = G | kept N N
unfoldable pub argument : List Item → Form Argument
argument bundle = on (symbols.Kept ∷ []) kept_value (made (told bundle) global)

-- pass ( arg* )
unfoldable pub pass : List Item → Form With
pass bundle = made ways.Pass (mark symbols.Pass ▸ mark symbols.Open ▸ until (symbols.Close ∷ []) (argument bundle))

-- with = pass ( arg* ) | throw arg
unfoldable pub way : List Item → Form With
way bundle = on (symbols.Pass ∷ []) (pass bundle) (made ways.Throw (mark symbols.ThrowReply ▸ argument bundle))

-- rebind arg with
unfoldable pub rebind : List Item → Form Reply
rebind bundle = made (λ x. replies.Rebind x.0 x.1) (mark symbols.Rebind ▸ both (argument bundle) (way bundle))

-- reply = with | rebind arg with | exit | stop
unfoldable pub reply : List Item → Form Reply
reply bundle =
    on (symbols.Rebind ∷ []) (rebind bundle)
    (on (symbols.Exit ∷ []) (made (λ _. replies.Exit) (mark symbols.Exit))
    (on (symbols.Stop ∷ []) (made (λ _. replies.Stop) (mark symbols.Stop))
    (made replies.Resume (way bundle))))

-- the words that replies begin with
abbrev pub reply_words : List Symbol
reply_words = symbols.Pass ∷ symbols.ThrowReply ∷ symbols.Rebind ∷ symbols.Exit ∷ symbols.Stop ∷ []

-- edit? reply
unfoldable pub ending : List Item → Form (Edit × Reply)
ending bundle = both (edit bundle) (reply bundle)

-- the words that the two begin with
abbrev pub ending_words : List Symbol
ending_words = symbols.Pop ∷ symbols.Push ∷ reply_words

-- action* edit? reply
unfoldable pub inside : List Item → Form Entry
inside bundle = made (λ x. record { actions = x.0; edit = x.1.0; reply = x.1.1 }) (lines no_flag (λ _. tt {0}) (λ s _. s) (λ _. action) ending_words (ending bundle) (tt {0}))

-- entry = { action* edit? reply }
unfoldable pub entry : List Item → Form Entry
entry bundle = mark symbols.BraceOpen ▸ inside bundle ◂ mark symbols.BraceClose

-- the entries up to the end of the text
unfoldable pub script : List Item → Form (List Entry)
script bundle = until (symbols.End ∷ []) (entry bundle)
