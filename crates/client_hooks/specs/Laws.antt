-- Laws of handlers.
use Rattle.std.specs.Prelude.{◌≡◌, [], true, Option, Some, refl}
use Rattle.std.proofs.Common.{sym, ◌∙◌, ap, subst}
use Rattle.check_tables.specs.declared.tables.Tables.{Tables}
use Rattle.mu_values.specs.Slots.{TypedValues}
use Rattle.mu_model.specs.Clients.{Classed, With, Pass, Throw, Reply, Resume, Rebind, Exit, Stop, Answer, Edit, Client}
use Rattle.mu_model.specs.Outcomes.{View}
use Rattle.mu_model.specs.Answers.{blank, plain_answer, answer_of, advanced}
use Rattle.client_hooks.specs.Told.{is_blank, EntersWithTold, RepliesTold, PushIsHeld, AnswerIsTold}
use Rattle.client_hooks.specs.Handlers.{PassesAsked, ResumesAsked, OnlyResumes}

-- zero and NULL of what is asked
pub blank_resumes : (p : Tables) (view : View) (a : Answer) → a ≡ plain_answer (Resume (Pass (blank p view.asked))) → OnlyResumes p view a
blank_resumes p view a e = subst (OnlyResumes p view) (sym e) (refl, refl, (refl, λ k v at. is_blank k v at))

passed_told : (p : Tables) (view : View) (w : With TypedValues Classed) → PassesAsked p view w → EntersWithTold p view [] w
passed_told p view (Pass vs) h = h.1
passed_told p view (Throw v) h = absurd h

replied_told : (p : Tables) (view : View) (r : Reply TypedValues Classed) → ResumesAsked p view r → RepliesTold p view [] r
replied_told p view (Resume w) h = passed_told p view w h
replied_told p view (Rebind t w) h = absurd h
replied_told p view Exit h = absurd h
replied_told p view Stop h = absurd h

-- what only resumes gives no value but those of the view
pub resumed_told : (p : Tables) (view : View) (a : Answer) → OnlyResumes p view a → AnswerIsTold p view [] a
resumed_told p view a h = (subst (λ (e : Edit). PushIsHeld [] e.push) (sym h.1) tt, replied_told p view a.reply h.2)

-- ---- what passes zero and NULL is the client that has no entries and does so

abbrev pub auto_client : Client
auto_client = record { entries = []; auto = true }

pub blank_is_auto : (p : Tables) (view : View) (o : Option Answer) → (a : Answer) × (o ≡ Some a) × (a ≡ plain_answer (Resume (Pass (blank p view.asked)))) → o ≡ answer_of p view auto_client
blank_is_auto p view o h = h.1 ∙ ap Some h.2

pub auto_stays : auto_client ≡ advanced auto_client
auto_stays = refl
