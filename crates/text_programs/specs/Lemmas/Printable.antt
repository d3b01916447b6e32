-- Each moment of a run is well typed, so the events of its log can be printed.
use Rattle.std.specs.Prelude.{ℕ}
use Rattle.mu_model.specs.Acts.{Program}
use Rattle.mu_model.specs.Configuration.{Configuration}
use Rattle.mu_model.specs.Programs.{named}
use Rattle.model_laws.specs.Places.{Places}
use Rattle.model_laws.specs.Programs.{IsTyped}
use Rattle.model_laws.specs.Printable.{IsPrintable}
use Rattle.model_laws.specs.WellTyped.{WellTyped}
use Rattle.model_laws.specs.Lemmas.Proved.{first_well}
use Rattle.model_laws.specs.Lemmas.Printing.{first_is_printable, steps_stay_printable}
use Rattle.typed_programs.specs.PlacesOf.{places_of}
use Rattle.typed_programs.specs.Lemmas.Running.{accepted_is_typed}
use Rattle.text_programs.specs.Moments.{Reaches, here, onward}
use Rattle.text_programs.specs.Printable.{MomentsOfTextsArePrintable}
use Rattle.text_programs.specs.Lemmas.Texts.{read_have_blocks}
use Rattle.text_programs.specs.Lemmas.Entered.{nothing_is_taken}
use Rattle.text_programs.specs.Lemmas.Moments.{stays_typed}

pub stays_printable : (p : Program) (t : Places) → IsTyped p t → (m : ℕ) (c d : Configuration) → WellTyped p t c → IsPrintable m c → Reaches p c d → IsPrintable m d
stays_printable p t typed m c d well printable here = printable
stays_printable p t typed m c d well printable (onward {d = x} far e) = steps_stay_printable p t x d m typed (stays_typed p t typed c x well far) (stays_printable p t typed m c x well printable far) e

pub moments_are_printable : MomentsOfTextsArePrintable
moments_are_printable bytes bundle read names checked s name n fits entered c d most objects cells first far =
    let p = named bundle in
    let t = places_of bundle in
    let typed = accepted_is_typed bundle names checked (read_have_blocks bytes bundle read) in
    let well = first_well p t s n c typed fits.globals fits.objects fits.client (nothing_is_taken bundle name n entered) first in
    stays_printable p t typed most c d well (first_is_printable p s n c most objects cells first) far
