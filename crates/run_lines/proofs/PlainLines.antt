-- The lines of a run that are no event lines are passed over.
use Rattle.run_lines.specs.PlainLines.{TextsArePlain}
use Rattle.run_lines.proofs.Plain.{has_names, note_plain, note_begins, ending_plain, ending_begins}
use Rattle.bundle_facts.specs.Lemmas.Spelled.{names_spelled}

pub texts_plain : TextsArePlain
texts_plain bytes bundle read =
    let h = names_spelled bytes bundle read in
    record {
      names = has_names bundle h;
      records = λ n. (note_begins bundle h n, note_plain bundle h n);
      endings = λ e. (ending_begins bundle h e, ending_plain bundle h e);
    }
