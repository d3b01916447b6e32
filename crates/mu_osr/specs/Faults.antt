-- Which case of the abstract machine a refused push is.
use Rattle.mu_model.specs.declared.endings.Case.{Case}
use Rattle.mu_model.specs.declared.endings.Case.TheVariants as cases
use Rattle.mu_osr.specs.declared.pushing.PushFault.{PushFault}
use Rattle.mu_osr.specs.declared.pushing.PushFault.TheVariants.{NoBody, Misfit}

abbrev pub case_of_fault : PushFault → Case
case_of_fault NoBody = cases.NoBody
case_of_fault Misfit = cases.StackTypes
