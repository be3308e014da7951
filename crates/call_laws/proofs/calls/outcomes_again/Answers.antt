use Rattle.call_laws.proofs.Recalling.{again_files, again_outcome, first_again, found_is_over}
use Rattle.call_laws.proofs.calls.outcomes_again.Goals as goal

pub returns : goal.returns
returns c = record {
  found = λ asked world found other files first behind is. found_is_over asked world found other files first behind is;
  outcome = λ asked world found other files full first behind is. again_outcome asked world found other files full first behind is;
  files = λ asked world found other files first behind is. again_files asked world found other files first behind is;
  once_more = λ asked world found files first behind. first_again asked world found files first behind;
}
