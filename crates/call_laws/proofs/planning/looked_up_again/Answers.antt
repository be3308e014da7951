use Rattle.plan_law.proofs.Members.{in_from}
use Rattle.call_laws.proofs.Listing.{available_same}
use Rattle.call_laws.proofs.Looking.{found_same}
use Rattle.call_laws.proofs.planning.looked_up_again.Goals as goal

pub returns : goal.returns
returns c = record {
  pom = λ project start remote files built grown said gav. found_same project start remote files built grown said gav;
  versions = λ group artifact modules start remote files built grown own.
      available_same group artifact modules start remote files built grown (λ gav there. let m = own gav there in (m.0, in_from modules m.0 m.1, m.2));
}
