use Rattle.effective.proofs.Imported.{imported_again}
use Rattle.effective.proofs.law.import_stays.Goals as goal

pub returns : goal.returns
returns c = λ world given left more pom other building fewer gav managed le low e. imported_again world given left more pom other building fewer le low gav managed e
