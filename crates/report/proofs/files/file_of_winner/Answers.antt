use Rattle.std.proofs.Common.{ap, ◌∙◌}
use Rattle.mvn_base.specs.FileName.{is_classifier}
use Rattle.mvn_base.specs.Names.{is_name}
use Rattle.classpaths.specs.Classpaths.{classifier_of}
use Rattle.classpaths.proofs.Valid.{classifier_named, extension_named}
use Rattle.report.proofs.Named.{named_classifier, named_gav, named_kind}
use Rattle.report.proofs.files.file_of_winner.Goals as goal

pub file_of-requires-clause-names : goal.file_of-requires-clause-names
file_of-requires-clause-names c = named_gav c.args.winner.now c.requires

pub file_of-requires-clause-classifier : goal.file_of-requires-clause-classifier
file_of-requires-clause-classifier c =
    ap is_classifier (c.classifier_of.ensures ∙ ap (λ r. classifier_of c.args.winner.now r) c.in_ok-rule.ensures)
    ∙ classifier_named c.args.winner.now (named_classifier c.args.winner.now c.requires)

pub file_of-requires-clause-extension : goal.file_of-requires-clause-extension
file_of-requires-clause-extension c = ap (λ r. is_name r.extension) c.in_ok-rule.ensures ∙ extension_named c.args.winner.now.kind (named_kind c.args.winner.now c.requires)
