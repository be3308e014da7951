-- What valid names give, one by one.
use Rattle.std.proofs.Common.{◌≡◌, Bool, true, false, ◌&&◌, refl}
use Rattle.mvn_base.specs.FileName.{IsValid, is_classifier}
use Rattle.mvn_base.specs.Names.{is_group, is_name, is_version}
use Rattle.classpaths.specs.declared.resolution.Resolved.{Resolved}
use Rattle.report.specs.Full.{has_names}

front : (a b : Bool) → a && b ≡ true → a ≡ true
front true b e = refl
front false b e = cc

rest : (a b : Bool) → a && b ≡ true → b ≡ true
rest true b e = e
rest false b e = cc

-- behind the group; behind the artifact; behind the version
after_group : (w : Resolved) → has_names w ≡ true → is_name w.gav.artifact && (is_version w.gav.version && (is_name w.kind && is_classifier w.classifier)) ≡ true
after_group w e = rest (is_group w.gav.group) _ e

after_artifact : (w : Resolved) → has_names w ≡ true → is_version w.gav.version && (is_name w.kind && is_classifier w.classifier) ≡ true
after_artifact w e = rest (is_name w.gav.artifact) _ (after_group w e)

after_version : (w : Resolved) → has_names w ≡ true → is_name w.kind && is_classifier w.classifier ≡ true
after_version w e = rest (is_version w.gav.version) _ (after_artifact w e)

pub named_gav : (w : Resolved) → has_names w ≡ true → IsValid w.gav
named_gav w e = record {
  group = front (is_group w.gav.group) _ e;
  artifact = front (is_name w.gav.artifact) _ (after_group w e);
  version = front (is_version w.gav.version) _ (after_artifact w e);
}

pub named_kind : (w : Resolved) → has_names w ≡ true → is_name w.kind ≡ true
named_kind w e = front (is_name w.kind) _ (after_version w e)

pub named_classifier : (w : Resolved) → has_names w ≡ true → is_classifier w.classifier ≡ true
named_classifier w e = rest (is_name w.kind) _ (after_version w e)
