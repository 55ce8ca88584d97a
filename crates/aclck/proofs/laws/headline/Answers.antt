use Rattle.acl_posix.specs.Texts.{canonical_text}
use Rattle.acl_posix.proofs.Exports.{apart, back, canonical_reads}
use Rattle.aclck.proofs.NormalFormLemmas.{bytes_tell, form_grants, normalizes_twice}
use Rattle.aclck.proofs.laws.headline.Goals as goal

pub returns : goal.returns
returns c = record {
  equal_bytes = bytes_tell;
  same_grants = form_grants;
  twice_is_once = normalizes_twice;
  one_text = apart canonical_text canonical_reads;
  reads_back = λ names file other is. back (canonical_text file.access file.default) names file other
      (canonical_reads names file is);
}
