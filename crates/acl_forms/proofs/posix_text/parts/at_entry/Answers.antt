use Rattle.std.proofs.Common.{refl}
use Rattle.acl_forms.proofs.PosixLemmas.{offset_read}
use Rattle.acl_forms.proofs.posix_text.parts.at_entry.Goals as goal

pub returns : goal.returns
returns c = rw (c.new.ensures, offset_read c.args.read.now c.args.place c.index-read-place.result c.requires) refl
