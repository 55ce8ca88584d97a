use Rattle.std.proofs.Common.{ap, None, Some, sym}
use Rattle.std.specs.Prelude.{option_map}
use Rattle.acl_perm.specs.Lines.{span_of}
use Rattle.acl_forms.proofs.PosixLemmas.{by_word}
use Rattle.acl_forms.specs.internal.PosixReading.{parts_viewed}
use Rattle.acl_forms.proofs.posix_text.entry.pair_at.Goals as goal

pub returns-in-None : goal.returns-in-None
returns-in-None c =
    rw (by_word c.args.start c.args.names.now (parts_viewed c.args.fields) c.in_ok-word.word None
    (sym c.in_ok-word.ensures) (ap (option_map span_of) c.in-None.is))
    (c.named_pair.ensures c.args.start)

pub returns-in-Some : goal.returns-in-Some
returns-in-Some c =
    rw (by_word c.args.start c.args.names.now (parts_viewed c.args.fields) c.in_ok-word.word
    (Some (span_of c.in-Some.field)) (sym c.in_ok-word.ensures) (ap (option_map span_of) c.in-Some.is))
    (c.numbered_pair.ensures c.args.names.now)
