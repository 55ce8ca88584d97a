use Rattle.std.proofs.Common.{List, ℕ, subst}
use Rattle.acl_perm.proofs.PieceLemmas.{written_both}
use Rattle.acl_perm.specs.Pieces.{WritesFrom}
use Rattle.acl_posix.specs.Entries.{pairs}
use Rattle.acl_forms.proofs.PosixWrites.{star_text}
use Rattle.acl_forms.proofs.posix_text.writer.put_text.Goals as goal

pub returns-in_ok-done-in-Star-clause-written : goal.returns-in_ok-done-in-Star-clause-written
returns-in_ok-done-in-Star-clause-written g c =
    let (count, put) = c.in_ok-done-in-Star.ensures.written in
    subst (λ (t : List ℕ). WritesFrom (g.K.Sink.contents c.args.sink.now)
    (g.K.Sink.contents c.put_pass-in-Star-2.new.sink) 0 t c.put_pass-in-Star-2.result)
    (star_text c.args.names.now c.args.style (pairs c.args.entries.now) c.in-Star.is)
    (written_both _ _ _ 0 c.in_ok-done-in-Star.done _ _ _ count put c.put_pass-in-Star-2.ensures.written)
