use Rattle.std.proofs.Common.{◌≤◌, arith, ap, List, ℕ, length, subst}
use Rattle.std.specs.List.{flat_map}
use Rattle.acl_perm.specs.Pieces.{WritesFrom}
use Rattle.acl_posix.specs.Attribute.{entry_bytes}
use Rattle.acl_posix.specs.Tag.{Tag}
use Rattle.acl_forms.proofs.AttributeWrites.{entries_fit, version_cut, version_then}
use Rattle.acl_nfs4.proofs.Exits.{exit_is}
use Rattle.acl_forms.proofs.attributes_writer.put_attribute.Goals as goal

pub put_entries-requires : goal.put_entries-requires
put_entries-requires g c =
    let (count, known) = c.in_ok-done.ensures.written in
    let size = ap (λ (l : List ℕ). length l) c.version_bytes.ensures in
    let le : c.in_ok-done.done ≤ 4 = omega (arith, count, size) in
    entries_fit c.args.acl.now c.entries-entries.result.now c.in_ok-done.done c.entries-entries.ensures.within
    c.entries-entries.ensures.entries le

pub returns-in_err-done-clause-written : goal.returns-in_err-done-clause-written
returns-in_err-done-clause-written g c =
    rw (exit_is c.from_residual.result c.from_residual.ensures.1)
    (version_cut _ _ c.args.acl.now c.version_bytes.result c.in_err-done.field-0.0 c.version_bytes.ensures
    c.in_err-done.ensures.written)

pub returns-clause-written : goal.returns-clause-written
returns-clause-written g c =
    let (count, known) = c.in_ok-done.ensures.written in
    let said = subst (λ (ps : List (Tag × ℕ)). WritesFrom (g.K.Sink.contents c.put_next.new.sink)
    (g.K.Sink.contents c.put_entries.new.sink) c.in_ok-done.done (flat_map entry_bytes ps) c.put_entries.result)
    c.entries-entries.ensures.entries c.put_entries.ensures.written in
    version_then _ _ _ c.args.acl.now c.version_bytes.result c.in_ok-done.done c.put_entries.result
    c.version_bytes.ensures count known said
