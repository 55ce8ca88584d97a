use Rattle.acl_nfs4.proofs.Common.{sym, ◌∙◌}
use Rattle.acl_nfs4.specs.internal.NameMap.{name_for}
use Rattle.acl_nfs4.proofs.list.RenamingTable.{reading_more}
use Rattle.acl_nfs4.proofs.list.renaming.names_of.Goals as goal

pub loop-place-preserved : goal.loop-place-preserved
loop-place-preserved c =
    reading_more (name_for c.loop-place.names) (name_for c.insert.new.self) c.loop-place.place c.args.table.now _
    c.loop-place-test.true c.loop-place.invariant (sym c.is_good_row.ensures ∙ c.if-not-is_good_row.false)
    c.in_ok-insert.ensures
