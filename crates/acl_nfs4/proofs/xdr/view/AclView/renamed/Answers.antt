use Rattle.acl_nfs4.proofs.Exits.{exit_is}
use Rattle.acl_nfs4.specs.Renamed.{rows}
use Rattle.acl_nfs4.specs.internal.NameMap.{name_for}
use Rattle.acl_nfs4.proofs.list.NameMaps.{same_names}
use Rattle.acl_nfs4.proofs.list.MergedNames.{may_all, merge_fault, no_refused_merge}
use Rattle.acl_nfs4.proofs.list.RenamedLists.{exchange_accepted, exchange_is}
use Rattle.acl_nfs4.proofs.xdr.view.AclView.renamed.Goals as goal
use Rattle.acl_nfs4.proofs.xdr.view.AclView.renamed.Goals.{then-not-may_merge+in_ok-judge_merges, else-not-may_merge}

pub returns-in_err-judge_merges-clause-fault : goal.returns-in_err-judge_merges-clause-fault
returns-in_err-judge_merges-clause-fault c =
    rw (exit_is c.from_residual-in_err-judge_merges.result c.from_residual-in_err-judge_merges.ensures.1)
    (merge_fault (rows c.args.table.now) c.args.may_merge c.args.self.now c.aces.result
    (name_for c.in_ok-names.names) c.in_err-judge_merges.field-0.0 c.in_ok-names.ensures.good
    (same_names _ _ c.in_ok-names.ensures.named) c.if-not-may_merge.true c.aces.ensures.same
    c.in_err-judge_merges.ensures.fault)

pub exchanged-requires : goal.exchanged-requires
exchanged-requires c =
    exchange_accepted (rows c.args.table.now) c.args.self.now c.aces-2.result (name_for c.in_ok-names.names)
    c.in_ok-names.ensures.good (same_names _ _ c.in_ok-names.ensures.named) c.aces-2.ensures.same
    c.aces-2.ensures.accepted

pub returns-clause-ok : goal.returns-clause-ok
returns-clause-ok c =
    exchange_is (rows c.args.table.now) c.args.self.now c.aces-2.result c.in_ok-exchanged.field-0
    (name_for c.in_ok-names.names) (same_names _ _ c.in_ok-names.ensures.named) c.aces-2.ensures.same
    c.in_ok-exchanged.ensures

pub returns-clause-may : goal.returns-clause-may
returns-clause-may c = record {
  rows = c.in_ok-names.ensures.good;
  merges = elim c.if-not-may_merge.branch [
    | then-not-may_merge+in_ok-judge_merges w ↦
        no_refused_merge (rows c.args.table.now) c.args.may_merge c.args.self.now w.aces.result
        (name_for c.in_ok-names.names) (same_names _ _ c.in_ok-names.ensures.named) w.if-not-may_merge.true
        w.aces.ensures.same w.in_ok-judge_merges.ensures.none
    | else-not-may_merge w ↦ may_all (rows c.args.table.now) c.args.may_merge c.args.self.now w.if-not-may_merge.false
  ];
}
