use Rattle.std.proofs.Common.{◌+◌, List, [], ◌∷◌, ◌++◌, ap, sym, ◌∙◌, append-nil}
use Rattle.std.specs.Prelude.{map, option_map}
use Rattle.acl_nfs4.proofs.Exits.{exit_is}
use Rattle.acl_nfs4.specs.Ace.{Ace}
use Rattle.acl_nt.specs.Descriptor.{nt_ace}
use Rattle.acl_nt.specs.NtList.{sid_ace}
use Rattle.acl_nt.specs.Sid.{Sid, sid}
use Rattle.acl_nt.proofs.Mapped.{fault_grows, for_object, for_others, taken}
use Rattle.acl_nt.proofs.mapping.push_aces.Goals as goal
use Rattle.acl_nt.proofs.mapping.push_aces.Goals.{then-is_for_object+in_ok-push_sid, else-is_for_object}

pub returns-in_err-push_sid-clause-fault : goal.returns-in_err-push_sid-clause-fault
returns-in_err-push_sid-clause-fault c =
    let users = map sid c.args.users.now in
    let owner = option_map sid c.args.owner.now in
    let item = c.ace-item.result in
    let list = c.loop-ace.list in
    let more = taken users owner c.args.aces.now c.loop-ace.ace-index item c.args.list.now list c.loop-ace-test.true
    c.ace-item.is c.loop-ace.invariant in
    let one = ap (λ (x : Sid). list ++ sid_ace users item.kind item.mask x ∷ []) c.stands_for.ensures
    ∙ ap (λ (l : List Ace). list ++ l)
    (sym (for_object users owner (nt_ace item) (sym c.is_for_object.ensures ∙ c.if-is_for_object.true))) in
    rw (exit_is c.from_residual.result c.from_residual.ensures.1)
    (fault_grows users owner c.args.aces.now (c.loop-ace.ace-index + 1) c.args.list.now _ (one ∙ more) _
    c.in_err-push_sid.ensures.fault)

pub loop-ace-preserved : goal.loop-ace-preserved
loop-ace-preserved c =
    let users = map sid c.args.users.now in
    let owner = option_map sid c.args.owner.now in
    let item = c.ace-item.result in
    let list = c.loop-ace.list in
    let more = taken users owner c.args.aces.now c.loop-ace.ace-index item c.args.list.now list c.loop-ace-test.true
    c.ace-item.is c.loop-ace.invariant in
    elim c.if-is_for_object.branch [
      | then-is_for_object+in_ok-push_sid w ↦
          w.list-is ∙ w.in_ok-push_sid.ensures.ok
          ∙ ap (λ (x : Sid). list ++ sid_ace users item.kind item.mask x ∷ []) w.stands_for.ensures
          ∙ ap (λ (l : List Ace). list ++ l)
          (sym (for_object users owner (nt_ace item) (sym c.is_for_object.ensures ∙ w.if-is_for_object.true)))
          ∙ more
      | else-is_for_object w ↦
          w.list-is ∙ sym (append-nil list)
          ∙ ap (λ (l : List Ace). list ++ l)
          (sym (for_others users owner (nt_ace item) (sym c.is_for_object.ensures ∙ w.if-is_for_object.false)))
          ∙ more
    ]
