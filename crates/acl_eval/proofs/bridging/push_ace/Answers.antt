use Rattle.std.proofs.Common.{sym, subst, List, ◌≡◌, ◌++◌}
use Rattle.std.specs.Prelude.{OnOk}
use Rattle.acl_perm.specs.Profile.{full}
use Rattle.acl_nfs4.specs.Ace.{Ace}
use Rattle.acl_nfs4.specs.Spelling.{IsAccepted}
use Rattle.acl_posix.specs.Tag.{tag_of}
use Rattle.acl_eval.proofs.Parts.{none_of, one_of}
use Rattle.acl_eval.proofs.bridging.push_ace.Goals as goal

pub returns-then-perm-eq0 : goal.returns-then-perm-eq0
returns-then-perm-eq0 c = none_of c.args.kind (tag_of c.args.tag) c.args.perm.bits c.args.list.now c.if-perm-eq0.true

pub push_accepted-requires : goal.push_accepted-requires
push_accepted-requires c =
    let one = one_of c.args.kind (tag_of c.args.tag) c.args.perm.bits c.if-perm-eq0.false c.flags_of.ensures
    c.image.ensures c.requires.named in
    subst (λ (l : List Ace). IsAccepted full (c.args.list.now ++ l)) (sym one) c.requires.accepted

pub returns : goal.returns
returns c =
    let one = one_of c.args.kind (tag_of c.args.tag) c.args.perm.bits c.if-perm-eq0.false c.flags_of.ensures
    c.image.ensures c.requires.named in
    subst (λ (l : List Ace). OnOk c.push_accepted.result (c.push_accepted.new.self ≡ c.args.list.now ++ l)) one
    c.push_accepted.ensures.ok
