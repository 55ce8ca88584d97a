use Rattle.std.proofs.Common.{ℕ, sym, subst, ◌++◌}
use Rattle.acl_perm.specs.Profile.{full}
use Rattle.acl_perm.specs.declared.kind.Kind.TheVariants.{Allow}
use Rattle.acl_nfs4.specs.Spelling.{IsAccepted}
use Rattle.acl_posix.specs.Entries.{pair_of}
use Rattle.acl_posix.specs.Tag.{tag_of}
use Rattle.acl_eval.specs.Bridge.{ace_of, allow_of, deny_of}
use Rattle.acl_eval.proofs.Parts.{first_fits}
use Rattle.acl_eval.proofs.bridging.push_decided.Goals as goal

pub push_ace-requires-clause-accepted : goal.push_ace-requires-clause-accepted
push_ace-requires-clause-accepted c =
    let entry = pair_of c.args.entry in
    subst (λ (n : ℕ). IsAccepted full (c.args.list.now ++ ace_of Allow (tag_of c.args.entry.tag) n))
    (sym c.effective-allowed.ensures)
    (first_fits c.args.list.now (allow_of c.args.acl.now entry) (deny_of c.args.acl.now entry) c.requires)
