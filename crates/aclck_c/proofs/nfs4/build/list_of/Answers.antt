use Rattle.std.proofs.Common.{List, None, arith, subst, ◌≡◌}
use Rattle.std.specs.Prelude.{All}
use Rattle.std.proofs.lemmas.List.{take_all}
use Rattle.std.proofs.lemmas.List.Elements.{All-more}
use Rattle.acl_perm.specs.Profile.{profile_of}
use Rattle.aclck_c.specs.Build.{ace_given, number_fault}
use Rattle.aclck_c.specs.Common.{map}
use Rattle.aclck_c.specs.declared.nfs4.ace.RawAce.{RawAce}
use Rattle.aclck_c.proofs.Builds.{are_aces, build_ends, build_on}
use Rattle.aclck_c.proofs.nfs4.build.list_of.Goals as goal

pub loop-item-preserved : goal.loop-item-preserved
loop-item-preserved c =
    let aces = c.args.aces.now in
    let i = c.loop-item.item-index in
    let so_far = c.loop-item.invariant in
    let next = c.in_ok-add.ensures in
    record {
      is = build_on aces i _ c.loop-item.list c.add.new.list c.loop-item-test.true so_far.is next.is;
      numbers = All-more (λ a. number_fault (profile_of c.args.profile) a ≡ None) aces i _ c.loop-item-test.true
          so_far.numbers next.number;
      accepted = next.accepted;
    }

pub returns-in_err-add-clause-err : goal.returns-in_err-add-clause-err
returns-in_err-add-clause-err c =
    let so_far = c.loop-item.invariant in
    build_ends c.args.profile c.args.aces.now c.loop-item.item-index _ c.loop-item.list _ c.from_residual.result
    (omega arith) c.from_residual.ensures.1 c.loop-item-test.true so_far.is so_far.numbers so_far.accepted
    c.in_err-add.ensures

pub returns-clause-aces : goal.returns-clause-aces
returns-clause-aces c =
    let aces = c.args.aces.now in
    let so_far = c.loop-item.invariant in
    let whole = take_all c.loop-item.item-index aces (omega (arith, c.loop-item-test.false)) in
    are_aces c.args.profile aces c.loop-item.list (omega arith)
    (subst (λ (l : List RawAce). All (λ a. number_fault (profile_of c.args.profile) a ≡ None) l) whole so_far.numbers)
    so_far.accepted (subst (λ (l : List RawAce). c.loop-item.list ≡ map ace_given l) whole so_far.is)
