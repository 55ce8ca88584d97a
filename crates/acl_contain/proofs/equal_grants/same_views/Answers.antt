use Rattle.acl_normal.proofs.Common.{aces_in, all_rights, ap, arith, IfOk, IsTrue, SameGrants, subst, ◌↔◌, ◌∙◌}
use Rattle.acl_contain.proofs.equal_grants.same_views.Goals as goal

pub returns-then-len-gt-SHORT : goal.returns-then-len-gt-SHORT
returns-then-len-gt-SHORT c =
    let same = c.in_ok-difference.ensures.same in
    record {
      answer = (
        λ none. same.0 (grind (arith, c.is_none.ensures, none)),
        λ all. let none = same.1 all in grind (arith, c.is_none.ensures, none),
      );
    }

pub returns : goal.returns
returns c =
    let list = ap aces_in c.deref.ensures.value ∙ c.in_ok-list.ensures.aces in
    let other = ap aces_in c.deref-2.ensures.value ∙ c.in_ok-other.ensures.aces in
    record {
      answer = subst
          (λ v. IfOk c.have_one_form.result (λ answer. IsTrue answer ↔ SameGrants all_rights v c.args.second.now)) list
          (subst (λ v. IfOk c.have_one_form.result
          (λ answer. IsTrue answer ↔ SameGrants all_rights (aces_in c.deref.result.now) v)) other
          c.have_one_form.ensures);
    }
