use Rattle.acl_contain.proofs.Enumeration.{question_added}
use Rattle.acl_contain.proofs.asking.add_question.Goals as goal

pub returns : goal.returns
returns c = question_added _ _ _ c.in_ok-push.ensures.items c.in_ok-owner.ensures c.in_ok-group.ensures
    c.in_ok-user.ensures c.in_ok-groups.ensures
