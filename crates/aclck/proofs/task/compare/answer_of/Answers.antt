use Rattle.std.proofs.Common.{◌∙◌, ap, not, sym}
use Rattle.aclck.proofs.CompareLemmas.{compares_is}
use Rattle.aclck.proofs.task.compare.answer_of.Goals as goal

pub returns : goal.returns
returns c =
    compares_is _ _ c.in_ok-difference.difference _ _ (c.is_none.ensures ∙ ap not (sym c.of-outcome.ensures))
    c.in_ok-text.ensures c.in_ok-difference.ensures.same c.in_ok-difference.ensures.first
