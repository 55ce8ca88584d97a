use Rattle.std.proofs.Common.{rules}
use Rattle.std.proofs.lemmas.List.Sorted.{answers_always}
use Rattle.std.specs.Prelude.{nat_lt}
use Rattle.acl_prepared.proofs.IdGroups.{AreRising-adjacent}
use Rattle.acl_prepared.proofs.id_request.are_rising.Goals as goal

pub returns : goal.returns
returns c =
    AreRising-adjacent c.args.ids.now c.is_sorted_by.result
    (c.is_sorted_by.ensures.cases (λ a b. nat_lt a b) (answers_always _ _ _ (λ f a r g called. search rules)))
