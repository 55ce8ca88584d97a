use Rattle.acl_posix.proofs.Common.{ap, class_union, List, mask, on_ok_weaker, Tag, ℕ, ◌∙◌}
use Rattle.std.specs.FinMap as fin
use Rattle.acl_posix.proofs.sorted.OneEntry.{masked_or_kept}
use Rattle.acl_posix.proofs.sorted.SortedEntries.set_mask.Goals as goal

pub returns-clause-ok : goal.returns-clause-ok
returns-clause-ok c = on_ok_weaker c.insert.result (λ is. is ∙ ap (fin.insert c.args.self.now mask)
    (c.class_union-perm.ensures ∙ ap (λ (ps : List (Tag × ℕ)). class_union ps) c.as_slice.ensures.entries))
    c.insert.ensures.ok

pub returns-clause-valid : goal.returns-clause-valid
returns-clause-valid c =
    masked_or_kept c.args.self.now c.insert.new.self c.class_union-perm.result.bits c.insert.result c.insert.ensures.ok
    c.insert.ensures.err
