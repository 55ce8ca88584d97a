use Rattle.std.proofs.Common.{ℕ}
use Rattle.acl_normal.proofs.Common.{IfOk-weaker, same_Some, subst}
use Rattle.acl_normal.specs.Left.{IsLowest}
use Rattle.acl_normal.specs.Tables.{IsBorrowedTable}
use Rattle.acl_normal.proofs.right_table.borrowed_rows.Goals as goal

pub returns-clause-rows : goal.returns-clause-rows
returns-clause-rows c =
    IfOk-weaker c.rows_of_right.result _
    (λ rows. (b : ℕ) → IsLowest b c.args.right.bits → IsBorrowedTable b c.args.list.now rows.items)
    (λ rows made b low. subst (λ n. IsBorrowedTable n c.args.list.now rows.items)
    (same_Some _ _ (c.in-Some.ensures.some b low)) made) c.rows_of_right.ensures
