use Rattle.acl_normal.proofs.Common.{ap, IfOk-weaker, map, of_borrowed, subst, ◌≡◌}
use Rattle.std.specs.Prelude.{reverse}
use Rattle.acl_contain.specs.Holders.{AreHolders, rows_words}
use Rattle.acl_normal.specs.Tables.{IsTableOf}
use Rattle.acl_contain.proofs.holder_lines.holders.Goals as goal

pub returns : goal.returns
returns c = IfOk-weaker c.words_of_table.result
    (λ text. text.items ≡ rows_words (reverse (map of_borrowed c.in_ok-rows.rows.items)))
    (λ text. AreHolders c.args.right.bits c.args.list.now text.items)
    (λ text h. (
      map of_borrowed c.in_ok-rows.rows.items,
      (
        λ b low. subst (λ l. IsTableOf b l (map of_borrowed c.in_ok-rows.rows.items)) c.view-view.ensures
            (c.in_ok-rows.ensures.rows b low),
        λ none. ap (map of_borrowed) (c.in_ok-rows.ensures.none none),
      ),
      h,
    ))
    c.words_of_table.ensures
