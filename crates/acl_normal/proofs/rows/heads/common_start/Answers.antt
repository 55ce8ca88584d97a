use Rattle.std.proofs.Common.{None, Some}
use Rattle.acl_normal.proofs.Common.{ace, ap, arith, BeginsWith, length, List, option_map, Principal, principal_of, same_Some, sym, take, take_all, ℕ, ◌∙◌, ◌≡◌}
use Rattle.acl_normal.specs.internal.rows.Heads.{given_name}
use Rattle.acl_normal.proofs.rows.Beginnings.{begin_more}
use Rattle.acl_normal.proofs.rows.heads.common_start.Goals as goal
use Rattle.acl_normal.proofs.rows.heads.common_start.Goals.{in-Some, in_default}

-- the first bytes of the name of a principal begin it
started : (start name : List ℕ) (p : Principal) → given_name p ≡ Some name → start ≡ take (length start) name
    → BeginsWith start p
started start name p e is other o = is ∙ ap (take (length start)) (same_Some name other (sym e ∙ o))

-- what has no name begins with anything
nameless : (start : List ℕ) (p : Principal) → given_name p ≡ None → BeginsWith start p
nameless start p e name o = absurd (cc (sym e ∙ o))

pub loop-ace-preserved : goal.loop-ace-preserved
loop-ace-preserved c =
    let aces = c.args.aces.now in
    let i = c.loop-ace.ace-index in
    let x = c.ace-item.result in
    let start = c.loop-ace.start.now in
    let named = sym (ap given_name c.whom.ensures) ∙ sym c.given_name.ensures in
    elim c.match-given_name.branch [
      | in-Some w ↦ rw w.start-is (begin_more aces start w.shared_start-start.result.now i x c.loop-ace-test.true
          c.ace-item.is w.shared_start-start.ensures.first
          (started w.shared_start-start.result.now w.in-Some.name.now (principal_of (ace x))
          (named ∙ ap (option_map (λ name. name.now)) w.in-Some.is) w.shared_start-start.ensures.second)
          c.loop-ace.invariant)
      | in_default w ↦ rw w.start-is (begin_more aces start start i x c.loop-ace-test.true
          c.ace-item.is (sym (take_all (length start) start (omega arith)))
          (nameless start (principal_of (ace x)) (named ∙ ap (option_map (λ name. name.now)) w.in_default.is))
          c.loop-ace.invariant)
    ]
