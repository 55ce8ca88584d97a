use Rattle.std.proofs.Common.{◌≡◌, ◌+◌, ◌<◌, ◌/◌, ◌%◌, ◌*◌, ℕ, length, refl, slice_index_or}
use Rattle.acl_normal.proofs.Common.{ace, AceRef, Allow, ap, arith, Deny, is_principal_of, ColumnKey, key_here, Kind, kind_rank, principal, principal_of, remaining_of, row_of, subst, sym, ◌∙◌}
use Rattle.acl_normal.proofs.emit.Few.{remainder_of}
use Rattle.acl_normal.proofs.emit.InRemaining.{length_remaining, order_there}
use Rattle.acl_normal.proofs.emit.Marks.{number_rank}
use Rattle.acl_normal.proofs.rows.BitsTaken.{key_there}
use Rattle.acl_normal.proofs.rows.remaining.Remaining.key_of.Goals as goal
use Rattle.acl_normal.proofs.rows.remaining.Remaining.key_of.Goals.{then-number-eq0, else-number-eq0}

pub index-requires : goal.index-requires
index-requires c =
    let s = c.self.inside in
    let number : c.args.number < 2 * length (remaining_of s) =
    subst (λ v. c.args.number < 2 * length v) (sym c.self.view_is) c.requires in
    let half : c.args.number / 2 < length (remaining_of s) = omega (arith, number) in
    let here = order_there s (c.args.number / 2) _ _ c.self.invariant half c.index-place.ensures in
    omega (arith, here.1, length_remaining s c.self.invariant, s.aces.ok)

-- the kind of an even number is DENY
deny_at : (k : Kind) (n : ℕ) → n % 2 ≡ kind_rank k → n % 2 ≡ 0 → Deny ≡ k
deny_at Deny n is e = refl
deny_at Allow n is e = absurd (omega (arith, is, e))

-- the kind of an odd number is ALLOW
allow_at : (k : Kind) (n : ℕ) → n % 2 ≡ kind_rank k → (n % 2 ≡ 0 → ⊥) → Allow ≡ k
allow_at Allow n is e = refl
allow_at Deny n is e = absurd (e is)

-- half of the number of a key is its row
half_is : (k : ColumnKey) (n row : ℕ) → n % 2 ≡ kind_rank k.1 → n ≡ 2 * row + kind_rank k.1 → n / 2 ≡ row
half_is k n row rank is = omega (arith, rank, is)

pub returns-clause-key : goal.returns-clause-key
returns-clause-key c = λ k named is.
    let s = c.self.inside in
    let xs = remaining_of s in
    let number : c.args.number < 2 * length xs =
    subst (λ v. c.args.number < 2 * length v) (sym c.self.view_is) c.requires in
    let half : c.args.number / 2 < length xs = omega (arith, number) in
    let here = order_there s (c.args.number / 2) _ _ c.self.invariant half c.index-place.ensures in
    let rank = number_rank k c.args.self.now c.args.number is in
    let row : c.args.number / 2 ≡ row_of k.0 xs =
    half_is k c.args.number (row_of k.0 c.args.self.now) rank is ∙ ap (row_of k.0) (sym c.self.view_is) in
    let place : c.index-place.result.now ≡ slice_index_or s.order.items (row_of k.0 xs) 0 =
    here.0 ∙ ap (λ v. slice_index_or s.order.items v 0) row in
    let who : principal c.whom.result ≡ k.0 =
    c.whom.ensures ∙ ap (λ (v : AceRef). principal_of (ace v)) c.index.ensures
    ∙ ap (λ (v : ColumnKey). v.0) (key_there s.aces.items _ c.index-place.result.now _ here.1)
    ∙ ap (λ v. (key_here xs v).0) place
    ∙ c.self.invariant.list.order.first k.0 (ap (is_principal_of k.0) c.self.view_is ∙ named) in
    let kind : c.if-number-eq0.kind ≡ k.1 = elim c.if-number-eq0.branch [
      | then-number-eq0 w ↦ w.kind-is ∙ deny_at k.1 c.args.number rank w.if-number-eq0.true
      | else-number-eq0 w ↦ w.kind-is ∙ allow_at k.1 c.args.number rank w.if-number-eq0.false
    ] in
    ap (λ p. (p, c.if-number-eq0.kind)) who ∙ ap (λ j. (k.0, j)) kind

pub returns-clause-list : goal.returns-clause-list
returns-clause-list c = remainder_of c.self.inside c.args.self.now c.self.invariant c.self.view_is
