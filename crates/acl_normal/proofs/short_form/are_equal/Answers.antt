use Rattle.acl_normal.proofs.Common.{Ace, Emitted, List, [], ap, arith, emitted_ace, emitted_aces, false≢true, get_or-map, length, slice_index_or, sym, take, ℕ, ◌++◌, ◌<◌, ◌∙◌, ◌∷◌, ◌≡◌}
use Rattle.acl_normal.proofs.emit.ShortTurns.{seen_more}
use Rattle.acl_normal.proofs.short_form.are_equal.Goals as goal

-- the ACE at a place
ace_at : (es : List Emitted) (i : ℕ) (e : Emitted) (d : Ace) → i < length es → e ≡ slice_index_or es i e
    → slice_index_or (emitted_aces es) i d ≡ emitted_ace e
ace_at es i e d l is = get_or-map emitted_ace es i e d l ∙ ap emitted_ace (sym is)

pub returns-then-not-is_same : goal.returns-then-not-is_same
returns-then-not-is_same c = (
  λ no. absurd (false≢true no),
  λ same.
      let i = c.loop-place.place in
      let x = c.index-list-place.result in
      let d = emitted_ace x in
      let within : i < length c.args.other.now = omega (arith, c.loop-place-test.true, c.if-list-other.false) in
      absurd (false≢true (sym c.if-not-is_same.true
      ∙ c.is_same.ensures.1
      (sym (ace_at c.args.list.now i x d c.loop-place-test.true c.index-list-place.is)
      ∙ ap (λ v. slice_index_or v i d) same
      ∙ ace_at c.args.other.now i c.index-other-place.result d within c.index-other-place.is))),
)

pub loop-place-preserved : goal.loop-place-preserved
loop-place-preserved c =
    let i = c.loop-place.place in
    let x = c.index-list-place.result in
    let y = c.index-other-place.result in
    let within : i < length c.args.other.now = omega (arith, c.loop-place-test.true, c.if-list-other.false) in
    seen_more c.args.list.now i x c.loop-place-test.true c.index-list-place.is
    ∙ ap (λ v. v ++ emitted_ace x ∷ []) c.loop-place.invariant
    ∙ ap (λ a. emitted_aces (take i c.args.other.now) ++ a ∷ []) (c.is_same.ensures.0 c.if-not-is_same.false)
    ∙ sym (seen_more c.args.other.now i y within c.index-other-place.is)
