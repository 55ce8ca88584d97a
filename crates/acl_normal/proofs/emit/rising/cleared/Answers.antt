use Rattle.acl_normal.proofs.Common.{[], ace, AceRef, ap, flags_for, full, IsAccepted, Mask, principal_of, subst, sym, ◌++◌, ◌∙◌, ◌∷◌, ◌≡◌}
use Rattle.acl_perm.specs.declared.flags.Flags.{Flags}
use Rattle.acl_normal.specs.internal.emit.Rising.{cleared}
use Rattle.acl_normal.proofs.emit.Risen.{all_places, cleared_more, cleared_past, next_cleared, shown, shown_end, shown_here}
use Rattle.acl_normal.proofs.emit.rising.cleared.Goals as goal
use Rattle.acl_normal.proofs.emit.rising.cleared.Goals.{then-mask-ne0+in_ok-push_accepted, else-mask-ne0}
use Rattle.std.proofs.Common.{arith}

-- the ACE of the code with these flags is the ACE with them
flagged : (x : AceRef) (m : Mask) (f : Flags) → f.bits ≡ flags_for (principal_of (ace x))
    → ace (record { kind = x.kind; flags = f; mask = m; who = x.who }) ≡ cleared (shown x m)
flagged x m f e =
    ap (λ n. record { kind = x.kind; flags = n; mask = m.bits; who = x.who.now }) e

pub push_accepted-requires : goal.push_accepted-requires
push_accepted-requires c =
    let here = shown_here c.args.aces.now c.args.masks.now c.requires.masks c.loop-place-test.true
    c.index-aces-place.is c.index-masks-place.is in
    subst (λ a. IsAccepted full (c.loop-place.list ++ a ∷ [])) (sym
    (flagged c.index-aces-place.result c.index-masks-place.result _
    (c.flags_of.ensures ∙ ap flags_for c.principal.ensures)))
    (next_cleared _ c.requires.accepted here.within here.item c.if-mask-ne0.true c.loop-place.invariant)

pub loop-place-preserved : goal.loop-place-preserved
loop-place-preserved c =
    let here = shown_here c.args.aces.now c.args.masks.now c.requires.masks c.loop-place-test.true
    c.index-aces-place.is c.index-masks-place.is in
    elim c.if-mask-ne0.branch [
      | then-mask-ne0+in_ok-push_accepted w ↦ rw w.list-is (cleared_more _ here.within here.item
          w.if-mask-ne0.true c.loop-place.invariant
          (w.in_ok-push_accepted.ensures.ok ∙ ap (λ a. c.loop-place.list ++ a ∷ [])
          (flagged c.index-aces-place.result c.index-masks-place.result _
          (w.flags_of.ensures ∙ ap flags_for w.principal.ensures))))
      | else-mask-ne0 w ↦ rw w.list-is (cleared_past _ here.within (omega (arith, here.mask, w.if-mask-ne0))
          c.loop-place.invariant)
    ]

pub returns : goal.returns
returns c =
    all_places _ (shown_end c.args.aces.now c.args.masks.now _ c.requires.masks c.loop-place-test.false)
    c.loop-place.invariant
