use Rattle.acl_contain.proofs.joins.Passing.{all_taken, next_passed, next_taken}
use Rattle.acl_nfs4.specs.declared.ace.AceRef.{AceRef}
use Rattle.acl_normal.proofs.Common.{[], ace, aces_in, ap, arith, flags_for, map-append, principal_of, ◌∙◌, ◌∷◌, ◌≡◌}
use Rattle.acl_normal.specs.internal.emit.Rising.{cleared}
use Rattle.acl_contain.proofs.tidying.with_rights.Goals as goal
use Rattle.acl_contain.proofs.tidying.with_rights.Goals.{then-mask-ne0+in_ok-push, else-mask-ne0}

pub loop-place-preserved : goal.loop-place-preserved
loop-place-preserved c =
    let aces = c.args.aces.now in
    let masks = c.args.masks.now in
    let x = c.index-aces-place.result in
    let m = c.index-masks-place.result in
    let kept = c.loop-place.kept.items in
    elim c.if-mask-ne0.branch [
      | then-mask-ne0+in_ok-push w ↦
          let y : AceRef = record { kind = x.kind; flags = w.flags_of.result; mask = m; who = x.who } in
          let flags : w.flags_of.result.bits ≡ flags_for (principal_of (ace x)) =
          w.flags_of.ensures ∙ ap flags_for w.principal.ensures in
          let own : ace y ≡ cleared (record (ace x) { mask = m.bits }) =
          λ t. record { kind = x.kind; flags = flags t; mask = m.bits; who = x.who.now } in
          ap (λ v. aces_in v.items) w.kept-is ∙ ap aces_in w.in_ok-push.ensures.items ∙ map-append ace kept (y ∷ [])
          ∙ next_taken aces masks c.loop-place.place x y m (aces_in kept) c.loop-place-test.true c.requires
          c.index-aces-place.is c.index-masks-place.is w.if-mask-ne0.true own c.loop-place.invariant
      | else-mask-ne0 w ↦
          ap (λ v. aces_in v.items) w.kept-is
          ∙ next_passed aces masks c.loop-place.place x m (aces_in kept) c.loop-place-test.true
          c.requires c.index-aces-place.is c.index-masks-place.is (omega (arith, w.if-mask-ne0.false))
          c.loop-place.invariant
    ]

pub returns : goal.returns
returns c = all_taken c.args.aces.now c.args.masks.now c.loop-place.place (aces_in c.loop-place.kept.items) c.requires
    c.loop-place-test.false c.loop-place.invariant
