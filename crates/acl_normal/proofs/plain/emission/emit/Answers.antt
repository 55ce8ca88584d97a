use Rattle.acl_normal.proofs.Common.{[], ace, aces_in, ap, count_left, HasEmptyColumns, IsEmission, principal_of, subst, sym, take_out, ◌++◌, ◌<◌, ◌∙◌, ◌∷◌}
use Rattle.acl_normal.specs.internal.emit.Short.{ComesFirst}
use Rattle.acl_normal.proofs.emit.ShortTurns.{fewer_left}
use Rattle.acl_normal.proofs.plain.InTurn.{Completing, completing_all, completing_more}
use Rattle.acl_normal.proofs.reduce.Passes.{list_of-append}
use Rattle.acl_normal.proofs.plain.emission.emit.Goals as goal

pub emitted-init : goal.emitted-init
emitted-init c = rw c.new-form.ensures.items (record { once = c.requires; completes = λ more e. e })

pub emitted-smaller : goal.emitted-smaller
emitted-smaller c =
    let left = aces_in c.emitted.left.items in
    let a = ace c.in-Some.first in
    subst (λ v. count_left 21 v < count_left 21 left)
    (sym (c.in_ok-left.ensures
    ∙ ap (λ v. take_out (principal_of a) a.mask (aces_in v)) c.deref-in-Some.ensures.value))
    (fewer_left left a (subst (λ v. ComesFirst (aces_in v) a) c.deref.ensures.value c.in-Some.ensures)
    c.in-Some.first.mask.within)

pub emitted-preserved : goal.emitted-preserved
emitted-preserved c =
    let whole = IsEmission (aces_in c.args.aces.items) in
    let out = c.emitted.form.items in
    let left = aces_in c.emitted.left.items in
    let a = ace c.in-Some.first in
    subst (λ v. Completing whole v (aces_in c.in_ok-left.left.items))
    (sym (ap aces_in c.in_ok-push.ensures.items ∙ list_of-append out (c.in-Some.first ∷ [])))
    (subst (Completing whole (aces_in out ++ a ∷ []))
    (sym (c.in_ok-left.ensures
    ∙ ap (λ v. take_out (principal_of a) a.mask (aces_in v)) c.deref-in-Some.ensures.value))
    (completing_more whole (aces_in out) left a c.emitted.invariant
    (subst (λ v. ComesFirst (aces_in v) a) c.deref.ensures.value c.in-Some.ensures)))

pub returns : goal.returns
returns c =
    completing_all (IsEmission (aces_in c.args.aces.items)) (aces_in c.emitted.form.items)
    (aces_in c.emitted.left.items)
    (subst (λ v. HasEmptyColumns (aces_in v)) c.deref.ensures.value c.in_default.ensures) c.emitted.invariant
