use Rattle.acl_normal.proofs.Common.{[], ace, aces_in, ap, count_left, full, IfOk-weaker, IsAccepted, IsNormalFormOf, nothing_left, principal_of, subst, sym, take_out, ◌++◌, ◌<◌, ◌∙◌, ◌∷◌, ◌≡◌}
use Rattle.acl_normal.proofs.emit.ShortTurns.{fewer_left}
use Rattle.acl_normal.proofs.plain.FreeInRows.{irreducible_rows, rows_taken}
use Rattle.acl_normal.proofs.plain.InTurn.{Completing, completing_all, completing_more}
use Rattle.acl_normal.proofs.plain.PlainForm.{irreducible_form, irreducible_once}
use Rattle.acl_normal.proofs.reduce.Passes.{list_of-append}
use Rattle.acl_normal.proofs.rows.RowsAlike.{outline_taken}
use Rattle.acl_normal.proofs.unique.Forming.{empty_form}
use Rattle.acl_normal.proofs.plain.by_rows.normalize_by_rows.Goals as goal

pub returns-then-is_empty-clause-form : goal.returns-then-is_empty-clause-form
returns-then-is_empty-clause-form c = rw (c.is_empty.ensures.0 c.if-is_empty.true, c.new.ensures) empty_form

pub emitted-init : goal.emitted-init
emitted-init c =
    let r = c.in_ok-rows.ensures in rw c.new-form.ensures.items (record {
      completing = record {
        once = irreducible_once c.in_ok-rows.rows r.irreducible;
        completes = λ more e. irreducible_form c.args.source.now c.in_ok-rows.rows more
            c.in_ok-aces.ensures.accepted r.irreducible r.grants e;
      };
      outline = r.places ∙ ap nothing_left (sym c.in_ok-aces.ensures.aces);
      columns = irreducible_rows c.in_ok-rows.rows r.irreducible;
    })

pub least-requires-clause-outline : goal.least-requires-clause-outline
least-requires-clause-outline c =
    c.emitted.invariant.outline ∙ ap (λ v. nothing_left (aces_in v)) (sym c.deref.ensures.value)

pub least-requires-clause-columns : goal.least-requires-clause-columns
least-requires-clause-columns c = c.emitted.invariant.columns

pub emitted-smaller : goal.emitted-smaller
emitted-smaller c =
    let left = c.emitted.rows in
    let a = ace c.in-Some.first in
    subst (λ v. count_left 21 v < count_left 21 left)
    (sym (c.emit.ensures ∙ ap (λ p. take_out p a.mask left) c.principal.ensures))
    (fewer_left left a c.in-Some.ensures c.in-Some.first.mask.within)

pub emitted-preserved : goal.emitted-preserved
emitted-preserved c =
    let form = IsNormalFormOf c.args.source.now in
    let out = c.emitted.form.items in
    let left = c.emitted.rows in
    let a = ace c.in-Some.first in
    let rest : c.emit.new.self ≡ take_out (principal_of a) a.mask left =
    c.emit.ensures ∙ ap (λ p. take_out p a.mask left) c.principal.ensures in record {
      completing = subst (λ v. Completing form v c.emit.new.self)
          (sym (ap aces_in c.in_ok-push.ensures.items ∙ list_of-append out (c.in-Some.first ∷ [])))
          (subst (Completing form (aces_in out ++ a ∷ [])) (sym rest)
          (completing_more form (aces_in out) left a c.emitted.invariant.completing c.in-Some.ensures));
      outline = ap nothing_left rest ∙ outline_taken (principal_of a) a.mask left ∙ c.emitted.invariant.outline;
      columns = rw rest (rows_taken (principal_of a) a.mask left c.emitted.invariant.columns);
    }

pub list_of-requires : goal.list_of-requires
list_of-requires c =
    subst (λ v. IsAccepted full (aces_in v)) (sym c.deref-2.ensures.value)
    (completing_all (IsNormalFormOf c.args.source.now) (aces_in c.emitted.form.items) c.emitted.rows
    c.in_default.ensures c.emitted.invariant.completing).accepted

pub returns-clause-form : goal.returns-clause-form
returns-clause-form c =
    IfOk-weaker c.list_of.result _ (IsNormalFormOf c.args.source.now)
    (λ list is. subst (IsNormalFormOf c.args.source.now) (sym (is ∙ ap aces_in c.deref-2.ensures.value))
    (completing_all (IsNormalFormOf c.args.source.now) (aces_in c.emitted.form.items) c.emitted.rows
    c.in_default.ensures c.emitted.invariant.completing)) c.list_of.ensures
