use Rattle.acl_normal.proofs.Common.{[], aces_in, ap, column, default, IfOk-weaker, needed_keys, reduced, unshadowed, ℕ, ◌∙◌, ◌≡◌}
use Rattle.acl_normal.proofs.plain.normal_form.needed_aces.Goals as goal

pub returns-clause-columns : goal.returns-clause-columns
returns-clause-columns c =
    IfOk-weaker c.drop_needless.result _
    (λ needed. (bit : ℕ) → column (aces_in needed.items) bit ≡ reduced (column c.args.source.now bit))
    (λ needed second bit. second bit
    ∙ ap (λ v. needed_keys (default v) v)
    (ap (λ v. column (aces_in v) bit) c.deref-2.ensures.value ∙ c.in_ok-reached.ensures bit
    ∙ ap (λ v. unshadowed [] (column v bit)) (ap aces_in c.deref.ensures.value ∙ c.in_ok-aces.ensures.aces)))
    c.drop_needless.ensures
