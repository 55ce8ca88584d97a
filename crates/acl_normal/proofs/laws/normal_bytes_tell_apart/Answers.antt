use Rattle.std.proofs.Common.{◌≡◌, ℕ, List, [], refl}
use Rattle.acl_normal.proofs.Common.{Ace, ap, IsNormal, SameGrants, spelling, subst, sym, ◌↔◌, ◌∙◌}
use Rattle.acl_nfs4.specs.Spelling.{Xdr}
use Rattle.acl_normal.proofs.laws.normal_bytes_tell_apart.Goals as goal

pub returns-clause-apart : goal.returns-clause-apart
returns-clause-apart c p a b x y source other is at_a at_b na nb =
    let same_list : (l m : List Ace) (s : List ℕ) → Xdr p l s → Xdr p m s → l ≡ m =
    λ l m s h k. (c.one_spelling.ensures p l m s s [] [] is h k refl).0 in
    let law : (spelling na.form ≡ spelling nb.form) ↔ SameGrants p.masks na.source nb.source =
    c.equal_bytes.ensures.forms p na.source nb.source na.form nb.form is
    (record { accepted = na.read.accepted; is_form = na.is_form })
    (record { accepted = nb.read.accepted; is_form = nb.is_form }) in
    let both : (x ≡ y) ↔ SameGrants p.masks na.source nb.source = (
      λ h. law.0 (sym na.spelled.spelled ∙ h ∙ nb.spelled.spelled),
      λ h. na.spelled.spelled ∙ law.1 h ∙ sym nb.spelled.spelled,
    ) in
    subst (λ (l : List Ace). (x ≡ y) ↔ SameGrants p.masks l other) (same_list na.source source a na.read at_a)
    (subst (λ (l : List Ace). (x ≡ y) ↔ SameGrants p.masks na.source l) (same_list nb.source other b nb.read at_b) both)

pub returns-clause-twice : goal.returns-clause-twice
returns-clause-twice c p a x y is na nx =
    let same : nx.source ≡ na.form =
    (c.one_spelling.ensures p nx.source na.form x x [] [] is nx.read na.spelled refl).0 in
    let settled : nx.form ≡ nx.source =
    nx.is_form.itself (subst (λ (l : List Ace). IsNormal l) (sym same) na.is_form.normal) in
    na.spelled.spelled ∙ ap spelling (sym same ∙ sym settled) ∙ sym nx.spelled.spelled
