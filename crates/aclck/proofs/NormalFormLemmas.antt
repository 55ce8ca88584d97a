-- Bytes of normal forms.
use Rattle.std.proofs.Common.{◌≡◌, ◌≤◌, ℕ, List, [], refl, sym, ap, subst, ◌∙◌, arith}
use Rattle.std.specs.Prelude.{◌↔◌}
use Rattle.acl_perm.specs.Bits.{all_rights}
use Rattle.acl_perm.specs.Profile.{Profile, full, profile_of}
use Rattle.acl_perm.specs.declared.profile.Profile.{Profile as CodeProfile}
use Rattle.acl_nfs4.specs.Ace.{Ace}
use Rattle.acl_nfs4.specs.Spelling.{IsAccepted, Xdr, spelling}
use Rattle.acl_nfs4.specs.Within.{IsProfile}
use Rattle.acl_nfs4.proofs.Exports.{code_profile, one}
use Rattle.acl_eval.specs.Grant.{SameGrants}
use Rattle.acl_eval.proofs.Same.{equivalence}
use Rattle.acl_normal.specs.Normal.{IsNormal}
use Rattle.acl_normal.specs.NormalForm.{IsNormalFormOf, Normalizes}
use Rattle.acl_normal.proofs.unique.Spelled.{IsForm, form_is, form_of, forms_tell}
use Rattle.acl_normal.proofs.unique.Unique.{normal_unique}
use Rattle.aclck.specs.Answer.{done}
use Rattle.aclck.specs.Laws.{TellsListsApart}
use Rattle.aclck.specs.commands.Normalize.{NormalizeAnswer}
use Rattle.aclck.specs.declared.answer.Outcome.TheVariants as outcome

-- bytes spell one list
pub one_of : (p : Profile) (list other : List Ace) (x : List ℕ) → IsProfile p → Xdr p list x → Xdr p other x
    → list ≡ other
one_of p list other x is h k = (one p list other x x [] [] is h k refl).0

-- what holds if and only if two texts are equal also holds for two texts that are equal to these
pub same_or_not : {Same : Type 0} (a b one two : List ℕ) → a ≡ one → b ≡ two → (one ≡ two) ↔ Same → (a ≡ b) ↔ Same
same_or_not a b one two e f law = (λ equal. law.0 (sym e ∙ equal ∙ f), λ same. e ∙ law.1 same ∙ sym f)

-- two lists get equal bytes if and only if they grant the same
pub bytes_tell : TellsListsApart Normalizes SameGrants
bytes_tell p list other x y a b is read read_other h k =
    same_or_not a b (spelling h.form) (spelling k.form) h.spelled.spelled k.spelled.spelled
    (forms_tell p list other h.form k.form is (form_is p list x a is read h) (form_is p other y b is read_other k))

-- the list that was written grants what the list that was read grants
pub form_grants : (p : Profile) (list form : List Ace) (x a : List ℕ) → IsProfile p → Xdr p list x → Xdr p form a
    → Normalizes p x a → SameGrants p.masks list form
form_grants p list form x a is read written h = subst (SameGrants p.masks list)
    (one_of p h.form form a is h.spelled written) (IsForm.grants (form_is p list x a is read h))

-- a normal list is its own normal form
own_form : (list : List Ace) → IsNormal list → IsAccepted full list → IsNormalFormOf list list
own_form list normal accepted = record {
  normal = normal;
  grants = (equivalence all_rights).reflexive list;
  lighter = omega arith;
  accepted = accepted;
  fits = λ p h. h;
  only = λ other is same. normal_unique list other normal is same;
  itself = λ is. refl;
}

-- the spelling of the normal form of a list that is read is written
normalizes_spelling : (p : Profile) (source form : List Ace) (x : List ℕ) → Xdr p source x → IsNormalFormOf source form
    → IsAccepted p form → Normalizes p x (spelling form)
normalizes_spelling p source form x read is_form accepted = record {
  source = source;
  form = form;
  read = read;
  is_form = is_form;
  spelled = record { accepted = accepted; spelled = refl };
}

-- of the bytes of an accepted normal form, these bytes are written
pub own_bytes : (p : Profile) (form : List Ace) → IsNormal form → IsAccepted full form → IsAccepted p form
    → Normalizes p (spelling form) (spelling form)
own_bytes p form normal accepted taken =
    normalizes_spelling p form form (spelling form) (record { accepted = taken; spelled = refl })
    (own_form form normal accepted) taken

-- of bytes that were written, the same bytes are written, and no others
pub normalizes_twice : (p : Profile) (x a b : List ℕ) → IsProfile p → Normalizes p x a → Normalizes p a b ↔ (b ≡ a)
normalizes_twice p x a b is h = (
  λ k.
      let read : k.source ≡ h.form = one_of p k.source h.form a is k.read h.spelled in
      let same : k.form ≡ k.source = k.is_form.itself (subst IsNormal (sym read) h.is_form.normal) in
      k.spelled.spelled ∙ ap spelling (same ∙ read) ∙ sym h.spelled.spelled,
  λ e.
      let same : spelling h.form ≡ a = sym h.spelled.spelled in
      subst (λ y. Normalizes p a y) (sym e) (subst (λ y. Normalizes p y y) same
      (own_bytes p h.form h.is_form.normal h.is_form.accepted h.spelled.accepted)),
)

-- the spelling of the normal form of a list that was read is the answer
pub written_form : {source form : List Ace} {x : List ℕ} (profile : CodeProfile) → profile.flags.bits ≤ 255
    → Xdr (profile_of profile) source x → IsNormalFormOf source form
    → NormalizeAnswer (profile_of profile) x (done outcome.Yes (spelling form))
written_form {source} {form} {x} profile le read is_form = (
  refl,
  normalizes_spelling (profile_of profile) source form x read is_form
      (form_of (profile_of profile) source form (code_profile profile le) read.accepted is_form).accepted,
)
