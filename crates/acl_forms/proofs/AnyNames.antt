-- The names of ACEs of any type: which are text, and which nobody knows.
use Rattle.std.proofs.Common.{◌≡◌, ◌∙◌, ℕ, ◌-◌, ◌++◌, Bool, true, false, List, [], ◌∷◌, refl, ap, subst, arith, length, length-append}
use Rattle.std.specs.Prelude.{slice_index}
use Rattle.std.proofs.lemmas.List.{get_or-append_right}
-- what the test for UTF-8 needs
pub use Rattle.acl_nfs4.proofs.Exports.{text_tests}
use Rattle.acl_nfs4.specs.AccessPart.{IsAnyWho}
use Rattle.acl_nfs4.specs.Who.{IsWho, is_unknown_special}
use Rattle.acl_forms.specs.declared.acl41_ids.IdWho.{IdWho}
use Rattle.acl_forms.specs.declared.part.any_ace.AnyWho.{AnyWho}
use Rattle.acl_forms.specs.declared.part.any_ace.AnyWho.TheVariants.{Known, Name, Special}
use Rattle.acl_forms.specs.internal.AnyAces.{HasAnyName, any_name}
use Rattle.acl_forms.specs.internal.IdAces.{whom_name}
use Rattle.acl_forms.proofs.IdLemmas.{is_who-whom}

-- the last byte of a text that ends in a byte
last_is : (text : List ℕ) (b : ℕ) → slice_index (text ++ b ∷ []) (length (text ++ b ∷ []) - 1) ≡ b
last_is text b =
    let place : length (text ++ b ∷ []) - 1 ≡ length text = omega (arith, length-append text (b ∷ [])) in
    let first : length text - length text ≡ 0 = omega arith in
    ap (slice_index (text ++ b ∷ [])) place
    ∙ get_or-append_right text (b ∷ []) (length text) (length text) 0 refl (omega arith)
    ∙ ap (slice_index (b ∷ [])) first

-- nobody knows a name that begins with another letter than the three, and ends in `@`
unknown : (text : List ℕ) → is_unknown_special (0x73 ∷ (text ++ 0x40 ∷ [])) ≡ true
unknown text = rw (last_is (0x73 ∷ text) 0x40) refl

-- somebody knows whom a who names
pub known_who : (who : List ℕ) → IsWho who → is_unknown_special who ≡ false
known_who who is = by (is_unknown_special who) refl
  where
    by : (b : Bool) → is_unknown_special who ≡ b → is_unknown_special who ≡ false
    by false e = e
    by true e = absurd grind arith

-- somebody knows whom a special identifier or an id of the code names
pub known_whom : (whom : IdWho) → is_unknown_special (whom_name whom) ≡ false
known_whom whom = known_who (whom_name whom) (is_who-whom whom)

-- a name that somebody knows is a who
who_of_name : (who : List ℕ) → IsAnyWho who → is_unknown_special who ≡ false → IsWho who
who_of_name who is known = rw (is.long, is.utf8, is.plain, known) refl

-- the name of a who that somebody knows is one that an ACE may have
pub is_who-any : (who : AnyWho) → HasAnyName who → is_unknown_special (any_name who) ≡ false → IsWho (any_name who)
is_who-any (Name name) is known = who_of_name name.now is known
is_who-any (Known whom) is known = is_who-whom whom
is_who-any (Special n) is known = absurd cc

-- somebody knows whom an ACE names, so it has no special number that nobody knows
pub never_special : (who : AnyWho) (n : ℕ) → who ≡ Special n → HasAnyName who
    → is_unknown_special (any_name who) ≡ false → ⊥
never_special who n e is known =
    let unknown = subst HasAnyName e is in
    let not_known = subst (λ (w : AnyWho). is_unknown_special (any_name w) ≡ false) e known in cc
