-- What calls over two lists make of each list.
use Rattle.std.proofs.Common.{◌≡◌, ◌∙◌, ℕ, Bool, Err, List, Ok, Result, false, inl, inr, refl, subst, sym, true}
use Rattle.std.specs.Prelude.{◌↔◌, IfErr, IsTrue}
use Rattle.std.specs.Result.{IsErrAnd}
use Rattle.std.proofs.lemmas.Bool.{false≢true}
use Rattle.std.proofs.lemmas.Slice.Eq.{bytes_eq-Decides}
use Rattle.std.specs.Str.{bytes_eq}
use Rattle.acl_perm.specs.Bits.{all_rights}
use Rattle.acl_perm.specs.Profile.{Profile}
use Rattle.acl_nfs4.specs.Ace.{Ace}
use Rattle.acl_nfs4.specs.Spelling.{Xdr}
use Rattle.acl_eval.specs.Grant.{SameGrants}
use Rattle.aclck_c.specs.Compare.{AreSameOrNot}
use Rattle.aclck_c.specs.declared.failure.Failure.{Failure}
use Rattle.aclck_c.specs.declared.failure.Failure.TheVariants as failure
use Rattle.aclck_c.specs.internal.Failures.{IsListFailure, IsPairFailure}

-- whether both lists grant the same
pub same_or_not : {p : Profile} {first second : List ℕ} {list other : List Ace} (same : Bool) → Xdr p list first
    → Xdr p other second → (IsTrue same ↔ SameGrants all_rights list other) → AreSameOrNot p first second same
same_or_not {list} {other} true read read_other is = record {
  list = list;
  other = other;
  spelled = record { first_spelled = read; second_spelled = read_other };
  same = is.0 refl;
}
same_or_not {list} {other} false read read_other is = record {
  list = list;
  other = other;
  spelled = record { first_spelled = read; second_spelled = read_other };
  different = λ all. false≢true (is.1 all);
}

-- bytes that are the same spell the same list
pub spelled_again : {p : Profile} {bytes others : List ℕ} {list : List Ace} {is : Bool} → is ≡ bytes_eq others bytes
    → is ≡ true → Xdr p list bytes → Xdr p list others
spelled_again {p} {bytes} {others} {list} same is read =
    subst (Xdr p list) (sym ((bytes_eq-Decides others bytes).0 (sym same ∙ is))) read

-- the first list is refused, or memory ran out
pub first_failure : (p : Profile) (first second : List ℕ) (f : Failure) → IsListFailure p first 0 f
    → IsPairFailure p first second f
first_failure p first second failure.BadArgument h = h
first_failure p first second (failure.Refused shown) h = inl h
first_failure p first second failure.Memory h = h

-- the first list is read, and the second is refused, or memory ran out
pub second_failure : (p : Profile) (first second : List ℕ) (list : List Ace) (f : Failure) → Xdr p list first
    → IsListFailure p second 1 f → IsPairFailure p first second f
second_failure p first second list failure.BadArgument spelled h = h
second_failure p first second list (failure.Refused shown) spelled h = inr ((list, spelled), h)
second_failure p first second list failure.Memory spelled h = (list, spelled)

-- the first list is read, and memory ran out
pub memory_failure : {T : Type 0} (p : Profile) (first second : List ℕ) (list : List Ace) (r : Result T Failure)
    → IsErrAnd r (λ f. f ≡ failure.Memory) → Xdr p list first → IfErr r (IsPairFailure p first second)
memory_failure p first second list (Ok x) is spelled = absurd is
memory_failure p first second list (Err f) is spelled =
    subst (IsPairFailure p first second) (sym is) (list, spelled)
