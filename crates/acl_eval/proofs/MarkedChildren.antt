-- The list of a child with more flags on each ACE.
use Rattle.std.proofs.Common.{◌≡◌, ℕ, ◌≤◌, List, [], ◌∷◌, ◌++◌, ◌+◌, refl, sym, ap, subst, ◌∙◌, append_assoc, arith}
use Rattle.std.specs.Prelude.{bit_or, count_ones, map, IfOk, Some, Result, Ok, Err}
use Rattle.std.specs.List.{AllByRecursion}
use Rattle.std.proofs.lemmas.List.{length-map}
use Rattle.std.proofs.lemmas.Nat.{and_mask}
use Rattle.std.specs.Int.Bits.{or_zero_r}
use Rattle.acl_perm.specs.Profile.{full}
use Rattle.acl_nfs4.specs.Ace.{Ace}
use Rattle.acl_nfs4.specs.Spelling.{IsAccepted, IsAce, weight}
use Rattle.acl_nfs4.proofs.Exports.{weight-cons}
use Rattle.acl_eval.specs.declared.inherit.ChildKind.{ChildKind}
use Rattle.acl_eval.specs.Inheritance.{child_flags, children, flagged, with_flags}
use Rattle.acl_eval.proofs.Children.{child_has, union_within}
use Rattle.acl_nfs4.proofs.Exports.{front_accepted}
use Rattle.acl_nfs4.specs.Within.{IsWithin}

-- more flags do not change the weight
weight-flagged : (more : ℕ) (list : List Ace) → weight (map (flagged more) list) ≡ weight list
weight-flagged more [] = refl
weight-flagged more (a ∷ list) = weight-cons (flagged more a) (map (flagged more) list)
    ∙ ap (λ (n : ℕ). count_ones a.mask + n) (weight-flagged more list) ∙ sym (weight-cons a list)

-- ACEs with more flags are ACEs
each_flagged : (more : ℕ) (list : List Ace) → IsWithin full.flags more → AllByRecursion (IsAce full) list
    → AllByRecursion (IsAce full) (map (flagged more) list)
each_flagged more [] is each = tt
each_flagged more (a ∷ list) is each = (
  record {
    flags = union_within full.flags a.flags more each.0.flags is;
    mask = each.0.mask;
    who = each.0.who;
  },
  each_flagged more list is each.1,
)

-- a number of eight bits has flags alone
flags_within : (n : ℕ) → n ≤ 255 → IsWithin full.flags n
flags_within n le = and_mask n 8 ∙ omega (arith, le)

-- a list with more flags is accepted if the list is
pub flagged_accepted : (more : ℕ) (list : List Ace) → more ≤ 255 → IsAccepted full list
    → IsAccepted full (map (flagged more) list)
flagged_accepted more list small ok = record {
  count = omega (arith, ok.count, length-map list (flagged more));
  weight = omega (arith, ok.weight, weight-flagged more list);
  each = each_flagged more list (flags_within more small) ok.each;
}

-- one more ACE that the child has
pub one_more_flagged : (more : ℕ) (kind : ChildKind) (done : List Ace) (a : Ace) (f flags : ℕ)
    (left rest whole : List Ace) → left ≡ a ∷ rest → child_flags kind a.flags ≡ Some f → flags ≡ bit_or f more
    → done ++ map (flagged more) (children kind left) ≡ whole
    → (done ++ with_flags a flags ∷ []) ++ map (flagged more) (children kind rest) ≡ whole
one_more_flagged more kind done a f flags left rest whole next has is so_far =
    append_assoc done (with_flags a flags ∷ []) (map (flagged more) (children kind rest))
    ∙ ap (λ (g : ℕ). done ++ with_flags a g ∷ map (flagged more) (children kind rest)) is
    ∙ ap (λ (l : List Ace). done ++ map (flagged more) l) (sym (child_has kind a rest f has))
    ∙ ap (λ (l : List Ace). done ++ map (flagged more) (children kind l)) (sym next) ∙ so_far

-- the ACEs so far and one more are accepted, because an accepted list begins with them
pub push_fits : (more : ℕ) (kind : ChildKind) (done : List Ace) (a : Ace) (f flags : ℕ) (left rest whole : List Ace)
    → left ≡ a ∷ rest → child_flags kind a.flags ≡ Some f → flags ≡ bit_or f more
    → done ++ map (flagged more) (children kind left) ≡ whole → IsAccepted full whole
    → IsAccepted full (done ++ with_flags a flags ∷ [])
push_fits more kind done a f flags left rest whole next has is so_far ok =
    front_accepted full (done ++ with_flags a flags ∷ []) (map (flagged more) (children kind rest))
    (subst (IsAccepted full) (sym (one_more_flagged more kind done a f flags left rest whole next has is so_far)) ok)

-- with no more flags a list is the same
pub none_flagged : (list : List Ace) → map (flagged 0) list ≡ list
none_flagged [] = refl
none_flagged (a ∷ list) = ap (λ (f : ℕ). with_flags a f ∷ map (flagged 0) list) (or_zero_r a.flags)
    ∙ ap (λ (l : List Ace). a ∷ l) (none_flagged list)

-- what holds for a list holds for a result that is this list
pub IfOk-same : {T E : Type 0} (r : Result T E) (list : T) (P : T → Type 0) → IfOk r (λ x. x ≡ list) → P list → IfOk r P
IfOk-same (Ok x) list P is holds = subst P (sym is) holds
IfOk-same (Err e) list P is holds = tt
