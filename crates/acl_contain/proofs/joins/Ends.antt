-- The ends of the ACEs that pass a test, and lists without a join, where an ACE is added or is joined into an earlier
-- one.
use Rattle.acl_normal.proofs.Common.{Ace, Bool, IsSubset, List, [], ace_key, ap, arith, cases_eq, false, get_or-set_other, get_or-set_same, get_or_append_left, length, length-append, max, principal_of, refl, slice_set, subst, sym, true, ℕ, ⊎_elim, ◌++◌, ◌+◌, ◌<◌, ◌∙◌, ◌∷◌, ◌≡◌}
use Rattle.std.proofs.lemmas.List.{length-set}
use Rattle.acl_normal.proofs.Each.{before_or_at}
use Rattle.acl_contain.specs.Tidied.{AreOpposed, HasNoJoin, ace_at_place}
use Rattle.acl_contain.specs.internal.Joining.{IsEnd}
use Rattle.acl_perm.specs.Overlap.{may_overlap}

-- ---- the ACE at a place

-- an added ACE is at the last place
pub added_at : (list : List Ace) (a : Ace) → ace_at_place (list ++ a ∷ []) (length list) ≡ a
added_at [] a = refl
added_at (b ∷ list) a = added_at list a

-- the other ACEs stay at their places
pub kept_at : (list : List Ace) (a : Ace) (p : ℕ) → p < length list
    → ace_at_place (list ++ a ∷ []) p ≡ ace_at_place list p
kept_at list a p l = get_or_append_left list (a ∷ []) _ p l

-- ---- ends

-- an added ACE that passes a test is the last that does
pub end_added : (test : Ace → Bool) (list : List Ace) (a : Ace) → test a ≡ true
    → IsEnd test (list ++ a ∷ []) (length list + 1)
end_added test list a passes = record {
  within = omega (arith, length-append list (a ∷ []));
  last = λ p is. subst (λ v. test (ace_at_place (list ++ a ∷ []) v) ≡ true) {x = length list} (omega (arith, is))
      (ap test (added_at list a) ∙ passes);
  after = λ p past l. absurd (omega (arith, past, l, length-append list (a ∷ [])));
}

-- an added ACE that does not pass changes no end
pub end_passed : (test : Ace → Bool) (list : List Ace) (a : Ace) (end : ℕ) → test a ≡ false → IsEnd test list end
    → IsEnd test (list ++ a ∷ []) end
end_passed test list a end fails h = record {
  within = omega (arith, h.within, length-append list (a ∷ []));
  last = λ p is. ap test (kept_at list a p (omega (arith, is, h.within))) ∙ h.last p is;
  after = λ p past l. ⊎_elim
      (λ before. ap test (kept_at list a p before) ∙ h.after p past before)
      (λ at. subst (λ v. test (ace_at_place (list ++ a ∷ []) v) ≡ false) {x = length list} (sym at)
      (ap test (added_at list a) ∙ fails))
      (before_or_at p (length list) (omega (arith, l, length-append list (a ∷ []))));
}

-- another ACE at a place for which the test answers the same changes no end
pub end_replaced : (test : Ace → Bool) (list : List Ace) (j : ℕ) (a : Ace) (end : ℕ) → j < length list
    → test a ≡ test (ace_at_place list j) → IsEnd test list end → IsEnd test (slice_set list j a) end
end_replaced test list j a end inside alike h = record {
  within = omega (arith, h.within, length-set list j a);
  last = λ p is. same p ∙ h.last p is;
  after = λ p past l. same p ∙ h.after p past (omega (arith, l, length-set list j a));
}
  where
    same : (p : ℕ) → test (ace_at_place (slice_set list j a) p) ≡ test (ace_at_place list p)
    same p = ⊎_elim
        (λ at. subst (λ v. test (ace_at_place (slice_set list j a) v) ≡ test (ace_at_place list v)) {x = j} (sym at)
        (ap test (get_or-set_same list j a _ inside) ∙ alike))
        (λ other. ap test (get_or-set_other list j p a _ other))
        (cases_eq p j)

-- another ACE at a place that passes is the last that does, or the last one is after it
pub end_raised : (test : Ace → Bool) (list : List Ace) (j : ℕ) (a : Ace) (end : ℕ) → j < length list
    → test a ≡ true → IsEnd test list end → IsEnd test (slice_set list j a) (max end (j + 1))
end_raised test list j a end inside passes h = record {
  within = omega (arith, h.within, inside, length-set list j a);
  last = λ p is. ⊎_elim (λ at. here p at)
      (λ other. ap test (get_or-set_other list j p a _ other) ∙ h.last p (omega (arith, is, other)))
      (cases_eq p j);
  after = λ p past l.
      let other : p ≡ j → ⊥ = λ at. absurd (omega (arith, at, past)) in
      ap test (get_or-set_other list j p a _ other)
      ∙ h.after p (omega (arith, past)) (omega (arith, l, length-set list j a));
}
  where
    here : (p : ℕ) → p ≡ j → test (ace_at_place (slice_set list j a) p) ≡ true
    here p at = subst (λ v. test (ace_at_place (slice_set list j a) v) ≡ true) {x = j} (sym at)
        (ap test (get_or-set_same list j a _ inside) ∙ passes)

-- ---- lists without a join

-- ACEs with more rights of the same keys are opposed where the others are
pub opposed_more : (a b c d : Ace) → ace_key c ≡ ace_key a → ace_key d ≡ ace_key b → IsSubset a.mask c.mask
    → IsSubset b.mask d.mask → AreOpposed a b → AreOpposed c d
opposed_more a b c d first second within inside o = record {
  kinds = λ same. o.kinds (sym (ap (λ k. k.1) first) ∙ same ∙ ap (λ k. k.1) second);
  overlap = subst (λ v. may_overlap v (principal_of d) ≡ true) (sym (ap (λ k. k.0) first))
      (subst (λ v. may_overlap (principal_of a) v ≡ true) (sym (ap (λ k. k.0) second)) o.overlap);
  bit = o.bit;
  first_has = within o.bit o.first_has;
  second_has = inside o.bit o.second_has;
}

-- the ACEs of a list have their keys and at least their rights in another list of its length
pub record HasMore (list other : List Ace) : Type 0 where
  pub count : length other ≡ length list
  pub key : (p : ℕ) → p < length list → ace_key (ace_at_place other p) ≡ ace_key (ace_at_place list p)
  pub rights : (p : ℕ) → p < length list → IsSubset (ace_at_place list p).mask (ace_at_place other p).mask

-- a list without a join has none if its ACEs have more rights
pub no_join_more : (list other : List Ace) → HasMore list other → HasNoJoin list → HasNoJoin other
no_join_more list other more none i k less l same =
    let inside : k < length list = omega (arith, l, more.count) in
    let o = none i k less inside (sym (more.key i (omega (arith, less, inside))) ∙ same ∙ more.key k inside) in
    let between : o.place < length list = omega (arith, o.before, inside) in
    record {
      place = o.place;
      after = o.after;
      before = o.before;
      opposed = opposed_more _ _ _ _ (more.key o.place between) (more.key k inside) (more.rights o.place between)
          (more.rights k inside) o.opposed;
    }

-- a list with an ACE of a key and more rights at a place has at least the rights of the list
pub set_more : (list : List Ace) (j : ℕ) (a : Ace) → j < length list → ace_key a ≡ ace_key (ace_at_place list j)
    → IsSubset (ace_at_place list j).mask a.mask → HasMore list (slice_set list j a)
set_more list j a inside key rights = record {
  count = length-set list j a;
  key = λ p l. ⊎_elim
      (λ at. subst (λ v. ace_key (ace_at_place (slice_set list j a) v) ≡ ace_key (ace_at_place list v)) {x = j} (sym at)
      (ap ace_key (get_or-set_same list j a _ inside) ∙ key))
      (λ other. ap ace_key (get_or-set_other list j p a _ other)) (cases_eq p j);
  rights = λ p l. ⊎_elim
      (λ at. subst (λ v. IsSubset (ace_at_place list v).mask (ace_at_place (slice_set list j a) v).mask) {x = j} (sym
      at)
      (subst (λ (v : Ace). IsSubset (ace_at_place list j).mask v.mask) (sym (get_or-set_same list j a _ inside))
      rights))
      (λ other. subst (λ (v : Ace). IsSubset (ace_at_place list p).mask v.mask)
      (sym (get_or-set_other list j p a _ other)) (λ b has. has)) (cases_eq p j);
}

-- a list without a join has none with an added ACE, if behind each ACE of its key there is one that is opposed to it
pub no_join_added : (list : List Ace) (a : Ace) → HasNoJoin list
    → ((i : ℕ) → i < length list → ace_key (ace_at_place list i) ≡ ace_key a
    → (c : ℕ) × (i < c) × (c < length list) × AreOpposed (ace_at_place list c) a)
    → HasNoJoin (list ++ a ∷ [])
no_join_added list a none barred i k less l same = ⊎_elim
    (λ inside.
    let before : i < length list = omega (arith, less, inside) in
    let o = none i k less inside (sym (ap ace_key (kept_at list a i before)) ∙ same
    ∙ ap ace_key (kept_at list a k inside)) in
    record {
      place = o.place;
      after = o.after;
      before = o.before;
      opposed = subst (λ v. AreOpposed v (ace_at_place (list ++ a ∷ []) k))
          (sym (kept_at list a o.place (omega (arith, o.before, inside))))
          (subst (AreOpposed (ace_at_place list o.place)) (sym (kept_at list a k inside)) o.opposed);
    })
    (λ at.
    let before : i < length list = omega (arith, less, at) in
    let last : ace_at_place (list ++ a ∷ []) k ≡ a = ap (ace_at_place (list ++ a ∷ [])) at ∙ added_at list a in
    let (c, after, inside, opposed) = barred i before (sym (ap ace_key (kept_at list a i before)) ∙ same
    ∙ ap ace_key last) in
    record {
      place = c;
      after = after;
      before = omega (arith, inside, at);
      opposed = subst (λ v. AreOpposed v (ace_at_place (list ++ a ∷ []) k)) (sym (kept_at list a c inside))
          (subst (AreOpposed (ace_at_place list c)) (sym last) opposed);
    })
    (before_or_at k (length list) (omega (arith, l, length-append list (a ∷ []))))
