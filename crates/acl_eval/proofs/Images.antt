-- The bits of the image of permissions.
use Rattle.std.proofs.Common.{◌≡◌, ℕ, zero, suc, ◌+◌, ◌-◌, ◌<◌, Bool, true, false, cond, eqb, ltb, List, [], ◌∷◌, refl, sym, ap, ◌∙◌, arith, inl, inr}
use Rattle.std.specs.Prelude.{◌⊎◌, ◌||◌, count_ones, bit_and, bit_or, not}
use Rattle.std.specs.Int.{w8}
use Rattle.std.proofs.lemmas.Bool.{ltb-true, true≢false}
use Rattle.acl_perm.specs.Bits.{all_rights, has_bit, IsMask}
use Rattle.acl_perm.proofs.Sets.{has_bit-above}
use Rattle.acl_eval.specs.Bridge.{image}

-- the values of a function for the numbers below n
abbrev pub values_below : {A : Type 0} → ℕ → (ℕ → A) → List A
values_below zero f = []
values_below (suc n) f = f 0 ∷ values_below n (λ k. f (suc k))

-- two functions with the same values below n agree there
pub same_below : {A : Type 0} (n : ℕ) (f g : ℕ → A) → values_below n f ≡ values_below n g → (k : ℕ) → k < n → f k ≡ g k
same_below zero f g e k lt = absurd (omega (arith, lt))
same_below (suc n) f g e zero lt = cc
same_below (suc n) f g e (suc k) lt =
    let others : values_below n (λ k. f (suc k)) ≡ values_below n (λ k. g (suc k)) = cc in
    same_below n (λ k. f (suc k)) (λ k. g (suc k)) others k (omega (arith, lt))

-- the right belongs to the permission: an image has the right if and only if its set has the permission
pub record Belongs (j b : ℕ) : Type 0 where
  pub same : (p : ℕ) → p < 8 → has_bit (image p) b ≡ has_bit p j

-- READ_DATA belongs to read, WRITE_DATA and APPEND_DATA to write, and EXECUTE to execute
pub record Rights : Type 0 where
  pub read_data : Belongs 2 0
  pub write_data : Belongs 1 1
  pub append_data : Belongs 1 2
  pub execute : Belongs 0 5

-- each of these rights belongs to its permission
pub rights : Rights
unfolding image
rights = record {
  read_data = record { same = same_below 8 (λ p. has_bit (image p) 0) (λ p. has_bit p 2) refl };
  write_data = record { same = same_below 8 (λ p. has_bit (image p) 1) (λ p. has_bit p 1) refl };
  append_data = record { same = same_below 8 (λ p. has_bit (image p) 2) (λ p. has_bit p 1) refl };
  execute = record { same = same_below 8 (λ p. has_bit (image p) 5) (λ p. has_bit p 0) refl };
}

-- a right that the rights of no permissions have is not among those of a set of permissions
none_at : (b : ℕ) → ((p : ℕ) → p < 8 → has_bit (image p) b ≡ false) → (want : ℕ) → want < 8 → has_bit (image want) b
    ≡ true → ⊥
none_at b lacks want lt h = true≢false (sym h ∙ lacks want lt)

-- the number of the rights of permissions is below 64
image_lt : (p : ℕ) → p < 8 → image p < 64
unfolding image
image_lt p lt = ltb-true _ _ (same_below 8 (λ p. ltb (image p) 64) (λ p. true) refl p lt)

-- an image is a set of rights
pub image_mask : (p : ℕ) → p < 8 → IsMask (image p)
unfolding image
image_mask = same_below 8 (λ p. bit_and (image p) all_rights) image refl

-- the image of some permissions is not empty
pub image_some : (p : ℕ) → p < 8 → eqb p 0 ≡ false → 0 < count_ones (image p)
unfolding image lib.Count.ones
image_some p lt some = ltb-true _ _
    (sym (ap (λ (b : Bool). b || ltb 0 (count_ones (image p))) some)
    ∙ same_below 8 (λ p. eqb p 0 || ltb 0 (count_ones (image p))) (λ p. true) refl p lt)

-- what is allowed and what is denied have four bits together
pub four_bits : (p : ℕ) → p < 8 → count_ones (image p) + count_ones (image (7 - p)) ≡ 4
unfolding image lib.Count.ones
four_bits = same_below 8 (λ p. count_ones (image p) + count_ones (image (7 - p))) (λ p. 4) refl

-- the image of no permissions is empty
pub image_none : count_ones (image 0) ≡ 0
unfolding image lib.Count.ones
image_none = refl

-- the image is the union of three parts, as the code computes it
pub image_parts : (p : ℕ) → p < 8 → bit_or (bit_or (cond (eqb (bit_and p 4) 4) 1 0) (cond (eqb (bit_and p 2) 2) 6 0))
    (cond (eqb (bit_and p 1) 1) 32 0) ≡ image p
unfolding image
image_parts = same_below 8 (λ p. bit_or (bit_or (cond (eqb (bit_and p 4) 4) 1 0) (cond (eqb (bit_and p 2) 2) 6 0))
    (cond (eqb (bit_and p 1) 1) 32 0)) image refl

-- no image has one of the other rights of the first byte
record Others : Type 0 where
  third : (p : ℕ) → p < 8 → has_bit (image p) 3 ≡ false
  fourth : (p : ℕ) → p < 8 → has_bit (image p) 4 ≡ false
  sixth : (p : ℕ) → p < 8 → has_bit (image p) 6 ≡ false
  seventh : (p : ℕ) → p < 8 → has_bit (image p) 7 ≡ false

-- the rights of permissions have none of the other four rights of the first byte
others : Others
unfolding image
others = record {
  third = same_below 8 (λ p. has_bit (image p) 3) (λ p. false) refl;
  fourth = same_below 8 (λ p. has_bit (image p) 4) (λ p. false) refl;
  sixth = same_below 8 (λ p. has_bit (image p) 6) (λ p. false) refl;
  seventh = same_below 8 (λ p. has_bit (image p) 7) (λ p. false) refl;
}

-- the permission to which a right of an image belongs
pub record Permits (want b : ℕ) : Type 0 where
  pub j : ℕ
  pub small : j < 3
  pub belongs : Belongs j b
  pub has : has_bit want j ≡ true

-- if a right belongs to a permission, and the rights of a set have it, the set has the permission
permits : (want b j : ℕ) → want < 8 → j < 3 → Belongs j b → has_bit (image want) b ≡ true → Permits want b
permits want b j lt small st h = record { j = j; small = small; belongs = st; has = sym (st.same want lt) ∙ h }

-- each right of an image belongs to a permission
pub image_bit : (want b : ℕ) → want < 8 → has_bit (image want) b ≡ true → Permits want b
image_bit want zero lt h = permits want 0 2 lt (omega arith) rights.read_data h
image_bit want (suc zero) lt h = permits want 1 1 lt (omega arith) rights.write_data h
image_bit want (suc (suc zero)) lt h = permits want 2 1 lt (omega arith) rights.append_data h
image_bit want (suc (suc (suc zero))) lt h = absurd (none_at 3 others.third want lt h)
image_bit want (suc (suc (suc (suc zero)))) lt h = absurd (none_at 4 others.fourth want lt h)
image_bit want (suc (suc (suc (suc (suc zero))))) lt h = permits want 5 0 lt (omega arith) rights.execute h
image_bit want (suc (suc (suc (suc (suc (suc zero)))))) lt h = absurd (none_at 6 others.sixth want lt h)
image_bit want (suc (suc (suc (suc (suc (suc (suc zero))))))) lt h = absurd (none_at 7 others.seventh want lt h)
image_bit want (suc (suc (suc (suc (suc (suc (suc (suc b)))))))) lt h =
    absurd (true≢false (sym h ∙ has_bit-above w8 (image want) (suc (suc (suc (suc (suc (suc (suc (suc b))))))))
    (omega (arith, image_lt want lt)) (omega arith)))

-- which right of an image it is, and to which permission it belongs
pub image_right : (want b : ℕ) → want < 8 → has_bit (image want) b ≡ true
    → ((b ≡ 0) × (has_bit want 2 ≡ true)) ⊎ (((b ≡ 1) × (has_bit want 1 ≡ true)) ⊎ (((b ≡ 2) × (has_bit want 1 ≡ true))
    ⊎ ((b ≡ 5) × (has_bit want 0 ≡ true))))
image_right want zero lt h = inl (refl, sym (rights.read_data.same want lt) ∙ h)
image_right want (suc zero) lt h = inr (inl (refl, sym (rights.write_data.same want lt) ∙ h))
image_right want (suc (suc zero)) lt h = inr (inr (inl (refl, sym (rights.append_data.same want lt) ∙ h)))
image_right want (suc (suc (suc zero))) lt h = absurd (none_at 3 others.third want lt h)
image_right want (suc (suc (suc (suc zero)))) lt h = absurd (none_at 4 others.fourth want lt h)
image_right want (suc (suc (suc (suc (suc zero))))) lt h =
    inr (inr (inr (refl, sym (rights.execute.same want lt) ∙ h)))
image_right want (suc (suc (suc (suc (suc (suc zero)))))) lt h = absurd (none_at 6 others.sixth want lt h)
image_right want (suc (suc (suc (suc (suc (suc (suc zero))))))) lt h = absurd (none_at 7 others.seventh want lt h)
image_right want (suc (suc (suc (suc (suc (suc (suc (suc b)))))))) lt h =
    absurd (true≢false (sym h ∙ has_bit-above w8 (image want) (suc (suc (suc (suc (suc (suc (suc (suc b))))))))
    (omega (arith, image_lt want lt)) (omega arith)))

-- a set of permissions has three bits
pub small_bit : (want k : ℕ) → want < 8 → has_bit want k ≡ true → (k ≡ 0) ⊎ ((k ≡ 1) ⊎ (k ≡ 2))
small_bit want zero lt h = inl refl
small_bit want (suc zero) lt h = inr (inl refl)
small_bit want (suc (suc zero)) lt h = inr (inr refl)
small_bit want (suc (suc (suc zero))) lt h =
    absurd (true≢false (sym h ∙ same_below 8 (λ p. has_bit p 3) (λ p. false) refl want lt))
small_bit want (suc (suc (suc (suc zero)))) lt h =
    absurd (true≢false (sym h ∙ same_below 8 (λ p. has_bit p 4) (λ p. false) refl want lt))
small_bit want (suc (suc (suc (suc (suc zero))))) lt h =
    absurd (true≢false (sym h ∙ same_below 8 (λ p. has_bit p 5) (λ p. false) refl want lt))
small_bit want (suc (suc (suc (suc (suc (suc zero)))))) lt h =
    absurd (true≢false (sym h ∙ same_below 8 (λ p. has_bit p 6) (λ p. false) refl want lt))
small_bit want (suc (suc (suc (suc (suc (suc (suc zero))))))) lt h =
    absurd (true≢false (sym h ∙ same_below 8 (λ p. has_bit p 7) (λ p. false) refl want lt))
small_bit want (suc (suc (suc (suc (suc (suc (suc (suc k)))))))) lt h =
    absurd (true≢false (sym h ∙ has_bit-above w8 want (suc (suc (suc (suc (suc (suc (suc (suc k))))))))
    (omega (arith, lt)) (omega arith)))

-- what is not allowed is denied
pub complement : (j p : ℕ) → j < 3 → p < 8 → has_bit (7 - p) j ≡ not (has_bit p j)
complement zero p lt = same_below 8 (λ p. has_bit (7 - p) 0) (λ p. not (has_bit p 0)) refl p
complement (suc zero) p lt = same_below 8 (λ p. has_bit (7 - p) 1) (λ p. not (has_bit p 1)) refl p
complement (suc (suc zero)) p lt = same_below 8 (λ p. has_bit (7 - p) 2) (λ p. not (has_bit p 2)) refl p
complement (suc (suc (suc j))) p lt = absurd (omega (arith, lt))
