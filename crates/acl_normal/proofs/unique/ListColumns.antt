-- The columns of a list, and from which ACE each key of a column comes.
use Rattle.acl_normal.proofs.Common.{Ace, Bool, Column, ColumnKey, HasNames, HaveNames, List, SameGrants, SameVerdicts, [], ace_key, all_rights, and_parts, ap, arith, column, cond, false, has_bit, is_inherit_only, not, refl, sym, true, without_bit, ℕ, ◌&&◌, ◌++◌, ◌∙◌, ◌∷◌, ◌≡◌, ◌≢◌}
use Rattle.acl_eval.proofs.Same.{by_columns}
use Rattle.acl_normal.proofs.unique.Columns.{column-append, column_first}
use Rattle.acl_normal.proofs.unique.Bits.{bit_cleared, bit_kept}

-- the ACE of a list from which a key of a column comes, with what is before and after it
pub record ComesFrom (b : ℕ) (xs : List Ace) (front : Column) (e : ColumnKey) (back : Column) : Type 0 where
  pub before : List Ace
  pub ace : Ace
  pub after : List Ace
  pub is : xs ≡ before ++ ace ∷ after
  pub front_is : column before b ≡ front
  pub back_is : column after b ≡ back
  pub has : has_bit ace.mask b ≡ true
  pub entry : ace_key ace ≡ e

-- a key that comes from a list comes from it with one ACE more in front
longer_by : (b : ℕ) (a : Ace) (xs : List Ace) (front whole : Column) (e : ColumnKey) (back : Column)
    → (s : ComesFrom b xs front e back) → column (a ∷ s.before) b ≡ whole → ComesFrom b (a ∷ xs) whole e back
longer_by b a xs front whole e back s is = record {
  before = a ∷ s.before;
  ace = s.ace;
  after = s.after;
  is = ap (λ v. a ∷ v) s.is;
  front_is = is;
  back_is = s.back_is;
  has = s.has;
  entry = s.entry;
}

-- each key of a column comes from an ACE of the list
pub comes_from : (b : ℕ) (xs : List Ace) (front : Column) (e : ColumnKey) (back : Column)
    → column xs b ≡ front ++ e ∷ back → ComesFrom b xs front e back
comes_from b [] [] e back h = cc
comes_from b [] (f ∷ front) e back h = cc
comes_from b (a ∷ xs) front e back h = go (has_bit a.mask b && not (is_inherit_only a)) refl front h (comes_from b xs)
  where
    go : (t : Bool) → (has_bit a.mask b && not (is_inherit_only a)) ≡ t → (front : Column)
        → column (a ∷ xs) b ≡ front ++ e ∷ back
        → ((front : Column) (e : ColumnKey) (back : Column) → column xs b ≡ front ++ e ∷ back → ComesFrom b xs front e
        back) → ComesFrom b (a ∷ xs) front e back
    go true i [] h ih =
        let here : ace_key a ∷ column xs b ≡ e ∷ back = rw i at h in
        record {
          before = [];
          ace = a;
          after = xs;
          is = refl;
          front_is = refl;
          back_is = cc;
          has = (and_parts (has_bit a.mask b) (not (is_inherit_only a)) i).0;
          entry = cc;
        }
    go true i (f ∷ front) h ih =
        let here : ace_key a ∷ column xs b ≡ f ∷ (front ++ e ∷ back) = rw i at h in
        let s : ComesFrom b xs front e back = ih front e back (cc) in
        let head : ace_key a ≡ f = cc in
        longer_by b a xs front (f ∷ front) e back s (rw i (rw (head, s.front_is) refl))
    go false i front h ih =
        let here : column xs b ≡ front ++ e ∷ back = rw i at h in
        let s = ih front e back here in
        longer_by b a xs front front e back s (rw i s.front_is)

-- lists whose columns decide alike grant the same
pub same_grants_from_columns : (xs ys : List Ace)
    → ((b : ℕ) → has_bit all_rights b ≡ true → SameVerdicts (column xs b) (column ys b)) → SameGrants all_rights xs ys
same_grants_from_columns xs ys = (by_columns all_rights xs ys).1

-- the columns of lists that grant the same decide alike
pub same_verdicts : (xs ys : List Ace) → SameGrants all_rights xs ys → (b : ℕ) → has_bit all_rights b ≡ true
    → SameVerdicts (column xs b) (column ys b)
same_verdicts xs ys = (by_columns all_rights xs ys).0

-- without a bit, an ACE adds no key to the column of the bit
pub column_without : (b : ℕ) (a : Ace) (xs : List Ace) → column (without_bit a b ∷ xs) b ≡ column xs b
column_without b a xs = rw (bit_cleared a.mask b) refl

-- without a bit, an ACE adds the same key to each other column
column_kept : (b i : ℕ) (a : Ace) (xs : List Ace) → i ≢ b → column (without_bit a b ∷ xs) i ≡ column (a ∷ xs) i
column_kept b i a xs n =
    column_first i (without_bit a b) xs
    ∙ ap (λ t. cond (t && not (is_inherit_only a)) (ace_key a ∷ column xs i) (column xs i)) (bit_kept a.mask b i n)
    ∙ sym (column_first i a xs)

-- without a bit of an ACE, a list has each other column as before
pub other_column : (b i : ℕ) (l r : List Ace) (a : Ace) → i ≢ b
    → column (l ++ a ∷ r) i ≡ column (l ++ without_bit a b ∷ r) i
other_column b i l r a n =
    column-append i l (a ∷ r) ∙ ap (λ c. column l i ++ c) (sym (column_kept b i a r n))
    ∙ sym (column-append i l (without_bit a b ∷ r))

-- the principals of a column have the names of the list
pub names_in_column : (b : ℕ) (xs : List Ace) → HasNames xs → HaveNames (column xs b)
names_in_column b [] h = tt
names_in_column b (a ∷ xs) h = grind (arith, names_in_column b xs h.1, h.0)
