-- Where the tag types of entries fall, and what is wrong with the entries of an attribute.
use Rattle.acl_posix.proofs.Common.{[], as_set, Entries, IsValidList, Option, Some, ap, arith, cases_lt, Entry, get_or, inl, inr, length, List, None, other, pairs, rank, subst, drop, take, take_rest, Tag, tag_at, tag_of, ℕ, ◌+◌, ◌-◌, ◌<◌, ◌≤◌, ◌∙◌, ◌≡◌}
use Rattle.acl_posix.proofs.tag.Tags.{tag_read}
use Rattle.acl_posix.specs.declared.raw_entry.RawEntry.{RawEntry}
use Rattle.acl_posix.specs.RawEntries.{AreEntries, raw_pairs}
use Rattle.acl_posix.specs.Attribute.{attribute_raws, frame_fault, HoldsAcl, IsAttributeOf, IsFall, IsFirstFall, IsInvalidAttribute, NeverFalls, stored_raws}

-- the rank at the place of an entry is that of its tag
rank_at : (es : List Entry) (i : ℕ) (e : Entry) → i < length es
    → rank (tag_at (pairs es) i) ≡ rank (tag_of (get_or es i e).tag)
rank_at es i e lt = ap rank (tag_read es i e other lt)

-- the tag types fall at a place if that of the entry there comes before that of the entry before it
pub fall_here : (es : List Entry) (i : ℕ) (e f : Entry) (a b : ℕ) → 0 < i → i < length es
    → a ≡ rank (tag_of (get_or es i e).tag) → b ≡ rank (tag_of (get_or es (i - 1) f).tag) → a < b
    → IsFall (pairs es) i
fall_here es i e f a b later lt here before falls = record {
  later = later;
  falls = omega (arith, falls, here, before, rank_at es i e lt, rank_at es (i - 1) f (omega arith));
}

-- the tag types do not fall at one more place
pub no_fall_more : (es : List Entry) (i : ℕ) (e f : Entry) (a b : ℕ) → 0 < i → i < length es
    → a ≡ rank (tag_of (get_or es i e).tag) → b ≡ rank (tag_of (get_or es (i - 1) f).tag) → b ≤ a
    → ((before : ℕ) → before < i → IsFall (pairs es) before → ⊥)
    → (before : ℕ) → before < i + 1 → IsFall (pairs es) before → ⊥
no_fall_more es i e f a b later lt here back rises so_far before below fall = elim (cases_lt before i) [
  | inl less ↦ so_far before less fall
  | inr not_less ↦
      let same : before ≡ i = omega arith in
      let at : IsFall (pairs es) i = subst (IsFall (pairs es)) same fall in
      absurd (omega (arith, rises, here, back, at.falls, rank_at es i e lt, rank_at es (i - 1) f (omega arith)))
]

-- the numbers after the version are those of the attribute
pub the_raws : (bytes : List ℕ) {raws : List RawEntry}
    → raws ≡ stored_raws (take (length bytes - 4) (drop 4 bytes)) → raws ≡ attribute_raws bytes
the_raws bytes is = is ∙ ap stored_raws (take_rest bytes 4)

-- what is wrong with the entries that are read is wrong with the attribute
pub invalid_from : (bytes : List ℕ) (raws : List RawEntry) (ps : List (Tag × ℕ)) (IsWrong : List (Tag × ℕ) → Type 0)
    → frame_fault bytes ≡ None → raws ≡ attribute_raws bytes → AreEntries raws → ps ≡ raw_pairs raws → IsWrong ps
    → IsInvalidAttribute bytes IsWrong
invalid_from bytes raws ps IsWrong frame same are read wrong = record {
  frame = frame;
  entries = subst AreEntries same are;
  wrong = subst IsWrong (read ∙ ap raw_pairs same) wrong;
}

-- an attribute with an ACL or without entries has no place where the tag types fall
pub no_fall : (bytes : List ℕ) (acl : Option Entries) (raws : List RawEntry) (ps : List (Tag × ℕ)) (place : ℕ)
    → raws ≡ attribute_raws bytes → ps ≡ raw_pairs raws → IsFirstFall ps place → IsAttributeOf bytes acl → ⊥
no_fall bytes None raws ps place same read first holds =
    let none : ps ≡ [] = read ∙ ap raw_pairs (same ∙ holds.empty) in
    absurd (omega (arith, first.in_range, ap (λ (xs : List (Tag × ℕ)). length xs) none))
no_fall bytes (Some acl) raws ps place same read first holds =
    let there : IsFirstFall (raw_pairs (attribute_raws bytes)) place =
    subst (λ (xs : List (Tag × ℕ)). IsFirstFall xs place) (read ∙ ap raw_pairs same) first in
    holds.order place there.in_range there.fall

-- the ACL of the entries that are read is that of the attribute
pub holds_from : (bytes : List ℕ) (raws : List RawEntry) (ps : List (Tag × ℕ)) (acl : Entries)
    → frame_fault bytes ≡ None → raws ≡ attribute_raws bytes → AreEntries raws → ps ≡ raw_pairs raws → NeverFalls ps
    → IsValidList ps → acl ≡ as_set ps → HoldsAcl bytes acl
holds_from bytes raws ps acl frame same are read never valid is = record {
  frame = frame;
  order = subst NeverFalls (read ∙ ap raw_pairs same) never;
  valid = record {
    entries = subst AreEntries same are;
    valid = subst IsValidList (read ∙ ap raw_pairs same) valid;
  };
  is = is ∙ ap as_set (read ∙ ap raw_pairs same);
}
