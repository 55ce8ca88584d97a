-- Lists of raw entries that are read one after the other.
use Rattle.acl_posix.proofs.Common.{[], ap, arith, cases_lt, Entry, get_or, get_or-map, inl, inr, length, List, map-append, None, pair_of, pairs, Some, sym, Tag, take, ℕ, ◌+◌, ◌++◌, ◌<◌, ◌∙◌, ◌∷◌, ◌≡◌}
use Rattle.std.proofs.lemmas.List.{take_more}
use Rattle.acl_posix.specs.declared.raw_entry.RawEntry.{RawEntry}
use Rattle.acl_posix.specs.declared.raw_entry.EntryFault.{EntryFault}
use Rattle.acl_posix.specs.RawEntries.{AreEntries, IsFirstWrong, entry_fault, entry_fault_at, raw_pair, raw_pairs}

-- the fault at a place is that of the numbers there
pub fault_here : (rs : List RawEntry) (i : ℕ) (d : RawEntry) → i < length rs
    → entry_fault_at rs i ≡ entry_fault (get_or rs i d)
fault_here rs i d lt = get_or-map entry_fault rs i d None lt

-- one more entry is read
pub read_more : (rs : List RawEntry) (es : List Entry) (i : ℕ) (e : Entry) (d : RawEntry) → i < length rs
    → pairs es ≡ raw_pairs (take i rs) → pair_of e ≡ raw_pair (get_or rs i d)
    → pairs (es ++ e ∷ []) ≡ raw_pairs (take (i + 1) rs)
read_more rs es i e d lt so_far is = map-append pair_of es (e ∷ [])
    ∙ ap (λ (ps : List (Tag × ℕ)). ps ++ pair_of e ∷ []) so_far
    ∙ ap (λ (p : Tag × ℕ). raw_pairs (take i rs) ++ p ∷ []) is
    ∙ sym (map-append raw_pair (take i rs) (get_or rs i d ∷ [])) ∙ sym (ap raw_pairs (take_more rs i d lt))

-- nothing is wrong with one more entry
pub right_more : (rs : List RawEntry) (i : ℕ) (d : RawEntry) → i < length rs
    → ((before : ℕ) → before < i → entry_fault_at rs before ≡ None) → entry_fault (get_or rs i d) ≡ None
    → (before : ℕ) → before < i + 1 → entry_fault_at rs before ≡ None
right_more rs i d lt so_far here before below = elim (cases_lt before i) [
  | inl less ↦ so_far before less
  | inr not_less ↦
      let same : before ≡ i = omega arith in ap (entry_fault_at rs) same ∙ fault_here rs i d lt ∙ here
]

-- the first entry with wrong numbers, after entries with which nothing is wrong
pub first_wrong : (rs : List RawEntry) (i : ℕ) (d : RawEntry) (fault : EntryFault) → i < length rs
    → ((before : ℕ) → before < i → entry_fault_at rs before ≡ None) → entry_fault (get_or rs i d) ≡ Some fault
    → IsFirstWrong rs i fault
first_wrong rs i d fault lt right wrong = record {
  in_range = lt;
  wrong = fault_here rs i d lt ∙ wrong;
  first = right;
}

-- an entry with wrong numbers is in no list whose numbers are all those of entries
pub not_wrong : (rs : List RawEntry) (i : ℕ) (d : RawEntry) (fault : EntryFault) → i < length rs → AreEntries rs
    → entry_fault (get_or rs i d) ≡ Some fault → ⊥
not_wrong rs i d fault lt are wrong = let none = sym wrong ∙ sym (fault_here rs i d lt) ∙ are i lt in absurd cc
