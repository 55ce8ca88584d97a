-- Bytes spell at most one ACL and have at most one fault, and not both; and what is read of bytes is true of them.
use Rattle.std.proofs.Common.{◌≡◌, ◌∙◌, ◌+◌, ◌*◌, ◌-◌, ◌<◌, ◌≤◌, ◌++◌, ℕ, Bool, true, false, cond, eqb, List, [], ◌∷◌, Option, None, Some, Result, Ok, Err, length, drop, refl, ap, sym, subst, arith, inl, inr, append_assoc, append-nil, length-append}
use Rattle.std.specs.Prelude.{◌==◌, ◌⊎◌, IfErr, IfSome, IsNone, nat_le, nat_lt}
use Rattle.std.specs.FinMap as fin
use Rattle.std.specs.List.{All, AllByRecursion, flat_map}
use Rattle.std.proofs.lemmas.Bool.{eqb-true}
use Rattle.std.proofs.lemmas.Bool.Decides.{nat_tests}
use Rattle.std.proofs.lemmas.List.{map-append, nil_from_length}
use Rattle.std.proofs.lemmas.List.Concat.{flat_map-cons}
use Rattle.std.proofs.lemmas.List.Elements.{recursion_from_All}
use Rattle.byteorder.specs.Endian.{little_bytes}
use Rattle.acl_posix.proofs.Exports.{all_entries, bytes_length, entries_sorted, same_first, same_miss, set_of, sorted_distinct, sorted_rises}
use Rattle.acl_posix.specs.Attribute.{IsFall, IsFirstFall, NeverFalls, attribute_bytes}
unfoldable use Rattle.acl_posix.specs.Attribute.{entry_bytes}
use Rattle.acl_posix.specs.Entries.{Entries, IsEntry, as_set, pairs}
use Rattle.acl_posix.specs.Tag.{Tag, is_named, tag_of}
use Rattle.acl_posix.specs.Texts.{IsAcl}
use Rattle.acl_posix.specs.Valid.{IsDistinct, IsFirstRepeat, IsMiss, IsRepeat, IsValid, IsValidList, tag_at}
use Rattle.acl_posix.specs.declared.entry.Entry.{Entry}
use Rattle.acl_posix.specs.declared.tag.Tag.{Tag as TagOfCode}
use Rattle.acl_nfs4.specs.declared.xdr.fault.Reason.TheVariants.{Truncated}
use Rattle.acl_forms.specs.Attributes.{AreBytesOf, IsAttributeFault, IsEntriesFault, NoneBefore, SpellsAttribute, entries_bytes, entry_offset, next_entry_fault, repeat_reason, version_fault}
use Rattle.acl_forms.specs.Attributes.IsAttributeFault.{of_entry, of_list, of_version}
use Rattle.acl_forms.specs.Attributes.IsEntriesFault.{absent, out_of_order, repeated}
use Rattle.acl_forms.specs.ReadFaults.{no_memory_left, read_fault_at}
use Rattle.acl_forms.specs.declared.fault.ReadFault.{ReadFault}
use Rattle.acl_forms.specs.declared.fault.ReadReason.TheVariants as reasons
use Rattle.acl_forms.specs.internal.AttributeEntries.{earlier_fault}
use Rattle.acl_forms.proofs.AttributeBytes.{no_next_fault, nothing_short, one_entry}

-- ---- where the entries of some bytes end

-- a text begins with no entry
record Stops (text : List ℕ) : Type 0 where
  pub at : ℕ
  pub fault : ReadFault
  pub is : next_entry_fault at text ≡ Some fault

-- the empty text begins with no entry
stops_empty : Stops []
stops_empty = record { at = 0; fault = read_fault_at 0 (reasons.List Truncated); is = nothing_short 0 }

-- a text that begins with no entry does not begin with the bytes of one
no_entry : (text : List ℕ) (e : Tag × ℕ) (rest : List ℕ) → Stops text → text ≡ entry_bytes e ++ rest → IsEntry e → ⊥
no_entry text e rest stops is within =
    let none : next_entry_fault stops.at text ≡ None =
    ap (next_entry_fault stops.at) is ∙ no_next_fault stops.at e rest within in
    let some = stops.is in cc

-- the bytes of entries and others are those of the first entry, and then the rest
first_bytes : (e : Tag × ℕ) (es : List (Tag × ℕ)) (text : List ℕ)
    → flat_map entry_bytes (e ∷ es) ++ text ≡ entry_bytes e ++ (flat_map entry_bytes es ++ text)
first_bytes e es text =
    ap (λ (l : List ℕ). l ++ text) (flat_map-cons entry_bytes e es)
    ∙ append_assoc (entry_bytes e) (flat_map entry_bytes es) text

-- equal bytes have the same entries before the place where the entries end
same_front : (xs ys : List (Tag × ℕ)) (s t : List ℕ) → AllByRecursion IsEntry xs → AllByRecursion IsEntry ys → Stops s
    → Stops t → flat_map entry_bytes xs ++ s ≡ flat_map entry_bytes ys ++ t → (xs ≡ ys) × (s ≡ t)
same_front [] [] s t of_x of_y stop end e = (refl, e)
same_front [] (y ∷ ys) s t of_x of_y stop end e =
    absurd (no_entry s y (flat_map entry_bytes ys ++ t) stop (e ∙ first_bytes y ys t) of_y.0)
same_front (x ∷ xs) [] s t of_x of_y stop end e =
    absurd (no_entry t x (flat_map entry_bytes xs ++ s) end (sym e ∙ first_bytes x xs s) of_x.0)
same_front (x ∷ xs) (y ∷ ys) s t of_x of_y stop end e =
    let one = one_entry x y (flat_map entry_bytes xs ++ s) (flat_map entry_bytes ys ++ t) of_x.0 of_y.0
    (sym (first_bytes x xs s) ∙ e ∙ first_bytes y ys t) in
    let rest = same_front xs ys s t of_x.1 of_y.1 stop end one.1 in
    (ap (λ (z : Tag × ℕ). z ∷ xs) one.0 ∙ ap (λ (zs : List (Tag × ℕ)). y ∷ zs) rest.0, rest.1)

-- bytes are whole entries, and then a text that begins with no further entry
record EndsAt (bytes : List ℕ) (entries : List (Tag × ℕ)) (text : List ℕ) : Type 0 where
  pub within : All IsEntry entries
  pub is : bytes ≡ entries_bytes entries ++ text
  pub stops : Stops text

-- the entries of some bytes end at one place
EndsAt-unique : {bytes : List ℕ} {xs ys : List (Tag × ℕ)} {s t : List ℕ} → EndsAt bytes xs s → EndsAt bytes ys t
    → (xs ≡ ys) × (s ≡ t)
EndsAt-unique {bytes} {xs} {ys} {s} {t} a b =
    let same : flat_map entry_bytes xs ++ s ≡ flat_map entry_bytes ys ++ t =
    ap (λ (l : List ℕ). drop 4 l) (sym a.is ∙ b.is) in
    same_front xs ys s t (recursion_from_All IsEntry xs a.within) (recursion_from_All IsEntry ys b.within)
    a.stops b.stops same

-- bytes that are whole entries end after them
whole_end : {bytes : List ℕ} {entries : List (Tag × ℕ)} → AreBytesOf entries bytes → EndsAt bytes entries []
whole_end {bytes} {entries} h = record {
  within = h.within;
  is = h.spelled ∙ sym (append-nil (entries_bytes entries));
  stops = stops_empty;
}

-- bytes with a wrong next entry end before it
entry_end : {bytes : List ℕ} {before : List (Tag × ℕ)} {text : List ℕ} {fault : ReadFault} → All IsEntry before
    → bytes ≡ entries_bytes before ++ text → next_entry_fault (length (entries_bytes before)) text ≡ Some fault
    → EndsAt bytes before text
entry_end {before = before} {fault = fault} within is wrong = record {
  within = within;
  is = is;
  stops = record { at = length (entries_bytes before); fault = fault; is = wrong };
}

-- the version before entries is right
version_right : (entries : List (Tag × ℕ)) (text : List ℕ) → version_fault (entries_bytes entries ++ text) ≡ None
version_right entries text =
    let rest : List ℕ = flat_map entry_bytes entries ++ text in
    let long : nat_lt (length (little_bytes 4 2 ++ rest)) 4 ≡ false = grind (arith, nat_tests) in rw long refl

-- bytes with entries have no fault of the version
no_version_fault : {bytes : List ℕ} {entries : List (Tag × ℕ)} {text : List ℕ} (fault : ReadFault)
    → EndsAt bytes entries text → version_fault bytes ≡ Some fault → ⊥
no_version_fault {bytes} {entries} {text} fault end wrong =
    let none : version_fault bytes ≡ None = ap version_fault end.is ∙ version_right entries text in cc

-- a text that has bytes is not empty
not_empty : (text : List ℕ) → 0 < length text → text ≡ [] → ⊥
not_empty text some e = let n = ap (λ (l : List ℕ). length l) e in absurd (omega (arith, n, some))

-- ---- what is wrong with a list of entries

-- two places are the same if neither comes before the other
same_place : (i j : ℕ) → (i < j → ⊥) → (j < i → ⊥) → i ≡ j
same_place i j p q = grind arith

-- entries have one first fall
same_fall : (ps : List (Tag × ℕ)) (i j : ℕ) → IsFirstFall ps i → IsFirstFall ps j → i ≡ j
same_fall ps i j a b = same_place i j (λ lt. b.first i lt a.fall) (λ lt. a.first j lt b.fall)

-- entries do not both fall before they repeat a tag, and repeat one before they fall
one_of_both : (ps : List (Tag × ℕ)) (i j : ℕ) → IsFirstFall ps i → NoneBefore (IsRepeat ps) i → IsFirstRepeat ps j
    → NoneBefore (IsFall ps) (j + 1) → ⊥
one_of_both ps i j a free b kept =
    let not_after : j < i → ⊥ = λ lt. free j lt b.repeats in kept i (omega (arith, not_after)) a.fall

-- a list of entries has at most one fault
one_of_list : (ps : List (Tag × ℕ)) (len : ℕ) (f g : ReadFault) → IsEntriesFault ps len f → IsEntriesFault ps len g
    → f ≡ g
one_of_list ps len _ _ (out_of_order i a free) (out_of_order j b clear) =
    ap (λ n. read_fault_at (entry_offset n) reasons.Order) (same_fall ps i j a b)
one_of_list ps len _ _ (out_of_order i a free) (repeated j b kept) = absurd (one_of_both ps i j a free b kept)
one_of_list ps len _ _ (out_of_order i a free) (absent t never miss) = absurd (never i a.in_range a.fall)
one_of_list ps len _ _ (repeated i a kept) (out_of_order j b free) = absurd (one_of_both ps j i b free a kept)
one_of_list ps len _ _ (repeated i a kept) (repeated j b held) =
    ap (λ n. read_fault_at (entry_offset n) (repeat_reason (tag_at ps n))) (same_first ps i j a b)
one_of_list ps len _ _ (repeated i a kept) (absent t never miss) = absurd (miss.distinct i a.in_range a.repeats)
one_of_list ps len _ _ (absent t never miss) (out_of_order j b free) = absurd (never j b.in_range b.fall)
one_of_list ps len _ _ (absent t never miss) (repeated j b kept) = absurd (miss.distinct j b.in_range b.repeats)
one_of_list ps len _ _ (absent s never miss) (absent t rises lacks) =
    ap (λ (z : TagOfCode). read_fault_at len (reasons.Miss z)) (same_miss ps s t miss lacks)

-- a valid list with its tag types in order has no fault
right_list : (ps : List (Tag × ℕ)) (len : ℕ) (f : ReadFault) → NeverFalls ps → IsValidList ps → IsEntriesFault ps len f
    → ⊥
right_list ps len _ never valid (out_of_order i a free) = never i a.in_range a.fall
right_list ps len _ never valid (repeated i a kept) = valid.distinct i a.in_range a.repeats
right_list ps len _ never valid (absent t rises miss) = let none = valid.complete in let some = miss.absent in cc

-- ---- what bytes spell, and what is wrong with them

-- bytes have at most one fault
pub one_fault : (bytes : List ℕ) (one two : ReadFault) → IsAttributeFault bytes one → IsAttributeFault bytes two
    → one ≡ two
one_fault bytes _ _ (of_version f e) (of_version g h) = cc
one_fault bytes _ _ (of_version f e) (of_entry before text g within is some wrong) =
    absurd (no_version_fault f (entry_end within is wrong) e)
one_fault bytes _ _ (of_version f e) (of_list entries g whole wrong) = absurd (no_version_fault f (whole_end whole) e)
one_fault bytes _ _ (of_entry before text f within is some wrong) (of_version g h) =
    absurd (no_version_fault g (entry_end within is wrong) h)
one_fault bytes _ _ (of_entry before text f within is some wrong) (of_entry xs s g inside whole more bad) =
    let same = EndsAt-unique (entry_end within is wrong) (entry_end inside whole bad) in
    let moved : next_entry_fault (length (entries_bytes before)) text ≡ next_entry_fault (length (entries_bytes xs)) s =
    ap (λ (l : List (Tag × ℕ)). next_entry_fault (length (entries_bytes l)) text) same.0
    ∙ ap (next_entry_fault (length (entries_bytes xs))) same.1 in cc
one_fault bytes _ _ (of_entry before text f within is some wrong) (of_list entries g whole bad) =
    absurd (not_empty text some (EndsAt-unique (entry_end within is wrong) (whole_end whole)).1)
one_fault bytes _ _ (of_list entries f whole wrong) (of_version g h) = absurd (no_version_fault g (whole_end whole) h)
one_fault bytes _ _ (of_list entries f whole wrong) (of_entry before text g within is some bad) =
    absurd (not_empty text some (EndsAt-unique (entry_end within is bad) (whole_end whole)).1)
one_fault bytes _ _ (of_list xs f whole wrong) (of_list ys g all bad) =
    let same = EndsAt-unique (whole_end whole) (whole_end all) in
    one_of_list ys (length bytes) f g (subst (λ (l : List (Tag × ℕ)). IsEntriesFault l (length bytes) f) same.0 wrong)
    bad

-- bytes that spell an ACL have no fault
pub no_fault : (acl : Entries) (bytes : List ℕ) (fault : ReadFault) → SpellsAttribute acl bytes
    → IsAttributeFault bytes fault → ⊥
no_fault acl bytes _ spells (of_version f e) = no_version_fault f (whole_end spells.whole) e
no_fault acl bytes _ spells (of_entry before text f within is some wrong) =
    not_empty text some (EndsAt-unique (entry_end within is wrong) (whole_end spells.whole)).1
no_fault acl bytes _ spells (of_list entries f whole wrong) =
    let same = EndsAt-unique (whole_end whole) (whole_end spells.whole) in
    right_list spells.entries (length bytes) f spells.order spells.valid
    (subst (λ (l : List (Tag × ℕ)). IsEntriesFault l (length bytes) f) same.0 wrong)

-- bytes spell at most one ACL
pub SpellsAttribute-unique : (one two : Entries) (bytes : List ℕ) → SpellsAttribute one bytes
    → SpellsAttribute two bytes → one ≡ two
SpellsAttribute-unique one two bytes h k =
    let same = EndsAt-unique (whole_end h.whole) (whole_end k.whole) in h.set ∙ ap as_set same.0 ∙ sym k.set

-- the bytes that are written of an ACL spell it
pub written_spells : (acl : Entries) → IsAcl acl → SpellsAttribute acl (attribute_bytes acl)
written_spells acl h =
    let set = set_of acl (fin.entries acl) refl in record {
      entries = fin.entries acl;
      whole = record { within = h.within; spelled = refl };
      order = sorted_rises (fin.entries acl) (entries_sorted acl);
      valid = record {
        distinct = sorted_distinct (fin.entries acl) (entries_sorted acl);
        complete = subst IsValid (sym set) h.valid;
      };
      set = sym set;
    }

-- ---- what is read

-- a fault of the version is the fault of the bytes
pub version_refused : (bytes : List ℕ) (fault : ReadFault) → Some fault ≡ version_fault bytes
    → IsAttributeFault bytes fault
version_refused bytes fault e = of_version fault (sym e)

-- a fault of the next entry is the fault of the bytes
pub entry_refused : (bytes : List ℕ) (entries : List Entry) (rest : List ℕ) (at : ℕ) (fault : ReadFault)
    → bytes ≡ entries_bytes (pairs entries) ++ rest → 0 < length rest → at ≡ length bytes - length rest
    → next_entry_fault at rest ≡ Some fault → IsAttributeFault bytes fault
entry_refused bytes entries rest at fault is some place wrong =
    let size : length bytes ≡ length (entries_bytes (pairs entries)) + length rest =
    ap (λ (l : List ℕ). length l) is ∙ length-append (entries_bytes (pairs entries)) rest in
    let same : at ≡ length (entries_bytes (pairs entries)) = omega (arith, size, place) in
    of_entry (pairs entries) rest fault (all_entries entries) is some
    (subst (λ (n : ℕ). next_entry_fault n rest ≡ Some fault) same wrong)

-- where no bytes are left, the bytes are those of the entries
pub read_whole : (bytes : List ℕ) (entries : List Entry) (rest : List ℕ)
    → bytes ≡ entries_bytes (pairs entries) ++ rest → true ≡ (length rest == 0) → AreBytesOf (pairs entries) bytes
read_whole bytes entries rest is none = record {
  within = all_entries entries;
  spelled = is
      ∙ ap (λ (l : List ℕ). entries_bytes (pairs entries) ++ l)
      (nil_from_length rest (eqb-true (length rest) 0 (sym none)))
      ∙ append-nil (entries_bytes (pairs entries));
}

-- a text that is not empty has bytes
pub some_bytes : (n : ℕ) → false ≡ (n == 0) → 0 < n
some_bytes n e = grind (arith, nat_tests)

-- ---- what is wrong with the list that was read

-- where the entries fall, a list in which no tag occurs twice is out of order
pub falls : (ps : List (Tag × ℕ)) (len place : ℕ) → IsDistinct ps → IsFirstFall ps place
    → IsEntriesFault ps len (read_fault_at (entry_offset place) reasons.Order)
falls ps len place distinct fall =
    out_of_order place fall (λ before lt. distinct before (omega (arith, lt, fall.in_range)))

-- the first repeat is the fault, unless the entries fall by then
pub repeats : (ps : List (Tag × ℕ)) (len place : ℕ) (fall : Option ℕ) (named : Bool) → IsFirstRepeat ps place
    → is_named (tag_at ps place) ≡ named → IfSome fall (IsFirstFall ps) → (IsNone fall → NeverFalls ps)
    → IsEntriesFault ps len (earlier_fault fall place (cond named reasons.Duplicate reasons.Multi))
repeats ps len place None named first is some none =
    let never = none refl in
    subst (λ (b : Bool). IsEntriesFault ps len
    (read_fault_at (entry_offset place) (cond b reasons.Duplicate reasons.Multi)))
    is (repeated place first (λ before lt. never before (omega (arith, lt, first.in_range))))
repeats ps len place (Some fall) named first is some none =
    elim (nat_le fall place) as (λ b. nat_le fall place ≡ b → IsEntriesFault ps len (cond b
    (read_fault_at (entry_offset fall) reasons.Order)
    (read_fault_at (entry_offset place) (cond named reasons.Duplicate reasons.Multi)))) [
      | true ↦ λ e.
          let le : fall ≤ place = grind (arith, nat_tests) in
          out_of_order fall some (λ before lt. first.first before (omega (arith, lt, le)))
      | false ↦ λ e.
          let less : place < fall = grind (arith, nat_tests) in
          subst (λ (b : Bool). IsEntriesFault ps len
          (read_fault_at (entry_offset place) (cond b reasons.Duplicate reasons.Multi))) is
          (repeated place first (λ before lt. some.first before (omega (arith, lt, less))))
    ] refl

-- a required entry that is absent is the fault of a list that is in order
pub lacks : (ps : List (Tag × ℕ)) (len : ℕ) (t : TagOfCode) → NeverFalls ps → IsMiss ps (tag_of t)
    → IsEntriesFault ps len (read_fault_at len (reasons.Miss t))
lacks ps len t never miss = absent t never miss

-- the fault of the list is the fault of the bytes
pub list_fault : (bytes : List ℕ) (entries : List Entry) (r : Result Entries ReadFault)
    → AreBytesOf (pairs entries) bytes
    → IfErr r (λ fault. (fault ≡ no_memory_left) ⊎ IsEntriesFault (pairs entries) (length bytes) fault)
    → IfErr r (λ fault. (fault ≡ no_memory_left) ⊎ IsAttributeFault bytes fault)
list_fault bytes entries (Ok acl) whole wrong = tt
list_fault bytes entries (Err fault) whole (inl none) = inl none
list_fault bytes entries (Err fault) whole (inr wrong) = inr (of_list (pairs entries) fault whole wrong)

-- the bytes have room for the version and the entries
pub room : (bytes : List ℕ) (entries : List Entry) → AreBytesOf (pairs entries) bytes
    → entry_offset (length (pairs entries)) ≡ length bytes
room bytes entries whole =
    let size : length bytes ≡ length (entries_bytes (pairs entries)) = ap (λ (l : List ℕ). length l) whole.spelled in
    omega (arith, size, bytes_length (pairs entries))
