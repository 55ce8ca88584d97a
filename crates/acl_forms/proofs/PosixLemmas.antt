-- A text spells at most one file or default ACL, or has one fault, and not both; and what is read is true of it.
use Rattle.std.proofs.Common.{◌≡◌, ◌∙◌, ◌<◌, ℕ, Bool, cond, List, [], ◌∷◌, length, Option, None, Some, Result, Ok, Err, refl, sym, ap, subst, arith, inl, inr, get_or, suc, zero}
use Rattle.std.specs.Prelude.{◌⊎◌, IfErr, IfOk, map}
use Rattle.std.proofs.lemmas.List.{length-map}
use Rattle.acl_perm.specs.Ascii.{colon}
use Rattle.acl_perm.specs.Lines.{cut_at, Span}
use Rattle.acl_posix.specs.Entries.{Entries}
use Rattle.acl_posix.specs.Grammar.{IsAclOf, IsDefaultOf}
use Rattle.acl_posix.specs.Names.{Table}
use Rattle.acl_posix.specs.Tag.{Tag, is_named, tag_of}
use Rattle.acl_posix.specs.Valid.{IsFirstRepeat, IsMiss, IsValidList, tag_at}
use Rattle.acl_posix.specs.declared.field.TagWord.{TagWord}
use Rattle.acl_posix.specs.declared.file.PosixFile.{PosixFile}
use Rattle.acl_posix.specs.declared.tag.Tag.{Tag as TagOfCode}
use Rattle.acl_posix.specs.declared.text_fault.Part.{Part}
use Rattle.acl_posix.specs.declared.text_fault.Part.TheVariants.{Access, Default}
use Rattle.acl_posix.proofs.Exports.{default_one, same_first, same_miss}
use Rattle.acl_forms.proofs.EntryLemmas.{some_part}
use Rattle.acl_forms.proofs.TextLemmas as texts
use Rattle.acl_forms.specs.Attributes.{repeat_reason}
use Rattle.acl_forms.specs.PosixRules.{IsDefaultTextFault, IsPlacedFault, IsPosixTextFault, SpellsDefaultText, SpellsPosixText, of_part, offset_at, placed_pairs, posix_rules}
use Rattle.acl_forms.specs.PosixRules.IsPlacedFault.{absent, repeated}
use Rattle.acl_forms.specs.PosixRules.IsPosixTextFault.{of_access, of_default, of_entries}
use Rattle.acl_forms.specs.PosixRules.IsDefaultTextFault.{of_list, of_parts}
use Rattle.acl_forms.specs.PosixText.{PlacedEntry, PosixFields, pair_by_id, fields_in, pair_read, word_read}
use Rattle.acl_forms.specs.ReadFaults.{no_memory_left, read_fault_at}
use Rattle.acl_forms.specs.internal.TextReading.{FailsAsRead, text_read}
use Rattle.acl_forms.specs.Texts.{IsFaultByRules, SpellsByRules}
use Rattle.acl_forms.specs.declared.fault.ReadFault.{ReadFault}
use Rattle.acl_forms.specs.declared.fault.ReadReason.TheVariants as reasons
use Rattle.acl_forms.specs.declared.posix_text.entry.TextEntry.{TextEntry}
use Rattle.acl_forms.specs.internal.PosixReading.{placed, with_last, IsDefaultRefused}

-- ---- fields

-- three fields, and an id after them if it is the last part
with_id : (part : Part) (a b c first : Span) (others : List Span)
    → with_last (record { part = part; tag = a; qualifier = b; permissions = c; id = None }) (first ∷ others)
    ≡ fields_in part (a ∷ b ∷ c ∷ first ∷ others)
with_id part a b c first [] = refl
with_id part a b c first (other ∷ others) = refl

-- the fields of an entry of three parts and those after them
pub last_joined : (part : Part) (whole second third last one two three : Span)
    → cut_at colon whole ≡ one ∷ cut_at colon second → cut_at colon second ≡ two ∷ cut_at colon third
    → cut_at colon third ≡ three ∷ cut_at colon last
    → with_last (record { part = part; tag = one; qualifier = two; permissions = three; id = None }) (cut_at colon last)
    ≡ fields_in part (cut_at colon whole)
last_joined part whole second third last one two three e f g =
    let some = some_part colon last in rw (e, f, g, some.2) (with_id part one two three some.0 some.1)

-- an id with a part after it is no last field
pub too_many : (fields : PosixFields) (whole id rest : Span) → cut_at colon whole ≡ id ∷ cut_at colon rest
    → None ≡ with_last fields (cut_at colon whole)
too_many fields whole id rest e = let some = some_part colon rest in rw (e, some.2) refl

-- the tag and the permissions of fields whose tag is this word
pub by_word : (start : ℕ) (names : Table) (fields : PosixFields) (word : TagWord) (id : Option Span)
    → word_read fields.tag ≡ Ok word → fields.id ≡ id
    → pair_read start names fields ≡ pair_by_id start names word fields id
unfolding pair_read
by_word start names fields word id read is = rw (read, is) refl

-- ---- what is wrong with the entries of a part

-- the first byte of the entry at a place
pub offset_read : (es : List TextEntry) (i : ℕ) (d : TextEntry) → i < length es
    → offset_at (map placed es) i ≡ (get_or es i d).at
offset_read [] i d lt = absurd (omega (arith, lt))
offset_read (e ∷ es) zero d lt = refl
offset_read (e ∷ es) (suc i) d lt = offset_read es i d (omega (arith, lt))

-- the entries of a part have at most one fault
one_of_part : (es : List PlacedEntry) (len : ℕ) (f g : ReadFault) → IsPlacedFault es len f → IsPlacedFault es len g
    → f ≡ g
one_of_part es len _ _ (repeated i a) (repeated j b) =
    ap (λ n. read_fault_at (offset_at es n) (repeat_reason (tag_at (placed_pairs es) n)))
    (same_first (placed_pairs es) i j a b)
one_of_part es len _ _ (repeated i a) (absent t miss) = absurd (miss.distinct i a.in_range a.repeats)
one_of_part es len _ _ (absent t miss) (repeated j b) = absurd (miss.distinct j b.in_range b.repeats)
one_of_part es len _ _ (absent s miss) (absent t lacks) =
    ap (λ (z : TagOfCode). read_fault_at len (reasons.Miss z)) (same_miss (placed_pairs es) s t miss lacks)

-- a valid part has no fault
right_part : (es : List PlacedEntry) (len : ℕ) (f : ReadFault) → IsValidList (placed_pairs es) → IsPlacedFault es len f
    → ⊥
right_part es len _ valid (repeated i a) = valid.distinct i a.in_range a.repeats
right_part es len _ valid (absent t miss) = let none = valid.complete in let some = miss.absent in cc

-- the first repeat is the fault of a part
pub repeats : (es : List PlacedEntry) (len place : ℕ) (named : Bool) → IsFirstRepeat (placed_pairs es) place
    → is_named (tag_at (placed_pairs es) place) ≡ named
    → IsPlacedFault es len (read_fault_at (offset_at es place) (cond named reasons.Duplicate reasons.Multi))
repeats es len place named first is =
    subst (λ (b : Bool). IsPlacedFault es len
    (read_fault_at (offset_at es place) (cond b reasons.Duplicate reasons.Multi))) is (repeated place first)

-- a required entry that is absent is the fault of a part
pub lacks : (es : List PlacedEntry) (len : ℕ) (t : TagOfCode) → IsMiss (placed_pairs es) (tag_of t)
    → IsPlacedFault es len (read_fault_at len (reasons.Miss t))
lacks es len t miss = absent t miss

-- ---- texts of files

-- a part has one set of entries
same_acl : (ps : List (Tag × ℕ)) (one two : Entries) → IsAclOf ps one → IsAclOf ps two → one ≡ two
same_acl ps one two h k = h.set ∙ sym k.set

-- a default part that has entries is valid
default_valid : (ps : List (Tag × ℕ)) (acl : Option Entries) → IsDefaultOf ps acl → 0 < length ps → IsValidList ps
default_valid [] acl h some = absurd (omega (arith, some))
default_valid (p ∷ ps) None h some = absurd h
default_valid (p ∷ ps) (Some acl) h some = h.valid

-- entries of a part that are there have tags and permissions
some_pairs : (es : List PlacedEntry) → 0 < length es → 0 < length (placed_pairs es)
some_pairs es some = omega (arith, some, length-map es (λ (e : PlacedEntry). e.pair))

-- the entries of a text
same_entries : (part : Part) (names : Table) (text : List ℕ) (one two : List PlacedEntry)
    → SpellsByRules (posix_rules part names) one text → SpellsByRules (posix_rules part names) two text → one ≡ two
same_entries part names text one two h k = texts.one_list (posix_rules part names) text one two h k

-- a fault of the entries of a text that spells entries is none
no_entry_fault : (part : Part) (names : Table) {text : List ℕ} {entries : List PlacedEntry} {fault : ReadFault}
    → SpellsByRules (posix_rules part names) entries text → IsFaultByRules (posix_rules part names) text fault → ⊥
no_entry_fault part names {text} {entries} {fault} h k =
    texts.no_fault (posix_rules part names) text entries fault h k

-- the fault of a part of entries is that of the same part of equal ones
moved : (part : Part) (len : ℕ) (f : ReadFault) (one two : List PlacedEntry) → one ≡ two
    → IsPlacedFault (of_part part one) len f → IsPlacedFault (of_part part two) len f
moved part len f one two e wrong = subst (λ (l : List PlacedEntry). IsPlacedFault (of_part part l) len f) e wrong

-- the entries of a valid access part have no fault
valid_access : (len : ℕ) (f : ReadFault) (one two : List PlacedEntry) → one ≡ two
    → IsPlacedFault (of_part Access one) len f → IsValidList (placed_pairs (of_part Access two)) → ⊥
valid_access len f one two e wrong valid =
    right_part (of_part Access two) len f valid (moved Access len f one two e wrong)

-- a text has at most one fault
pub one_fault : (names : Table) (text : List ℕ) (f g : ReadFault) → IsPosixTextFault names text f
    → IsPosixTextFault names text g → f ≡ g
one_fault names text _ _ (of_entries f h) (of_entries g k) = texts.one_fault (posix_rules Access names) text f g h k
one_fault names text _ _ (of_entries f h) (of_access es g spelled wrong) =
    absurd (no_entry_fault Access names spelled h)
one_fault names text _ _ (of_entries f h) (of_default es g spelled valid some wrong) =
    absurd (no_entry_fault Access names spelled h)
one_fault names text _ _ (of_access es f spelled wrong) (of_entries g k) =
    absurd (no_entry_fault Access names spelled k)
one_fault names text _ _ (of_access es f spelled wrong) (of_access xs g again bad) =
    one_of_part (of_part Access xs) (length text) f g
    (moved Access (length text) f es xs (same_entries Access names text es xs spelled again) wrong) bad
one_fault names text _ _ (of_access es f spelled wrong) (of_default xs g again valid some bad) =
    absurd (valid_access (length text) f es xs (same_entries Access names text es xs spelled again) wrong valid)
one_fault names text _ _ (of_default es f spelled valid some wrong) (of_entries g k) =
    absurd (no_entry_fault Access names spelled k)
one_fault names text _ _ (of_default es f spelled valid some wrong) (of_access xs g again bad) =
    absurd (valid_access (length text) g xs es (same_entries Access names text xs es again spelled) bad valid)
one_fault names text _ _ (of_default es f spelled valid some wrong) (of_default xs g again right more bad) =
    one_of_part (of_part Default xs) (length text) f g
    (moved Default (length text) f es xs (same_entries Access names text es xs spelled again) wrong) bad

-- a text that spells the ACLs of a file has no fault
pub no_fault : (names : Table) (text : List ℕ) (file : PosixFile) (f : ReadFault) → SpellsPosixText names file text
    → IsPosixTextFault names text f → ⊥
no_fault names text file _ h (of_entries f k) = no_entry_fault Access names h.spelled k
no_fault names text file _ h (of_access es f spelled wrong) =
    valid_access (length text) f es h.entries (same_entries Access names text es h.entries spelled h.spelled) wrong
    h.access.valid
no_fault names text file _ h (of_default es f spelled valid some wrong) =
    let same = same_entries Access names text es h.entries spelled h.spelled in
    let more = subst (λ (l : List PlacedEntry). 0 < length (of_part Default l)) same some in
    right_part (of_part Default h.entries) (length text) f
    (default_valid (placed_pairs (of_part Default h.entries)) file.default h.default
    (some_pairs (of_part Default h.entries) more))
    (moved Default (length text) f es h.entries same wrong)

-- a text spells the ACLs of at most one file
pub one_file : (names : Table) (text : List ℕ) (one two : PosixFile) → SpellsPosixText names one text
    → SpellsPosixText names two text → one ≡ two
one_file names text one two h k =
    let same = same_entries Access names text k.entries h.entries k.spelled h.spelled in
    let access = same_acl (placed_pairs (of_part Access h.entries)) one.access two.access h.access
    (subst (λ (l : List PlacedEntry). IsAclOf (placed_pairs (of_part Access l)) two.access) same k.access) in
    let default = default_one (placed_pairs (of_part Default h.entries)) one.default two.default h.default
    (subst (λ (l : List PlacedEntry). IsDefaultOf (placed_pairs (of_part Default l)) two.default) same k.default) in
    λ i. record { access = access i; default = default i }

-- ---- texts of default ACLs

-- the fault of a list of entries is that of an equal one
moved_list : (len : ℕ) (f : ReadFault) (one two : List PlacedEntry) → one ≡ two → IsPlacedFault one len f
    → IsPlacedFault two len f
moved_list len f one two e wrong = subst (λ (l : List PlacedEntry). IsPlacedFault l len f) e wrong

-- a text has at most one fault
pub one_default_fault : (names : Table) (text : List ℕ) (f g : ReadFault) → IsDefaultTextFault names text f
    → IsDefaultTextFault names text g → f ≡ g
one_default_fault names text _ _ (of_parts f h) (of_parts g k) =
    texts.one_fault (posix_rules Default names) text f g h k
one_default_fault names text _ _ (of_parts f h) (of_list es g spelled wrong) =
    absurd (no_entry_fault Default names spelled h)
one_default_fault names text _ _ (of_list es f spelled wrong) (of_parts g k) =
    absurd (no_entry_fault Default names spelled k)
one_default_fault names text _ _ (of_list es f spelled wrong) (of_list xs g again bad) =
    one_of_part xs (length text) f g
    (moved_list (length text) f es xs (same_entries Default names text es xs spelled again) wrong) bad

-- a text that spells a default ACL has no fault
pub no_default_fault : (names : Table) (text : List ℕ) (acl : Entries) (f : ReadFault)
    → SpellsDefaultText names acl text → IsDefaultTextFault names text f → ⊥
no_default_fault names text acl _ h (of_parts f k) = no_entry_fault Default names h.spelled k
no_default_fault names text acl _ h (of_list es f spelled wrong) =
    right_part h.entries (length text) f h.list.valid
    (moved_list (length text) f es h.entries (same_entries Default names text es h.entries spelled h.spelled) wrong)

-- a text spells at most one default ACL
pub one_default : (names : Table) (text : List ℕ) (one two : Entries) → SpellsDefaultText names one text
    → SpellsDefaultText names two text → one ≡ two
one_default names text one two h k =
    let same = same_entries Default names text k.entries h.entries k.spelled h.spelled in
    same_acl (placed_pairs h.entries) one two h.list
    (subst (λ (l : List PlacedEntry). IsAclOf (placed_pairs l) two) same k.list)

-- ---- what is read

-- the fault of the entries of a text is the fault of the text
pub entries_refused : (names : Table) (text : List ℕ) (fault : ReadFault)
    → FailsAsRead fault (text_read (posix_rules Access names) text)
    → (fault ≡ no_memory_left) ⊎ IsPosixTextFault names text fault
entries_refused names text fault (inl none) = inl none
entries_refused names text fault (inr read) =
    elim (texts.text_refused (posix_rules Access names) text (Err fault) (inr read)) [
      | inl none ↦ inl none
      | inr wrong ↦ inr (of_entries fault wrong)
    ]

-- the entries that are read are those that the text spells
spelled : (part : Part) (names : Table) (text : List ℕ) (entries : List PlacedEntry)
    → text_read (posix_rules part names) text ≡ Ok entries → SpellsByRules (posix_rules part names) entries text
spelled part names text entries read = texts.text_found (posix_rules part names) text (Ok entries) (entries, read, refl)

-- the fault of the access part is the fault of the text
pub access_refused : (names : Table) (text : List ℕ) (entries part : List PlacedEntry) (fault : ReadFault)
    → text_read (posix_rules Access names) text ≡ Ok entries → part ≡ of_part Access entries
    → (fault ≡ no_memory_left) ⊎ IsPlacedFault part (length text) fault
    → (fault ≡ no_memory_left) ⊎ IsPosixTextFault names text fault
access_refused names text entries part fault read is (inl none) = inl none
access_refused names text entries part fault read is (inr wrong) =
    inr (of_access entries fault (spelled Access names text entries read)
    (subst (λ (l : List PlacedEntry). IsPlacedFault l (length text) fault) is wrong))

-- the fault of the default part is the fault of the text
pub default_refused : (names : Table) (text : List ℕ) (entries part : List PlacedEntry) (access : Entries)
    (fault : ReadFault) → text_read (posix_rules Access names) text ≡ Ok entries → part ≡ of_part Access entries
    → IsAclOf (placed_pairs part) access
    → (fault ≡ no_memory_left) ⊎ IsDefaultRefused (of_part Default entries) (length text) fault
    → (fault ≡ no_memory_left) ⊎ IsPosixTextFault names text fault
default_refused names text entries part access fault read is acl (inl none) = inl none
default_refused names text entries part access fault read is acl (inr wrong) =
    inr (of_default entries fault (spelled Access names text entries read)
    (subst (λ (l : List PlacedEntry). IsValidList (placed_pairs l)) is acl.valid) wrong.some wrong.wrong)

-- a text whose parts are read spells the ACLs of a file
pub file_found : (names : Table) (text : List ℕ) (entries part : List PlacedEntry) (access : Entries)
    (default : Option Entries) → text_read (posix_rules Access names) text ≡ Ok entries
    → part ≡ of_part Access entries → IsAclOf (placed_pairs part) access
    → IsDefaultOf (placed_pairs (of_part Default entries)) default
    → SpellsPosixText names (record { access = access; default = default }) text
file_found names text entries part access default read is acl none = record {
  entries = entries;
  spelled = spelled Access names text entries read;
  access = subst (λ (l : List PlacedEntry). IsAclOf (placed_pairs l) access) is acl;
  default = none;
}

-- the fault of the entries of a text of a default ACL is the fault of the text
pub parts_refused : (names : Table) (text : List ℕ) (fault : ReadFault)
    → FailsAsRead fault (text_read (posix_rules Default names) text)
    → (fault ≡ no_memory_left) ⊎ IsDefaultTextFault names text fault
parts_refused names text fault (inl none) = inl none
parts_refused names text fault (inr read) =
    elim (texts.text_refused (posix_rules Default names) text (Err fault) (inr read)) [
      | inl none ↦ inl none
      | inr wrong ↦ inr (of_parts fault wrong)
    ]

-- a text whose list is read spells a default ACL
pub default_found : (names : Table) (text : List ℕ) (entries : List PlacedEntry) (r : Result Entries ReadFault)
    → text_read (posix_rules Default names) text ≡ Ok entries → IfOk r (IsAclOf (placed_pairs entries))
    → IfOk r (λ acl. SpellsDefaultText names acl text)
default_found names text entries (Ok acl) read list =
    record { entries = entries; spelled = spelled Default names text entries read; list = list }
default_found names text entries (Err fault) read list = tt

-- the fault of the list is the fault of a text of a default ACL
pub list_refused : (names : Table) (text : List ℕ) (entries : List PlacedEntry) (r : Result Entries ReadFault)
    → text_read (posix_rules Default names) text ≡ Ok entries
    → IfErr r (λ fault. (fault ≡ no_memory_left) ⊎ IsPlacedFault entries (length text) fault)
    → IfErr r (λ fault. (fault ≡ no_memory_left) ⊎ IsDefaultTextFault names text fault)
list_refused names text entries (Ok acl) read wrong = tt
list_refused names text entries (Err fault) read (inl none) = inl none
list_refused names text entries (Err fault) read (inr wrong) =
    inr (of_list entries fault (spelled Default names text entries read) wrong)
