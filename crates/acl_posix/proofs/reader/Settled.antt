-- A text spells one file or has one fault, and not both.
use Rattle.acl_posix.proofs.Common.{[], Access, access_of, acl_fault, ap, arith, as_set, Default, default_of, Entries, Err, FailsWith, IfErr, IfOk, inl, inr, is_refusal, IsAclOf, IsDefaultOf, IsFaultOf, IsFile, IsFirstInvalid, IsFirstTextFault, IsInvalidText, IsPartFault, IsTextFault, IsTextFaultOrMemory, IsTextRefusedWith, IsValidList, length, List, Lists, MatchResult, no_lists, None, Ok, Option, Part, PartEntry, pieces_of, PosixFile, read_pieces, Reads, refl, Result, rules, Some, SpellAll, subst, sym, Table, Tag, TextFault, TextPiece, true, ℕ, ◌<◌, ◌↔◌, ◌∙◌, ◌∷◌, ◌≡◌}
use Rattle.acl_posix.proofs.reader.Lines.{all_read, first_read, joined, judged}
use Rattle.acl_posix.proofs.sorting.ValidLists.{no_fault, one_fault}
use Rattle.acl_posix.specs.Names.{empty_table}
use Rattle.acl_posix.specs.declared.text_fault.Cause.{Cause}
use Rattle.acl_posix.specs.declared.text_fault.Cause.TheVariants as cause
use Rattle.acl_posix.specs.declared.text_fault.TextFault.TheVariants as faults

-- ---- pieces spell one file

-- two lists of entries that the same pieces spell have the same entries in each part
same_lists : (names : Table) (pieces : List TextPiece) (es fs : List PartEntry) → SpellAll names pieces es
    → SpellAll names pieces fs → joined no_lists es ≡ joined no_lists fs
same_lists names pieces es fs h k =
    let same = sym (all_read names no_lists pieces es h) ∙ all_read names no_lists pieces fs k in cc

-- pieces that spell entries have no fault
spelled_no_fault : (names : Table) (pieces : List TextPiece) (es : List PartEntry) (fault : TextFault)
    → SpellAll names pieces es → IsFirstTextFault names pieces fault → ⊥
spelled_no_fault names pieces es fault h k =
    let wrong = sym (all_read names no_lists pieces es h) ∙ first_read names no_lists pieces fault k in absurd cc

-- two default ACLs of the same entries are equal
pub default_one : (entries : List (Tag × ℕ)) (a b : Option Entries) → IsDefaultOf entries a → IsDefaultOf entries b
    → a ≡ b
default_one [] None None h k = refl
default_one (e ∷ es) (Some a) (Some b) h k = ap (λ (x : Entries). Some x) (h.set ∙ sym k.set)
default_one entries a b h k = absurd (search rules)

-- a text spells one file
pub one_file : (text : List ℕ) (names : Table) (F G : PosixFile) → Reads text names F → Reads text names G → F ≡ G
one_file text names F G h k =
    let same = same_lists names (pieces_of text) h.entries k.entries h.spelled k.spelled in
    let access : F.access ≡ G.access = h.access.set ∙ ap (λ (x : Lists). as_set x.access) same ∙ sym k.access.set in
    let default : F.default ≡ G.default = default_one (default_of h.entries) F.default G.default h.default
    (subst (λ (x : Lists). IsDefaultOf x.default G.default) (sym same) k.default) in
    ap (λ (x : Entries). record { access = x; default = F.default }) access
    ∙ ap (λ (x : Option Entries). record { access = G.access; default = x }) default

-- ---- a list of entries has one cause

-- the fault of a cause is not `Memory`
cause_is_refusal : (why : Cause) → is_refusal (acl_fault why) ≡ true
cause_is_refusal (cause.Multi place) = refl
cause_is_refusal why = refl

-- a list has one cause
one_cause : (es : List (Tag × ℕ)) (a b : Cause) → IsFaultOf es (acl_fault a) → IsFaultOf es (acl_fault b) → a ≡ b
one_cause es a b h k =
    let same = one_fault es (acl_fault a) (acl_fault b) (cause_is_refusal a) (cause_is_refusal b) h k in grind arith

-- a valid list has no cause
valid_cause : (es : List (Tag × ℕ)) (why : Cause) → IsValidList es → IsFaultOf es (acl_fault why) → ⊥
valid_cause es why h k = no_fault es (acl_fault why) h (cause_is_refusal why) k

-- ---- a text has one fault

-- the entries of two parts have one first invalid part with one cause
one_invalid : (access default : List (Tag × ℕ)) (p q : Part) (a b : Cause) → IsFirstInvalid access default p a
    → IsFirstInvalid access default q b → faults.Invalid p a ≡ faults.Invalid q b
one_invalid access default Access Access a b h k = ap (faults.Invalid Access) (one_cause access a b h k)
one_invalid access default Access Default a b h k = absurd (valid_cause access a k.0 h)
one_invalid access default Default Access a b h k = absurd (valid_cause access b h.0 k)
one_invalid access default Default Default a b h k = ap (faults.Invalid Default) (one_cause default a b h.2 k.2)

-- if a part of a text is invalid, it is invalid for the same cause in any entries that the text spells
invalid_in : (text : List ℕ) (names : Table) (es : List PartEntry) (which : Part) (why : Cause)
    → SpellAll names (pieces_of text) es → IsInvalidText text names which why
    → IsFirstInvalid (access_of es) (default_of es) which why
invalid_in text names es which why spelled h = subst (λ (x : Lists). IsFirstInvalid x.access x.default which why)
    (same_lists names (pieces_of text) h.entries es h.spelled spelled) h.wrong

-- a text has one fault
pub one_text_fault : (text : List ℕ) (names : Table) (f g : TextFault) → IsTextFault text names f
    → IsTextFault text names g → f ≡ g
one_text_fault text names (faults.Invalid p a) (faults.Invalid q b) h k =
    one_invalid (access_of h.entries) (default_of h.entries) p q a b h.wrong
    (invalid_in text names h.entries q b h.spelled k)
one_text_fault text names faults.Memory g h k = absurd h
one_text_fault text names f faults.Memory h k = absurd k
one_text_fault text names (faults.Invalid p a) g h k =
    absurd (spelled_no_fault names (pieces_of text) h.entries g h.spelled k)
one_text_fault text names f (faults.Invalid q b) h k =
    absurd (spelled_no_fault names (pieces_of text) k.entries f k.spelled h)
one_text_fault text names f g h k =
    let same = sym (first_read names no_lists (pieces_of text) f h) ∙ first_read names no_lists (pieces_of text) g k in
    cc

-- the entries of a default ACL have no cause to be invalid
default_valid : (entries : List (Tag × ℕ)) (d : Option Entries) (why : Cause) → IsDefaultOf entries d
    → 0 < length entries → IsFaultOf entries (acl_fault why) → ⊥
default_valid [] d why h some wrong = omega (arith, some)
default_valid (e ∷ es) None why h some wrong = h
default_valid (e ∷ es) (Some acl) why h some wrong = valid_cause (e ∷ es) why h.valid wrong

-- if the entries of both parts make the ACLs of a file, no part is invalid
valid_parts : (access default : List (Tag × ℕ)) (F : PosixFile) (which : Part) (why : Cause) → IsAclOf access F.access
    → IsDefaultOf default F.default → IsFirstInvalid access default which why → ⊥
valid_parts access default F Access why h k wrong = valid_cause access why h.valid wrong
valid_parts access default F Default why h k wrong = default_valid default F.default why k wrong.1 wrong.2

-- a text that spells a file has no fault
pub file_or_fault : (text : List ℕ) (names : Table) (F : PosixFile) (f : TextFault) → Reads text names F
    → IsTextFault text names f → ⊥
file_or_fault text names F (faults.Invalid which why) h k =
    valid_parts (access_of h.entries) (default_of h.entries) F which why h.access h.default
    (invalid_in text names h.entries which why h.spelled k)
file_or_fault text names F faults.Memory h k = k
file_or_fault text names F f h k = spelled_no_fault names (pieces_of text) h.entries f h.spelled k

-- ---- what the code finds

-- entries that a text spells, which are those of these lists
record SpellLists (text : List ℕ) (names : Table) (lists : Lists) : Type 0 where
  entries : List PartEntry
  spelled : SpellAll names (pieces_of text) entries
  lists_are : lists ≡ joined no_lists entries

-- lists that are read from a text are the entries that its pieces spell
spelled_lists : (text : List ℕ) (names : Table) (lists : Lists) → read_pieces names no_lists (pieces_of text) ≡ Ok lists
    → SpellLists text names lists
spelled_lists text names lists e = elim (judged names (pieces_of text)) [
  | inl all ↦
      let same = sym e ∙ all_read names no_lists (pieces_of text) all.0 all.1 in
      record { entries = all.0; spelled = all.1; lists_are = cc }
  | inr first ↦
      let wrong = sym e ∙ first_read names no_lists (pieces_of text) first.0 first.1 in absurd cc
]

-- lists that are read and make valid ACLs are what the text spells
pub file_found : (text : List ℕ) (names : Table) (lists : Lists) (F : PosixFile)
    → read_pieces names no_lists (pieces_of text) ≡ Ok lists → IsAclOf lists.access F.access
    → IsDefaultOf lists.default F.default → Reads text names F
file_found text names lists F e access default =
    let spelled = spelled_lists text names lists e in
    record {
      entries = spelled.entries;
      spelled = spelled.spelled;
      access = subst (λ (x : Lists). IsAclOf x.access F.access) spelled.lists_are access;
      default = subst (λ (x : Lists). IsDefaultOf x.default F.default) spelled.lists_are default;
    }

-- a fault that is read from a text is that of its first piece that spells no entry
piece_refused : (text : List ℕ) (names : Table) (fault : TextFault)
    → read_pieces names no_lists (pieces_of text) ≡ Err fault → IsFirstTextFault names (pieces_of text) fault
piece_refused text names fault e = elim (judged names (pieces_of text)) [
  | inl all ↦ let wrong = sym e ∙ all_read names no_lists (pieces_of text) all.0 all.1 in absurd cc
  | inr first ↦
      let same : first.0 ≡ fault =
      (let both = sym e ∙ first_read names no_lists (pieces_of text) first.0 first.1 in cc) in
      subst (IsFirstTextFault names (pieces_of text)) same first.1
]

-- a fault of a piece refuses the text
pub text_refused : (text : List ℕ) (names : Table) (fault : TextFault)
    → FailsWith fault (read_pieces names no_lists (pieces_of text)) → IsTextFaultOrMemory text names fault
text_refused text names faults.Memory h = inl refl
text_refused text names (faults.Invalid which why) h =
    absurd (piece_refused text names (faults.Invalid which why) h).wrong
text_refused text names fault h = inr (piece_refused text names fault h)

-- a fault of the entries of a part refuses the text, if no part before it is invalid
pub part_refused : (text : List ℕ) (names : Table) (lists : Lists) (part : Part) (entries : List (Tag × ℕ))
    (fault : TextFault) → read_pieces names no_lists (pieces_of text) ≡ Ok lists
    → ((why : Cause) → IsFaultOf entries (acl_fault why) → IsFirstInvalid lists.access lists.default part why)
    → IsPartFault part entries fault → IsTextFaultOrMemory text names fault
part_refused text names lists part entries (faults.Invalid which why) e first h =
    let spelled = spelled_lists text names lists e in
    inr (subst (λ (p : Part). IsInvalidText text names p why) (sym h.0) (record {
      entries = spelled.entries;
      spelled = spelled.spelled;
      wrong = subst (λ (x : Lists). IsFirstInvalid x.access x.default part why) spelled.lists_are (first why h.1);
    }))
part_refused text names lists part entries faults.Memory e first h = inl refl
part_refused text names lists part entries fault e first h = absurd h

-- ---- the answer of the code, for a file or a fault of the text

-- a text that spells a file is read as that file, unless memory runs out
pub only_file : (text : List ℕ) (names : Table) (answer : Result PosixFile TextFault) → IfOk answer (Reads text names)
    → IfErr answer (IsTextFaultOrMemory text names) → (F : PosixFile) → Reads text names F
    → MatchResult answer (λ read. read ≡ F) (λ fault. fault ≡ faults.Memory)
only_file text names (Ok G) found refused F h = one_file text names G F found h
only_file text names (Err f) found refused F h = elim refused [
  | inl memory ↦ memory
  | inr wrong ↦ absurd (file_or_fault text names F f h wrong)
]

-- a text with a fault is refused with that fault, unless memory runs out
pub only_fault : (text : List ℕ) (names : Table) (answer : Result PosixFile TextFault) → IfOk answer (Reads text names)
    → IfErr answer (IsTextFaultOrMemory text names) → (wrong : TextFault) → IsTextFault text names wrong
    → IsTextRefusedWith answer wrong
only_fault text names (Ok G) found refused wrong h = file_or_fault text names G wrong found h
only_fault text names (Err f) found refused wrong h = elim refused [
  | inl memory ↦ inr memory
  | inr is ↦ inl (one_text_fault text names f wrong is h)
]

-- ---- texts that read back

-- a text that reads back reads back as one file
pub back : (text : List ℕ) (names : Table) (F other : PosixFile) → Reads text names F
    → Reads text names other ↔ (other ≡ F)
back text names F other h =
    (λ k. one_file text names other F k h, λ e. subst (λ (G : PosixFile). Reads text names G) (sym e) h)

-- if texts read back, two files have the same text if and only if they have the same ACLs
pub apart : (text : Entries → Option Entries → List ℕ)
    → ((names : Table) (F : PosixFile) → IsFile F → Reads (text F.access F.default) names F) → (F G : PosixFile)
    → IsFile F → IsFile G
    → (text F.access F.default ≡ text G.access G.default) ↔ (F.access ≡ G.access) × (F.default ≡ G.default)
apart text reads F G hF hG = (
  λ same.
      let both : F ≡ G = one_file (text G.access G.default) empty_table F G
      (subst (λ (t : List ℕ). Reads t empty_table F) same (reads empty_table F hF)) (reads empty_table G hG) in
      (ap (λ (H : PosixFile). H.access) both, ap (λ (H : PosixFile). H.default) both),
  λ same. ap (λ (x : Entries). text x F.default) same.0 ∙ ap (λ (x : Option Entries). text G.access x) same.1,
)
