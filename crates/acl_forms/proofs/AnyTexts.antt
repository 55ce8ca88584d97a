-- What a text of ACEs of any type spells, and what is kept of it.
use Rattle.std.proofs.Common.{◌≡◌, ◌∙◌, ◌+◌, ◌≤◌, ◌++◌, ℕ, false, List, [], ◌∷◌, Result, Ok, Err, length, refl, ap, sym, subst, arith, inl, inr, length-append}
use Rattle.std.specs.Prelude.{◌⊎◌, IfErr, IfOk, count_ones}
use Rattle.std.specs.List.{cons_option, flat_map}
use Rattle.std.proofs.lemmas.List.Concat.{flat_map-cons}
use Rattle.std.proofs.lemmas.List.Sums.{sum_by_push}
use Rattle.acl_perm.specs.Ascii.{line_feed}
use Rattle.acl_perm.specs.Lines.{Span, cut_at}
use Rattle.acl_perm.specs.Profile.{full}
use Rattle.acl_perm.specs.internal.Steps.{◌>>=◌}
use Rattle.acl_nfs4.specs.AccessPart.{AnyAce}
use Rattle.acl_nfs4.specs.Ace.{Ace}
use Rattle.acl_nfs4.specs.Limits.{most_weight}
use Rattle.acl_nfs4.specs.Spelling.{IsAccepted, weight}
use Rattle.acl_nfs4.specs.Who.{is_unknown_special}
use Rattle.acl_nfs4.proofs.Exports.{ok_is, weight-push}
use Rattle.acl_forms.specs.Forms.{IsTextWithoutFlags}
use Rattle.acl_forms.specs.Part.{HasNoUnknownDeny, IsReadAsPart, PlacedAce, RefusesPart, SpellsPart, any_weight, is_unknown_deny, kept, kept_unless, left_out, noted_if, reason_of}
use Rattle.acl_forms.specs.PartTexts.{EntryReader, any_type_rules, placed_ace}
use Rattle.acl_forms.specs.ReadFaults.{no_memory_left}
use Rattle.acl_forms.specs.internal.TextReading.{FailsAsRead, IsHeld, text_read}
use Rattle.acl_forms.specs.Texts.{AddEach, IsFaultByRules, SpellsByRules, TextRules, item_read, items_in, whole_text}
unfoldable use Rattle.acl_forms.specs.Texts.{comment_fault, cut_entries, line_items}
use Rattle.acl_forms.specs.declared.fault.ReadFault.{ReadFault}
use Rattle.acl_forms.specs.declared.part.ReadablePart.{ReadablePart}
use Rattle.acl_forms.specs.declared.part.left_out.LeftOut.{LeftOut}
use Rattle.acl_forms.specs.declared.part.texts.TextPart.{TextPart}
use Rattle.acl_forms.specs.internal.AnyAces.{IsPartReadAs}
use Rattle.acl_forms.specs.internal.AnyTexts.{HoldsPart, without_flags}
use Rattle.acl_forms.proofs.AnyAces.{kept-push, kept_most, left_out-push}
use Rattle.acl_forms.proofs.PartAnswers.{part_found, part_only, part_refused}
use Rattle.acl_forms.proofs.TextLemmas.{answer_read, fault_read, text_found, text_refused}
use Rattle.acl_forms.proofs.WholeLists.{any_of, kept_same}

-- ---- what is kept so far

-- nothing is kept of no ACEs
pub holds_none : (part : TextPart) → part.list ≡ [] → part.left_out.items ≡ [] → part.count ≡ 0 → part.weight ≡ 0
    → HoldsPart part []
holds_none part none out count bits = record {
  kept = none;
  left_out = out;
  count = count;
  weight = bits;
  light = omega (arith, bits);
  accepted = rw none (record { count = omega arith; weight = omega arith; each = tt });
  few = rw none (omega arith);
  heavy = rw none (omega arith);
}

-- one more ACE is kept or left out
pub holds_more : (part new : TextPart) (whole : List PlacedAce) (p : PlacedAce) → HoldsPart part whole
    → new.list ≡ part.list ++ cons_option (kept_unless (reason_of p.ace) p.ace) []
    → new.left_out.items ≡ part.left_out.items ++ noted_if part.count p.offset (reason_of p.ace)
    → new.count ≡ part.count + 1 → new.weight ≡ part.weight + count_ones p.ace.mask → new.weight ≤ most_weight
    → IsAccepted full new.list → HoldsPart new (whole ++ p ∷ [])
holds_more part new whole p h list out count bits light ok =
    let most = kept_most part.list p.ace in record {
      kept = list ∙ ap (λ (l : List Ace). l ++ cons_option (kept_unless (reason_of p.ace) p.ace) []) h.kept
          ∙ sym (kept-push whole p);
      left_out = out ∙ ap (λ (l : List LeftOut). l ++ noted_if part.count p.offset (reason_of p.ace)) h.left_out
          ∙ ap (λ (n : ℕ). left_out whole ++ noted_if n p.offset (reason_of p.ace)) h.count
          ∙ sym (left_out-push whole p);
      count = omega (arith, count, h.count, length-append whole (p ∷ []));
      weight = bits ∙ ap (λ (n : ℕ). n + count_ones p.ace.mask) h.weight
          ∙ sym (sum_by_push (λ (q : PlacedAce). count_ones q.ace.mask) whole p);
      light = light;
      accepted = ok;
      few = rw list (omega (arith, most.long, h.few, count));
      heavy = rw list (omega (arith, most.heavy, h.heavy, bits));
    }

-- the fault of an entry is that of the next entry
pub entry_fails : (read : EntryReader) (part : TextPart) (whole : List PlacedAce) (entry : Span) (f : ReadFault)
    → HoldsPart part whole → read part.count part.weight entry ≡ Err f
    → (read (length whole) (any_weight whole) entry >>= λ a. Ok (placed_ace entry.column a)) ≡ Err f
entry_fails read part whole entry f h e =
    let same : read (length whole) (any_weight whole) entry ≡ Err f = rw (h.count, h.weight) at e in rw same refl

-- the ACE of an entry is that of the next entry, at its place
pub entry_gives : (read : EntryReader) (part : TextPart) (whole : List PlacedAce) (entry : Span) (a : AnyAce)
    → HoldsPart part whole → read part.count part.weight entry ≡ Ok a
    → (read (length whole) (any_weight whole) entry >>= λ a. Ok (placed_ace entry.column a))
    ≡ Ok (placed_ace entry.column a)
entry_gives read part whole entry a h e =
    let same : read (length whole) (any_weight whole) entry ≡ Ok a = rw (h.count, h.weight) at e in rw same refl

-- ---- what a call answers

-- the fault of a text is that of its part
pub part_fails : (read : Result (List PlacedAce) ReadFault) (f : ReadFault) → FailsAsRead f read
    → (f ≡ no_memory_left) ⊎ (without_flags read ≡ Err f)
part_fails read f (inl memory) = inl memory
part_fails read f (inr e) = inr (rw e refl)

-- what is kept and left out of a text is its part
pub part_made : (read : Result (List PlacedAce) ReadFault) (part : TextPart) (made : ReadablePart)
    → IsHeld read (HoldsPart part) → made.flags.bits ≡ 0 → made.list ≡ part.list
    → made.left_out.items ≡ part.left_out.items → IsPartReadAs (Ok made) (without_flags read)
part_made read part made (all, is, h) none list out =
    (0, all, rw is refl, record { flags = none; kept = list ∙ h.kept; left_out = out ∙ h.left_out })

-- a list that is read without flags is read
without_is : (read : Result (List PlacedAce) ReadFault) (set : ℕ) (list : List PlacedAce)
    → without_flags read ≡ Ok (set, list) → (set ≡ 0) × (read ≡ Ok list)
without_is (Ok all) set list e =
    let pair : (0, all) ≡ (set, list) = ok_is _ _ e in (ap (λ z. z.0) (sym pair), ap (λ z. Ok z.1) pair)
without_is (Err f) set list e = absurd cc

-- a text with a fault has the same without flags
without_err : (read : Result (List PlacedAce) ReadFault) (f : ReadFault) → without_flags read ≡ Err f → read ≡ Err f
without_err (Ok all) f e = absurd cc
without_err (Err g) f e = cc

-- a part that is read is that of what the text spells
pub texts_found : (rules : TextRules PlacedAce) (text : List ℕ) (result : Result ReadablePart ReadFault)
    → IsPartReadAs result (without_flags (text_read rules text))
    → IfOk result (λ part. SpellsPart (λ whole. IsTextWithoutFlags (SpellsByRules rules) part.flags.bits whole text)
    part.list part.left_out.items)
texts_found rules text =
    part_found (λ set whole. IsTextWithoutFlags (SpellsByRules rules) set whole text)
    (without_flags (text_read rules text))
    (λ set list e.
    let is = without_is (text_read rules text) set list e in
    record { none = is.0; spelled = text_found rules text (Ok list) (list, is.1, refl) })

-- the part of what the text spells is returned, unless memory runs out
pub texts_only : (rules : TextRules PlacedAce) (text : List ℕ) (result : Result ReadablePart ReadFault)
    → IsPartReadAs result (without_flags (text_read rules text)) → (set : ℕ) (list : List Ace) (out : List LeftOut)
    → SpellsPart (λ whole. IsTextWithoutFlags (SpellsByRules rules) set whole text) list out
    → IsReadAsPart result set list out
texts_only rules text =
    part_only (λ set whole. IsTextWithoutFlags (SpellsByRules rules) set whole text)
    (without_flags (text_read rules text))
    (λ set list h.
    let read : text_read rules text ≡ Ok list = answer_read rules text (Ok list) h.spelled in
    rw (read, h.none) refl)

-- a text that is refused has the fault, or memory ran out
pub texts_fault : (rules : TextRules PlacedAce) (text : List ℕ) (result : Result ReadablePart ReadFault)
    → IsPartReadAs result (without_flags (text_read rules text))
    → IfErr result (λ fault. (fault ≡ no_memory_left) ⊎ IsFaultByRules rules text fault)
texts_fault rules text (Ok part) h = tt
texts_fault rules text (Err f) (inl memory) = inl memory
texts_fault rules text (Err f) (inr said) =
    text_refused rules text (Err f) (inr (without_err (text_read rules text) f said))

-- a text with a fault is refused with that fault, unless memory runs out
pub texts_refused : (rules : TextRules PlacedAce) (text : List ℕ) (result : Result ReadablePart ReadFault)
    → IsPartReadAs result (without_flags (text_read rules text)) → (wrong : ReadFault)
    → IsFaultByRules rules text wrong → RefusesPart result wrong
texts_refused rules text result h wrong is =
    part_refused (without_flags (text_read rules text)) result h wrong (rw (fault_read rules text wrong is) refl)

-- ---- a whole list

-- what a form reads as an ACE, its reader of entries of any type reads as the same ACE, which somebody knows
abbrev pub Follows : TextRules Ace → EntryReader → Type 0
Follows rules read = (aces : List Ace) (entry : Span) (a : Ace) → rules.entry aces entry ≡ Ok a
    → (read (length aces) (weight aces) entry ≡ Ok (any_of a)) × (is_unknown_special a.who ≡ false)

-- all of these ACEs are kept
record AreKept (aces : List Ace) (whole : List PlacedAce) : Type 0 where
  pub kept : kept whole ≡ aces
  pub none : left_out whole ≡ []
  pub long : length whole ≡ length aces
  pub weight : any_weight whole ≡ weight aces

-- one more ACE is kept
kept_more : (aces : List Ace) (whole : List PlacedAce) (a : Ace) (at : ℕ) → AreKept aces whole
    → is_unknown_special a.who ≡ false → AreKept (aces ++ a ∷ []) (whole ++ placed_ace at (any_of a) ∷ [])
kept_more aces whole a at h known =
    let p = placed_ace at (any_of a) in
    let same = kept_same a known in record {
      kept = kept-push whole p ∙ rw (same.0, same.1, h.kept) refl;
      none = left_out-push whole p ∙ rw (same.0, h.none) refl;
      long = omega (arith, h.long, length-append whole (p ∷ []), length-append aces (a ∷ []));
      weight = sum_by_push (λ (q : PlacedAce). count_ones q.ace.mask) whole p
          ∙ ap (λ (n : ℕ). n + count_ones a.mask) h.weight ∙ weight-push aces a;
    }

-- for the rules of a text, and how one of its entries is read
module _ (rules : TextRules Ace) (read : EntryReader) where
  -- a line has the same items
  line_same : (line : Span) → line_items (any_type_rules rules read) line ≡ line_items rules line
  unfolding line_items comment_fault cut_entries
  line_same line = refl

  -- lines have the same items
  lines_same : (lines : List Span)
      → flat_map (line_items (any_type_rules rules read)) lines ≡ flat_map (line_items rules) lines
  lines_same [] = refl
  lines_same (line ∷ lines) =
      flat_map-cons (line_items (any_type_rules rules read)) line lines
      ∙ rw (line_same line, lines_same lines) (sym (flat_map-cons (line_items rules) line lines))

  -- what items add to a list, they add to the whole list
  each_same : Follows rules read → (aces : List Ace) (whole : List PlacedAce) (items : List (Result Span ReadFault))
      (list : List Ace) → AreKept aces whole → AddEach rules aces items list
      → (all : List PlacedAce) × AddEach (any_type_rules rules read) whole items all × AreKept list all
  each_same follows aces whole [] list h e = (whole, refl, subst (λ (l : List Ace). AreKept l whole) (sym e) h)
  each_same follows aces whole (Err f ∷ items) list h e = absurd (let wrong = e.1 in cc)
  each_same follows aces whole (Ok entry ∷ items) list h (a, is, others) =
      let f = follows aces entry a is in
      let p = placed_ace entry.column (any_of a) in
      let reads : item_read (any_type_rules rules read) whole (Ok entry) ≡ Ok p = rw (h.long, h.weight, f.0) refl in
      let rest = each_same follows (aces ++ a ∷ []) (whole ++ p ∷ []) items list
      (kept_more aces whole a entry.column h f.1) others in
      (rest.0, (p, reads, rest.1), rest.2)

  -- a text that spells a list spells it as a part of which nothing is left out
  pub text_whole : Follows rules read → (set : ℕ) (list : List Ace) (text : List ℕ)
      → IsTextWithoutFlags (SpellsByRules rules) set list text
      → SpellsPart (λ whole. IsTextWithoutFlags (SpellsByRules (any_type_rules rules read)) set whole text) list []
  text_whole follows set list text h =
      let same : items_in (any_type_rules rules read) text ≡ items_in rules text =
      lines_same (cut_at line_feed (whole_text text)) in
      let none : AreKept [] [] = record { kept = refl; none = refl; long = refl; weight = refl } in
      let all = each_same follows [] [] (items_in rules text) list none h.spelled.each in
      let enough = h.spelled.enough in
      record {
        whole = all.0;
        spelled = record {
          none = h.none;
          spelled = record {
            no_nul = h.spelled.no_nul;
            each = subst (λ (items : List (Result Span ReadFault)). AddEach (any_type_rules rules read) [] items all.0)
                (sym same) all.1;
            enough = omega (arith, enough, all.2.long);
          };
        };
        kept = sym all.2.kept;
        left_out = sym all.2.none;
      }

-- ---- no DENY of a special identifier that nobody knows

-- a reader of entries reads no such DENY
abbrev pub RefusesUnknown : EntryReader → Type 0
RefusesUnknown read = (count bits : ℕ) (entry : Span) (a : AnyAce) → read count bits entry ≡ Ok a
    → is_unknown_deny a.type_number a.who ≡ false

-- no ACE of these is such a DENY, also with one more
known_more : (whole : List PlacedAce) (p : PlacedAce) → HasNoUnknownDeny whole
    → is_unknown_deny p.ace.type_number p.ace.who ≡ false → HasNoUnknownDeny (whole ++ p ∷ [])
known_more [] p each one = (one, tt)
known_more (q ∷ whole) p each one = (each.0, known_more whole p each.1 one)

-- a placed ACE that is read was read
placed_is : (at : ℕ) (r : Result AnyAce ReadFault) (p : PlacedAce) → (r >>= λ a. Ok (placed_ace at a)) ≡ Ok p
    → r ≡ Ok p.ace
placed_is at (Ok a) p e = let is : placed_ace at a ≡ p = cc in ap (λ (q : PlacedAce). Ok q.ace) is
placed_is at (Err f) p e = absurd cc

-- items add no such DENY
each_known : (rules : TextRules Ace) (read : EntryReader) → RefusesUnknown read → (whole : List PlacedAce)
    (items : List (Result Span ReadFault)) (all : List PlacedAce) → HasNoUnknownDeny whole
    → AddEach (any_type_rules rules read) whole items all → HasNoUnknownDeny all
each_known rules read refuses whole [] all each e = subst HasNoUnknownDeny (sym e) each
each_known rules read refuses whole (Err f ∷ items) all each e = absurd (let wrong = e.1 in cc)
each_known rules read refuses whole (Ok entry ∷ items) all each (p, is, others) =
    each_known rules read refuses (whole ++ p ∷ []) items all
    (known_more whole p each (refuses (length whole) (any_weight whole) entry p.ace
    (placed_is entry.column (read (length whole) (any_weight whole) entry) p is))) others

-- a text spells no such DENY
pub text_known : (rules : TextRules Ace) (read : EntryReader) → RefusesUnknown read → (whole : List PlacedAce)
    (text : List ℕ) → SpellsByRules (any_type_rules rules read) whole text → HasNoUnknownDeny whole
text_known rules read refuses whole text h =
    each_known rules read refuses [] (items_in (any_type_rules rules read) text) whole tt h.each
