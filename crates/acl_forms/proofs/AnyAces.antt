-- What one more ACE adds to the ACEs that are kept and to those that are left out.
use Rattle.std.proofs.Common.{◌≡◌, ◌∙◌, ◌+◌, ◌-◌, ◌<◌, ◌≤◌, ◌++◌, ℕ, suc, zero, Bool, true, false, cond, List, [], ◌∷◌, Option, Some, None, Ok, Err, length, refl, ap, sym, subst, arith, append_assoc, append-nil, length-append}
use Rattle.std.specs.Prelude.{count_ones, not}
use Rattle.std.specs.List.{cons_option}
use Rattle.std.proofs.lemmas.List.Elements.{filter_map-append}
use Rattle.std.proofs.lemmas.List.Sums.{sum_by_push}
use Rattle.std.proofs.lemmas.Nat.{and_mask}
use Rattle.acl_perm.specs.Profile.{full}
use Rattle.acl_nfs4.specs.AccessPart.{AnyAce, is_for_access, kept_ace, kind_of_type}
use Rattle.acl_nfs4.specs.Ace.{Ace}
use Rattle.acl_nfs4.specs.Limits.{most_aces, most_weight}
use Rattle.acl_nfs4.specs.Spelling.{IsAccepted, weight}
use Rattle.acl_nfs4.specs.Who.{is_unknown_special}
use Rattle.acl_nfs4.specs.internal.Reading.{Place}
use Rattle.acl_nfs4.proofs.Exports.{weight-push}
use Rattle.acl_forms.specs.Part.{PlacedAce, any_weight, kept, kept_unless, left_out, noted_if, reason_of}
use Rattle.acl_forms.specs.declared.fault.ReadFault.{ReadFault}
use Rattle.acl_forms.specs.declared.part.any_ace.AnyAceRef.{AnyAceRef}
use Rattle.acl_forms.specs.declared.part.left_out.LeftOut.{LeftOut}
use Rattle.acl_forms.specs.declared.part.left_out.LeftOutReason.{LeftOutReason}
use Rattle.acl_forms.specs.declared.part.left_out.LeftOutReason.TheVariants.{AuditOrAlarm, SpecialWho}
use Rattle.acl_forms.specs.internal.AnyAces.{AceReader, HasAnyName, any_ace_of, any_name, left_out_from}
unfoldable use Rattle.acl_forms.specs.internal.AnyAces.{aces_from}
use Rattle.acl_forms.proofs.AnyNames.{is_who-any}
use Rattle.acl_forms.proofs.IdLemmas.{accepted_push}

-- ---- an ACE that is kept

-- somebody knows whom an ACE names that is kept
pub kept_known : (a : AnyAce) → reason_of a ≡ None → is_unknown_special a.who ≡ false
kept_known a e = by (is_for_access a) (is_unknown_special a.who) refl e
  where
    by : (access unknown : Bool) → is_unknown_special a.who ≡ unknown
        → cond (not access) (Some AuditOrAlarm) (cond unknown (Some SpecialWho) None) ≡ None
        → is_unknown_special a.who ≡ false
    by true false is e = is
    by true true is e = absurd cc
    by false unknown is e = absurd cc

-- an ACE that is kept stays as it is
pub kept_is : (a : AnyAce) → reason_of a ≡ None → kept_ace a
    ≡ record { kind = kind_of_type a.type_number; flags = a.flags; mask = a.mask; who = a.who }
kept_is a e = rw (kept_known a e) refl

-- an ACE that is kept, as the code makes it
abbrev pub ace_made : AnyAceRef → Ace
ace_made a =
    record { kind = kind_of_type a.type_number; flags = a.flags.bits; mask = a.mask.bits; who = any_name a.who }

-- a list that can take an ACE that is kept is accepted with it
pub made_accepted : (list : List Ace) (a : AnyAceRef) → HasAnyName a.who → reason_of (any_ace_of a) ≡ None
    → IsAccepted full list → length list < most_aces → weight list + count_ones a.mask.bits ≤ most_weight
    → a.flags.bits ≤ 255 → IsAccepted full (list ++ ace_made a ∷ [])
made_accepted list a named wanted ok room light small =
    accepted_push list (ace_made a) ok room light (record {
      flags = and_mask a.flags.bits 8 ∙ omega (arith, small);
      mask = a.mask.within;
      who = is_who-any a.who named (kept_known (any_ace_of a) wanted);
    })

-- so it is with the ACE that is kept
pub kept_accepted : (list : List Ace) (a : AnyAceRef) → HasAnyName a.who → reason_of (any_ace_of a) ≡ None
    → IsAccepted full list → length list < most_aces → weight list + count_ones a.mask.bits ≤ most_weight
    → a.flags.bits ≤ 255 → IsAccepted full (list ++ kept_ace (any_ace_of a) ∷ [])
kept_accepted list a named wanted ok room light small =
    subst (λ (x : Ace). IsAccepted full (list ++ x ∷ [])) (sym (kept_is (any_ace_of a) wanted))
    (made_accepted list a named wanted ok room light small)

-- ---- one more ACE

-- one more ACE is kept after the others, or it is left out
pub kept-push : (list : List PlacedAce) (p : PlacedAce)
    → kept (list ++ p ∷ []) ≡ kept list ++ cons_option (kept_unless (reason_of p.ace) p.ace) []
kept-push list p = filter_map-append (λ (q : PlacedAce). kept_unless (reason_of q.ace) q.ace) list (p ∷ [])

-- one more ACE is reported after the others, if it is left out
left_from-push : (place : ℕ) (list : List PlacedAce) (p : PlacedAce) → left_out_from place (list ++ p ∷ [])
    ≡ left_out_from place list ++ noted_if (place + length list) p.offset (reason_of p.ace)
left_from-push place [] p =
    append-nil (noted_if place p.offset (reason_of p.ace))
    ∙ ap (λ (n : ℕ). noted_if n p.offset (reason_of p.ace)) (omega arith)
left_from-push place (q ∷ list) p =
    let first : List LeftOut = noted_if place q.offset (reason_of q.ace) in
    let number : place + 1 + length list ≡ place + suc (length list) = omega arith in
    ap (λ (l : List LeftOut). first ++ l)
    (left_from-push (place + 1) list p
    ∙ ap (λ (n : ℕ). left_out_from (place + 1) list ++ noted_if n p.offset (reason_of p.ace)) number)
    ∙ sym (append_assoc first (left_out_from (place + 1) list)
    (noted_if (place + suc (length list)) p.offset (reason_of p.ace)))

-- one more ACE of a whole list is reported after the others, if it is left out
pub left_out-push : (list : List PlacedAce) (p : PlacedAce)
    → left_out (list ++ p ∷ []) ≡ left_out list ++ noted_if (length list) p.offset (reason_of p.ace)
left_out-push list p =
    left_from-push 0 list p
    ∙ ap (λ (n : ℕ). left_out list ++ noted_if n p.offset (reason_of p.ace)) (omega arith)

-- what is kept of one more ACE is no heavier and no longer than the ACE
pub record IsAtMost (old new : List Ace) (bits : ℕ) : Type 0 where
  pub heavy : weight new ≤ weight old + bits
  pub long : length new ≤ length old + 1

-- what is kept of one more ACE
pub kept_most : (list : List Ace) (a : AnyAce)
    → IsAtMost list (list ++ cons_option (kept_unless (reason_of a) a) []) (count_ones a.mask)
kept_most list a = by (reason_of a)
  where
    by : (r : Option LeftOutReason) → IsAtMost list (list ++ cons_option (kept_unless r a) []) (count_ones a.mask)
    by None = record {
      heavy = omega (arith, weight-push list (kept_ace a));
      long = omega (arith, length-append list (kept_ace a ∷ []));
    }
    by (Some reason) = rw (append-nil list) (record { heavy = omega arith; long = omega arith })

-- ---- how the reader goes on

-- the ACEs that are read so far, of which these are kept and left out
pub record Sofar (read : AceReader) (count place bits : ℕ) (list : List Ace) (out : List LeftOut) (first at : Place)
    : Type 0 where
  pub whole : List PlacedAce
  pub reads : aces_from read (count - place) whole at ≡ aces_from read count [] first
  pub kept : list ≡ kept whole
  pub left_out : out ≡ left_out whole
  pub weight : bits ≡ any_weight whole
  pub long : length whole ≡ place

-- before the first ACE
pub sofar_none : (read : AceReader) (count : ℕ) (at : Place) → Sofar read count 0 0 [] [] at at
sofar_none read count at = record {
  whole = [];
  reads = ap (λ (n : ℕ). aces_from read n [] at) (omega arith);
  kept = refl;
  left_out = refl;
  weight = refl;
  long = refl;
}

-- an ACE that is read is added to the list
aces_more : (read : AceReader) (left : ℕ) (list : List PlacedAce) (at : Place) (x : AnyAce × Place) → 0 < left
    → read (any_weight list) at ≡ Ok x
    → aces_from read left list at ≡ aces_from read (left - 1) (list ++ record { ace = x.0; offset = at.at } ∷ []) x.1
unfolding aces_from
aces_more read zero list at x lt e = absurd (omega (arith, lt))
aces_more read (suc n) list at x lt e = let less : suc n - 1 ≡ n = omega arith in rw (e, less) refl

-- an ACE that is refused is the fault of the list
aces_stop : (read : AceReader) (left : ℕ) (list : List PlacedAce) (at : Place) (fault : ReadFault) → 0 < left
    → read (any_weight list) at ≡ Err fault → aces_from read left list at ≡ Err fault
unfolding aces_from
aces_stop read zero list at fault lt e = absurd (omega (arith, lt))
aces_stop read (suc n) list at fault lt e = rw e refl

-- after one more ACE
pub sofar_more : (read : AceReader) (count place bits : ℕ) (list : List Ace) (out : List LeftOut) (first at : Place)
    (x : AnyAce × Place) → Sofar read count place bits list out first at → place < count → read bits at ≡ Ok x
    → Sofar read count (place + 1) (bits + count_ones x.0.mask)
    (list ++ cons_option (kept_unless (reason_of x.0) x.0) []) (out ++ noted_if place at.at (reason_of x.0)) first x.1
sofar_more read count place bits list out first at x s lt e =
    let p : PlacedAce = record { ace = x.0; offset = at.at } in
    let here : read (any_weight s.whole) at ≡ Ok x = subst (λ (n : ℕ). read n at ≡ Ok x) s.weight e in
    let less : count - (place + 1) ≡ count - place - 1 = omega arith in
    record {
      whole = s.whole ++ p ∷ [];
      reads = ap (λ (n : ℕ). aces_from read n (s.whole ++ p ∷ []) x.1) less
          ∙ sym (aces_more read (count - place) s.whole at x (omega (arith, lt)) here) ∙ s.reads;
      kept = ap (λ (l : List Ace). l ++ cons_option (kept_unless (reason_of x.0) x.0) []) s.kept
          ∙ sym (kept-push s.whole p);
      left_out = ap (λ (l : List LeftOut). l ++ noted_if place at.at (reason_of x.0)) s.left_out
          ∙ ap (λ (n : ℕ). left_out s.whole ++ noted_if n at.at (reason_of x.0)) (sym s.long)
          ∙ sym (left_out-push s.whole p);
      weight = ap (λ (n : ℕ). n + count_ones x.0.mask) s.weight
          ∙ sym (sum_by_push (λ (q : PlacedAce). count_ones q.ace.mask) s.whole p);
      long = omega (arith, s.long, length-append s.whole (p ∷ []));
    }

-- at an ACE that is refused
pub sofar_stop : (read : AceReader) (count place bits : ℕ) (list : List Ace) (out : List LeftOut) (first at : Place)
    (fault : ReadFault) → Sofar read count place bits list out first at → place < count → read bits at ≡ Err fault
    → aces_from read count [] first ≡ Err fault
sofar_stop read count place bits list out first at fault s lt e =
    sym s.reads ∙ aces_stop read (count - place) s.whole at fault (omega (arith, lt))
    (subst (λ (n : ℕ). read n at ≡ Err fault) s.weight e)

-- after the last ACE
pub sofar_all : (read : AceReader) (count place bits : ℕ) (list : List Ace) (out : List LeftOut) (first at : Place)
    (s : Sofar read count place bits list out first at) → count ≤ place
    → aces_from read count [] first ≡ Ok (s.whole, at)
unfolding aces_from
sofar_all read count place bits list out first at s le =
    let none : count - place ≡ 0 = omega (arith, le) in
    sym s.reads ∙ ap (λ (n : ℕ). aces_from read n s.whole at) none
