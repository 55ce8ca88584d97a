-- ACEs of any type are read one after the other if and only if the bytes spell them, by any reader of one ACE.
use Rattle.std.proofs.Common.{◌≡◌, ◌∙◌, ◌+◌, ◌≤◌, ◌++◌, ℕ, zero, suc, false, ltb, List, [], ◌∷◌, Result, Ok, Err, length, take, drop, refl, ap, sym, subst, arith, append_assoc, append-nil, length-append}
use Rattle.std.specs.Prelude.{IfOk, count_ones, sum_by}
use Rattle.std.specs.List.{AllByRecursion, flat_map}
use Rattle.std.proofs.lemmas.Bool.{le-ltb, ltb-false}
use Rattle.std.proofs.lemmas.List.{drop_at, length-take, take-append-drop, take_at}
use Rattle.std.proofs.lemmas.List.Concat.{flat_map-cons}
use Rattle.std.proofs.lemmas.List.Sums.{sum_by-cons, sum_by_push}
use Rattle.acl_nfs4.proofs.Exports.{IsBytes-drop, Takes, Takes-then, bind-ok, bind_then, count_again, count_is, guard_ok, ok_is, place}
use Rattle.acl_nfs4.specs.AccessPart.{AnyAce}
use Rattle.acl_nfs4.specs.Ace.{Ace}
use Rattle.acl_nfs4.specs.Fields.{count_of}
use Rattle.acl_nfs4.specs.Limits.{most_weight}
use Rattle.acl_nfs4.specs.Spelling.{word}
use Rattle.acl_nfs4.specs.declared.xdr.fault.Reason.TheVariants.{Truncated}
use Rattle.acl_nfs4.specs.internal.Progress.{IsBytes}
use Rattle.acl_nfs4.specs.internal.Reading.{Place}
use Rattle.acl_forms.specs.Part.{PlacedAce, IsReadAsPart, SpellsPart, any_weight, is_unknown_deny}
use Rattle.acl_forms.specs.PartWords.{IsPartAce, SpelledAce, SpellsWhole}
unfoldable use Rattle.acl_forms.specs.PartWords.{placed_from}
use Rattle.acl_forms.specs.ReadFaults.{read_fault_at}
use Rattle.acl_forms.specs.Words.{acl_flags_of, listed, start, word_at}
use Rattle.acl_forms.specs.declared.fault.ReadFault.{ReadFault}
use Rattle.acl_forms.specs.declared.fault.ReadReason.{ReadReason}
use Rattle.acl_forms.specs.declared.fault.ReadReason.TheVariants as reason
use Rattle.acl_forms.specs.declared.part.ReadablePart.{ReadablePart}
use Rattle.acl_forms.specs.declared.part.left_out.LeftOut.{LeftOut}
use Rattle.acl_forms.specs.internal.AnyAces.{AceReader, IsPartReadAs, bytes_at, judged_bytes}
unfoldable use Rattle.acl_forms.specs.internal.AnyAces.{aces_from, whole_in}
use Rattle.acl_forms.specs.internal.IdAces.{nothing_after}
use Rattle.acl_forms.proofs.IdAces.{listed_again, listed_ok}
use Rattle.acl_forms.proofs.IdLemmas.{ended}
use Rattle.acl_forms.proofs.PartAnswers.{part_found, part_only}
use Rattle.acl_forms.proofs.WordLemmas.{SpelledTo, flags_again, flags_found, word_again, word_takes}

-- ---- any bytes

-- bytes that were read spell their value, and reading took them
pub record TakesBytes {A : Type 0} (n : ℕ) (means : List ℕ → Result A ReadReason) (p : Place) (x : A × Place)
    : Type 0 where
  pub accepted : means (take n p.rest) ≡ Ok x.0
  pub long : length (take n p.rest) ≡ n
  pub takes : Takes p (take n p.rest) x.1

-- whole bytes that give a value were accepted, and reading continues after them
judged_ok : {A : Type 0} (n : ℕ) (p : Place) (r : Result A ReadReason) (x : A × Place)
    → judged_bytes n p r ≡ Ok x → (r ≡ Ok x.0) × (place (p.at + n) (drop n p.rest) ≡ x.1)
judged_ok n p (Ok y) x e =
    let h : (y, place (p.at + n) (drop n p.rest)) ≡ x = ok_is _ _ e in (ap (λ z. Ok z.0) h, ap (λ z. z.1) h)
judged_ok n p (Err d) x e = absurd cc

-- bytes that gave a value were taken
pub bytes_take : {A : Type 0} (n : ℕ) (means : List ℕ → Result A ReadReason) (p : Place) (x : A × Place)
    → IsBytes p.rest → bytes_at n means p ≡ Ok x → TakesBytes n means p x
bytes_take n means p x fits e =
    let g = guard_ok (ltb (length p.rest) n) (read_fault_at p.at (reason.List Truncated))
    (judged_bytes n p (means (take n p.rest))) x e in
    let j = judged_ok n p (means (take n p.rest)) x g.1 in
    let enough : n ≤ length p.rest = ltb-false _ _ g.0 in
    let len : length (take n p.rest) ≡ n = omega (arith, length-take n p.rest) in
    let made : Takes p (take n p.rest) (place (p.at + n) (drop n p.rest)) =
    record {
      parts = sym (take-append-drop n p.rest);
      counted = omega (arith, len);
      bytes = IsBytes-drop n p.rest fits;
    } in
    record {
      accepted = j.0;
      long = len;
      takes = subst (λ (q : Place). Takes p (take n p.rest) q) j.1 made;
    }

-- bytes that were written are read again
pub bytes_again : {A : Type 0} (n : ℕ) (means : List ℕ → Result A ReadReason) (at : ℕ) (text rest : List ℕ) (x : A)
    → length text ≡ n → means text ≡ Ok x
    → bytes_at n means (place at (text ++ rest)) ≡ Ok (x, place (at + n) rest)
bytes_again n means at text rest x len e =
    let long : ltb (length (text ++ rest)) n ≡ false = le-ltb _ _ (omega (arith, length-append text rest)) in
    rw (long, take_at text rest n len, e, drop_at text rest n len) refl

-- ---- a list of ACEs, by a reader of ACEs

-- an ACE was read and taken, and it may be in a list
pub record TakesAce (Spells : AnyAce → List ℕ → Type 0) (bits : ℕ) (p : Place) (a : AnyAce) (q : Place)
    : Type 0 where
  pub bytes : List ℕ
  pub takes : Takes p bytes q
  pub spells : Spells a bytes
  pub known : is_unknown_deny a.type_number a.who ≡ false
  pub light : bits + count_ones a.mask ≤ most_weight

-- a reader reads what is spelled, and nothing else
pub record IsReader (Spells : AnyAce → List ℕ → Type 0) (read : AceReader) : Type 0 where
  pub take_ace : (bits : ℕ) (p : Place) (x : AnyAce × Place) → IsBytes p.rest → read bits p ≡ Ok x
      → TakesAce Spells bits p x.0 x.1
  pub again : (bits at : ℕ) (a : AnyAce) (bytes rest : List ℕ) → Spells a bytes
      → is_unknown_deny a.type_number a.who ≡ false → bits + count_ones a.mask ≤ most_weight
      → read bits (place at (bytes ++ rest)) ≡ Ok (a, place (at + length bytes) rest)

-- the bytes of an ACE
abbrev bytes_of : SpelledAce → List ℕ
bytes_of s = s.bytes

-- the number of mask bits of an ACE
abbrev bits_of : SpelledAce → ℕ
bits_of s = count_ones s.ace.mask

-- ACEs were read and taken after a list
record TakesAces (Spells : AnyAce → List ℕ → Type 0) (n : ℕ) (list : List PlacedAce) (p : Place)
    (out : List PlacedAce) (q : Place) : Type 0 where
  pub more : List SpelledAce
  pub takes : Takes p (flat_map bytes_of more) q
  pub long : length more ≡ n
  pub each : AllByRecursion (IsPartAce Spells) more
  pub light : any_weight list + sum_by bits_of more ≤ most_weight
  pub is : out ≡ list ++ placed_from p.at more

-- what a reader makes of bytes
module _ {Spells : AnyAce → List ℕ → Type 0} {read : AceReader} (reader : IsReader Spells read) where
  -- reading ACEs takes their bytes
  aces_take : (n : ℕ) (list : List PlacedAce) (p : Place) (x : List PlacedAce × Place) → IsBytes p.rest
      → any_weight list ≤ most_weight → aces_from read n list p ≡ Ok x → TakesAces Spells n list p x.0 x.1
  unfolding aces_from placed_from
  aces_take zero list p x fits light e =
      subst (λ (y : List PlacedAce × Place). TakesAces Spells zero list p y.0 y.1) (ok_is (list, p) x e) (record {
        more = [];
        takes = record { parts = refl; counted = omega arith; bytes = fits };
        long = refl;
        each = tt;
        light = omega (arith, light);
        is = sym (append-nil list);
      })
  aces_take (suc n) list p x fits light e =
      bind_then (read (any_weight list) p) _ x e (λ first fe rest.
      let t = reader.take_ace (any_weight list) p first fits fe in
      let one : PlacedAce = record { ace = first.0; offset = p.at } in
      let spelled : SpelledAce = record { ace = first.0; bytes = t.bytes } in
      let heavier : any_weight (list ++ one ∷ []) ≡ any_weight list + count_ones first.0.mask =
      sum_by_push (λ (q : PlacedAce). count_ones q.ace.mask) list one in
      let s = aces_take n (list ++ one ∷ []) first.1 x t.takes.bytes (omega (arith, heavier, t.light)) rest in
      record {
        more = spelled ∷ s.more;
        takes = subst (λ (y : List ℕ). Takes p y x.1) (sym (flat_map-cons bytes_of spelled s.more))
            (Takes-then t.takes s.takes);
        long = omega (arith, s.long);
        each = (record { spells = t.spells; known = t.known }, s.each);
        light = omega (arith, heavier, s.light, sum_by-cons bits_of spelled s.more);
        is = s.is ∙ append_assoc list (one ∷ []) (placed_from first.1.at s.more)
            ∙ ap (λ (at : ℕ). list ++ one ∷ placed_from at s.more) t.takes.counted;
      })

  -- ACEs that were spelled are read again after a list
  aces_again : (more : List SpelledAce) (list : List PlacedAce) (at : ℕ) (rest : List ℕ)
      → AllByRecursion (IsPartAce Spells) more → any_weight list + sum_by bits_of more ≤ most_weight
      → aces_from read (length more) list (place at (flat_map bytes_of more ++ rest))
      ≡ Ok (list ++ placed_from at more, place (at + length (flat_map bytes_of more)) rest)
  unfolding aces_from placed_from
  aces_again [] list at rest each light =
      ap (λ (l : List PlacedAce). Ok (l, place at rest)) (sym (append-nil list))
      ∙ ap (λ (k : ℕ). Ok (list ++ [], place k rest)) (omega arith)
  aces_again (s ∷ more) list at rest each light =
      let one : PlacedAce = record { ace = s.ace; offset = at } in
      let tail : List ℕ = flat_map bytes_of more ++ rest in
      let heavier : any_weight (list ++ one ∷ []) ≡ any_weight list + count_ones s.ace.mask =
      sum_by_push (λ (q : PlacedAce). count_ones q.ace.mask) list one in
      let all = sum_by-cons bits_of s more in
      ap (λ (t : List ℕ). aces_from read (suc (length more)) list (place at t))
      (ap (λ (t : List ℕ). t ++ rest) (flat_map-cons bytes_of s more)
      ∙ append_assoc s.bytes (flat_map bytes_of more) rest)
      ∙ bind-ok _ (reader.again (any_weight list) at s.ace s.bytes tail each.0.spells each.0.known
      (omega (arith, light, all)))
      ∙ aces_again more (list ++ one ∷ []) (at + length s.bytes) rest each.1 (omega (arith, light, all, heavier))
      ∙ ap (λ (l : List PlacedAce). Ok (l, place (at + length s.bytes + length (flat_map bytes_of more)) rest))
      (append_assoc list (one ∷ []) (placed_from (at + length s.bytes) more))
      ∙ ap (λ (k : ℕ). Ok (list ++ one ∷ placed_from (at + length s.bytes) more, place k rest))
      (omega (arith, ap length (flat_map-cons bytes_of s more), length-append s.bytes (flat_map bytes_of more)))

  -- flags, a count and ACEs that were read were spelled
  pub whole_front : (bytes : List ℕ) (f c : ℕ × Place) (l : List PlacedAce × Place) → IsBytes bytes
      → word_at acl_flags_of (start bytes) ≡ Ok f → word_at (λ n. listed (count_of n)) f.1 ≡ Ok c
      → aces_from read c.0 [] c.1 ≡ Ok l → SpelledTo (SpellsWhole Spells f.0 l.0) bytes l.1
  whole_front bytes f c l fits fe ce le =
      let flags = flags_found bytes f.0 f.1 fits fe in
      let ft = word_takes acl_flags_of (start bytes) f fits fe in
      let ct = word_takes (λ n. listed (count_of n)) f.1 c flags.2 ce in
      let count = count_is ct.number c.0 (listed_ok (count_of ct.number) c.0 ct.accepted) in
      let t = aces_take c.0 [] c.1 l ct.takes.bytes (omega arith) le in
      let body : List ℕ = flat_map bytes_of t.more in
      let head : List ℕ = word (length t.more) ++ body in
      let eight : c.1.at ≡ 8 = omega (arith, ft.takes.counted, ct.takes.counted) in
      let parts : f.1.rest ≡ head ++ l.1.rest =
      ct.takes.parts ∙ ap (λ (n : ℕ). word n ++ c.1.rest) (count.0 ∙ sym t.long)
      ∙ ap (λ (r : List ℕ). word (length t.more) ++ r) t.takes.parts
      ∙ sym (append_assoc (word (length t.more)) body l.1.rest) in
      record {
        text = word f.0 ++ head;
        is = (
          t.more,
          t.is ∙ ap (λ (at : ℕ). placed_from at t.more) eight,
          record {
            flags = flags.0;
            count = omega (arith, t.long, count.1);
            weight = omega (arith, t.light);
            each = t.each;
            spelled = refl;
          },
        );
        parts = flags.1 ∙ ap (λ (r : List ℕ). word f.0 ++ r) parts ∙ sym (append_assoc (word f.0) head l.1.rest);
        here = omega (
          arith,
          eight,
          t.takes.counted,
          length-append (word f.0) head,
          length-append (word (length t.more)) body,
        );
      }

  -- what was read was spelled
  pub whole_spelled : (bytes : List ℕ) (x : ℕ × List PlacedAce) → IsBytes bytes → whole_in read bytes ≡ Ok x
      → SpellsWhole Spells x.0 x.1 bytes
  unfolding whole_in
  whole_spelled bytes x fits e =
      bind_then (word_at acl_flags_of (start bytes)) _ x e (λ f fe fr.
      bind_then (word_at (λ n. listed (count_of n)) f.1) _ x fr (λ c ce cr.
      bind_then (aces_from read c.0 [] c.1) _ x cr (λ l le lr.
      let t = whole_front bytes f c l fits fe ce le in
      let last = ended f.0 l x lr in
      let whole : bytes ≡ t.text = t.parts ∙ ap (λ (r : List ℕ). t.text ++ r) last.1 ∙ append-nil t.text in
      subst (λ (y : ℕ × List PlacedAce). SpellsWhole Spells y.0 y.1 bytes) last.0
      (subst (λ (b : List ℕ). SpellsWhole Spells f.0 l.0 b) (sym whole) t.is))))

  -- what was spelled is read again before other bytes
  pub whole_read_before : (text rest : List ℕ) (set : ℕ) (list : List PlacedAce) → SpellsWhole Spells set list text
      → whole_in read (text ++ rest) ≡ nothing_after set (list, place (length text) rest)
  unfolding whole_in
  whole_read_before text rest set list (spelled, is, h) =
      let n : ℕ = length spelled in
      let body : List ℕ = flat_map bytes_of spelled in
      let c = h.count in
      let w = h.weight in
      let parts : text ++ rest ≡ word set ++ (word n ++ (body ++ rest)) =
      ap (λ (t : List ℕ). t ++ rest) h.spelled ∙ append_assoc (word set) (word n ++ body) rest
      ∙ ap (λ (t : List ℕ). word set ++ t) (append_assoc (word n) body rest) in
      let here : 8 + length body ≡ length text = omega (
        arith,
        ap length h.spelled,
        length-append (word set) (word n ++ body),
        length-append (word n) body,
      ) in
      bind-ok _ (flags_again (text ++ rest) set (word n ++ (body ++ rest)) h.flags parts)
      ∙ bind-ok _ (word_again (λ n. listed (count_of n)) 4 n (body ++ rest) n (omega (arith, c))
      (listed_again _ n (count_again n c)))
      ∙ bind-ok (nothing_after set) (aces_again spelled [] 8 rest h.each (omega (arith, w)))
      ∙ ap (λ (l : List PlacedAce). nothing_after set (l, place (8 + length body) rest)) (sym is)
      ∙ ap (λ (k : ℕ). nothing_after set (list, place k rest)) here

  -- what was spelled is read again
  pub whole_read : (bytes : List ℕ) (set : ℕ) (list : List PlacedAce) → SpellsWhole Spells set list bytes
      → whole_in read bytes ≡ Ok (set, list)
  whole_read bytes set list is =
      ap (whole_in read) (sym (append-nil bytes)) ∙ whole_read_before bytes [] set list is

  -- ---- what a call answers

  -- a part that is returned is that of the ACEs that the bytes spell
  pub words_found : (bytes : List ℕ) → IsBytes bytes → (result : Result ReadablePart ReadFault)
      → IsPartReadAs result (whole_in read bytes)
      → IfOk result (λ part. SpellsPart (λ whole. SpellsWhole Spells part.flags.bits whole bytes) part.list
      part.left_out.items)
  words_found bytes fits =
      part_found (λ set whole. SpellsWhole Spells set whole bytes) (whole_in read bytes)
      (λ set list e. whole_spelled bytes (set, list) fits e)

  -- the part of the ACEs that the bytes spell is returned, unless memory runs out
  pub words_only : (bytes : List ℕ) → (result : Result ReadablePart ReadFault)
      → IsPartReadAs result (whole_in read bytes)
      → (set : ℕ) (list : List Ace) (out : List LeftOut)
      → SpellsPart (λ whole. SpellsWhole Spells set whole bytes) list out → IsReadAsPart result set list out
  words_only bytes =
      part_only (λ set whole. SpellsWhole Spells set whole bytes) (whole_in read bytes) (whole_read bytes)
