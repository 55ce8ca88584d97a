-- What a list that is read from pulls takes of its input.
use Rattle.std.proofs.Common.{◌≡◌, ◌≢◌, ◌⊎◌, ℕ, ◌+◌, ◌-◌, ◌^◌, ◌<◌, ◌≤◌, List, [], ◌++◌, length, take, drop, Option, Result, Ok, Err, true, sym, ap, subst, ◌∙◌, append_assoc, arith, inl, inr}
use Rattle.std.specs.Prelude.{IfErr, IfOk}
use Rattle.std.specs.Io.KnownBytes.{Consumes, IsAtEnd}
use Rattle.std.proofs.KnownBytes.{Consumes-kept, Consumes-nil, Consumes-trans}
use Rattle.std.proofs.Math.Seq.{take-append-add, take-length}
use Rattle.std.proofs.lemmas.Bool.{cases_lt}
use Rattle.std.proofs.lemmas.List.{append-nil, length-append, length-take, take-append-drop, take-append-le, take-take}
use Rattle.acl_perm.specs.Profile.{Profile}
use Rattle.acl_nfs4.specs.Ace.{Ace}
use Rattle.acl_nfs4.specs.Within.{IsProfile}
use Rattle.acl_nfs4.specs.Spelling.{Xdr}
use Rattle.acl_nfs4.specs.Fault.{Border, Breaks, IsFault, IsFirstFault, Stage, refuses, size}
use Rattle.acl_nfs4.specs.Fault.Stage.{count as at_count, kind as at_kind, flags as at_flags, mask as at_mask, len as at_len, who as at_who, padding as at_padding}
use Rattle.acl_nfs4.specs.internal.Progress.{IsBytes}
use Rattle.acl_nfs4.specs.Stream.{FinishesStream, IsCutShort, RefusesStream, StreamState}
use Rattle.acl_nfs4.specs.Stream.StreamState.{done, more}
use Rattle.acl_nfs4.specs.declared.xdr.fault.Fault.{Fault}
use Rattle.acl_nfs4.specs.declared.xdr.fault.Reason.{Reason}
use Rattle.acl_nfs4.specs.declared.xdr.fault.Reason.TheVariants.{Truncated}
use Rattle.acl_nfs4.proofs.Exports.{begins, breaks_whole, judges, never_truncated, one_reason, short_rest, spelling_short, stage_bounds, value_or_fault}
use Rattle.aclck.specs.ListInput.{ListEnds, RefusalEnds, ValueEnds, piece_len}
use Rattle.aclck.specs.internal.Reading.{EndsNot, IsReaderFault, FitsOneValue, ReadsLittle, ReadsNone, ReadsPart, ReadsValue, is_failed_pull}
use Rattle.aclck.specs.declared.input.xdr.ListFault.{ListFault}
use Rattle.aclck.specs.declared.input.xdr.ListFault.TheVariants as unread
use Rattle.aclck.specs.declared.input.xdr.Value.{Value}

-- ---- lists are short

-- a spelling has less than 2 ^ 31 bytes
pub spelled_short : (p : Profile) (list : List Ace) (text : List ℕ) → Xdr p list text → length text < 2 ^ 31
spelled_short p list text x = omega (arith, ap length x.spelled, spelling_short p list x.accepted)

-- a field has at most 1,024 bytes
size_small : (p : Profile) (s : Stage) (t : List ℕ) → Border p s t → size s ≤ 1024
size_small p at_count t b = omega arith
size_small p (at_kind n list) t b = omega arith
size_small p (at_flags n list k) t b = omega arith
size_small p (at_mask n list k f) t b = omega arith
size_small p (at_len n list k f m) t b = omega arith
size_small p (at_who n list k f m l) t b = (stage_bounds p (at_who n list k f m l) t b).1
size_small p (at_padding n list k f m w) t b = omega arith

-- a text that is cut short has no more bytes than one value can have
pub cut_short : (p : Profile) (text : List ℕ) → IsCutShort p text → FitsOneValue (length text)
cut_short p text c =
    let (_, (_, f)) = c in
    let b = begins p f.stage f.front f.border in
    omega (
      arith,
      spelled_short p b.0 (f.front ++ b.1) b.2,
      length-append f.front b.1,
      ap length f.parts,
      length-append f.front f.rest,
      short_rest p f.stage f.rest f.more f.breaks,
      size_small p f.stage f.front f.border,
    )

-- ---- where a text ends

-- the end of the value that a text begins with, or of its refused field
abbrev pub Ends : Profile → List ℕ → Type 0
Ends p text = (end : ℕ) × ListEnds p text end

-- each text begins with a value or has a fault
pub ends_somewhere : (p : Profile) (text : List ℕ) → IsBytes text → Ends p text
ends_somewhere p text b = elim (judges p text b) [
  | inl v ↦ let (list, end, spelled) = v in (end, inl (record { list = list; spelled = spelled }))
  | inr f ↦
      let (fault, (end, has)) = f in (end, inr (record { offset = fault.offset; reason = fault.reason; has = has }))
]

-- ---- a value

-- the value that a feed held
pub done_reads : (p : Profile) (left given text pulled pull new_left : List ℕ) (old new : Option (List ℕ)) (fed t : ℕ)
    (feed : StreamState) (list : List Ace) (r : Result Value ListFault) → left ++ given ≡ text ++ pulled
    → Consumes old new given → fed ≡ length text → pull ≡ pulled → new_left ≡ drop t pulled → t ≤ length pull
    → feed ≡ done list → Xdr p list (text ++ take t pull)
    → IfOk r (λ v. (v.len ≡ fed + t) × FinishesStream feed (Ok v.list))
    → IfOk r (λ v. ReadsValue p left new_left old new v.list v.len)
done_reads p left given text pulled pull new_left old new fed t feed list (Err e) parts c n same after le is x h = tt
done_reads p left given text pulled pull new_left old new fed t feed list (Ok v) parts c n same after le is x h =
    let found : Ok v.list ≡ Ok list = subst (λ (s : StreamState). FinishesStream s (Ok v.list)) is h.1 in
    let same_list : v.list ≡ list = cc in
    record {
      given = given;
      text = text ++ take t pull;
      taken = c;
      parts = parts ∙ rw (same, after) (ap (λ (x : List ℕ). text ++ x) (sym (take-append-drop t pulled))
          ∙ sym (append_assoc text (take t pulled) (drop t pulled)));
      spelled = subst (λ (l : List Ace). Xdr p l (text ++ take t pull)) (sym same_list) x;
      is_len = omega (arith, h.0, n, le, length-append text (take t pull), length-take t pull);
    }

-- a feed held a value, but memory ran out
pub done_none : (p : Profile) (left given text pulled pull : List ℕ) (old new : Option (List ℕ)) (t : ℕ)
    (feed : StreamState) (list : List Ace) (r : Result Value ListFault) → left ++ given ≡ text ++ pulled
    → Consumes old new given → pull ≡ pulled → length pulled ≤ piece_len → feed ≡ done list
    → Xdr p list (text ++ take t pull) → IsBytes (text ++ pull)
    → IfErr r (λ e. (e ≡ unread.Memory) ⊎ ((f : Fault) × (e ≡ unread.Refused f) × FinishesStream feed (Err f)))
    → IfErr r (λ e. ReadsNone p left old new e)
done_none p left given text pulled pull old new t feed list (Ok v) parts c same short is x bytes h = tt
done_none p left given text pulled pull old new t feed list (Err e) parts c same short is x bytes (inr (f, at, h)) =
    let none : Err f ≡ Ok list = subst (λ (s : StreamState). FinishesStream s (Err f)) is h in absurd cc
done_none p left given text pulled pull old new t feed list (Err e) parts c same short is x bytes (inl m) =
    rw m (record {
      given = given;
      end = length text + t;
      taken = c;
      is_end = inl (record {
        bytes = subst IsBytes (ap (λ (y : List ℕ). text ++ y) same ∙ sym parts) bytes;
        value = record {
          list = list;
          spelled = subst (λ (y : List ℕ). Xdr p list y) (ap (λ (y : List ℕ). text ++ take t y) same
              ∙ sym (ap (take (length text + t)) parts ∙ take-append-add text pulled t)) x;
        };
      });
      near = omega (arith, short, ap length parts, length-append text pulled);
    })

-- a value is short
pub short_value : (p : Profile) (left new_left : List ℕ) (old new : Option (List ℕ)) (r : Result Value ListFault)
    → IfOk r (λ v. ReadsValue p left new_left old new v.list v.len) → IfOk r (λ v. FitsOneValue v.len)
short_value p left new_left old new (Err e) h = tt
short_value p left new_left old new (Ok v) h = omega (arith, h.is_len, spelled_short p v.list h.text h.spelled)

-- a refused field that ends in a beginning of a text is refused in the beginning
in_front : (p : Profile) (text pull : List ℕ) (o end : ℕ) (r : Reason) → IsFirstFault p (text ++ pull) o end r
    → r ≢ Truncated → end ≤ length text → IsFault p text o r
in_front p text pull o end r f not_cut le =
    let b = breaks_whole p f.stage f.rest f.more r f.breaks not_cut in
    let n : ℕ = length text - length f.front in
    let k : length text ≡ length f.front + n = omega (arith, f.ends, f.here, le) in
    let inside : size f.stage ≤ n = omega (arith, f.ends, f.here, le, b.1) in
    let some : size f.stage ≤ length (take n f.rest) = omega (arith, length-take n f.rest, inside, b.0) in
    let parts : text ≡ f.front ++ take n f.rest =
    sym (take-append-le (length text) text pull (omega arith) ∙ take-length text)
    ∙ ap (λ (i : ℕ). take i (text ++ pull)) k ∙ ap (take (length f.front + n)) f.parts
    ∙ take-append-add f.front f.rest n in (
      end,
      record {
        stage = f.stage;
        front = f.front;
        rest = take n f.rest;
        more = f.more;
        parts = parts;
        border = f.border;
        here = f.here;
        owed = f.owed;
        some = f.some;
        breaks = inr (
          some,
          b.1,
          subst (λ (z : List ℕ). refuses p f.stage z r) (sym (take-take (size f.stage) n f.rest inside)) b.2,
        );
        ends = f.ends;
      },
    )

-- the fault of a text is after a beginning of it that is cut short
behind_cut : (p : Profile) (text pull : List ℕ) (o end : ℕ) (r : Reason) → IsProfile p → IsCutShort p text
    → IsFirstFault p (text ++ pull) o end r → r ≢ Truncated → length text ≤ end
behind_cut p text pull o end r ok cut f not_cut =
    elim (cases_lt end (length text)) [
      | inr le ↦ le
      | inl lt ↦
          let same = in_front p text pull o end r f not_cut (omega (arith, lt)) in
          absurd (not_cut (one_reason p text o cut.0 r Truncated ok same cut.1))
    ]

-- what the feed has taken, when it asks for more
pub next_parts : (left given text pulled pull new_pulled : List ℕ) → left ++ given ≡ text ++ pulled → pull ≡ pulled
    → left ++ (given ++ new_pulled) ≡ (text ++ pull) ++ new_pulled
next_parts left given text pulled pull new_pulled parts same =
    sym (append_assoc left given new_pulled)
    ∙ ap (λ (x : List ℕ). x ++ new_pulled) (parts ∙ ap (λ (x : List ℕ). text ++ x) (sym same))

-- the field in which a text is cut short ends with the text
cut_end : (p : Profile) (text : List ℕ) (o end : ℕ) (f : IsFirstFault p text o end Truncated)
    → Breaks p f.stage f.rest f.more Truncated → end ≡ length text
cut_end p text o end f (inl h) = omega (arith, f.ends, f.here, h.1, ap length f.parts, length-append f.front f.rest)
cut_end p text o end f (inr h) = absurd (never_truncated p f.stage _ h.2)

-- what the feed has taken, if nothing more comes
end_whole : (left given text pulled pull new_pulled : List ℕ) → left ++ given ≡ text ++ pulled → pull ≡ pulled
    → new_pulled ≡ [] → text ++ pull ≡ left ++ (given ++ new_pulled)
end_whole left given text pulled pull new_pulled parts same none =
    sym (next_parts left given text pulled pull new_pulled parts same
    ∙ ap (λ (x : List ℕ). (text ++ pull) ++ x) none ∙ append-nil (text ++ pull))

-- the source ends where the stream is cut short
pub end_reads : (p : Profile) (left given text pulled pull new_pulled : List ℕ) (old mid new : Option (List ℕ))
    (feed : StreamState) (r : Result Value ListFault) → left ++ given ≡ text ++ pulled → pull ≡ pulled
    → Consumes old mid given → Consumes mid new new_pulled → new_pulled ≡ [] → IsAtEnd new
    → feed ≡ more p (text ++ pull) → IsCutShort p (text ++ pull) → IsBytes (text ++ pull)
    → IfErr r (λ e. (e ≡ unread.Memory) ⊎ ((f : Fault) × (e ≡ unread.Refused f) × FinishesStream feed (Err f)))
    → IfErr r (λ e. ReadsNone p left old new e)
end_reads p left given text pulled pull new_pulled old mid new feed (Ok v) parts same c d none end is cut bytes h = tt
end_reads p left given text pulled pull new_pulled old mid new feed (Err e) parts same c d none end is cut bytes
    (inl m) =
    let whole = end_whole left given text pulled pull new_pulled parts same none in
    let (offset, (end_at, has)) = cut in
    rw m (record {
      given = given ++ new_pulled;
      end = end_at;
      taken = Consumes-trans old mid new given new_pulled c d;
      is_end = inr (record {
        offset = offset;
        reason = Truncated;
        has = subst (λ (x : List ℕ). IsFirstFault p x offset end_at Truncated) whole has;
      });
      near = omega (arith, cut_end p (text ++ pull) offset end_at has has.breaks, ap length whole);
    })
end_reads p left given text pulled pull new_pulled old mid new feed (Err e) parts same c d none end is still bytes
    (inr (f, at, h)) =
    let cut : FinishesStream (more p (text ++ pull)) (Err f) =
    subst (λ (s : StreamState). FinishesStream s (Err f)) is h in
    let (truncated, (end_at, has)) = cut in
    let all : IsFirstFault p (text ++ pull) f.offset end_at Truncated =
    subst (λ (r : Reason). IsFirstFault p (text ++ pull) f.offset end_at r) truncated has in
    let whole = end_whole left given text pulled pull new_pulled parts same none in
    rw at (record {
      given = given ++ new_pulled;
      end = end_at;
      taken = Consumes-trans old mid new given new_pulled c d;
      has = subst (λ (x : List ℕ). IsFirstFault p x f.offset end_at f.reason) whole has;
      near = omega (arith, cut_end p (text ++ pull) f.offset end_at all all.breaks, ap length whole);
      all = λ t. end;
    })

-- the value of a text ends after a beginning of the text that is cut short
value_behind_cut : (p : Profile) (text pull : List ℕ) (list : List Ace) (end : ℕ) → IsProfile p → IsCutShort p text
    → Xdr p list (take end (text ++ pull)) → length text ≤ end
value_behind_cut p text pull list end ok cut x =
    elim (cases_lt end (length text)) [
      | inr le ↦ le
      | inl lt ↦
          absurd (value_or_fault p text list (take end text) (drop end text) cut.0 Truncated ok
          (subst (λ (y : List ℕ). Xdr p list y) (take-append-le end text pull (omega (arith, lt))) x)
          (sym (take-append-drop end text)) cut.1)
    ]

-- a refused field of a text ends after a beginning of the text that is cut short
refusal_behind_cut : (p : Profile) (text pull : List ℕ) (o end : ℕ) (r : Reason) → IsProfile p → IsCutShort p text
    → (f : IsFirstFault p (text ++ pull) o end r) → Breaks p f.stage f.rest f.more r → length text ≤ end
refusal_behind_cut p text pull o end r ok cut f (inl b) =
    omega (arith, f.ends, f.here, b.1, ap length f.parts, length-append f.front f.rest, length-append text pull)
refusal_behind_cut p text pull o end r ok cut f (inr b) =
    behind_cut p text pull o end r ok cut f
    (λ e. never_truncated p f.stage _ (subst (λ (q : Reason). refuses p f.stage (take (size f.stage) f.rest) q) e b.2))

-- memory ran out: the value or the refused field ends in what the last pull gave
memory_reads : (p : Profile) (left given text pulled pull : List ℕ) (old new : Option (List ℕ)) → IsProfile p
    → left ++ given ≡ text ++ pulled → Consumes old new given → pull ≡ pulled → length pulled ≤ piece_len
    → IsCutShort p text → IsBytes (text ++ pull) → ReadsLittle p left old new
memory_reads p left given text pulled pull old new ok parts c same short cut bytes =
    let whole : text ++ pull ≡ left ++ given = ap (λ (x : List ℕ). text ++ x) same ∙ sym parts in
    let ends = ends_somewhere p (text ++ pull) bytes in
    let far : length text ≤ ends.0 = elim ends.1 [
      | inl v ↦ value_behind_cut p text pull v.list ends.0 ok cut v.spelled
      | inr r ↦ refusal_behind_cut p text pull r.offset ends.0 r.reason ok cut r.has r.has.breaks
    ] in
    record {
      given = given;
      end = ends.0;
      taken = c;
      is_end = elim ends.1 [
        | inl v ↦ inl (record {
          bytes = subst IsBytes whole bytes;
          value = subst (λ (x : List ℕ). ValueEnds p x ends.0) whole v;
        })
        | inr r ↦ inr (subst (λ (x : List ℕ). RefusalEnds p x ends.0) whole r)
      ];
      near = omega (arith, far, short, ap length parts, length-append text pulled);
    }

-- a stream is refused
pub refused_reads : (p : Profile) (left given text pulled pull : List ℕ) (old new : Option (List ℕ)) (f : Fault)
    (e : ListFault) → IsProfile p → left ++ given ≡ text ++ pulled → Consumes old new given → pull ≡ pulled
    → length pulled ≤ piece_len → IsCutShort p text → IsBytes (text ++ pull) → RefusesStream p (text ++ pull) f
    → IsReaderFault e f → ReadsNone p left old new e
refused_reads p left given text pulled pull old new f e ok parts c same short cut bytes h (inl memory) =
    rw memory (memory_reads p left given text pulled pull old new ok parts c same short cut bytes)
refused_reads p left given text pulled pull old new f e ok parts c same short cut bytes (inl m) (inr is) =
    absurd (is.1 (ap (λ (g : Fault). g.reason) m))
refused_reads p left given text pulled pull old new f e ok parts c same short cut bytes (inr h) (inr is) =
    let ((end_at, has), not_cut) = h in
    let far = behind_cut p text pull f.offset end_at f.reason ok cut has not_cut in
    let whole : text ++ pull ≡ left ++ given = ap (λ (x : List ℕ). text ++ x) same ∙ sym parts in
    rw is.0 (record {
      given = given;
      end = end_at;
      taken = c;
      has = subst (λ (x : List ℕ). IsFirstFault p x f.offset end_at f.reason) whole has;
      near = omega (arith, far, short, ap length parts, length-append text pulled);
      all = λ t. absurd (not_cut t);
    })

-- ---- why a value was not read, and why an input does not end after one

-- little was taken
pub none_little : (p : Profile) (left : List ℕ) (old new : Option (List ℕ)) (e : ListFault) → ReadsNone p left old new e
    → ReadsLittle p left old new
none_little p left old new (unread.Refused f) h = record {
  given = h.given;
  end = h.end;
  taken = h.taken;
  is_end = inr (record { offset = f.offset; reason = f.reason; has = h.has });
  near = h.near;
}
none_little p left old new unread.Read h =
    let (offset, (end_at, has)) = h.cut in
    record {
      given = h.given;
      end = end_at;
      taken = h.taken;
      is_end = inr (record { offset = offset; reason = Truncated; has = has });
      near = omega (arith, cut_end p (left ++ h.given) offset end_at has has.breaks);
    }
none_little p left old new unread.Memory h = h

-- if a read failed, what came is cut short
pub none_part : (p : Profile) (left : List ℕ) (old new : Option (List ℕ)) (e : ListFault) → ReadsNone p left old new e
    → is_failed_pull e ≡ true → ReadsPart p left old new
none_part p left old new (unread.Refused f) h r = absurd cc
none_part p left old new unread.Read h r = h
none_part p left old new unread.Memory h r = absurd cc

-- what was taken of the source after a value
pub record TakesPast (left : List ℕ) (mid new : Option (List ℕ)) : Type 0 where
  pub given : List ℕ
  pub taken : Consumes mid new given
  pub near : length (left ++ given) ≤ piece_len

-- little was taken if the input continues after the value
pub past_end : (len : ℕ) (left : List ℕ) (mid new : Option (List ℕ)) (e : ListFault) → EndsNot len left mid new e
    → TakesPast left mid new
past_end len left mid new (unread.Refused f) h = record { given = h.1.given; taken = h.1.taken; near = h.1.near }
past_end len left mid new unread.Read h = record {
  given = [];
  taken = Consumes-kept mid mid new [] (Consumes-nil mid) h.1;
  near = rw h.0 (omega arith);
}
past_end len left mid new unread.Memory h = absurd h

-- if a read failed after a value, nothing was left of the last pull and nothing more came
pub end_kept : (len : ℕ) (left : List ℕ) (mid new : Option (List ℕ)) (e : ListFault) → EndsNot len left mid new e
    → is_failed_pull e ≡ true → (left ≡ []) × Consumes mid new []
end_kept len left mid new (unread.Refused f) h r = absurd cc
end_kept len left mid new unread.Read h r = (h.0, Consumes-kept mid mid new [] (Consumes-nil mid) h.1)
end_kept len left mid new unread.Memory h r = absurd h
