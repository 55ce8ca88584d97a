-- The bytes of an entry of an attribute: what they mean, and the entry that has the bytes.
use Rattle.std.proofs.Common.{◌≡◌, ◌∙◌, ◌+◌, ◌*◌, ◌<◌, ◌≤◌, ◌++◌, ℕ, Bool, true, false, cond, eqb, List, [], ◌∷◌, Option, None, Some, Result, Ok, Err, length, drop, refl, ap, sym, subst, arith}
use Rattle.std.specs.Prelude.{◌==◌, IfErr, IfOk, OnOk, nat_lt, option_map, unwrap_or}
use Rattle.std.proofs.lemmas.Bool.{eqb-true}
use Rattle.std.proofs.lemmas.Bool.Decides.{nat_tests}
use Rattle.byteorder.specs.Endian.{little_bytes}
use Rattle.acl_perm.specs.Bits.{IsPerm}
use Rattle.acl_posix.proofs.Exports.{again, not_above, stored}
use Rattle.acl_posix.specs.Attribute.{coded_number, tag_code}
unfoldable use Rattle.acl_posix.specs.Attribute.{entry_bytes, stored_raw}
use Rattle.acl_posix.specs.Entries.{IsEntry, pair_of}
use Rattle.acl_posix.specs.declared.entry.Entry.{Entry}
use Rattle.acl_posix.specs.Id.{greatest_id}
use Rattle.acl_posix.specs.RawEntries.{numbered_tag, raw_of, raw_pair, raw_tag, undefined_id}
use Rattle.acl_posix.specs.Tag.{IsTag, Tag, group, group_obj, is_named, mask, other, tag_row, user, user_obj}
use Rattle.acl_posix.specs.declared.raw_entry.RawEntry.{RawEntry}
use Rattle.acl_nfs4.specs.internal.Progress.{IsBytes}
use Rattle.acl_nfs4.specs.declared.xdr.fault.Reason.TheVariants.{Truncated}
use Rattle.acl_forms.specs.Attributes.{id_reason}
unfoldable use Rattle.acl_forms.specs.Attributes.{field_fault, next_entry_fault}
use Rattle.acl_forms.specs.ReadFaults.{read_fault_at}
use Rattle.acl_forms.specs.declared.fault.ReadFault.{ReadFault}
use Rattle.acl_forms.specs.declared.fault.ReadReason.{ReadReason}
use Rattle.acl_forms.specs.declared.fault.ReadReason.TheVariants as reasons

-- ---- entries and their bytes

-- bytes begin with those of at most one entry
pub one_entry : (x y : Tag × ℕ) (s t : List ℕ) → IsEntry x → IsEntry y → entry_bytes x ++ s ≡ entry_bytes y ++ t
    → (x ≡ y) × (s ≡ t)
unfolding entry_bytes
one_entry x y s t of_x of_y e =
    let raws : raw_of x ≡ raw_of y = sym (stored x s of_x) ∙ ap stored_raw e ∙ stored y t of_y in
    let rests : s ≡ t = ap (λ (l : List ℕ). drop 8 l) e in
    (sym (again x.0 x.1) ∙ ap raw_pair raws ∙ again y.0 y.1, rests)

-- ---- no fault in the bytes of an entry

-- an id is not the undefined one
eqb-undefined_id : (id : ℕ) → id ≤ greatest_id → eqb id undefined_id ≡ false
eqb-undefined_id id le = grind (arith, nat_tests)

-- nothing is wrong with the numbers of an entry
right : (at : ℕ) (t : Tag) (n : ℕ) → IsTag t → IsPerm n → field_fault at (raw_of (t, n)) ≡ None
unfolding field_fault
right at user_obj n h below = rw (not_above 7 n (omega (arith, below))) refl
right at (user id) n h below = rw (not_above 7 n (omega (arith, below)), eqb-undefined_id id h) refl
right at group_obj n h below = rw (not_above 7 n (omega (arith, below))) refl
right at (group id) n h below = rw (not_above 7 n (omega (arith, below)), eqb-undefined_id id h) refl
right at mask n h below = rw (not_above 7 n (omega (arith, below))) refl
right at other n h below = rw (not_above 7 n (omega (arith, below))) refl

-- whole bytes whose numbers are right have no fault
nothing_wrong : (at : ℕ) (text : List ℕ) (raw : RawEntry) → 8 ≤ length text → stored_raw text ≡ raw
    → field_fault at raw ≡ None → next_entry_fault at text ≡ None
unfolding next_entry_fault
nothing_wrong at text raw long is field = rw (not_above (length text) 8 long, is, field) refl

-- bytes that begin with those of an entry have no fault
pub no_next_fault : (at : ℕ) (e : Tag × ℕ) (rest : List ℕ) → IsEntry e
    → next_entry_fault at (entry_bytes e ++ rest) ≡ None
unfolding entry_bytes
no_next_fault at e rest h =
    nothing_wrong at (entry_bytes e ++ rest) (raw_of e) (omega arith) (stored e rest h) (right at e.0 e.1 h.0 h.1)

-- ---- each fault of the next entry

-- bytes that are too few are cut short
pub next_short : (at : ℕ) (text : List ℕ) → length text < 8
    → next_entry_fault at text ≡ Some (read_fault_at at (reasons.List Truncated))
unfolding next_entry_fault
next_short at text short = let test : nat_lt (length text) 8 ≡ true = grind (arith, nat_tests) in rw test refl

-- no bytes are cut short
pub nothing_short : (at : ℕ) → next_entry_fault at [] ≡ Some (read_fault_at at (reasons.List Truncated))
nothing_short at = next_short at [] (omega arith)

-- a fault of the fields is that of the entry
pub next_field : (at : ℕ) (text : List ℕ) (f : ReadFault) → 8 ≤ length text
    → field_fault at (stored_raw text) ≡ Some f → next_entry_fault at text ≡ Some f
unfolding next_entry_fault
next_field at text f long wrong = rw (not_above (length text) 8 long, wrong) refl

-- ---- the entry that has some bytes

-- two bytes are those of their number
two_bytes : (a b : ℕ) → a < 256 → b < 256 → little_bytes 2 (a + 256 * (b + 256 * 0)) ≡ a ∷ b ∷ []
two_bytes a b p q = grind arith

-- four bytes are those of their number
four_bytes : (a b c d : ℕ) → a < 256 → b < 256 → c < 256 → d < 256
    → little_bytes 4 (a + 256 * (b + 256 * (c + 256 * (d + 256 * 0)))) ≡ a ∷ b ∷ c ∷ d ∷ []
four_bytes a b c d p q r s = grind arith

-- what holds of a number and of a row, and of the rows after it, holds of what a table gives
cond-code : (P : ℕ → ℕ → Type 0) (code k n more : ℕ) → P k n → P code more → P code (cond (eqb code k) n more)
cond-code P code k n more at after =
    elim (eqb code k) as (λ b. eqb code k ≡ b → P code (cond b n more)) [
      | true ↦ λ e. subst (λ (c : ℕ). P c n) (sym (eqb-true code k e)) at
      | false ↦ λ e. after
    ] refl

-- a code that means a tag type is the code of that type
code_is : (code id : ℕ) → (coded_number code == 0) ≡ false → tag_code (numbered_tag (coded_number code) id) ≡ code
code_is code id =
    let P : ℕ → ℕ → Type 0 = λ c n. (n == 0) ≡ false → tag_code (numbered_tag n id) ≡ c in
    cond-code P code 0x01 1 _ (λ h. refl) (cond-code P code 0x02 2 _ (λ h. refl) (cond-code P code 0x04 3 _ (λ h. refl)
    (cond-code P code 0x08 4 _ (λ h. refl) (cond-code P code 0x10 5 _ (λ h. refl) (cond-code P code 0x20 6 0 (λ h. refl)
    (λ h. absurd cc))))))

-- what holds of two values holds of the one that a test chooses
cond-either : (Q : Tag → Type 0) (b : Bool) (x y : Tag) → Q x → Q y → Q (cond b x y)
cond-either Q true x y p q = p
cond-either Q false x y p q = q

-- an id that is not refused where there is none is the undefined one
undefined_is : (id : ℕ) → cond (eqb id undefined_id) None (Some reasons.Qualifier) ≡ None → undefined_id ≡ id
undefined_is id =
    elim (eqb id undefined_id) as (λ b. eqb id undefined_id ≡ b
    → cond b None (Some reasons.Qualifier) ≡ None → undefined_id ≡ id) [
      | true ↦ λ e h. sym (eqb-true id undefined_id e)
      | false ↦ λ e h. absurd cc
    ] refl

-- an id that is not refused is that of the entry that the numbers mean
id_is : (raw : RawEntry) → id_reason raw ≡ None → unwrap_or (tag_row (raw_tag raw)).qualifier undefined_id ≡ raw.id
id_is raw =
    let id : ℕ = raw.id in
    let Q : Tag → Type 0 = λ t. cond (is_named t) (cond (eqb id undefined_id) (Some reasons.Id) None)
    (cond (eqb id undefined_id) None (Some reasons.Qualifier)) ≡ None
    → unwrap_or (tag_row t).qualifier undefined_id ≡ id in
    cond-either Q (eqb raw.tag 1) user_obj _ (undefined_is id) (cond-either Q (eqb raw.tag 2) (user id) _ (λ h. refl)
    (cond-either Q (eqb raw.tag 3) group_obj _ (undefined_is id) (cond-either Q (eqb raw.tag 4) (group id) _ (λ h. refl)
    (cond-either Q (eqb raw.tag 5) mask other (undefined_is id) (undefined_is id)))))

-- the numbers of an entry are right
pub record FieldsRight (raw : RawEntry) : Type 0 where
  pub tag : (raw.tag == 0) ≡ false
  pub id : id_reason raw ≡ None

-- if no fault comes of a test, the test failed
cond_fault-None : (b : Bool) (f : ReadFault) (o : Option ReadFault) → cond b (Some f) o ≡ None
    → (b ≡ false) × (o ≡ None)
cond_fault-None true f o e = absurd cc
cond_fault-None false f o e = (refl, e)

-- if no fault comes of a reason, there is none
none_mapped : (at : ℕ) (o : Option ReadReason) → option_map (read_fault_at at) o ≡ None → o ≡ None
none_mapped at None e = refl
none_mapped at (Some r) e = absurd cc

-- fields without a fault are right
fields_right : (at : ℕ) (raw : RawEntry) → field_fault at raw ≡ None → FieldsRight raw
unfolding field_fault
fields_right at raw e =
    let tag = cond_fault-None (raw.tag == 0) (read_fault_at at reasons.Tag) (cond (nat_lt 7 raw.perm)
    (Some (read_fault_at (at + 2) reasons.Permission)) (option_map (read_fault_at (at + 4)) (id_reason raw))) e in
    let perm = cond_fault-None (nat_lt 7 raw.perm) (read_fault_at (at + 2) reasons.Permission)
    (option_map (read_fault_at (at + 4)) (id_reason raw)) tag.1 in
    record { tag = tag.0; id = none_mapped (at + 4) (id_reason raw) perm.1 }

-- three parts of a list, each by itself
three_parts : (x p y q z r : List ℕ) → x ≡ p → y ≡ q → z ≡ r → x ++ (y ++ z) ≡ p ++ (q ++ r)
three_parts x p y q z r e f g = λ i. e i ++ (f i ++ g i)

-- whole bytes whose fields are right begin with the bytes of the entry that their numbers mean
pub whole_entry : (at : ℕ) (text : List ℕ) → 8 ≤ length text → IsBytes text → field_fault at (stored_raw text) ≡ None
    → text ≡ entry_bytes (raw_pair (stored_raw text)) ++ drop 8 text
unfolding entry_bytes stored_raw
whole_entry at [] long fits right = absurd (omega (arith, long))
whole_entry at (a ∷ []) long fits right = absurd (omega (arith, long))
whole_entry at (a ∷ b ∷ []) long fits right = absurd (omega (arith, long))
whole_entry at (a ∷ b ∷ c ∷ []) long fits right = absurd (omega (arith, long))
whole_entry at (a ∷ b ∷ c ∷ d ∷ []) long fits right = absurd (omega (arith, long))
whole_entry at (a ∷ b ∷ c ∷ d ∷ e ∷ []) long fits right = absurd (omega (arith, long))
whole_entry at (a ∷ b ∷ c ∷ d ∷ e ∷ f ∷ []) long fits right = absurd (omega (arith, long))
whole_entry at (a ∷ b ∷ c ∷ d ∷ e ∷ f ∷ g ∷ []) long fits right = absurd (omega (arith, long))
whole_entry at (a ∷ b ∷ c ∷ d ∷ e ∷ f ∷ g ∷ h ∷ rest) long fits right =
    let text : List ℕ = a ∷ b ∷ c ∷ d ∷ e ∷ f ∷ g ∷ h ∷ rest in
    let raw : RawEntry = stored_raw text in
    let are = fields_right at raw right in
    let code : ℕ = a + 256 * (b + 256 * 0) in
    let id : ℕ = e + 256 * (f + 256 * (g + 256 * (h + 256 * 0))) in
    let tag : little_bytes 2 (tag_code (raw_tag raw)) ≡ a ∷ b ∷ [] =
    ap (λ n. little_bytes 2 n) (code_is code id are.tag) ∙ two_bytes a b (fits 0) (fits 1) in
    let perm : little_bytes 2 raw.perm ≡ c ∷ d ∷ [] = two_bytes c d (fits 2) (fits 3) in
    let ids : little_bytes 4 (unwrap_or (tag_row (raw_tag raw)).qualifier undefined_id) ≡ e ∷ f ∷ g ∷ h ∷ [] =
    ap (λ n. little_bytes 4 n) (id_is raw are.id) ∙ four_bytes e f g h (fits 4) (fits 5) (fits 6) (fits 7) in
    ap (λ (l : List ℕ). l ++ rest) (sym (three_parts _ _ _ _ _ _ tag perm ids))

-- whole bytes whose numbers mean an entry, with fields that are right, begin with the bytes of the entry
pub entry_is : (at : ℕ) (text : List ℕ) (raw : RawEntry) (e : Tag × ℕ) → 8 ≤ length text → IsBytes text
    → raw ≡ stored_raw text → e ≡ raw_pair raw → field_fault at raw ≡ None → text ≡ entry_bytes e ++ drop 8 text
entry_is at text raw e long fits same is right =
    let field : field_fault at (stored_raw text) ≡ None =
    subst (λ (r : RawEntry). field_fault at r ≡ None) same right in
    whole_entry at text long fits field
    ∙ ap (λ (p : Tag × ℕ). entry_bytes p ++ drop 8 text) (ap raw_pair (sym same) ∙ sym is)

-- what is read of whole bytes is the entry with which they begin
pub entry_read : (at : ℕ) (text : List ℕ) (raw : RawEntry) (r : Result Entry ReadFault) → 8 ≤ length text → IsBytes text
    → raw ≡ stored_raw text → IfOk r (λ e. pair_of e ≡ raw_pair raw) → OnOk r (field_fault at raw ≡ None)
    → IfOk r (λ e. text ≡ entry_bytes (pair_of e) ++ drop 8 text)
entry_read at text raw (Ok e) long fits same is right = entry_is at text raw (pair_of e) long fits same is right
entry_read at text raw (Err fault) long fits same is right = tt

-- a fault of the fields of whole bytes is the fault of the next entry
pub field_read : (at : ℕ) (text : List ℕ) (raw : RawEntry) (r : Result Entry ReadFault) → 8 ≤ length text
    → raw ≡ stored_raw text → IfErr r (λ fault. field_fault at raw ≡ Some fault)
    → IfErr r (λ fault. next_entry_fault at text ≡ Some fault)
field_read at text raw (Ok e) long same wrong = tt
field_read at text raw (Err fault) long same wrong =
    next_field at text fault long (subst (λ (x : RawEntry). field_fault at x ≡ Some fault) same wrong)
