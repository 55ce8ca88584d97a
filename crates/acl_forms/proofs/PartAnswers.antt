-- What a call that reads a part answers: the part of what is spelled, or the one fault.
use Rattle.std.proofs.Common.{◌≡◌, ◌∙◌, ℕ, List, Result, Ok, Err, ap, sym, subst, inl, inr}
use Rattle.std.specs.Prelude.{◌⊎◌, IfErr, IfOk}
use Rattle.acl_nfs4.specs.Ace.{Ace}
use Rattle.acl_nfs4.proofs.Exports.{ok_is}
use Rattle.acl_forms.specs.Part.{PlacedAce, IsReadAsPart, RefusesPart, SpellsPart, kept, left_out}
use Rattle.acl_forms.specs.ReadFaults.{no_memory_left}
use Rattle.acl_forms.specs.declared.fault.ReadFault.{ReadFault}
use Rattle.acl_forms.specs.declared.part.ReadablePart.{ReadablePart}
use Rattle.acl_forms.specs.declared.part.left_out.LeftOut.{LeftOut}
use Rattle.acl_forms.specs.internal.AnyAces.{IsPartReadAs}

-- a part that is read is that of what is spelled
pub part_found : (Spells : ℕ → List PlacedAce → Type 0) (said : Result (ℕ × List PlacedAce) ReadFault)
    → ((set : ℕ) (list : List PlacedAce) → said ≡ Ok (set, list) → Spells set list)
    → (result : Result ReadablePart ReadFault)
    → IsPartReadAs result said → IfOk result (λ part. SpellsPart (Spells part.flags.bits) part.list part.left_out.items)
part_found Spells said spelled (Ok part) (set, list, e, is) = record {
  whole = list;
  spelled = subst (λ (n : ℕ). Spells n list) (sym is.flags) (spelled set list e);
  kept = is.kept;
  left_out = is.left_out;
}
part_found Spells said spelled (Err f) h = tt

-- the part of what is spelled is returned, unless memory runs out
pub part_only : (Spells : ℕ → List PlacedAce → Type 0) (said : Result (ℕ × List PlacedAce) ReadFault)
    → ((set : ℕ) (list : List PlacedAce) → Spells set list → said ≡ Ok (set, list))
    → (result : Result ReadablePart ReadFault)
    → IsPartReadAs result said → (set : ℕ) (list : List Ace) (out : List LeftOut) → SpellsPart (Spells set) list out
    → IsReadAsPart result set list out
part_only Spells said read (Ok part) (flags, aces, was, is) set list out h =
    let e : (flags, aces) ≡ (set, h.whole) = ok_is _ _ (sym was ∙ read set h.whole h.spelled) in record {
      flags = is.flags ∙ ap (λ z. z.0) e;
      kept = is.kept ∙ ap (λ z. kept z.1) e ∙ sym h.kept;
      left_out = is.left_out ∙ ap (λ z. left_out z.1) e ∙ sym h.left_out;
    }
part_only Spells said read (Err f) (inl memory) set list out h = memory
part_only Spells said read (Err f) (inr was) set list out h = absurd (apart (sym was ∙ read set h.whole h.spelled))
  where
    apart : {x : ℕ × List PlacedAce} {f : ReadFault} → Err f ≡ Ok x → ⊥
    apart e = cc

-- a fault that is returned is that of what is read, unless memory ran out
pub part_fault : (IsFault : ReadFault → Type 0) (said : Result (ℕ × List PlacedAce) ReadFault)
    → ((f : ReadFault) → said ≡ Err f → IsFault f) → (result : Result ReadablePart ReadFault)
    → IsPartReadAs result said → IfErr result (λ fault. (fault ≡ no_memory_left) ⊎ IsFault fault)
part_fault IsFault said fails (Ok part) h = tt
part_fault IsFault said fails (Err f) (inl memory) = inl memory
part_fault IsFault said fails (Err f) (inr was) = inr (fails f was)

-- what has a fault is refused with that fault, unless memory runs out
pub part_refused : (said : Result (ℕ × List PlacedAce) ReadFault) (result : Result ReadablePart ReadFault)
    → IsPartReadAs result said → (wrong : ReadFault) → said ≡ Err wrong → RefusesPart result wrong
part_refused said (Ok part) (flags, list, was, is) wrong e = cc
part_refused said (Err f) (inl memory) wrong e = inr memory
part_refused said (Err f) (inr was) wrong e = inl cc
