-- A value is read if and only if it spells a descriptor.
use Rattle.std.proofs.Common.{◌≡◌, ◌∙◌, ◌+◌, List, ℕ, Result, Ok, Err, ap, arith, inl, inr, sym}
use Rattle.std.specs.Prelude.{IfOk, MatchResult}
use Rattle.acl_nt.specs.Conditions.{ReadsUnder}
use Rattle.acl_nt.specs.Descriptor.{Descriptor, descriptor}
use Rattle.acl_nt.specs.DescriptorAt.{descriptor_at, left_out_at}
use Rattle.acl_nt.specs.Faults.{nt_memory_fault}
use Rattle.acl_nt.specs.Ntacl.{base_of}
use Rattle.acl_nt.specs.Numbers.{dword_at}
use Rattle.acl_nt.specs.Spells.{SpellsDescriptor, SpellsDescriptorPart, conditions}
use Rattle.acl_nt.specs.declared.descriptor.NtDescriptor.{NtDescriptor}
use Rattle.acl_nt.specs.declared.descriptor.NtPart.{NtPart}
use Rattle.acl_nt.specs.declared.ace.OtherAce.{OtherAce}
use Rattle.acl_nt.specs.internal.Parts.{parts}
use Rattle.acl_nt.specs.declared.fault.NtFault.{NtFault}
use Rattle.acl_nt.specs.declared.form.NtForm.{NtForm}
use Rattle.acl_nt.specs.declared.role.Role.TheVariants.{Deciding, DecidingPart}
use Rattle.acl_nt.proofs.ConditionLemmas.{met_none, none_met}

module _ (form : NtForm) (bytes : List ℕ) where
  -- what a call reads
  abbrev pub IsRead : Result NtDescriptor NtFault → Type 0
  IsRead r = ReadsUnder descriptor r (conditions Deciding form bytes) (descriptor_at Deciding bytes (base_of form bytes))

  -- a descriptor that is read is spelled
  pub read_found : (r : Result NtDescriptor NtFault) → IsRead r → IfOk r (λ d. SpellsDescriptor form (descriptor d) bytes)
  read_found (Ok d) read = record { met = none_met (conditions Deciding form bytes) read.0; is = read.1 }
  read_found (Err f) read = tt

  -- a descriptor that is spelled is read
  pub read_only : (r : Result NtDescriptor NtFault) → IsRead r → (d : Descriptor) → SpellsDescriptor form d bytes
      → MatchResult r (λ read. descriptor read ≡ d) (λ fault. fault ≡ nt_memory_fault)
  read_only (Ok x) read d spells = read.1 ∙ sym spells.is
  read_only (Err f) (inl memory) d spells = memory
  read_only (Err f) (inr fault) d spells = let none = met_none (conditions Deciding form bytes) spells.met in grind arith

  -- what a call reads of a descriptor whose DACL may have ACEs that are left out
  abbrev pub IsPartRead : Result NtPart NtFault → Type 0
  IsPartRead r = ReadsUnder parts r (conditions DecidingPart form bytes) (
    descriptor_at DecidingPart bytes (base_of form bytes),
    left_out_at DecidingPart bytes (dword_at bytes (base_of form bytes + 16)),
  )

  -- a part that is read is spelled
  pub part_found : (r : Result NtPart NtFault) → IsPartRead r
      → IfOk r (λ part. SpellsDescriptorPart form (descriptor part.descriptor) part.left_out.items bytes)
  part_found (Ok part) read = record {
    met = none_met (conditions DecidingPart form bytes) read.0;
    is = ap (λ (z : Descriptor × List OtherAce). z.0) read.1;
    others = ap (λ (z : Descriptor × List OtherAce). z.1) read.1;
  }
  part_found (Err f) read = tt

  -- a part that is spelled is read
  pub part_only : (r : Result NtPart NtFault) → IsPartRead r → (d : Descriptor) (out : List OtherAce)
      → SpellsDescriptorPart form d out bytes → MatchResult r
      (λ part. (descriptor part.descriptor ≡ d) × (part.left_out.items ≡ out)) (λ fault. fault ≡ nt_memory_fault)
  part_only (Ok part) read d out spells = (
    ap (λ (z : Descriptor × List OtherAce). z.0) read.1 ∙ sym spells.is,
    ap (λ (z : Descriptor × List OtherAce). z.1) read.1 ∙ sym spells.others,
  )
  part_only (Err f) (inl memory) d out spells = memory
  part_only (Err f) (inr fault) d out spells =
      let none = met_none (conditions DecidingPart form bytes) spells.met in grind arith
