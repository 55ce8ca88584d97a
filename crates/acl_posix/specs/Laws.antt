-- Laws of the mode, the mask and the attributes, over sets of entries alone (this library's own).
use Rattle.std.specs.Prelude.{ℕ, ◌≡◌, Some}
use Rattle.std.specs.FinMap as set
use Rattle.acl_posix.specs.Tag.{Tag}
use Rattle.acl_posix.specs.Entries.{Entries}
use Rattle.acl_posix.specs.Mode.{mode_of, chmoded}
use Rattle.acl_posix.specs.Mask.{with_mask, effective_of}
use Rattle.acl_posix.specs.Texts.{IsAcl}
use Rattle.acl_posix.specs.Attribute.{attribute_bytes, IsAttributeOf}

-- after the mode is set, the mode is that mode
abbrev pub ModeIsSet : Type 0
ModeIsSet = (entries : Entries) (mode : ℕ) → mode_of (chmoded entries mode) ≡ mode

-- after the mask is calculated, each entry grants all of its own permissions
abbrev pub MaskLeavesAll : Type 0
MaskLeavesAll =
    (entries : Entries) (entry : Tag × ℕ)
    → set.get (with_mask entries) entry.0 ≡ Some entry.1 → effective_of (with_mask entries) entry ≡ entry.1

-- calculating the mask twice gives the same as calculating it once
abbrev pub MaskStays : Type 0
MaskStays = (entries : Entries) → with_mask (with_mask entries) ≡ with_mask entries

-- the attribute that is written for an ACL holds that ACL
abbrev pub AttributeReadsBack : Type 0
AttributeReadsBack = (acl : Entries) → IsAcl acl → IsAttributeOf (attribute_bytes acl) (Some acl)
