-- The names of a set are plain ASCII, so they are displayed unchanged.
use Rattle.acl_nfs4.proofs.Common.{ap, as_text, BitName, Bool, cond, flag_names, is_plain_ascii, List, refl, rights, set_text, true, ℕ, ◌∙◌, ◌≡◌}
use Rattle.std.specs.Str.Lossy.{replacement_bytes}
use Rattle.acl_nfs4.proofs.names.Tables.{names_pass, set_text-pass}
use Rattle.acl_nfs4.proofs.plain_ascii.PlainText.{plain_ascii_is_utf8}

-- the field of a set is displayed unchanged if the names of its table are plain ASCII
shown_unchanged : (table : List BitName) (set : ℕ) → names_pass is_plain_ascii table ≡ true
    → as_text (set_text table set) ≡ set_text table set
shown_unchanged table set plain = ap (λ (b : Bool). cond b (set_text table set) replacement_bytes)
    (plain_ascii_is_utf8 (set_text table set) (set_text-pass is_plain_ascii table set plain))

-- the names of flags are displayed unchanged
pub flags_shown : (flags : ℕ) → as_text (set_text flag_names flags) ≡ set_text flag_names flags
flags_shown flags = shown_unchanged flag_names flags refl

-- the names of rights are displayed unchanged
pub rights_shown : (mask : ℕ) → as_text (set_text rights mask) ≡ set_text rights mask
rights_shown mask = shown_unchanged rights mask refl

-- text that is made of the names of rights is these names
pub mask_text : (items text : List ℕ) (mask : ℕ) → items ≡ set_text rights mask → text ≡ as_text items
    → text ≡ set_text rights mask
mask_text items text mask made is = is ∙ ap as_text made ∙ rights_shown mask
