-- The bytes that `aclck_normalize` puts into a buffer.
use Rattle.std.proofs.Common.{◌≡◌, ◌∙◌, ℕ, List, true, false, ap, cond, drop, length, refl, take}
use Rattle.std.proofs.Math.Seq.{take-append_seam}
use Rattle.acl_perm.specs.Profile.{full, narrow}
use Rattle.acl_nfs4.specs.Within.{IsProfile}
use Rattle.aclck_c.specs.Options.{has_option, narrow_option, profile_from}
use Rattle.aclck_c.specs.Out.{HandsOut}

-- the profile of options is one
pub is_profile : (options : ℕ) → IsProfile (profile_from options)
is_profile options = elim (has_option narrow_option options) as (λ t. IsProfile (cond t narrow full)) [
  | true ↦ record { masks = refl; flags = refl }
  | false ↦ record { masks = refl; flags = refl }
]

-- what was put at the front_is_text of the buffer is the text
pub front_is_text : (Means : List ℕ → Type 0) (buffer filled : List ℕ) (needed : ℕ)
    → (h : HandsOut Means buffer filled needed) → take needed filled ≡ h.text
front_is_text Means buffer filled needed h =
    ap (λ n. take n filled) h.reported ∙ ap (λ xs. take (length h.text) xs) h.puts.put
    ∙ take-append_seam h.text (drop (length h.text) buffer)
