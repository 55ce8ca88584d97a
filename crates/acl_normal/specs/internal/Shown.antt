-- The lists of the code's ACEs, as plain data (RFC 8881, section 6.2.1).
use Rattle.std.specs.Prelude.{ℕ, List, [], ◌∷◌, map}
use Rattle.acl_perm.specs.declared.mask.Mask.{Mask}
use Rattle.acl_nfs4.specs.Ace.{Ace, ace}
use Rattle.acl_nfs4.specs.declared.ace.AceRef.{AceRef}

-- the ACEs as plain data
abbrev pub aces_in : List AceRef → List Ace
aces_in = map ace

-- the masks as numbers
abbrev pub mask_numbers : List Mask → List ℕ
mask_numbers = map (λ m. m.bits)

-- the ACEs with the masks that are left of them
abbrev pub with_masks : List AceRef → List ℕ → List Ace
with_masks [] masks = []
with_masks (a ∷ aces) [] = []
with_masks (a ∷ aces) (m ∷ masks) =
    record { kind = a.kind; flags = a.flags.bits; mask = m; who = a.who.now } ∷ with_masks aces masks

-- the ACEs of the code with the masks of the code
abbrev pub aces_with : List AceRef → List Mask → List Ace
aces_with aces masks = with_masks aces (mask_numbers masks)
