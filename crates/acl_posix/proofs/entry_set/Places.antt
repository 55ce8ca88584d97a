-- Entries that are read place by place, in canonical order.
use Rattle.acl_posix.proofs.Common.{ap, Bool, drop, false, get_or, length, List, list_any, Tag, tags, true, ℕ, ◌+◌, ◌<◌, ◌||◌, ◌∙◌, ◌∷◌, ◌≡◌, ◌≤◌}
use Rattle.std.specs.Prelude.{find}
use Rattle.std.proofs.lemmas.List.{at_drop_all, at_drop_more}
use Rattle.acl_posix.proofs.tag.Tags.{list_any-map}

-- a function of what is left at a place, where this entry is
at_entry : {Y : Type 0} (F : List (Tag × ℕ) → Y) (ps : List (Tag × ℕ)) (i : ℕ) (p : Tag × ℕ) → i < length ps
    → get_or ps i p ≡ p → F (drop i ps) ≡ F (p ∷ drop (i + 1) ps)
at_entry F ps i p lt at =
    at_drop_more F ps i p lt ∙ ap (λ (q : Tag × ℕ). F (q ∷ drop (i + 1) ps)) at

-- ---- whether some entry passes

-- some entry passes if one of those that are left does
abbrev pub AnyLeft : (Tag → Bool) → List (Tag × ℕ) → ℕ → Type 0
AnyLeft p ps i = list_any (λ q. p q.0) ps ≡ list_any (λ q. p q.0) (drop i ps)

-- this entry passes
pub any_here : (p : Tag → Bool) (ps : List (Tag × ℕ)) (i : ℕ) (e : Tag × ℕ) → i < length ps → get_or ps i e ≡ e
    → AnyLeft p ps i → p e.0 ≡ true → list_any p (tags ps) ≡ true
any_here p ps i e lt at left is = list_any-map p (λ (q : Tag × ℕ). q.0) ps ∙ left
    ∙ at_entry (λ (qs : List (Tag × ℕ)). list_any (λ q. p q.0) qs) ps i e lt at
    ∙ ap (λ (b : Bool). b || list_any (λ (q : Tag × ℕ). p q.0) (drop (i + 1) ps)) is

-- no entry passes, if none is left
pub any_nowhere : (p : Tag → Bool) (ps : List (Tag × ℕ)) (i : ℕ) → length ps ≤ i → AnyLeft p ps i
    → list_any p (tags ps) ≡ false
any_nowhere p ps i le left = list_any-map p (λ (q : Tag × ℕ). q.0) ps ∙ left
    ∙ at_drop_all (λ (qs : List (Tag × ℕ)). list_any (λ q. p q.0) qs) ps i le

-- ---- the first entry that passes

-- the first entry that passes is the first of those that are left
abbrev pub FirstLeft : (Tag × ℕ → Bool) → List (Tag × ℕ) → ℕ → Type 0
FirstLeft p ps i = find p ps ≡ find p (drop i ps)
