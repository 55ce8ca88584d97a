-- The order of the tags of the code, and tags and sets of entries as numbers (this library's own). The proofs are here
-- because `Ord` and the models of the code cite them, and code can cite only what is in specs/.
use Rattle.std.specs.Prelude.{ℕ, zero, suc, ◌≡◌, refl}
use Rattle.std.specs.FinMap as set
use Rattle.std.specs.Coded.{Coded, code_by, coded×, coded_ℕ}
use Rattle.std.specs.declared.cmp.Ordering.{Ordering}
use Rattle.std.specs.Cmp.{IsTotalOrder, nat_cmp_total}
use Rattle.std.proofs.lemmas.Cmp.{on_total, then_total}
use Rattle.acl_posix.specs.declared.tag.Tag.{Tag as TagOfCode}
use Rattle.acl_posix.specs.Tag.{Tag, user_obj, user, group_obj, group, mask, other, tag_of, rank, qualifier, tag_cmp}
use Rattle.acl_posix.specs.Entries.{Entries}

-- the canonical order of the tags of the code
abbrev pub code_cmp : TagOfCode → TagOfCode → Ordering
code_cmp a b = tag_cmp (tag_of a) (tag_of b)

-- any two tags compare, and the canonical order is total
pub tags_total : IsTotalOrder tag_cmp
tags_total = then_total (on_total rank nat_cmp_total) (on_total qualifier nat_cmp_total)

-- the canonical order of the tags of the code is total
pub codes_total : IsTotalOrder code_cmp
codes_total = on_total tag_of tags_total

-- the tag of a rank and a qualifier
abbrev pub tag_from : ℕ → ℕ → Tag
tag_from zero id = user_obj
tag_from (suc zero) id = user id
tag_from (suc (suc zero)) id = group_obj
tag_from (suc (suc (suc zero))) id = group id
tag_from (suc (suc (suc (suc zero)))) id = mask
tag_from (suc (suc (suc (suc (suc n))))) id = other

-- rank and qualifier determine the tag
abbrev pub tag_again : (tag : Tag) → tag_from (rank tag) (qualifier tag) ≡ tag
tag_again user_obj = refl
tag_again (user id) = refl
tag_again group_obj = refl
tag_again (group id) = refl
tag_again mask = refl
tag_again other = refl

-- a tag as two numbers
abbrev pub coded_tag : Coded Tag
coded_tag =
    code_by (ℕ × ℕ) (coded× coded_ℕ coded_ℕ) (λ tag. (rank tag, qualifier tag))
    (λ both. tag_from both.0 both.1) tag_again

-- a set of entries as numbers
abbrev pub coded_entries : Coded Entries
coded_entries = set.code coded_tag coded_ℕ
