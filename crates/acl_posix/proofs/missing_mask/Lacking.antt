-- When a list of entries lacks MASK.
use Rattle.acl_posix.proofs.Common.{ap, Bool, Entry, is_named, list_any, List, not, pair_of, pairs, sym, Tag, tag_of, ℕ, ◌&&◌, ◌∙◌, ◌≡◌}
use Rattle.acl_posix.specs.MissingMask.{is_mask, lacks_mask}
use Rattle.acl_posix.proofs.tag.Tags.{list_any-map}

-- a test of the tags of a list of entries is a test of the tags of its pairs
any_pair : (p : Tag → Bool) (es : List Entry)
    → list_any (λ (e : Entry). p (tag_of e.tag)) es ≡ list_any (λ (q : Tag × ℕ). p q.0) (pairs es)
any_pair p es = sym (list_any-map (λ (q : Tag × ℕ). p q.0) pair_of es)

-- a list lacks MASK if some entry has a qualifier and none is MASK
pub lacks_from : (es : List Entry) (named masked : Bool)
    → named ≡ list_any (λ (e : Entry). is_named (tag_of e.tag)) es
    → masked ≡ list_any (λ (e : Entry). is_mask (tag_of e.tag)) es
    → (named && not masked) ≡ lacks_mask (pairs es)
lacks_from es named masked is_some is_one = ap (λ (b : Bool). b && not masked) (is_some ∙ any_pair is_named es)
    ∙ ap (λ (b : Bool). list_any (λ (q : Tag × ℕ). is_named q.0) (pairs es) && not b) (is_one ∙ any_pair is_mask es)
