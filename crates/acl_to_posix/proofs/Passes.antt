-- What one pass over the keys of a right answers: whether the right is granted wherever certain tags match, and of the
-- other tags only possible ones.
use Rattle.std.proofs.Common.{◌≡◌, Bool, true, false, [], ◌∷◌, Option, None, Some, refl, sym, ap, ◌∙◌}
use Rattle.std.proofs.lemmas.Bool.{false≢true, true≢false}
use Rattle.std.specs.Prelude.{⊤, ◌||◌, not, if◌then◌else◌}
use Rattle.std.specs.Cmp.{eq_by_cmp_equiv}
use Rattle.std.specs.Ordering.{eq_by_cmp}
use Rattle.acl_perm.proofs.Bools.{or_true_right}
use Rattle.acl_perm.specs.Kind.{is_allow}
use Rattle.acl_posix.specs.Tag.{Tag, tag_cmp}
use Rattle.acl_posix.specs.internal.TagCode.{tags_total}
use Rattle.acl_posix.proofs.Exports.{same_tag}
use Rattle.acl_to_posix.specs.internal.ShapeBody.{AreFirst, TagColumn, always, column_decided_by, has_tag}
-- a tag is the same as itself
pub use Rattle.acl_posix.proofs.Exports.{eq_by_cmp-refl}

-- two tags that are the same in one order are so in the other
pub eq_by_cmp-comm : (t u : Tag) → eq_by_cmp tag_cmp t u ≡ false → eq_by_cmp tag_cmp u t ≡ false
eq_by_cmp-comm t u e = (eq_by_cmp_equiv tags_total).symm u t ∙ e

-- if certain tags match, and of the others only possible ones do, then what the pass answers is granted
pub always_sound : (certain possible test : Tag → Bool) (keys : TagColumn)
    → ((t : Tag) → certain t ≡ true → test t ≡ true)
    → ((t : Tag) → test t ≡ true → certain t ≡ false → possible t ≡ true)
    → always certain possible keys ≡ true → column_decided_by test keys false ≡ true
always_sound certain possible test [] sure may h = absurd cc
always_sound certain possible test ((t, k) ∷ keys) sure may h =
    by (always_sound certain possible test keys sure may) (certain t) (test t) (possible t) (is_allow k)
    (sure t) (may t) h
  where
    by : (always certain possible keys ≡ true → column_decided_by test keys false ≡ true) → (c m p a : Bool)
        → (c ≡ true → m ≡ true) → (m ≡ true → c ≡ false → p ≡ true)
        → (if c then a else (if a || not p then always certain possible keys else false)) ≡ true
        → (if m then a else column_decided_by test keys false) ≡ true
    by rest true true p a s y h = h
    by rest true false p a s y h = absurd (false≢true (s refl))
    by rest false true p true s y h = refl
    by rest false true true false s y h = absurd cc
    by rest false true false false s y h = absurd (false≢true (y refl refl))
    by rest false false p true s y h = rest h
    by rest false false true false s y h = absurd cc
    by rest false false false false s y h = rest h

-- the tag is the one that matches besides the certain ones
abbrev pub is_extra : Option Tag → Tag → Bool
is_extra None t = false
is_extra (Some x) t = eq_by_cmp tag_cmp t x

-- it is possible, and some key has it
abbrev pub IsExtra : (Tag → Bool) → TagColumn → Option Tag → Type 0
IsExtra possible keys None = ⊤
IsExtra possible keys (Some x) = (possible x ≡ true) × (has_tag x keys ≡ true)

-- the right is denied if the certain tags match, and perhaps one that is possible
pub record IsDenied (certain possible : Tag → Bool) (keys : TagColumn) : Type 0 where
  pub extra : Option Tag
  pub is : IsExtra possible keys extra
  pub denied : column_decided_by (λ t. certain t || is_extra extra t) keys false ≡ false

-- a tag that no key has is not the one that some key has
not_extra : (possible : Tag → Bool) (t : Tag) (keys : TagColumn) (x : Option Tag) → has_tag t keys ≡ false
    → IsExtra possible keys x → is_extra x t ≡ false
not_extra possible t keys None lacking is = refl
not_extra possible t keys (Some x) lacking is = by (eq_by_cmp tag_cmp t x) refl
  where
    by : (b : Bool) → eq_by_cmp tag_cmp t x ≡ b → eq_by_cmp tag_cmp t x ≡ false
    by true e = absurd (true≢false (sym is.1 ∙ (sym (ap (λ (u : Tag). has_tag u keys) (same_tag t x e)) ∙ lacking)))
    by false e = e

-- the tag of a key of some keys is the tag of a key of more keys
extra_more : (possible : Tag → Bool) (first : Tag × _) (keys : TagColumn) (x : Option Tag) → IsExtra possible keys x
    → IsExtra possible (first ∷ keys) x
extra_more possible first keys None is = tt
extra_more possible first keys (Some x) is = (
  is.0,
  ap (λ (b : Bool). eq_by_cmp tag_cmp x first.0 || b) is.1 ∙ or_true_right (eq_by_cmp tag_cmp x first.0),
)

-- if each tag is there once, what the pass does not answer is denied in some case
pub always_complete : (certain possible : Tag → Bool) (keys : TagColumn) → AreFirst keys
    → always certain possible keys ≡ false → IsDenied certain possible keys
always_complete certain possible [] first h = record { extra = None; is = tt; denied = refl }
always_complete certain possible ((t, k) ∷ keys) first h =
    by (always_complete certain possible keys first.1) (certain t) (possible t) (is_allow k) refl refl refl h
  where
    lift : IsDenied certain possible keys → certain t ≡ false → IsDenied certain possible ((t, k) ∷ keys)
    lift d c = record {
      extra = d.extra;
      is = extra_more possible (t, k) keys d.extra d.is;
      denied = rw (c, not_extra possible t keys d.extra first.0 d.is) d.denied;
    }

    by : (always certain possible keys ≡ false → IsDenied certain possible keys) → (c p a : Bool)
        → certain t ≡ c → possible t ≡ p → is_allow k ≡ a
        → (if c then a else (if a || not p then always certain possible keys else false)) ≡ false
        → IsDenied certain possible ((t, k) ∷ keys)
    by rest true p a ce pe ae h = record { extra = None; is = tt; denied = rw ce (ae ∙ h) }
    by rest false true false ce pe ae h = record {
      extra = Some t;
      is = (pe, ap (λ (b : Bool). b || has_tag t keys) (eq_by_cmp-refl t));
      denied = rw (ce, eq_by_cmp-refl t) ae;
    }
    by rest false true true ce pe ae h = lift (rest h) ce
    by rest false false true ce pe ae h = lift (rest h) ce
    by rest false false false ce pe ae h = lift (rest h) ce

-- two tests that agree on the tags of the keys decide alike
pub column_decided_by-same : (test one : Tag → Bool) (keys : TagColumn) (rest : Bool)
    → ((t : Tag) → has_tag t keys ≡ true → test t ≡ one t)
    → column_decided_by test keys rest ≡ column_decided_by one keys rest
column_decided_by-same test one [] rest same = refl
column_decided_by-same test one ((t, k) ∷ keys) rest same =
    ap (λ (b : Bool). if b then is_allow k else column_decided_by test keys rest)
    (same t (ap (λ (b : Bool). b || has_tag t keys) (eq_by_cmp-refl t)))
    ∙ ap (λ (r : Bool). if one t then is_allow k else r) (column_decided_by-same test one keys rest (λ u h. same u
    (ap (λ (b : Bool). eq_by_cmp tag_cmp u t || b) h ∙ or_true_right (eq_by_cmp tag_cmp u t))))
