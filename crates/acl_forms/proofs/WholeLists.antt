-- A whole list is a part of which nothing is left out.
use Rattle.std.proofs.Common.{◌≡◌, ◌∙◌, ◌+◌, ◌<◌, ℕ, Bool, true, false, cond, eqb, List, [], ◌∷◌, ◌++◌, None, Ok, Err, length, map, refl, ap, sym, subst, arith}
use Rattle.std.specs.Prelude.{count_ones, nat_le, nat_lt, sum_by}
use Rattle.std.specs.Fmt.{decimal}
use Rattle.std.specs.List.{AllByRecursion, flat_map, list_all}
use Rattle.std.specs.Str.{is_utf8}
use Rattle.std.proofs.lemmas.Bool.{eqb-true, leb-true}
use Rattle.std.proofs.lemmas.List.Concat.{flat_map-cons}
use Rattle.std.proofs.lemmas.List.Sums.{sum_by-cons}
use Rattle.acl_perm.specs.Kind.{kind_number}
use Rattle.acl_perm.specs.Profile.{full}
use Rattle.acl_perm.specs.declared.kind.Kind.{Kind}
use Rattle.acl_perm.specs.declared.kind.Kind.TheVariants.{Allow, Deny}
use Rattle.acl_posix.specs.Id.{greatest_id}
use Rattle.acl_nfs4.specs.AccessPart.{AnyAce, IsAnyWho, kept_ace}
use Rattle.acl_nfs4.specs.Ace.{Ace}
use Rattle.acl_nfs4.specs.Spelling.{IsAccepted, IsAce, piece, weight, word}
use Rattle.acl_nfs4.specs.Who.{IsWho, everyone_name, group_name, is_no_who_len, is_plain, is_unknown_special, owner_name}
use Rattle.acl_nfs4.specs.declared.xdr.fault.Reason.TheVariants as list
use Rattle.acl_nfs4.proofs.Exports.{kind_of_type-number, ok_is}
use Rattle.acl_forms.specs.Acl41.{IsAcl41}
use Rattle.acl_forms.specs.Acl41Ids.{EachHasId, IsAcl41Ids, id_piece, id_who, special_who, whom_words}
unfoldable use Rattle.acl_forms.specs.Acl41Ids.{id_who_of}
use Rattle.acl_forms.specs.AclFlags.{IsAclFlags}
use Rattle.acl_forms.specs.Part.{SpellsPart, kept, reason_of}
use Rattle.acl_forms.specs.PartWords.{IsPartAce, Names, SpelledAce, SpellsById, SpellsByName, SpellsWhole, special_identifier}
use Rattle.acl_forms.specs.PartWords.Names.{by_id, by_special}
unfoldable use Rattle.acl_forms.specs.PartWords.{placed_from}
use Rattle.acl_forms.specs.declared.fault.ReadReason.TheVariants as reason
use Rattle.acl_forms.specs.internal.AnyAces.{left_out_from}
use Rattle.acl_forms.proofs.AnyNames.{known_who}
use Rattle.acl_forms.proofs.IdAces.{piece_of, with_words}
use Rattle.acl_forms.proofs.WhoLemmas.{ReadsWho, reads_who}

-- an ALLOW or a DENY among ACEs of any type
abbrev pub any_of : Ace → AnyAce
any_of a = record { type_number = kind_number a.kind; flags = a.flags; mask = a.mask; who = a.who }

-- a who is a name that somebody knows
pub record IsKnown (who : List ℕ) : Type 0 where
  pub name : IsAnyWho who
  pub known : is_unknown_special who ≡ false

-- what the four checks of a who found
pub is_known : (who : List ℕ) → IsWho who → IsKnown who
is_known who is = by (is_no_who_len (length who)) (is_utf8 who) (list_all is_plain who) refl refl refl
  where
    by : (len utf8 plain : Bool) → is_no_who_len (length who) ≡ len → is_utf8 who ≡ utf8 → list_all is_plain who ≡ plain
        → IsKnown who
    by false true true l u p = record { name = record { long = l; utf8 = u; plain = p }; known = known_who who is }
    by true utf8 plain l u p = absurd grind arith
    by false false plain l u p = absurd grind arith
    by false true false l u p = absurd grind arith

-- access reads each kind
for_access : (k : Kind) → nat_lt (kind_number k) 2 ≡ true
for_access Allow = refl
for_access Deny = refl

-- an ALLOW or a DENY of a name that somebody knows is kept as it is
pub kept_same : (a : Ace) → is_unknown_special a.who ≡ false
    → (reason_of (any_of a) ≡ None) × (kept_ace (any_of a) ≡ a)
kept_same a known = (
  rw (for_access a.kind, known) refl,
  rw known (ap (λ (k : Kind). record { kind = k; flags = a.flags; mask = a.mask; who = a.who })
      (kind_of_type-number a.kind)),
)

-- a list whose ACEs have these bytes
module _ (Spells : AnyAce → List ℕ → Type 0) (bytes : Ace → List ℕ) where
  -- an ACE with its bytes
  abbrev pub spelled : Ace → SpelledAce
  spelled a = record { ace = any_of a; bytes = bytes a }

  -- each ACE has a name that somebody knows, and is spelled by its bytes
  abbrev pub EachIs : List Ace → Type 0
  EachIs list = AllByRecursion (λ a. Spells (any_of a) (bytes a) × IsKnown a.who) list

  -- each ACE is kept
  kept_all : (at : ℕ) (list : List Ace) → EachIs list → kept (placed_from at (map spelled list)) ≡ list
  unfolding placed_from
  kept_all at [] each = refl
  kept_all at (a ∷ list) each =
      let same = kept_same a each.0.1.known in
      rw (same.0, same.1, kept_all (at + length (bytes a)) list each.1) refl

  -- no ACE is left out
  none_left : (place at : ℕ) (list : List Ace) → EachIs list
      → left_out_from place (placed_from at (map spelled list)) ≡ []
  unfolding placed_from
  none_left place at [] each = refl
  none_left place at (a ∷ list) each =
      let same = kept_same a each.0.1.known in
      rw (same.0, none_left (place + 1) (at + length (bytes a)) list each.1) refl

  -- there are as many ACEs
  same_length : (list : List Ace) → length (map spelled list) ≡ length list
  same_length [] = refl
  same_length (a ∷ list) = omega (arith, same_length list)

  -- they have the same bits
  same_weight : (list : List Ace) → sum_by (λ (s : SpelledAce). count_ones s.ace.mask) (map spelled list) ≡ weight list
  same_weight [] = refl
  same_weight (a ∷ list) = omega (
    arith,
    same_weight list,
    sum_by-cons (λ (s : SpelledAce). count_ones s.ace.mask) (spelled a) (map spelled list),
    sum_by-cons (λ (b : Ace). count_ones b.mask) a list,
  )

  -- they have the same bytes
  same_bytes : (list : List Ace) → flat_map (λ (s : SpelledAce). s.bytes) (map spelled list) ≡ flat_map bytes list
  same_bytes [] = refl
  same_bytes (a ∷ list) =
      flat_map-cons (λ (s : SpelledAce). s.bytes) (spelled a) (map spelled list)
      ∙ ap (λ (t : List ℕ). bytes a ++ t) (same_bytes list)
      ∙ sym (flat_map-cons bytes a list)

  -- each may be in a part
  each_part : (list : List Ace) → EachIs list → AllByRecursion (IsPartAce Spells) (map spelled list)
  each_part [] each = tt
  each_part (a ∷ list) each =
      (record { spells = each.0.0; known = rw each.0.1.known refl }, each_part list each.1)

  -- the bytes of a whole list spell it as a part of which nothing is left out
  pub whole_part : (set : ℕ) (list : List Ace) (value : List ℕ) → IsAclFlags set → IsAccepted full list → EachIs list
      → value ≡ word set ++ (word (length list) ++ flat_map bytes list)
      → SpellsPart (λ whole. SpellsWhole Spells set whole value) list []
  whole_part set list value is ok each parts =
      let many = same_length list in
      record {
        whole = placed_from 8 (map spelled list);
        spelled = (
          map spelled list,
          refl,
          record {
            flags = is;
            count = omega (arith, many, ok.count);
            weight = omega (arith, same_weight list, ok.weight);
            each = each_part list each;
            spelled = parts ∙ ap (λ (n : ℕ). word set ++ (word n ++ flat_map bytes list)) (sym many)
                ∙ ap (λ (t : List ℕ). word set ++ (word (length (map spelled list)) ++ t)) (sym (same_bytes list));
          },
        );
        kept = sym (kept_all 8 list each);
        left_out = sym (none_left 0 8 list each);
      }

-- the number of a kind is below four
kind_few : (k : Kind) → kind_number k < 4
kind_few Allow = omega arith
kind_few Deny = omega arith

-- each ACE of an accepted list is spelled by its bytes in nfsacl41
each_named : (list : List Ace) → AllByRecursion (IsAce full) list → EachIs SpellsByName piece list
each_named [] each = tt
each_named (a ∷ list) each =
    let known = is_known a.who each.0.who in (
      (
        record {
          is = record {
            type_number = kind_few a.kind;
            flags = each.0.flags;
            mask = each.0.mask;
            who = known.name;
          };
          spelled = refl;
        },
        known,
      ),
      each_named list each.1,
    )

-- a list of nfsacl41 is a whole part
pub named_whole : (set : ℕ) (list : List Ace) (bytes : List ℕ) → IsAcl41 set list bytes
    → SpellsPart (λ whole. SpellsWhole SpellsByName set whole bytes) list []
named_whole set list bytes h =
    whole_part SpellsByName piece set list bytes h.flags h.accepted (each_named list h.accepted.each) h.spelled

-- a special identifier that is read of a number has the number's name
special_is : (n : ℕ) (who : List ℕ) → special_who n ≡ Ok who → special_identifier n ≡ who
special_is n who e = by (eqb n 1) (eqb n 2) (eqb n 3) refl refl refl e
  where
    by : (a b c : Bool) → eqb n 1 ≡ a → eqb n 2 ≡ b → eqb n 3 ≡ c
        → cond a (Ok owner_name) (cond b (Ok group_name) (cond c (Ok everyone_name)
        (Err (reason.List list.SpecialWho)))) ≡ Ok who
        → special_identifier n ≡ who
    by true b c p q s e = rw p (ok_is owner_name who e)
    by false true c p q s e = rw (p, q) (ok_is group_name who e)
    by false false true p q s e = rw (p, q, s) (ok_is everyone_name who e)
    by false false false p q s e = absurd cc

-- an id that is read of a number is its digits
id_is : (n : ℕ) (who : List ℕ) → id_who n ≡ Ok who → Names 0 n who
id_is n who e = by (nat_le n greatest_id) refl e
  where
    by : (b : Bool) → nat_le n greatest_id ≡ b → cond b (Ok (decimal n)) (Err reason.Id) ≡ Ok who → Names 0 n who
    by true t e = subst (Names 0 n) (ok_is (decimal n) who e) (by_id n (leb-true n greatest_id t))
    by false t e = absurd cc

-- the two words of a who name it
names_who : (who : List ℕ) (words : ℕ × ℕ) → ReadsWho who words → Names words.0 words.1 who
unfolding id_who_of
names_who who words r = by (eqb words.0 1) refl r.read
  where
    by : (b : Bool) → eqb words.0 1 ≡ b → cond b (special_who words.1) (id_who words.1) ≡ Ok who
        → Names words.0 words.1 who
    by true t e = subst (λ (n : ℕ). Names n words.1 who) (sym (eqb-true words.0 1 t))
        (subst (Names 1 words.1) (special_is words.1 who e) (by_special words.1 r.fits))
    by false t e =
        let low = r.special in
        let none : words.0 ≡ 0 = grind arith in
        subst (λ (n : ℕ). Names n words.1 who) (sym none) (id_is words.1 who e)

-- each ACE of an accepted list with ids is spelled by its bytes in nfsacl41i
each_numbered : (list : List Ace) → AllByRecursion (IsAce full) list → EachHasId list → EachIs SpellsById id_piece list
each_numbered [] each ids = tt
each_numbered (a ∷ list) each ids = (
  (
    with_words (whom_words a.who) ids.0 (λ words e. record {
      special = words.0;
      number = words.1;
      type_number = kind_few a.kind;
      flags = each.0.flags;
      mask = each.0.mask;
      who = names_who a.who words (reads_who a.who words e);
      spelled = sym (piece_of a words e);
    }),
    is_known a.who each.0.who,
  ),
  each_numbered list each.1 ids.1,
)

-- a list of nfsacl41i is a whole part
pub numbered_whole : (set : ℕ) (list : List Ace) (bytes : List ℕ) → IsAcl41Ids set list bytes
    → SpellsPart (λ whole. SpellsWhole SpellsById set whole bytes) list []
numbered_whole set list bytes h =
    whole_part SpellsById id_piece set list bytes h.flags h.accepted
    (each_numbered list h.accepted.each h.ids) h.spelled
