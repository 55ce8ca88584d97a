-- What the exports promise about each other (this library's own, over RFC 8881, section 6.2.1).
use Rattle.std.specs.Prelude.{◌≡◌, ◌↔◌, ℕ, List, map, take}
use Rattle.acl_perm.specs.Situation.{Situation}
use Rattle.acl_nfs4.specs.AccessPart.{access_part}
use Rattle.acl_nfs4.specs.Ace.{Ace}
use Rattle.acl_nfs4.specs.Spelling.{Xdr}
use Rattle.acl_eval.specs.Grant.{SameGrants}
use Rattle.acl_eval.specs.GroupSearch.{AreRisingNames}
use Rattle.acl_decide.specs.Unknown.{Assignment, GrantsUnder}
use Rattle.acl_forms.specs.Part.{HasNoUnknownDeny, PlacedAce, kept}
use Rattle.acl_forms.specs.PartTexts.{nfs_any_rules, tools_any_rules}
use Rattle.acl_forms.specs.PartWords.{SpellsById, SpellsByName, SpellsWhole}
use Rattle.acl_forms.specs.Texts.{SpellsByRules}
use Rattle.acl_forms.specs.declared.object.ObjectKind.{ObjectKind}
use Rattle.acl_forms.specs.declared.who_field.WhoField.{WhoField}
use Rattle.acl_normal.specs.NormalForm.{Normalizes}
use Rattle.aclck_c.specs.Options.{profile_from}
use Rattle.aclck_c.specs.Out.{HandsOut}
use Rattle.aclck_c.specs.Prepared.{AreDecidedIn, asked_prepared}
use Rattle.aclck_c.specs.Requests.{asked}
use Rattle.aclck_c.specs.declared.nfs4.decide.RawDecided.{RawDecided}
use Rattle.aclck_c.specs.declared.nfs4.request.RawObject.{RawObject}
use Rattle.aclck_c.specs.declared.nfs4.request.RawQuestion.{RawQuestion}
use Rattle.aclck_c.specs.declared.nfs4.request.RawRequester.{RawRequester}

-- two inputs that spell lists, and for which `aclck_normalize` returned 0 with these options, got equal bytes in their
-- buffers if and only if the lists grant everybody the same rights of the profile
abbrev pub NormalizedBytesTellApart : Type 0
NormalizedBytesTellApart =
    (options needed other_needed : ℕ) (list other : List Ace)
    (input other_input buffer filled other_buffer other_filled : List ℕ)
    → Xdr (profile_from options) list input
    → Xdr (profile_from options) other other_input
    → HandsOut (Normalizes (profile_from options) input) buffer filled needed
    → HandsOut (Normalizes (profile_from options) other_input) other_buffer other_filled other_needed
    → (take needed filled ≡ take other_needed other_filled) ↔ SameGrants (profile_from options).masks list other

-- if the groups of a requester rise, a list decides the same whether the caller says that they are in order or not
abbrev pub RisingGroupsDecideAlike : Type 0
RisingGroupsDecideAlike =
    (object : RawObject) (question : RawQuestion) (who : RawRequester) (mask : ℕ) (list : List Ace) (found : RawDecided)
    → AreRisingNames (map (λ g. g.now) who.groups.now)
    → AreDecidedIn (asked_prepared object question who) mask list found
    ↔ AreDecidedIn (asked object who) mask list found

-- no value of a form of which a part is read spells a DENY of a special identifier that nobody knows
pub record FormsHaveNoUnknownDeny : Type 0 where
  pub in_tools : (object : ObjectKind) (whole : List PlacedAce) (text : List ℕ)
      → SpellsByRules (tools_any_rules object) whole text → HasNoUnknownDeny whole
  pub in_text : (source : WhoField) (whole : List PlacedAce) (text : List ℕ)
      → SpellsByRules (nfs_any_rules source) whole text → HasNoUnknownDeny whole
  pub by_name : (set : ℕ) (whole : List PlacedAce) (value : List ℕ) → SpellsWhole SpellsByName set whole value
      → HasNoUnknownDeny whole
  pub by_id : (set : ℕ) (whole : List PlacedAce) (value : List ℕ) → SpellsWhole SpellsById set whole value
      → HasNoUnknownDeny whole

-- what the ACEs that are kept grant, what access reads of the whole list grants too, whether or not the special
-- identifiers that nobody knows match the requester
abbrev pub PartGrantsNoMore : Type 0
PartGrantsNoMore =
    (whole : List PlacedAce) (v : Assignment) (s : Situation) (request : ℕ) → HasNoUnknownDeny whole
    → GrantsUnder v (kept whole) s request
    → GrantsUnder v (access_part (map (λ p. p.ace) whole)).kept s request
