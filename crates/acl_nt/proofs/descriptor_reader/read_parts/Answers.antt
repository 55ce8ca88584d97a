use Rattle.std.proofs.Common.{◌∙◌, ◌+◌}
use Rattle.acl_nt.specs.AclAt.{ace_places, nt_aces_at}
use Rattle.acl_nt.specs.DescriptorAt.{control_at, named_acl_conditions, named_sid, named_sid_conditions, names_none}
use Rattle.acl_nt.specs.Numbers.{dword_at}
use Rattle.acl_nt.specs.declared.role.Role.TheVariants.{Auditing}
use Rattle.acl_nt.proofs.ConditionLemmas.{exit_is}
use Rattle.acl_nt.proofs.PartLemmas.{no_fault, of_dacl, of_group, of_owner, of_sacl, parts_are}
use Rattle.acl_nt.proofs.descriptor_reader.read_parts.Goals as goal

pub returns-in_err-owner : goal.returns-in_err-owner
returns-in_err-owner c =
    let fails = rw c.word.ensures at c.in_err-owner.ensures in
    rw (exit_is c.from_residual.result c.from_residual.ensures.1)
    (of_owner c.in_err-owner.field-0.0
    (named_sid_conditions c.args.bytes.now (dword_at c.args.bytes.now (c.args.base + 4)))
    (named_sid_conditions c.args.bytes.now (dword_at c.args.bytes.now (c.args.base + 8)))
    (named_acl_conditions Auditing c.args.bytes.now (dword_at c.args.bytes.now (c.args.base + 12)))
    (named_acl_conditions c.args.role c.args.bytes.now (dword_at c.args.bytes.now (c.args.base + 16)))
    fails)

pub returns-in_err-group : goal.returns-in_err-group
returns-in_err-group c =
    let owner = rw c.word.ensures at c.in_ok-owner.ensures in
    let fails = rw c.word-2.ensures at c.in_err-group.ensures in
    rw (exit_is c.from_residual-in_err-group.result c.from_residual-in_err-group.ensures.1)
    (of_group c.in_err-group.field-0.0
    (named_sid_conditions c.args.bytes.now (dword_at c.args.bytes.now (c.args.base + 4)))
    (named_sid_conditions c.args.bytes.now (dword_at c.args.bytes.now (c.args.base + 8)))
    (named_acl_conditions Auditing c.args.bytes.now (dword_at c.args.bytes.now (c.args.base + 12)))
    (named_acl_conditions c.args.role c.args.bytes.now (dword_at c.args.bytes.now (c.args.base + 16)))
    owner.0 fails)

pub returns-in_err-sacl : goal.returns-in_err-sacl
returns-in_err-sacl c =
    let owner = rw c.word.ensures at c.in_ok-owner.ensures in
    let group = rw c.word-2.ensures at c.in_ok-group.ensures in
    let fails = rw c.word-3.ensures at c.in_err-sacl.ensures in
    rw (exit_is c.from_residual-in_err-sacl.result c.from_residual-in_err-sacl.ensures.1)
    (of_sacl c.in_err-sacl.field-0.0
    (named_sid_conditions c.args.bytes.now (dword_at c.args.bytes.now (c.args.base + 4)))
    (named_sid_conditions c.args.bytes.now (dword_at c.args.bytes.now (c.args.base + 8)))
    (named_acl_conditions Auditing c.args.bytes.now (dword_at c.args.bytes.now (c.args.base + 12)))
    (named_acl_conditions c.args.role c.args.bytes.now (dword_at c.args.bytes.now (c.args.base + 16)))
    owner.0 group.0 fails)

pub returns-in_err-dacl : goal.returns-in_err-dacl
returns-in_err-dacl c =
    let owner = rw c.word.ensures at c.in_ok-owner.ensures in
    let group = rw c.word-2.ensures at c.in_ok-group.ensures in
    let sacl = rw c.word-3.ensures at c.in_ok-sacl.ensures in
    let fails = rw c.word-4.ensures at c.in_err-dacl.ensures in
    rw (exit_is c.from_residual-in_err-dacl.result c.from_residual-in_err-dacl.ensures.1)
    (of_dacl c.in_err-dacl.field-0.0
    (named_sid_conditions c.args.bytes.now (dword_at c.args.bytes.now (c.args.base + 4)))
    (named_sid_conditions c.args.bytes.now (dword_at c.args.bytes.now (c.args.base + 8)))
    (named_acl_conditions Auditing c.args.bytes.now (dword_at c.args.bytes.now (c.args.base + 12)))
    (named_acl_conditions c.args.role c.args.bytes.now (dword_at c.args.bytes.now (c.args.base + 16)))
    owner.0 group.0 sacl.0 fails)

pub returns : goal.returns
returns c =
    let owner = rw c.word.ensures at c.in_ok-owner.ensures in
    let group = rw c.word-2.ensures at c.in_ok-group.ensures in
    let sacl = rw c.word-3.ensures at c.in_ok-sacl.ensures in
    let dacl = rw c.word-4.ensures at c.in_ok-dacl.ensures in (
      no_fault
          (named_sid_conditions c.args.bytes.now (dword_at c.args.bytes.now (c.args.base + 4)))
          (named_sid_conditions c.args.bytes.now (dword_at c.args.bytes.now (c.args.base + 8)))
          (named_acl_conditions Auditing c.args.bytes.now (dword_at c.args.bytes.now (c.args.base + 12)))
          (named_acl_conditions c.args.role c.args.bytes.now (dword_at c.args.bytes.now (c.args.base + 16)))
          owner.0 group.0 sacl.0 dacl.0,
      c.joined.ensures
          ∙ rw (owner.1, group.1, sacl.1, dacl.1, c.half.ensures)
          (parts_are (names_none (dword_at c.args.bytes.now (c.args.base + 12)))
          (names_none (dword_at c.args.bytes.now (c.args.base + 16)))
          (control_at c.args.bytes.now c.args.base)
          (named_sid c.args.bytes.now (dword_at c.args.bytes.now (c.args.base + 4)))
          (named_sid c.args.bytes.now (dword_at c.args.bytes.now (c.args.base + 8)))
          (nt_aces_at Auditing c.args.bytes.now (ace_places c.args.bytes.now (dword_at c.args.bytes.now (c.args.base + 12))))
          (nt_aces_at c.args.role c.args.bytes.now
          (ace_places c.args.bytes.now (dword_at c.args.bytes.now (c.args.base + 16))))),
    )
