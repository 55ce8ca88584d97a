use Rattle.std.proofs.Common.{◌∙◌, ◌+◌, [], ◌∷◌, Some, ap, inr, refl, sym}
use Rattle.acl_nt.specs.AceAt.{ace_size, keeps_owner_ace, nt_ace_at, sid_place}
use Rattle.acl_nt.specs.Conditions.{check}
use Rattle.acl_nt.specs.Numbers.{byte_at}
use Rattle.acl_nt.specs.SidAt.{sid_conditions}
use Rattle.acl_nt.specs.declared.fault.NtReason.TheVariants.{AceType}
use Rattle.acl_nt.proofs.AceLemmas.{ace_is}
use Rattle.acl_nt.proofs.ConditionLemmas.{exit_is, fails_before, last_met, last_unmet}
use Rattle.acl_nt.proofs.ace_reader.read_after_head.Goals as goal

pub returns-in_err-sid : goal.returns-in_err-sid
returns-in_err-sid c =
    let bytes = c.args.bytes.now in
    let at = c.args.at in
    rw (exit_is c.from_residual.result c.from_residual.ensures.1)
    (fails_before c.in_err-sid.field-0.0 (sid_conditions bytes (sid_place bytes at) (at + ace_size bytes at))
    (check (keeps_owner_ace c.args.role (byte_at bytes at) (nt_ace_at bytes at)) at AceType ∷ [])
    (rw (c.sid_place.ensures.place, c.half.ensures) at c.in_err-sid.ensures))

pub returns-then-not-keeps_owner_ace : goal.returns-then-not-keeps_owner_ace
returns-then-not-keeps_owner_ace c =
    let bytes = c.args.bytes.now in
    let at = c.args.at in
    let read = rw (c.sid_place.ensures.place, c.half.ensures) at c.in_ok-sid.ensures in
    let ace = ace_is bytes at _ _ _ _ c.kind_of.ensures refl c.word.ensures read.1 in
    inr (last_unmet (sid_conditions bytes (sid_place bytes at) (at + ace_size bytes at))
    (keeps_owner_ace c.args.role (byte_at bytes at) (nt_ace_at bytes at)) at AceType read.0
    (ap (keeps_owner_ace c.args.role (byte_at bytes at)) (sym ace)
    ∙ sym c.keeps_owner_ace.ensures ∙ c.if-not-keeps_owner_ace.true)
    ∙ ap Some (sym c.new.ensures))

pub returns : goal.returns
returns c =
    let bytes = c.args.bytes.now in
    let at = c.args.at in
    let read = rw (c.sid_place.ensures.place, c.half.ensures) at c.in_ok-sid.ensures in
    let ace = ace_is bytes at _ _ _ _ c.kind_of.ensures refl c.word.ensures read.1 in (
      last_met (sid_conditions bytes (sid_place bytes at) (at + ace_size bytes at))
          (keeps_owner_ace c.args.role (byte_at bytes at) (nt_ace_at bytes at)) at AceType read.0
          (ap (keeps_owner_ace c.args.role (byte_at bytes at)) (sym ace)
          ∙ sym c.keeps_owner_ace.ensures ∙ c.if-not-keeps_owner_ace.false),
      ace,
    )
