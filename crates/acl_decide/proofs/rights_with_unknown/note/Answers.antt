use Rattle.std.proofs.Common.{ap, refl, subst, sym, ◌∙◌}
use Rattle.std.specs.Option.{option_map_or}
use Rattle.std.proofs.lemmas.Bool.{and_from}
use Rattle.acl_perm.specs.Bits.{IsSubset, IsUnion}
use Rattle.acl_perm.specs.declared.mask.Mask.{Mask}
use Rattle.acl_nfs4.specs.Ace.{ace}
use Rattle.acl_decide.proofs.UnknownMasks.{noted_before, noted_once, noted_twice}
use Rattle.acl_decide.proofs.rights_with_unknown.note.Goals as goal

pub returns-in_ok-insert-2-clause-noted : goal.returns-in_ok-insert-2-clause-noted
returns-in_ok-insert-2-clause-noted c = λ earlier noted.
    noted_twice c.args.names.now c.insert.new.self c.insert-then-not-contains.new.self (ace c.args.item.now)
    c.args.item.now.mask c.union.result earlier c.in_ok-insert.ensures.updates c.in_ok-insert-2.ensures.updates
    (subst (λ n. IsUnion n c.args.item.now.mask.bits c.union.result.bits)
    (noted_before c.in_ok-insert.field-0 _ c.unwrap_or-earlier.result c.unwrap_or-earlier.ensures refl
    ∙ ap (λ found. option_map_or (λ (m : Mask). m.bits) found 0) c.in_ok-insert.ensures.old)
    c.union.ensures.meaning)
    (and_from _ _ (sym c.is_unknown.ensures ∙ c.if-not-is_unknown.false)
    (sym c.takes_part.ensures ∙ c.if-not-takes_part.false)) noted

pub returns-else-not-contains-clause-noted : goal.returns-else-not-contains-clause-noted
returns-else-not-contains-clause-noted c = λ earlier noted.
    noted_once c.args.names.now c.insert.new.self (ace c.args.item.now) c.args.item.now.mask earlier
    c.in_ok-insert.ensures.updates refl
    (subst (λ n. IsSubset n c.args.item.now.mask.bits)
    (noted_before c.in_ok-insert.field-0 _ c.unwrap_or-earlier.result c.unwrap_or-earlier.ensures refl
    ∙ ap (λ found. option_map_or (λ (m : Mask). m.bits) found 0) c.in_ok-insert.ensures.old)
    (c.contains.ensures.meaning.0 c.if-not-contains.false))
    (and_from _ _ (sym c.is_unknown.ensures ∙ c.if-not-is_unknown.false)
    (sym c.takes_part.ensures ∙ c.if-not-takes_part.false)) noted
