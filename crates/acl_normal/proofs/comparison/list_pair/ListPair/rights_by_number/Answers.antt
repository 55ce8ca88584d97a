use Rattle.acl_normal.proofs.Common.{ace, aces_in, ap, AreWhoms, arith, length, length-map, principal, principals, subst, sym}
use Rattle.acl_normal.proofs.comparison.RightsByNumber.{rights_by_number, whoms_within}
use Rattle.acl_normal.proofs.comparison.FirstPlaceLemmas.{whoms_length}
use Rattle.acl_normal.proofs.comparison.list_pair.ListPair.rights_by_number.Goals as goal
use Rattle.acl_normal.specs.internal.comparison.Columns.{AddRights, AreRightsByNumber}
use Rattle.acl_normal.specs.internal.comparison.ListPair.{lists_in}

pub add_rights-requires-clause-whoms : goal.add_rights-requires-clause-whoms
add_rights-requires-clause-whoms c =
    whoms_length (principals c.self.inside.mentioned.now) _ _ c.self.invariant.first_whoms

pub add_rights-requires-2-clause-whoms : goal.add_rights-requires-2-clause-whoms
add_rights-requires-2-clause-whoms c =
    whoms_length (principals c.self.inside.mentioned.now) _ _ c.self.invariant.second_whoms

pub add_rights-requires-clause-within : goal.add_rights-requires-clause-within
add_rights-requires-clause-within c = whoms_within (principals c.self.inside.mentioned.now)
    (aces_in c.self.inside.first.now) c.self.inside.first_whoms.now
    (omega (
      arith,
      c.in_ok-rights.ensures.len,
      c.in_ok-rights.rights.ok.0,
      length-map c.self.inside.mentioned.now principal,
    ))
    c.self.invariant.first_whoms

pub add_rights-requires-2-clause-within : goal.add_rights-requires-2-clause-within
add_rights-requires-2-clause-within c = whoms_within (principals c.self.inside.mentioned.now)
    (aces_in c.self.inside.second.now) c.self.inside.second_whoms.now
    (omega (
      arith,
      c.in_ok-rights.ensures.len,
      c.in_ok-rights.rights.ok.0,
      c.add_rights.ensures.count,
      c.add_rights.new.rights.ok.0,
      length-map c.self.inside.mentioned.now principal,
    )) c.self.invariant.second_whoms

pub returns : goal.returns
returns c = subst (λ both. AreRightsByNumber both c.add_rights-2.new.rights.items) c.self.view_is
    (rights_by_number (lists_in c.self.inside) c.self.inside.first_whoms.now c.self.inside.second_whoms.now
    (omega (
      arith,
      c.in_ok-rights.ensures.len,
      c.in_ok-rights.rights.ok.0,
      length-map c.self.inside.mentioned.now principal,
      ap length c.self.invariant.mentioned,
    ))
    (subst (λ ps. AreWhoms ps (aces_in c.self.inside.first.now) c.self.inside.first_whoms.now)
    c.self.invariant.mentioned c.self.invariant.first_whoms)
    (subst (λ ps. AreWhoms ps (aces_in c.self.inside.second.now) c.self.inside.second_whoms.now)
    c.self.invariant.mentioned c.self.invariant.second_whoms)
    (subst (λ n. AddRights n (aces_in c.self.inside.first.now) c.self.inside.first_whoms.now c.in_ok-rights.rights.items
    c.add_rights.new.rights.items) (sym (length-map c.self.inside.first.now ace)) c.add_rights.ensures)
    (subst (λ n. AddRights n (aces_in c.self.inside.second.now) c.self.inside.second_whoms.now
    c.add_rights.new.rights.items c.add_rights-2.new.rights.items) (sym (length-map c.self.inside.second.now ace))
    c.add_rights-2.ensures))
