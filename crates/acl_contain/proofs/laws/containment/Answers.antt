use Rattle.acl_contain.proofs.laws.containment.Goals as goal

pub returns-clause-both_ways : goal.returns-clause-both_ways
returns-clause-both_ways c = λ rights list other. (
  λ same. (
    λ s valid request within. (same s valid request within).0,
    λ s valid request within. (same s valid request within).1,
  ),
  λ each s valid request within. (each.0 s valid request within, each.1 s valid request within),
)

pub returns-clause-reflexive : goal.returns-clause-reflexive
returns-clause-reflexive c = λ rights list s valid request within granted. granted

pub returns-clause-transitive : goal.returns-clause-transitive
returns-clause-transitive c = λ rights list other third first then s valid request within granted.
    then s valid request within (first s valid request within granted)

pub returns-clause-normal_forms : goal.returns-clause-normal_forms
returns-clause-normal_forms c = λ list other form other_form here there. (
  λ most s valid request within granted. (there.grants s valid request within).0
      (most s valid request within ((here.grants s valid request within).1 granted)),
  λ most s valid request within granted. (there.grants s valid request within).1
      (most s valid request within ((here.grants s valid request within).0 granted)),
)
