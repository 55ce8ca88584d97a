-- The search for the ACE that decides: what it finds is the ACE of the contract.
use Rattle.std.proofs.Common.{◌≡◌, ℕ, ◌+◌, Bool, true, false, List, [], ◌∷◌, refl, sym, ◌∙◌}
use Rattle.std.specs.Prelude.{option_map}
use Rattle.std.specs.List.{find, position_from}
use Rattle.std.proofs.lemmas.Iterator.Adapters.{position_from-zero}
use Rattle.acl_perm.specs.Situation.{Situation}
use Rattle.acl_nfs4.specs.Ace.{Ace}
use Rattle.acl_eval.specs.Deciding.{decides, deciding_kind, deciding_place}
use Rattle.acl_decide.specs.internal.DecidingBody.{decision_from}
use Rattle.acl_decide.specs.declared.one_decider.Decision.{Decision}

-- the search that begins at a place gives the place of the first ACE that passes the test
place_from : (i : ℕ) (test : Ace → Bool) (list : List Ace)
    → option_map (λ (d : Decision). d.place) (decision_from i test list) ≡ position_from test i list
place_from i test [] = refl
place_from i test (a ∷ list) = by (place_from (i + 1) test list) (test a) refl
  where
    by : option_map (λ (d : Decision). d.place) (decision_from (i + 1) test list) ≡ position_from test (i + 1) list
        → (t : Bool) → test a ≡ t
        → option_map (λ (d : Decision). d.place) (decision_from i test (a ∷ list)) ≡ position_from test i (a ∷ list)
    by rest true e = rw e refl
    by rest false e = rw e rest

-- the search that begins at a place gives the kind of the first ACE that passes the test
kind_from : (i : ℕ) (test : Ace → Bool) (list : List Ace)
    → option_map (λ (d : Decision). d.kind) (decision_from i test list)
    ≡ option_map (λ (a : Ace). a.kind) (find test list)
kind_from i test [] = refl
kind_from i test (a ∷ list) = by (kind_from (i + 1) test list) (test a) refl
  where
    by : option_map (λ (d : Decision). d.kind) (decision_from (i + 1) test list)
        ≡ option_map (λ (b : Ace). b.kind) (find test list)
        → (t : Bool) → test a ≡ t → option_map (λ (d : Decision). d.kind) (decision_from i test (a ∷ list))
        ≡ option_map (λ (b : Ace). b.kind) (find test (a ∷ list))
    by rest true e = rw e refl
    by rest false e = rw e rest

-- the search from the front gives the place of the ACE that decides
pub place_is : (list : List Ace) (s : Situation) (bit : ℕ)
    → option_map (λ (d : Decision). d.place) (decision_from 0 (decides s bit) list) ≡ deciding_place list s bit
place_is list s bit = place_from 0 (decides s bit) list ∙ sym (position_from-zero (decides s bit) list)

-- the search from the front gives the kind of the ACE that decides
pub kind_is : (list : List Ace) (s : Situation) (bit : ℕ)
    → option_map (λ (d : Decision). d.kind) (decision_from 0 (decides s bit) list) ≡ deciding_kind list s bit
kind_is list s bit = kind_from 0 (decides s bit) list

pub ruleset decisions = (place_is, kind_is)
