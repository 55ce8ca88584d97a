-- The outcome of a comparison, and its text.
use Rattle.std.proofs.Common.{◌≡◌, ℕ, List, Option, None, Some, refl}
use Rattle.std.specs.Prelude.{◌↔◌, IfSome, IsNone, is_some, not}
use Rattle.acl_perm.specs.Bits.{all_rights}
use Rattle.acl_nfs4.specs.Ace.{Ace}
use Rattle.acl_eval.specs.Grant.{SameGrants}
use Rattle.acl_normal.specs.Difference.{situation_of}
use Rattle.acl_normal.specs.SmallSets.{IsFirstDifference}
use Rattle.acl_normal.specs.declared.comparison.Difference.{Difference}
use Rattle.aclck.specs.Answer.{is_yes}
use Rattle.aclck.specs.commands.Compare.{Compares}
use Rattle.aclck.specs.internal.Compared.{compared_text}
use Rattle.aclck.specs.declared.answer.Outcome.{Outcome}
use Rattle.aclck.specs.declared.answer.Outcome.TheVariants as outcome

-- what the library answers is the outcome and the text
pub compares_is : (list other : List Ace) (found : Option Difference) (o : Outcome) (text : List ℕ)
    → is_some found ≡ not (is_yes o) → text ≡ compared_text found
    → (IsNone found ↔ SameGrants all_rights list other)
    → IfSome found (λ d. IsFirstDifference list other (situation_of d) d.bit.bits d.first_grants)
    → Compares list other o text
compares_is list other None outcome.Yes text same is grants first = (grants.0 refl, is)
compares_is list other None outcome.No text same is grants first = absurd cc
compares_is list other (Some d) outcome.Yes text same is grants first = absurd cc
compares_is list other (Some d) outcome.No text same is grants first = record {
  situation = situation_of d;
  mask = d.bit.bits;
  first_grants = d.first_grants;
  is_first = first;
  is_text = is;
}
