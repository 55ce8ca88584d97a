-- Which ACEs a list accepts at its end (RFC 8881, section 6.2.1, within the limits of this library), and the answer for
-- the others: the first condition that refuses.
use Rattle.std.specs.Prelude.{◌≡◌, ◌+◌, List, length, count_ones, nat_lt, nat_le, if◌then◌else◌, Option, None, Some, option_map, Result, Ok, Err}
use Rattle.acl_nfs4.specs.Ace.{Ace}
use Rattle.acl_nfs4.specs.Limits.{most_aces, most_weight}
use Rattle.acl_nfs4.specs.Spelling.{weight}
use Rattle.acl_nfs4.specs.Who.{who_fault}
use Rattle.acl_nfs4.specs.declared.list.push_fault.PushFault.{PushFault}
use Rattle.acl_nfs4.specs.declared.list.push_fault.PushFault.TheVariants.{TooManyAces, TooHeavy, WhoLength, WhoUtf8, WhoControl, SpecialWho, Memory}
use Rattle.acl_nfs4.specs.declared.who.WhoFault.{WhoFault}
use Rattle.acl_nfs4.specs.declared.who.WhoFault.TheVariants as who

-- the fault of a push for a fault of the who
abbrev pub who_refusal : WhoFault → PushFault
who_refusal who.Length = WhoLength
who_refusal who.Utf8 = WhoUtf8
who_refusal who.Control = WhoControl
who_refusal who.Special = SpecialWho

-- the first condition that refuses one more ACE for a list
abbrev pub push_refusal : List Ace → Ace → Option PushFault
push_refusal list a = if nat_le most_aces (length list) then Some TooManyAces
    else (if nat_lt most_weight (weight list + count_ones a.mask) then Some TooHeavy
    else option_map who_refusal (who_fault a.who))

-- if no condition refuses the ACE, a push succeeds or runs out of memory; otherwise it fails with that condition
abbrev pub PushAnswers : Result (Unit {0}) PushFault → Option PushFault → Type 0
PushAnswers (Ok _) refusal = refusal ≡ None
PushAnswers (Err Memory) refusal = refusal ≡ None
PushAnswers (Err TooManyAces) refusal = refusal ≡ Some TooManyAces
PushAnswers (Err TooHeavy) refusal = refusal ≡ Some TooHeavy
PushAnswers (Err WhoLength) refusal = refusal ≡ Some WhoLength
PushAnswers (Err WhoUtf8) refusal = refusal ≡ Some WhoUtf8
PushAnswers (Err WhoControl) refusal = refusal ≡ Some WhoControl
PushAnswers (Err SpecialWho) refusal = refusal ≡ Some SpecialWho
