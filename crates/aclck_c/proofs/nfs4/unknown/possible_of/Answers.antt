use Rattle.std.proofs.Common.{◌≡◌, ◌∙◌, List, subst, sym, ℕ}
use Rattle.acl_perm.specs.Situation.{Situation}
use Rattle.acl_nfs4.specs.Ace.{Ace}
use Rattle.acl_eval.specs.Situation.{situation}
use Rattle.aclck_c.specs.Unknown.{ArePossibleIn}
use Rattle.aclck_c.specs.declared.nfs4.unknown.RawPossible.{RawPossible}
use Rattle.aclck_c.proofs.nfs4.unknown.possible_of.Goals as goal

-- the same is possible in the same situation
moved : {list : List Ace} {s t : Situation} {mask : ℕ} {found : RawPossible} → s ≡ t
    → ArePossibleIn list s mask found → ArePossibleIn list t mask found
moved {list} {s} {t} {mask} {found} same = subst (λ (s : Situation). ArePossibleIn list s mask found) same

pub returns-clause-possible : goal.returns-clause-possible
returns-clause-possible c =
    let request = c.args.request.now in
    let same : situation request.object c.requester-requester.result ≡ situation request.object request.requester =
    c.requester-requester.ensures.situation request.object
    ∙ c.with_sorted_groups-sorted.ensures request.object in
    let decided = c.in_ok-decided.ensures in
    moved same (record {
      allowed = rw (sym c.bits.ensures.value) at decided.allowed;
      denied = rw (sym c.bits-2.ensures.value) at decided.denied;
      unknown = rw (sym c.bits-3.ensures.value) at decided.unknown;
      request = record {
        answer = c.in_ok-answer.answer;
        holds = c.in_ok-answer.ensures.exact;
        is = c.request_number.ensures;
      };
    })
