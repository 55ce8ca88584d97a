use Rattle.acl_nfs4.proofs.Common.{Allow, ap, Bool, cond, Deny, eqb, eqb-true, false, false_from_ne_true, IsMask, Kind, kind_of_type, length, refl, subst, sym, ℕ, ◌∙◌, ◌≡◌, ◌≢◌}
use Rattle.acl_nfs4.proofs.xdr.Body.{layout, kind_of_type-number, same_ace}
use Rattle.acl_nfs4.proofs.list.aces.first_ace.Goals as goal
use Rattle.acl_nfs4.proofs.list.aces.first_ace.Goals.{then-word_in-eq0, else-word_in-eq0}

-- the number 0 is that of ALLOW
allowed : (n : ℕ) (k : Kind) → n ≡ 0 → k ≡ Allow → k ≡ kind_of_type n
allowed n k none is = rw (is, none) refl

-- each other number is taken as that of DENY
denied : (n : ℕ) (k : Kind) → n ≢ 0 → k ≡ Deny → k ≡ kind_of_type n
denied n k some is =
    let e : eqb n 0 ≡ false = false_from_ne_true (eqb n 0) (λ t. some (eqb-true n 0 t)) in
    is ∙ sym (ap (λ (b : Bool). cond b Allow Deny) e)

pub invariant_of-mask : goal.invariant_of-mask
invariant_of-mask c =
    let r = c.requires in
    let l = layout c.args.bytes.now r.0 r.1 r.2 r.3 in
    record { within = subst IsMask (sym (c.word_in-3.ensures ∙ l.mask)) r.2.mask }

pub returns : goal.returns
returns c = λ a more is e.
    let l = layout c.args.bytes.now a more is e in
    let kind : c.if-word_in-eq0.kind ≡ kind_of_type c.word_in.result =
    elim c.if-word_in-eq0.branch [
      | then-word_in-eq0 w ↦ allowed c.word_in.result _ w.if-word_in-eq0.true w.kind-is
      | else-word_in-eq0 w ↦ denied c.word_in.result _ w.if-word_in-eq0.false w.kind-is
    ] in
    let len : c.word_in-len.result ≡ length a.who = c.word_in-len.ensures ∙ l.len in
    let who : c.split_at-2.result.0.now ≡ a.who = rw (c.split_at-2.ensures.front, c.split_at.ensures.back, len) l.who in
    let after : c.split_at-3.result.1.now ≡ more = rw (c.split_at-3.ensures.back, len) l.tail in (
      same_ace a (kind ∙ ap kind_of_type (c.word_in.ensures ∙ l.kind) ∙ kind_of_type-number a.kind)
          (c.word_in-2.ensures ∙ l.flags) (c.word_in-3.ensures ∙ l.mask) who,
      after,
    )
