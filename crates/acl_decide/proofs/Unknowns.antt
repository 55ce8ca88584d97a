-- Unknown identifiers: the answers that one pass finds possible are those that some assignment gives.
use Rattle.std.proofs.Common.{◌≡◌, ℕ, Bool, true, false, List, [], ◌∷◌, ◌++◌, Option, None, Some, refl, sym, ap, subst, ◌∙◌}
use Rattle.std.specs.Prelude.{◌&&◌, ◌||◌, if◌then◌else◌}
use Rattle.std.specs.Str.{bytes_eq}
use Rattle.std.proofs.lemmas.List.Folds.{list_any-append}
use Rattle.std.proofs.lemmas.Bool.{and_parts, true≢false, or_right}
use Rattle.acl_perm.proofs.Meetings.{bytes_eq_same, itself}
use Rattle.acl_perm.specs.Bits.{has_bit}
use Rattle.acl_perm.specs.Situation.{Situation, matches}
use Rattle.acl_perm.specs.declared.kind.Kind.{Kind}
use Rattle.acl_perm.specs.declared.kind.Kind.TheVariants.{Deny, Allow}
use Rattle.acl_nfs4.specs.Ace.{Ace}
use Rattle.acl_nfs4.specs.Who.{is_unknown_special, principal_of}
use Rattle.acl_eval.specs.Column.{takes_part}
use Rattle.acl_decide.specs.Unknown.{Assignment, answer_under, decides_under, matches_under}
use Rattle.acl_decide.specs.internal.UnknownBody.{had, is_answer, noting, PassesOver}
unfoldable use Rattle.acl_decide.specs.internal.UnknownBody.{can_answer}

-- ---- answers

-- answers that the test finds equal are equal
answers_same : (x y : Option Kind) → is_answer x y ≡ true → x ≡ y
answers_same None None e = refl
answers_same None (Some k) e = absurd cc
answers_same (Some k) None e = absurd cc
answers_same (Some Allow) (Some Allow) e = refl
answers_same (Some Allow) (Some Deny) e = absurd cc
answers_same (Some Deny) (Some Allow) e = absurd cc
answers_same (Some Deny) (Some Deny) e = refl

-- an answer is equal to itself
answer_itself : (x : Option Kind) → is_answer x x ≡ true
answer_itself None = refl
answer_itself (Some Allow) = refl
answer_itself (Some Deny) = refl

-- the ACE has the bit and takes part
abbrev pub counts : ℕ → Ace → Bool
counts bit a = has_bit a.mask bit && takes_part a

-- an ACE without the bit, or for new objects alone, does not change the answer
pub answer_skips : (v : Assignment) (a : Ace) (list : List Ace) (s : Situation) (bit : ℕ) → counts bit a ≡ false
    → answer_under v (a ∷ list) s bit ≡ answer_under v list s bit
answer_skips v a list s bit e =
    let lacks : decides_under v s bit a ≡ false = ap (λ t. t && matches_under v s a) e in rw lacks refl

-- an ACE that does not match does not change the answer
pub answer_passes : (v : Assignment) (a : Ace) (list : List Ace) (s : Situation) (bit : ℕ) → counts bit a ≡ true
    → matches_under v s a ≡ false → answer_under v (a ∷ list) s bit ≡ answer_under v list s bit
answer_passes v a list s bit e m =
    let lacks : decides_under v s bit a ≡ false = ap (λ t. t && matches_under v s a) e ∙ m in rw lacks refl

-- an ACE that matches decides
pub answer_here : (v : Assignment) (a : Ace) (list : List Ace) (s : Situation) (bit : ℕ) → counts bit a ≡ true
    → matches_under v s a ≡ true → answer_under v (a ∷ list) s bit ≡ Some a.kind
answer_here v a list s bit e m =
    let yes : decides_under v s bit a ≡ true = ap (λ t. t && matches_under v s a) e ∙ m in rw yes refl

-- an unknown identifier matches as it is assigned
pub match_unknown : (v : Assignment) (s : Situation) (a : Ace) → is_unknown_special a.who ≡ true
    → matches_under v s a ≡ v a.who
match_unknown v s a u = rw u refl

-- any other who matches as ever
pub match_known : (v : Assignment) (s : Situation) (a : Ace) → is_unknown_special a.who ≡ false
    → matches_under v s a ≡ matches s (principal_of a)
match_known v s a u = rw u refl

-- ---- names that had the bit

-- one more ACE
pub had_more : (earlier : List Ace) (a : Ace) (bit : ℕ) (who : List ℕ)
    → had (earlier ++ a ∷ []) bit who ≡ (had earlier bit who || ((bytes_eq a.who who && has_bit a.mask bit) || false))
had_more earlier a bit who = list_any-append (λ b. bytes_eq b.who who && has_bit b.mask bit) earlier (a ∷ [])

-- what had the bit before has had it
had_still : (earlier : List Ace) (a : Ace) (bit : ℕ) (who : List ℕ) → had earlier bit who ≡ true
    → had (noting earlier a) bit who ≡ true
had_still earlier a bit who h = by (is_unknown_special a.who && takes_part a) refl
  where
    by : (t : Bool) → (is_unknown_special a.who && takes_part a) ≡ t → had (noting earlier a) bit who ≡ true
    by true e = rw (e, had_more earlier a bit who, h) refl
    by false e = rw e h

-- the name of an ACE that counts has had the bit after it
had_now : (earlier : List Ace) (a : Ace) (bit : ℕ) → counts bit a ≡ true → is_unknown_special a.who ≡ true
    → had (noting earlier a) bit a.who ≡ true
had_now earlier a bit e u =
    let (has, takes) = and_parts (has_bit a.mask bit) (takes_part a) e in by (had earlier bit a.who) refl has takes
  where
    by : (t : Bool) → had earlier bit a.who ≡ t → has_bit a.mask bit ≡ true → takes_part a ≡ true
        → had (noting earlier a) bit a.who ≡ true
    by true h has takes = had_still earlier a bit a.who h
    by false h has takes = rw (u, takes, had_more earlier a bit a.who, h, itself a.who, has) refl

-- an assignment that passes over more passes over less
passes_less : (v : Assignment) (earlier : List Ace) (a : Ace) (bit : ℕ) → PassesOver v (noting earlier a) bit
    → PassesOver v earlier bit
passes_less v earlier a bit p = λ who h. p who (had_still earlier a bit who h)

-- an assignment passes over one more name, unless it matches that name and the ACE has the bit
passes_more : (v : Assignment) (earlier : List Ace) (a : Ace) (bit : ℕ)
    → (counts bit a ≡ true → is_unknown_special a.who ≡ true → v a.who ≡ false)
    → PassesOver v earlier bit → PassesOver v (noting earlier a) bit
passes_more v earlier a bit lacks p who h = by (is_unknown_special a.who) (takes_part a) (had earlier bit who)
    (bytes_eq a.who who) (has_bit a.mask bit) refl refl refl refl refl
  where
    by : (u t d n b : Bool) → is_unknown_special a.who ≡ u → takes_part a ≡ t → had earlier bit who ≡ d
        → bytes_eq a.who who ≡ n → has_bit a.mask bit ≡ b → v who ≡ false
    by u t true n b ue te de ne be = p who de
    by true true false true true ue te de ne be =
        subst (λ (w : List ℕ). v w ≡ false) (bytes_eq_same a.who who ne) (lacks (rw (be, te) refl) ue)
    by true true false true false ue te de ne be =
        absurd (true≢false (sym (rw (ue, te, had_more earlier a bit who, de, ne, be) at h)))
    by true true false false b ue te de ne be =
        absurd (true≢false (sym (rw (ue, te, had_more earlier a bit who, de, ne) at h)))
    by true false false n b ue te de ne be = absurd (true≢false (sym (rw (ue, te, de) at h)))
    by false t false n b ue te de ne be = absurd (true≢false (sym (rw (ue, de) at h)))

-- ---- one step of the pass

-- an ACE that does not count
pub can_skip : (earlier : List Ace) (a : Ace) (list : List Ace) (s : Situation) (bit : ℕ) (k : Option Kind)
    → counts bit a ≡ false → can_answer earlier (a ∷ list) s bit k ≡ can_answer (noting earlier a) list s bit k
unfolding can_answer
can_skip earlier a list s bit k e = rw e refl

-- an ACE of an unknown identifier
pub can_unknown : (earlier : List Ace) (a : Ace) (list : List Ace) (s : Situation) (bit : ℕ) (k : Option Kind)
    → counts bit a ≡ true → is_unknown_special a.who ≡ true → can_answer earlier (a ∷ list) s bit k
    ≡ ((if had earlier bit a.who then false else is_answer (Some a.kind) k)
    || can_answer (noting earlier a) list s bit k)
unfolding can_answer
can_unknown earlier a list s bit k e u = rw (e, u) refl

-- any other ACE that matches
pub can_match : (earlier : List Ace) (a : Ace) (list : List Ace) (s : Situation) (bit : ℕ) (k : Option Kind)
    → counts bit a ≡ true → is_unknown_special a.who ≡ false → matches s (principal_of a) ≡ true
    → can_answer earlier (a ∷ list) s bit k ≡ is_answer (Some a.kind) k
unfolding can_answer
can_match earlier a list s bit k e u m = rw (e, u, m) refl

-- any other ACE that does not match
pub can_pass : (earlier : List Ace) (a : Ace) (list : List Ace) (s : Situation) (bit : ℕ) (k : Option Kind)
    → counts bit a ≡ true → is_unknown_special a.who ≡ false → matches s (principal_of a) ≡ false
    → can_answer earlier (a ∷ list) s bit k ≡ can_answer (noting earlier a) list s bit k
unfolding can_answer
can_pass earlier a list s bit k e u m = rw (e, u, m) refl

-- ---- the whole list

-- an assignment that passes over names gives the answer
abbrev May : List Ace → List Ace → Situation → ℕ → Option Kind → Type 0
May earlier list s bit k = (v : Assignment) × PassesOver v earlier bit × (answer_under v list s bit ≡ k)

-- the assignment that matches one name alone passes over others
only_this : (earlier : List Ace) (name : List ℕ) (bit : ℕ) → had earlier bit name ≡ false
    → PassesOver (bytes_eq name) earlier bit
only_this earlier name bit lacks who h = by (bytes_eq name who) refl
  where
    by : (t : Bool) → bytes_eq name who ≡ t → bytes_eq name who ≡ false
    by true e = absurd (true≢false (sym h
        ∙ sym (ap (had earlier bit) (bytes_eq_same name who e)) ∙ lacks))
    by false e = e

-- a choice without a second part
or_false : (b : Bool) → (b || false) ≡ true → b ≡ true
or_false true e = refl
or_false false e = e

-- each answer that is found possible is given by some assignment
pub can_sound : (list earlier : List Ace) (s : Situation) (bit : ℕ) (k : Option Kind)
    → can_answer earlier list s bit k ≡ true → May earlier list s bit k
unfolding can_answer
can_sound [] earlier s bit k e = (λ who. false, λ who h. refl, answers_same None k e)
can_sound (a ∷ list) earlier s bit k e = by (counts bit a) (is_unknown_special a.who) (matches s (principal_of a))
    (can_answer (noting earlier a) list s bit k) (had earlier bit a.who) refl refl refl refl refl
    (can_sound list (noting earlier a) s bit k)
  where
    by : (c u m r h : Bool) → counts bit a ≡ c → is_unknown_special a.who ≡ u → matches s (principal_of a) ≡ m
        → can_answer (noting earlier a) list s bit k ≡ r → had earlier bit a.who ≡ h
        → (can_answer (noting earlier a) list s bit k ≡ true → May (noting earlier a) list s bit k)
        → May earlier (a ∷ list) s bit k
    by false u m r h ce ue me re he rest =
        let (v, p, is) = rest (sym (can_skip earlier a list s bit k ce) ∙ e) in
        (v, passes_less v earlier a bit p, answer_skips v a list s bit ce ∙ is)
    by true true m true h ce ue me re he rest =
        let (v, p, is) = rest re in (
          v,
          passes_less v earlier a bit p,
          answer_passes v a list s bit ce
              (match_unknown v s a ue ∙ p a.who (had_now earlier a bit ce ue)) ∙ is,
        )
    by true true m false false ce ue me re he rest =
        let is = rw (can_unknown earlier a list s bit k ce ue, he, re) at e in
        let same : Some a.kind ≡ k = answers_same (Some a.kind) k (or_false _ is) in (
          bytes_eq a.who,
          only_this earlier a.who bit he,
          answer_here (bytes_eq a.who) a list s bit ce
              (match_unknown (bytes_eq a.who) s a ue ∙ itself a.who) ∙ same,
        )
    by true true m false true ce ue me re he rest =
        absurd (true≢false (sym (rw (can_unknown earlier a list s bit k ce ue, he, re) at e)))
    by true false true r h ce ue me re he rest = (
      λ who. false,
      λ who g. refl,
      answer_here (λ who. false) a list s bit ce (match_known (λ who. false) s a ue ∙ me)
          ∙ answers_same (Some a.kind) k (sym (can_match earlier a list s bit k ce ue me) ∙ e),
    )
    by true false false r h ce ue me re he rest =
        let (v, p, is) = rest (sym (can_pass earlier a list s bit k ce ue me) ∙ e) in
        (v, passes_less v earlier a bit p, answer_passes v a list s bit ce (match_known v s a ue ∙ me) ∙ is)

-- the first ACE of a name may decide
first_decides : (h x r : Bool) → h ≡ false → x ≡ true → ((if h then false else x) || r) ≡ true
first_decides false true r he xe = refl
first_decides false false r he xe = absurd (true≢false (sym xe))
first_decides true x r he xe = absurd (true≢false he)

-- each answer that some assignment gives is found possible
pub can_complete : (list earlier : List Ace) (s : Situation) (bit : ℕ) (v : Assignment) → PassesOver v earlier bit
    → can_answer earlier list s bit (answer_under v list s bit) ≡ true
unfolding can_answer
can_complete [] earlier s bit v p = refl
can_complete (a ∷ list) earlier s bit v p = by (counts bit a) (is_unknown_special a.who) (matches s (principal_of a))
    (v a.who) (had earlier bit a.who) refl refl refl refl refl (can_complete list (noting earlier a) s bit v)
  where
    by : (c u m t h : Bool) → counts bit a ≡ c → is_unknown_special a.who ≡ u → matches s (principal_of a) ≡ m
        → v a.who ≡ t → had earlier bit a.who ≡ h
        → (PassesOver v (noting earlier a) bit
        → can_answer (noting earlier a) list s bit (answer_under v list s bit) ≡ true)
        → can_answer earlier (a ∷ list) s bit (answer_under v (a ∷ list) s bit) ≡ true
    by false u m t h ce ue me te he rest =
        rw (answer_skips v a list s bit ce) (can_skip earlier a list s bit (answer_under v list s bit) ce
        ∙ rest (passes_more v earlier a bit (λ is. absurd (true≢false (sym is ∙ ce))) p))
    by true true m true true ce ue me te he rest = absurd (true≢false (sym te ∙ p a.who he))
    by true true m true false ce ue me te he rest =
        rw (answer_here v a list s bit ce (match_unknown v s a ue ∙ te))
        (can_unknown earlier a list s bit (Some a.kind) ce ue
        ∙ first_decides (had earlier bit a.who) (is_answer (Some a.kind) (Some a.kind))
        (can_answer (noting earlier a) list s bit (Some a.kind)) he (answer_itself (Some a.kind)))
    by true true m false h ce ue me te he rest =
        rw (answer_passes v a list s bit ce (match_unknown v s a ue ∙ te))
        (can_unknown earlier a list s bit (answer_under v list s bit) ce ue
        ∙ or_right (if had earlier bit a.who then false else is_answer (Some a.kind) (answer_under v list s bit))
        (can_answer (noting earlier a) list s bit (answer_under v list s bit))
        (rest (passes_more v earlier a bit (λ is un. te) p)))
    by true false true t h ce ue me te he rest =
        rw (answer_here v a list s bit ce (match_known v s a ue ∙ me))
        (can_match earlier a list s bit (Some a.kind) ce ue me ∙ answer_itself (Some a.kind))
    by true false false t h ce ue me te he rest =
        rw (answer_passes v a list s bit ce (match_known v s a ue ∙ me))
        (can_pass earlier a list s bit (answer_under v list s bit) ce ue me
        ∙ rest (passes_more v earlier a bit (λ is un. absurd (true≢false (sym un ∙ ue))) p))
