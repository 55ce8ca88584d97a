-- How the ids that a list names are counted without memory: one after the other, from the least on.
use Rattle.std.proofs.Common.{◌≡◌, ◌≤◌, ◌<◌, ◌+◌, ◌-◌, ℕ, Bool, true, false, List, [], ◌∷◌, Option, None, Some, refl, sym, ap, subst, ◌∙◌, arith, inl, inr}
use Rattle.std.specs.Prelude.{◌==◌, ◌||◌, IfSome, if◌then◌else◌, is_some, nat_lt, not}
use Rattle.std.specs.List.{list_any}
use Rattle.std.proofs.lemmas.Bool.{cases_lt, eq-eqb, ltb-false, ltb-true, ne_eqb, true≢false}
use Rattle.acl_perm.proofs.Bools.{or_false_right, or_regroup, or_twice}
use Rattle.acl_posix.specs.Check.{is_member}
use Rattle.acl_posix.specs.Names.{Table}
use Rattle.acl_nfs4.specs.Ace.{Ace}
use Rattle.acl_to_posix.specs.ListNames.{AreFewNames, AreMoreNames, is_number_of, names_group, names_user}
use Rattle.acl_to_posix.specs.internal.ListNamesBody.{AreBelow, IsCountOfIds, AreMore, IsLeastFrom, lesser_id}
use Rattle.acl_to_posix.proofs.ListNames.{all_just, grow, more_groups, names_are, with_numbers}

-- ---- the least number

-- the least number that passes a test is the least that passes an equal test
least_of_equal : (from : ℕ) (one two : ℕ → Bool) (least : Option ℕ) → ((id : ℕ) → one id ≡ two id)
    → IsLeastFrom from one least → IsLeastFrom from two least
least_of_equal from one two None same h = λ id le. sym (same id) ∙ h id le
least_of_equal from one two (Some least) same h = record {
  within = h.within;
  passes = sym (same least) ∙ h.passes;
  lower = λ id le less. sym (same id) ∙ h.lower id le less;
}

-- neither of two tests holds
neither : (a b : Bool) → a ≡ false → b ≡ false → (a || b) ≡ false
neither a b one two = rw one two

-- a test or another that holds
second_holds : (a b : Bool) → b ≡ true → (a || b) ≡ true
second_holds true b h = refl
second_holds false b h = h

-- with one more number
least_with : (from : ℕ) (test : ℕ → Bool) (least id : Option ℕ) → IsLeastFrom from test least
    → IsLeastFrom from (λ n. test n || is_number_of id n) (lesser_id from least id)
least_with from test None None h = λ n le. neither (test n) false (h n le) refl
least_with from test (Some least) None h = record {
  within = h.within;
  passes = ap (λ (b : Bool). b || false) h.passes;
  lower = λ n le less. neither (test n) false (h.lower n le less) refl;
}
least_with from test None (Some id) h = by (nat_lt id from) refl
  where
    by : (low : Bool) → nat_lt id from ≡ low
        → IsLeastFrom from (λ n. test n || (id == n)) (if low then None else Some id)
    by true e = let low = ltb-true id from e in
        λ n le. neither (test n) (id == n) (h n le) (ne_eqb id n (λ same. absurd (omega (arith, low, le, same))))
    by false e = record {
      within = ltb-false id from e;
      passes = second_holds (test id) (id == id) (eq-eqb id id refl);
      lower = λ n le less. neither (test n) (id == n) (h n le)
          (ne_eqb id n (λ same. absurd (omega (arith, less, same))));
    }
least_with from test (Some least) (Some id) h = by (nat_lt id from) (nat_lt least id) refl refl
  where
    by : (low high : Bool) → nat_lt id from ≡ low → nat_lt least id ≡ high
        → IsLeastFrom from (λ n. test n || (id == n))
        (if low then Some least else (if high then Some least else Some id))
    by true high e f = let low = ltb-true id from e in record {
      within = h.within;
      passes = ap (λ (b : Bool). b || (id == least)) h.passes;
      lower = λ n le less. neither (test n) (id == n) (h.lower n le less)
          (ne_eqb id n (λ same. absurd (omega (arith, low, le, same))));
    }
    by false true e f = let high = ltb-true least id f in record {
      within = h.within;
      passes = ap (λ (b : Bool). b || (id == least)) h.passes;
      lower = λ n le less. neither (test n) (id == n) (h.lower n le less)
          (ne_eqb id n (λ same. absurd (omega (arith, high, less, same))));
    }
    by false false e f = let high = ltb-false least id f in record {
      within = ltb-false id from e;
      passes = second_holds (test id) (id == id) (eq-eqb id id refl);
      lower = λ n le less. neither (test n) (id == n) (h.lower n le (omega (arith, less, high)))
          (ne_eqb id n (λ same. absurd (omega (arith, less, same))));
    }

-- the least of a number and the numbers of ACEs
abbrev pub least_among : (Ace → Option ℕ) → ℕ → Option ℕ → List Ace → Option ℕ
least_among of from least [] = least
least_among of from least (a ∷ list) = least_among of from (lesser_id from least (of a)) list

-- what it is the least of
least_of_rest : (of : Ace → Option ℕ) (from : ℕ) (so_far test : ℕ → Bool) (least : Option ℕ) (list : List Ace)
    → ((id : ℕ) → (so_far id || list_any (λ a. is_number_of (of a) id) list) ≡ test id)
    → IsLeastFrom from so_far least → IsLeastFrom from test (least_among of from least list)
least_of_rest of from so_far test least [] whole h =
    least_of_equal from so_far test least (λ id. sym (or_false_right (so_far id)) ∙ whole id) h
least_of_rest of from so_far test least (a ∷ list) whole h =
    least_of_rest of from (λ id. so_far id || is_number_of (of a) id) test (lesser_id from least (of a)) list
    (λ id. or_regroup (so_far id) (is_number_of (of a) id) (list_any (λ x. is_number_of (of x) id) list) ∙ whole id)
    (least_with from so_far least (of a) h)

-- the least number of the ACEs of a list
pub least_is : (of : Ace → Option ℕ) (from : ℕ) (list : List Ace)
    → IsLeastFrom from (λ id. list_any (λ a. is_number_of (of a) id) list) (least_among of from None list)
least_is of from list =
    least_of_rest of from (λ id. false) (λ id. list_any (λ a. is_number_of (of a) id) list) None list (λ id. refl)
    (λ id le. refl)

-- one more ACE
pub least_more : (of : Ace → Option ℕ) (from : ℕ) (least next found : Option ℕ) (a : Ace) (list rest : List Ace)
    (whole : Option ℕ) → list ≡ a ∷ rest → found ≡ of a → next ≡ lesser_id from least found
    → least_among of from least list ≡ whole → least_among of from next rest ≡ whole
least_more of from least next found a list rest whole split is lesser_is before =
    ap (λ (o : Option ℕ). least_among of from o rest) (lesser_is ∙ ap (λ (o : Option ℕ). lesser_id from least o) is)
    ∙ (ap (λ (l : List Ace). least_among of from least l) (sym split) ∙ before)

-- what the least so far is, after the last ACE
pub least_at_end : (of : Ace → Option ℕ) (from : ℕ) (least : Option ℕ) (list rest : List Ace) → rest ≡ []
    → least_among of from least rest ≡ least_among of from None list
    → IsLeastFrom from (λ id. list_any (λ a. is_number_of (of a) id) list) least
least_at_end of from least list rest none so_far =
    subst (IsLeastFrom from (λ id. list_any (λ a. is_number_of (of a) id) list))
    (sym so_far ∙ ap (λ (l : List Ace). least_among of from least l) none) (least_is of from list)

-- ---- how many numbers

-- below 0 there are none
pub none_below : (test : ℕ → Bool) → AreBelow test 0 0
none_below test = record {
  all = [];
  once = tt;
  below = λ id less. absurd (omega (arith, less));
  above = λ id le. refl;
  many = refl;
}

-- the least number from the bound on is one more
pub one_more_below : (test : ℕ → Bool) (bound count least : ℕ) → AreBelow test bound count
    → IsLeastFrom bound test (Some least) → AreBelow test (least + 1) (count + 1)
one_more_below test bound count least b h = record {
  all = least ∷ b.all;
  once = (b.above least h.within, b.once);
  below = λ id less. elim (cases_lt id bound) [
    | inl low ↦
        let le = h.within in
        ap (λ (s : Bool). s || is_member id b.all) (ne_eqb least id (λ same. absurd (omega (arith, low, le, same))))
        ∙ b.below id low
    | inr high ↦ elim (cases_lt id least) [
      | inl lower ↦
          neither (least == id) (is_member id b.all)
          (ne_eqb least id (λ same. absurd (omega (arith, lower, same)))) (b.above id high)
          ∙ sym (h.lower id high lower)
      | inr upper ↦
          let same : least ≡ id = omega (arith, upper, less) in
          ap (λ (s : Bool). s || is_member id b.all) (eq-eqb least id same)
          ∙ (sym h.passes ∙ ap test same)
    ]
  ];
  above = λ id le. let from = h.within in
      neither (least == id) (is_member id b.all) (ne_eqb least id (λ same. absurd (omega (arith, le, same))))
      (b.above id (omega (arith, le, from)));
  many = let many = b.many in omega (arith, many);
}

-- if there is none from the bound on, these are all
pub all_below : (test : ℕ → Bool) (bound count : ℕ) → AreBelow test bound count → IsLeastFrom bound test None
    → IsCountOfIds test count
all_below test bound count b h = record {
  all = b.all;
  just = record {
    members = λ id. elim (cases_lt id bound) [
      | inl low ↦ b.below id low
      | inr high ↦ b.above id high ∙ sym (h id high)
    ];
    once = b.once;
  };
  many = b.many;
}

-- a number that is among those below the bound passes the test
pub among_below : (test : ℕ → Bool) (bound count : ℕ) (b : AreBelow test bound count) (id : ℕ)
    → (is_member id b.all || test id) ≡ test id
among_below test bound count b id = elim (cases_lt id bound) [
  | inl low ↦ ap (λ (s : Bool). s || test id) (b.below id low) ∙ or_twice (test id)
  | inr high ↦ ap (λ (s : Bool). s || test id) (b.above id high)
]

-- if they are more than a bound, all are
pub more_below : (most : ℕ) (of : Ace → Option ℕ) (list : List Ace) (bound count : ℕ)
    → AreBelow (λ id. list_any (λ a. is_number_of (of a) id) list) bound count → most < count
    → AreMore most (λ id. list_any (λ a. is_number_of (of a) id) list)
more_below most of list bound count b above =
    let test = λ (id : ℕ). list_any (λ a. is_number_of (of a) id) list in
    let just = all_just of b.all list b.once in
    let longer = grow of b.all list in
    let many = b.many in record {
      all = with_numbers of b.all list;
      just = record { members = λ id. just.members id ∙ among_below test bound count b id; once = just.once };
      more = omega (arith, many, longer, above);
    }

-- ---- users and groups

-- where the users are counted and the groups are not, the names are more than the bound
pub more_if_not_counted : (table : Table) (list : List Ace) (most users left : ℕ)
    → IsCountOfIds (names_user table list) users → users ≤ most → left ≡ most - users → (groups : Option ℕ)
    → (groups ≡ None → AreMore left (names_group table list)) → (none : Bool) → is_some groups ≡ not none
    → none ≡ true → AreMoreNames most table list
more_if_not_counted table list most users left u within is None g none some e =
    let many = u.many in
    more_groups table list most left u.all u.just (omega (arith, many, within)) (omega (arith, many, is)) (g refl)
more_if_not_counted table list most users left u within is (Some groups) g none some e =
    absurd (true≢false (some ∙ ap not e))

-- where both are counted, the names are at most the bound
pub few_if_counted : (table : Table) (list : List Ace) (most users left : ℕ)
    → IsCountOfIds (names_user table list) users → users ≤ most → left ≡ most - users → (groups : Option ℕ)
    → IfSome groups (IsCountOfIds (names_group table list)) → IfSome groups (λ count. count ≤ left) → (none : Bool)
    → is_some groups ≡ not none → none ≡ false → AreFewNames most table list
few_if_counted table list most users left u within is None g rest none some e =
    absurd (true≢false (sym (some ∙ ap not e)))
few_if_counted table list most users left u within is (Some groups) g rest none some e =
    let one = u.many in
    let two = g.many in record {
      named = record { users = u.all; groups = g.all };
      names = names_are table list u.all g.all u.just g.just;
      few = omega (arith, one, two, within, is, rest);
    }
