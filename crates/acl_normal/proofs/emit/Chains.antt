-- Chains of links: what a link is followed by, and a new link in front of a chain.
use Rattle.acl_normal.proofs.Common.{[], ap, arith, length, List, refl, slice_index_or, subst, suc, sym, zero, ℕ, ◌++◌, ◌<◌, ◌∙◌, ◌∷◌, ◌≡◌, ◌≢◌, get_or_default, length-append}
use Rattle.acl_normal.specs.internal.emit.Queues.{IsChain, link_in}
use Rattle.acl_normal.specs.declared.emit.queues.Link.{Link}

-- an earlier link is where it was when one more comes
link_before : (links : List Link) (l : Link) (at : ℕ) → at < length links
    → link_in (links ++ l ∷ []) at ≡ link_in links at
link_before [] l at h = absurd (omega (arith, h))
link_before (x ∷ links) l zero h = refl
link_before (x ∷ links) l (suc at) h = link_before links l at (omega (arith, h))

-- a link that comes after all others has their number
link_last : (links : List Link) (l : Link) → link_in (links ++ l ∷ []) (length links) ≡ l
link_last [] l = refl
link_last (x ∷ links) l = link_last links l

-- a chain begins with one of the links
pub chain_within : (links : List Link) (at : ℕ) (places : List ℕ) → 0 < length links → IsChain links at places
    → at < length links
chain_within links at [] some chain = omega (arith, some, chain)
chain_within links at (place ∷ places) some chain = chain.0.within

-- a chain stays one when a link comes after all others
pub chain_grows : (links : List Link) (l : Link) (at : ℕ) (places : List ℕ) → IsChain links at places
    → IsChain (links ++ l ∷ []) at places
chain_grows links l at [] chain = chain
chain_grows links l at (place ∷ places) (link, rest) =
    let same = link_before links l at link.within in (
      record {
        some = link.some;
        within = omega (arith, link.within, length-append links (l ∷ []));
        is = ap (λ v. v.place) same ∙ link.is;
        falls = subst (λ v. v.next < at) (sym same) link.falls;
      },
      subst (λ v. IsChain (links ++ l ∷ []) v.next places) (sym same)
          (chain_grows links l (link_in links at).next places rest),
    )

-- a new link with a place, whose next link begins a chain, begins that chain with the place in front
pub chain_put : (links : List Link) (place next : ℕ) (places : List ℕ) → 0 < length links → IsChain links next places
    → IsChain (links ++ record { place = place; next = next } ∷ []) (length links) (place ∷ places)
chain_put links place next places some chain =
    let l : Link = record { place = place; next = next } in
    let last = link_last links l in (
      record {
        some = some;
        within = omega (arith, length-append links (l ∷ []));
        is = ap (λ v. v.place) last;
        falls = subst (λ v. v.next < length links) (sym last) (chain_within links next places some chain);
      },
      subst (λ v. IsChain (links ++ l ∷ []) v.next places) (sym last) (chain_grows links l next places chain),
    )

-- a chain that has not ended: its first link, and the rest
pub record Goes (links : List Link) (at : ℕ) (places : List ℕ) : Type 0 where
  pub rest : List ℕ
  pub is : places ≡ (link_in links at).place ∷ rest
  pub within : at < length links
  pub falls : (link_in links at).next < at
  pub chain : IsChain links (link_in links at).next rest

-- a chain that has not ended continues with its link
pub chain_goes : (links : List Link) (at : ℕ) (places : List ℕ) → IsChain links at places → at ≢ 0
    → Goes links at places
chain_goes links at [] chain some = absurd (some chain)
chain_goes links at (place ∷ places) (link, rest) some = record {
  rest = places;
  is = ap (λ v. v ∷ places) (sym link.is);
  within = link.within;
  falls = link.falls;
  chain = rest;
}

-- the link that indexing gives in a chain that has not ended is the link of that number
pub link_there : (links : List Link) (at : ℕ) (places : List ℕ) (d l : Link) → IsChain links at places → at ≢ 0
    → l ≡ slice_index_or links at d → l ≡ link_in links at
link_there links at places d l chain some e =
    e ∙ get_or_default links at d (record { place = 0; next = 0 }) (chain_goes links at places chain some).within

-- a chain that has not ended, by the link that indexing gives
pub record Step (links : List Link) (at : ℕ) (places : List ℕ) (l : Link) : Type 0 where
  pub rest : List ℕ
  pub is : places ≡ l.place ∷ rest
  pub falls : l.next < at
  pub chain : IsChain links l.next rest

-- a chain that has not ended continues with the link that indexing gives
pub chain_step : (links : List Link) (at : ℕ) (places : List ℕ) (d l : Link) → IsChain links at places → at ≢ 0
    → l ≡ slice_index_or links at d → Step links at places l
chain_step links at places d l chain some e =
    let goes = chain_goes links at places chain some in
    let same = link_there links at places d l chain some e in
    record {
      rest = goes.rest;
      is = subst (λ v. places ≡ v.place ∷ goes.rest) (sym same) goes.is;
      falls = subst (λ v. v.next < at) (sym same) goes.falls;
      chain = subst (λ v. IsChain links v.next goes.rest) (sym same) goes.chain;
    }

-- a chain that has ended has no place
pub chain_ends : (links : List Link) (at : ℕ) (places : List ℕ) → IsChain links at places → at ≡ 0 → places ≡ []
chain_ends links at [] chain none = refl
chain_ends links at (place ∷ places) (link, rest) none = absurd (omega (arith, link.some, none))
