-- The fields of an ACE that is pulled from a source, one after the other.
use Rattle.acl_nfs4.proofs.Common.{[], Consumes, drop, Err, Fault, from_flags, from_len, from_padding, Gives, HasKindAndFlags, HasWords, IsDrawn, IsFilled, IsHalted, IsLacking, Kind, kind_of, List, Mask, mask_of, number, Ok, Option, pad_len, padding_of, Placed, Profile, Reason, refl, Result, take, who_of, ℕ, ◌++◌, ◌+◌, ◌≡◌}
use Rattle.acl_nfs4.specs.declared.xdr.pulling.Words.{Words}
use Rattle.acl_nfs4.proofs.xdr.OneFault.{mask_never, padding_never, who_never}
use Rattle.acl_nfs4.proofs.xdr.FromSource.{placed_value, none_drawn, field_drawn, field_lacks, field_refused, word_drawn, word_lacks, word_refused}

-- if the first word is accepted, the source gave the kind
pub kind_drawn : (p : Profile) (weight offset : ℕ) {old left : Option (List ℕ)} {before after x : ℕ} (room : List ℕ)
    {new : List ℕ} (at : ℕ) (judged : Result Kind Reason) (k : Kind)
    (a : (bytes : List ℕ) × Consumes old left bytes × (IsFilled 0 4 room new bytes before after × (number bytes ≡ x)))
    → Placed at judged (Ok k) → Gives (λ z. z) judged (kind_of x)
    → IsDrawn p weight (from_flags p weight k) offset 4 old left before after new ([] ++ a.0)
kind_drawn p weight offset room at judged k a placed gives =
    word_drawn at (λ z. z) judged kind_of (from_flags p weight) (none_drawn room) a gives k placed

-- the mask, if the source gave the kind and the flags
module _ {p : Profile} {weight offset : ℕ} {old here left : Option (List ℕ)} {before mid after : ℕ} {room : List ℕ}
    (w : HasKindAndFlags p weight offset old here before mid room) where
  -- if the source ends or fails inside the mask, the decoder stops there
  pub mask_lacks : {at : ℕ} {f : Fault} → (a : (bytes : List ℕ) × Consumes here left bytes
      × IsLacking at 4 bytes left mid after f) → at ≡ offset + 8 → IsHalted p weight offset old left before after f
  mask_lacks a where_at = word_lacks (mask_of p weight) (from_len w.kind w.flags) w.drawn a where_at

  -- if the judge refuses the mask, the decoder stops after it
  pub mask_refused : {at x : ℕ} {new : List ℕ} {f : Fault} (judged : Result Mask Reason)
      → (a : (bytes : List ℕ) × Consumes here left bytes × (IsFilled 8 4 room new bytes mid after × (number bytes ≡ x)))
      → Gives (λ z. z.bits) judged (mask_of p weight x) → Placed at judged (Err f) → at ≡ offset + 8
      → IsHalted p weight offset old left before after f
  mask_refused {at} judged a gives placed where_at = word_refused at (λ z. z.bits) judged (mask_of p weight)
      (from_len w.kind w.flags) w.drawn a gives placed where_at (mask_never p weight)

  -- if the mask is accepted, the source gave the mask too
  pub mask_drawn : {x : ℕ} {new : List ℕ} (at : ℕ) (judged : Result Mask Reason) (m : Mask)
      (a : (bytes : List ℕ) × Consumes here left bytes × (IsFilled 8 4 room new bytes mid after × (number bytes ≡ x)))
      → Placed at judged (Ok m) → Gives (λ z. z.bits) judged (mask_of p weight x)
      → IsDrawn p weight (from_len w.kind w.flags m.bits) offset 12 old left before after new (w.given ++ a.0)
  mask_drawn at judged m a placed gives =
      word_drawn at (λ z. z.bits) judged (mask_of p weight) (from_len w.kind w.flags) w.drawn a gives m placed

-- the who, if the source gave the four words
module _ {p : Profile} {weight offset : ℕ} {old here left : Option (List ℕ)} {before mid after : ℕ} {room : List ℕ}
    {x : Words} (w : HasWords p weight offset old here before mid room x) where
  -- if the source ends or fails inside the who, the decoder stops there
  pub who_lacks : {at size : ℕ} {f : Fault} → (a : (bytes : List ℕ) × Consumes here left bytes
      × IsLacking at size bytes left mid after f)
      → size ≡ x.len → at ≡ offset + 16 → IsHalted p weight offset old left before after f
  who_lacks a same where_at =
      field_lacks x.len who_of (from_padding w.kind w.flags w.mask x.len) w.drawn a same where_at

  -- if the judge refuses the who, the decoder stops after it
  pub who_refused : {at size : ℕ} {new : List ℕ} {f : Fault} {X : Type 0} (view : X → List ℕ)
      (judged : Result X Reason)
      → (a : (bytes : List ℕ) × Consumes here left bytes × IsFilled 16 size room new bytes mid after)
      → size ≡ x.len → Placed at judged (Err f) → Gives view judged (who_of (take size (drop 16 new)))
      → at ≡ offset + 16 → IsHalted p weight offset old left before after f
  who_refused view judged a same placed gives where_at =
      field_refused x.len who_of (from_padding w.kind w.flags w.mask x.len) w.drawn view judged a same placed
      (rw a.2.behind at gives) where_at who_never

  -- if the who is accepted, the source gave the who too
  pub who_drawn : {size : ℕ} {new : List ℕ} {X : Type 0} (at : ℕ) (view : X → List ℕ) (judged : Result X Reason)
      (who : X) (a : (bytes : List ℕ) × Consumes here left bytes × IsFilled 16 size room new bytes mid after)
      → size ≡ x.len → Placed at judged (Ok who) → Gives view judged (who_of (take size (drop 16 new)))
      → IsDrawn p weight (from_padding w.kind w.flags w.mask x.len (view who)) offset (16 + x.len) old left before
      after new (w.given ++ a.0)
  who_drawn at view judged who a same placed gives =
      field_drawn x.len who_of (from_padding w.kind w.flags w.mask x.len) w.drawn (view who) a same refl
      (placed_value view at judged _ who placed (rw a.2.behind at gives))

-- the padding, if the source gave the four words and the who
module _ {p : Profile} {weight offset : ℕ} {old there here left : Option (List ℕ)} {before late mid after : ℕ}
    {first room given : List ℕ} {x : Words} (w : HasWords p weight offset old there before late first x) (who : List ℕ)
    (d : IsDrawn p weight (from_padding w.kind w.flags w.mask x.len who) offset (16 + x.len) old here before mid room
    given) where
  -- if the source ends or fails inside the padding, the decoder stops there
  pub padding_lacks : {at size : ℕ} {f : Fault} → (b : (bytes : List ℕ) × Consumes here left bytes
      × IsLacking at size bytes left mid after f)
      → size ≡ pad_len x.len → at ≡ offset + (16 + x.len) → IsHalted p weight offset old left before after f
  padding_lacks b same where_at = field_lacks (pad_len x.len) padding_of
      (λ z at. Ok (record { kind = w.kind; flags = w.flags; mask = w.mask; who = who }, at)) d b same where_at

  -- if the judge refuses the padding, the decoder stops after it
  pub padding_refused : {at size : ℕ} {new : List ℕ} {f : Fault} (judged : Result (Unit {0}) Reason)
      → (b : (bytes : List ℕ) × Consumes here left bytes × IsFilled (16 + x.len) size room new bytes mid after)
      → size ≡ pad_len x.len → Placed at judged (Err f)
      → Gives (λ z. z) judged (padding_of (take size (drop (16 + x.len) new))) → at ≡ offset + (16 + x.len)
      → IsHalted p weight offset old left before after f
  padding_refused judged b same placed gives where_at = field_refused (pad_len x.len) padding_of
      (λ z at. Ok (record { kind = w.kind; flags = w.flags; mask = w.mask; who = who }, at)) d (λ z. z) judged b same
      placed (rw b.2.behind at gives) where_at padding_never

  -- if the padding is accepted, the source gave the whole ACE
  pub padding_drawn : {size more : ℕ} {new : List ℕ} (at : ℕ) (judged : Result (Unit {0}) Reason) (z : Unit {0})
      → (b : (bytes : List ℕ) × Consumes here left bytes × IsFilled (16 + x.len) size room new bytes mid after)
      → size ≡ pad_len x.len → more ≡ 16 + x.len + pad_len x.len → Placed at judged (Ok z)
      → Gives (λ z. z) judged (padding_of (take size (drop (16 + x.len) new)))
      → IsDrawn p weight (λ at. Ok (record { kind = w.kind; flags = w.flags; mask = w.mask; who = who }, at)) offset
      more old left before after new (given ++ b.0)
  padding_drawn at judged z b same end placed gives = field_drawn (pad_len x.len) padding_of
      (λ z at. Ok (record { kind = w.kind; flags = w.flags; mask = w.mask; who = who }, at)) d z b same end
      (placed_value (λ z. z) at judged _ z placed (rw b.2.behind at gives))
