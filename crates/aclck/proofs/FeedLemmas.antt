-- What a feed has read of an input that comes in pulls, and why it was not read to the end of a value.
use Rattle.std.proofs.Common.{◌≡◌, ◌⊎◌, ◌++◌, ◌+◌, ◌^◌, ◌<◌, ◌≤◌, ℕ, List, [], length, drop, Option, Result, Ok, Err, refl, ap, arith}
use Rattle.std.specs.Prelude.{IfErr, IfOk}
use Rattle.std.specs.Io.KnownBytes.{Consumes, IsAtEnd}
use Rattle.std.proofs.KnownBytes.{Consumes-nil, Consumes-trans}
use Rattle.std.proofs.lemmas.List.{append-nil, length-append}
use Rattle.acl_perm.specs.Profile.{Profile}
use Rattle.acl_nfs4.specs.Within.{IsProfile}
use Rattle.acl_nfs4.specs.Stream.{Feeds, FinishesStream, IsCutShort, StreamState}
use Rattle.acl_nfs4.specs.Stream.StreamState.{more}
use Rattle.acl_nfs4.specs.internal.Progress.{IsBytes}
use Rattle.acl_nfs4.specs.declared.feed.fed.Fed.TheVariants.{Done, More, Refused}
use Rattle.acl_nfs4.specs.declared.xdr.fault.Fault.{Fault}
use Rattle.acl_nfs4.proofs.Exports.{bytes_append, nothing_cut}
use Rattle.aclck.specs.ListInput.{piece_len}
use Rattle.aclck.specs.internal.Reading.{IsReaderFault, FitsOneValue, ReadsNone, ReadsValue}
use Rattle.aclck.specs.declared.input.xdr.ListFault.{ListFault}
use Rattle.aclck.specs.declared.input.xdr.ListFault.TheVariants as unread
use Rattle.aclck.specs.declared.input.xdr.Value.{Value}
use Rattle.aclck.proofs.ListInputLemmas.{cut_short, done_none, done_reads, end_reads, next_parts, refused_reads, short_value}

-- the feed has taken what was left of an earlier pull and what came since, except for what is left of the last pull
pub record IsFed (p : Profile) (left pulled : List ℕ) (old new : Option (List ℕ)) (feed : StreamState) (fed : ℕ)
    : Type 0 where
  pub given : List ℕ
  pub text : List ℕ
  pub is_more : feed ≡ more p text
  pub parts : left ++ given ≡ text ++ pulled
  pub taken : Consumes old new given
  pub is_fed : fed ≡ length text
  pub cut : IsCutShort p text
  pub bytes : IsBytes text

-- why a finished feed gives no value
abbrev pub FinishesNot : StreamState → Result Value ListFault → Type 0
FinishesNot feed r =
    IfErr r (λ e. (e ≡ unread.Memory) ⊎ ((f : Fault) × (e ≡ unread.Refused f) × FinishesStream feed (Err f)))

-- a new feed has taken nothing
pub fed_nothing : (p : Profile) (left : List ℕ) (known : Option (List ℕ)) (feed : StreamState) → feed ≡ more p []
    → IsFed p left left known known feed 0
fed_nothing p left known feed is = record {
  given = [];
  text = [];
  is_more = is;
  parts = append-nil left;
  taken = Consumes-nil known;
  is_fed = refl;
  cut = nothing_cut p;
  bytes = λ i. omega arith;
}

-- what a feed has taken and the last pull are short
pub fed_short : {p : Profile} {left pulled : List ℕ} {old new : Option (List ℕ)} {feed : StreamState} {fed : ℕ}
    → IsFed p left pulled old new feed fed → length pulled ≤ piece_len → fed + length pulled < 2 ^ 33
fed_short h short = omega (arith, cut_short _ _ h.cut, h.is_fed, short)

-- a feed that asks for more has taken the whole last pull
pub fed_more : {p : Profile} {left pulled pull new_pulled : List ℕ} {old mid new : Option (List ℕ)}
    {feed feed_after : StreamState} {fed fed_after : ℕ} → IsFed p left pulled old mid feed fed → pull ≡ pulled
    → IsBytes pull → Feeds feed pull More feed_after → Consumes mid new new_pulled → fed_after ≡ fed + length pulled
    → IsFed p left new_pulled old new feed_after fed_after
fed_more {pull} {new_pulled} {old} {mid} {new} h same bytes feeds next is =
    let d = rw h.is_more at feeds in
    record {
      given = h.given ++ new_pulled;
      text = h.text ++ pull;
      is_more = d.0;
      parts = next_parts _ h.given h.text _ pull new_pulled h.parts same;
      taken = Consumes-trans old mid new h.given new_pulled h.taken next;
      is_fed = omega (arith, is, h.is_fed, length-append h.text pull, ap length same);
      cut = d.1;
      bytes = bytes_append h.text pull h.bytes bytes;
    }

-- the value of a feed that is done
pub fed_value : {p : Profile} {left pulled pull new_left : List ℕ} {old new : Option (List ℕ)} {feed : StreamState}
    {fed : ℕ} (feed_after : StreamState) (t : ℕ) → IsFed p left pulled old new feed fed → pull ≡ pulled
    → new_left ≡ drop t pulled → Feeds feed pull (Done t) feed_after → (r : Result Value ListFault)
    → IfOk r (λ v. (v.len ≡ fed + t) × FinishesStream feed_after (Ok v.list))
    → IfOk r (λ v. ReadsValue p left new_left old new v.list v.len)
fed_value {p} {left} {pulled} {pull} {new_left} {old} {new} {feed} {fed} feed_after t h same after feeds r is =
    let d = rw h.is_more at feeds in
    done_reads p left h.given h.text pulled pull new_left old new fed t feed_after d.0 r h.parts h.taken h.is_fed same
    after d.2 d.1 d.3 is

-- the value of a feed that is done is short
pub fed_short_value : {p : Profile} {left pulled pull new_left : List ℕ} {old new : Option (List ℕ)}
    {feed : StreamState} {fed : ℕ} (feed_after : StreamState) (t : ℕ) → IsFed p left pulled old new feed fed
    → pull ≡ pulled → new_left ≡ drop t pulled → Feeds feed pull (Done t) feed_after → (r : Result Value ListFault)
    → IfOk r (λ v. (v.len ≡ fed + t) × FinishesStream feed_after (Ok v.list)) → IfOk r (λ v. FitsOneValue v.len)
fed_short_value {p} {left} {new_left} {old} {new} feed_after t h same after feeds r is =
    short_value p left new_left old new r (fed_value feed_after t h same after feeds r is)

-- no value of a feed that is done, because memory ran out
pub fed_none : {p : Profile} {left pulled pull : List ℕ} {old new : Option (List ℕ)} {feed : StreamState} {fed : ℕ}
    (feed_after : StreamState) (t : ℕ) → IsFed p left pulled old new feed fed → pull ≡ pulled
    → length pulled ≤ piece_len → IsBytes pull → Feeds feed pull (Done t) feed_after
    → (r : Result Value ListFault) → FinishesNot feed_after r → IfErr r (λ e. ReadsNone p left old new e)
fed_none {p} {left} {pulled} {pull} {old} {new} {feed} {fed} feed_after t h same short bytes feeds r is =
    let d = rw h.is_more at feeds in
    done_none p left h.given h.text pulled pull old new t feed_after d.0 r h.parts h.taken same short d.1 d.3
    (bytes_append h.text pull h.bytes bytes) is

-- a feed that refuses the last pull
pub fed_refused : {p : Profile} {left pulled pull : List ℕ} {old new : Option (List ℕ)} {feed : StreamState} {fed : ℕ}
    {f : Fault} {e : ListFault} (feed_after : StreamState) → IsProfile p → IsFed p left pulled old new feed fed
    → pull ≡ pulled → length pulled ≤ piece_len → IsBytes pull → Feeds feed pull (Refused f) feed_after
    → IsReaderFault e f → ReadsNone p left old new e
fed_refused {p} {left} {pulled} {pull} {old} {new} {f} {e} feed_after ok h same short bytes feeds run_fault =
    let d = rw h.is_more at feeds in
    refused_reads p left h.given h.text pulled pull old new f e ok h.parts h.taken same short h.cut
    (bytes_append h.text pull h.bytes bytes) d.1 run_fault

-- a feed that asks for more at the end of the source
pub fed_end : {p : Profile} {left pulled pull new_pulled : List ℕ} {old mid : Option (List ℕ)} {feed : StreamState}
    {fed : ℕ} (new : Option (List ℕ)) (feed_after : StreamState) → IsFed p left pulled old mid feed fed
    → pull ≡ pulled → IsBytes pull → Feeds feed pull More feed_after → Consumes mid new new_pulled
    → (new_pulled ≡ []) × IsAtEnd new → (r : Result Value ListFault) → FinishesNot feed_after r
    → IfErr r (λ e. ReadsNone p left old new e)
fed_end {p} {left} {pulled} {pull} {new_pulled} {old} {mid} {feed} new feed_after h same bytes feeds next end r
    is =
    let d = rw h.is_more at feeds in
    end_reads p left h.given h.text pulled pull new_pulled old mid new feed_after r h.parts same h.taken next end.0
    end.1 d.0 d.1 (bytes_append h.text pull h.bytes bytes) is
