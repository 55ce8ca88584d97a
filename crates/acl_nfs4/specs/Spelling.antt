-- The one spelling of a list of ACEs as XDR (RFC 4506, sections 4.2, 4.10 and 4.13, over the types of RFC 8881, section
-- 6.2.1), and which lists have one.
use Rattle.std.specs.Prelude.{◌≡◌, ℕ, ◌+◌, ◌-◌, ◌*◌, ◌%◌, ◌^◌, ◌≤◌, List, ◌++◌, length, replicate, count_ones, sum_by}
use Rattle.std.specs.List.{flat_map, AllByRecursion}
use Rattle.std.specs.Int.{w32, to_be_bytes}
use Rattle.acl_perm.specs.Kind.{kind_number}
use Rattle.acl_perm.specs.Profile.{Profile}
use Rattle.acl_nfs4.specs.Ace.{Ace}
use Rattle.acl_nfs4.specs.Limits.{longest_who, most_aces, most_weight}
use Rattle.acl_nfs4.specs.Who.{IsWho}
use Rattle.acl_nfs4.specs.Within.{IsWithin}

-- how many bytes a word has
abbrev pub word_size : ℕ
word_size = 4

-- each number that a word spells is below this
abbrev pub word_limit : ℕ
word_limit = 2 ^ 32

-- an unsigned word: four bytes, the most significant first
abbrev pub word : ℕ → List ℕ
word n = to_be_bytes w32 n

-- the least number of bytes that make a length of n a multiple of four
abbrev pub pad_len : ℕ → ℕ
pad_len n = (4 - n % 4) % 4

-- the bytes of an ACE: the words of its kind, flags, mask and who's length, the who, and zero bytes up to a multiple
-- of four
abbrev pub piece : Ace → List ℕ
piece a = word (kind_number a.kind) ++ word a.flags ++ word a.mask ++ word (length a.who) ++ a.who
    ++ replicate (pad_len (length a.who)) 0

-- the greatest number of bytes in an ACE: four words, and a who of the greatest length, which has no padding
abbrev pub longest_ace : ℕ
longest_ace = 4 * word_size + longest_who

-- the bytes of a list: the word of its length, and the bytes of its ACEs in order
abbrev pub spelling : List Ace → List ℕ
spelling list = word (length list) ++ flat_map piece list

-- the flags and the mask are within the profile, and the who is valid
pub record IsAce (p : Profile) (a : Ace) : Type 0 where
  pub flags : IsWithin p.flags a.flags
  pub mask : IsWithin p.masks a.mask
  pub who : IsWho a.who

-- the number of mask bits that are set, over all ACEs
abbrev pub weight : List Ace → ℕ
weight list = sum_by (λ a. count_ones a.mask) list

-- a list within the profile and the limits of this library
pub record IsAccepted (p : Profile) (list : List Ace) : Type 0 where
  pub count : length list ≤ most_aces
  pub weight : weight list ≤ most_weight
  pub each : AllByRecursion (IsAce p) list

-- the list is accepted, and the bytes are its spelling
pub record Xdr (p : Profile) (list : List Ace) (bytes : List ℕ) : Type 0 where
  pub accepted : IsAccepted p list
  pub spelled : bytes ≡ spelling list

-- every word of flags and every mask is within the profile
abbrev pub Fits : Profile → List Ace → Type 0
Fits p list = AllByRecursion (λ a. IsWithin p.flags a.flags × IsWithin p.masks a.mask) list
