-- The laws of `specs/Laws.antt`. Assumes nothing.
use mathlib.Core.Path.{◌≡◌, refl, sym, ◌∙◌, ap}
use mathlib.Core.Bool.{Bool, true, false, cond, not}
use mathlib.Core.List.{List, [], ◌∷◌}
use mathlib.Core.Option.{none}
use Prim.Native.Nat.{ℕ, ◌+◌, ◌-◌, ◌*◌, ◌/◌, ◌%◌, ◌≤◌, ◌<◌}
use native.Mathlib.Nat.{mod-lt, mod-one, mod-eq_of_lt}
use native.Mathlib.Omega.{arith}
use borrow.Author.Tests.{le-ltb, eq-eqb}
use lib.Dec.{eqb}
use lib.ListN.{length, set, length-set}
use lib.Pow.{pow_pos, split}
use lib.Seq.{get_or-set_same, get_or-set_other, drop-set-lt}
use Rattle.wire.specs.declared.Header.{Header}
use Rattle.wire.specs.Layout.{header_size, entry_size, packet_most, mask_most, version_at, flags_at, ttl_at}
use Rattle.wire.specs.Packet.{octet, header, hna, header_octets, packet_of, is_u, is_d, unnamed}
use Rattle.wire.specs.Check.{entries, network, mask, first_breaking, bad_mask, host_bits, host_bits_set, hna_fault, packet_fault, written_fault}
use Rattle.wire.specs.PassOn.{flags_here, flags_elsewhere, passed_on}
use Rattle.wire.specs.Laws.{ReadsBack, Allowed, HostBits, Copy, Flags}
use Rattle.wire.proofs.Search.{nowhere}

-- ---- a written packet

two-octets : (n : ℕ) → n / 256 * 256 + n % 256 ≡ n
two-octets n = omega arith

four_octets : (n : ℕ) → (n / 65536 / 256 * 256 + n / 65536 % 256) * 65536 + (n % 65536 / 256 * 256 + n % 65536 % 256) ≡ n
four_octets n = omega arith

pub reads_back : (h : Header) (e : List ℕ) → ReadsBack h e
unfolding packet_of header_octets header packet_fault written_fault
reads_back h e =
    let n : length (packet_of h e) ≡ header_size + length e = omega arith in
    record {
      fields = rw (two-octets h.sequence, two-octets h.port, four_octets h.originator);
      octets = refl;
      size = n;
      check = rw (n, eq-eqb h.version h.version refl);
    }

-- ---- what may be written

no_remainder : (n : ℕ) → n ≡ entry_size * (n / entry_size) → n % entry_size ≡ 0
no_remainder n e = omega arith

-- where no entry breaks a rule, none is found
none_found : (breaks : List ℕ → ℕ → Bool) (e : List ℕ) → ((k : ℕ) → k < entries e → breaks e k ≡ false) → first_breaking breaks e ≡ none
unfolding first_breaking
none_found breaks e h = nowhere (breaks e) (entries e) h

pub allowed : (e : List ℕ) → Allowed e → written_fault e ≡ none
unfolding written_fault hna_fault
allowed e a =
    let masks : first_breaking bad_mask e ≡ none = none_found bad_mask e (λ k l. le-ltb mask_most (mask e k) (a.masks k l)) in
    let clean : first_breaking host_bits_set e ≡ none = none_found host_bits_set e (λ k l. ap not (eq-eqb (host_bits (network e k) (mask e k)) 0 (a.clean k l))) in
    rw (le-ltb (header_size + length e) header_size (omega arith), le-ltb packet_most (header_size + length e) a.few, eq-eqb (length e % entry_size) 0 (no_remainder (length e) a.whole), masks, clean)

-- ---- host bits

pub host_bits_lem : (n m : ℕ) → HostBits n m
host_bits_lem n m =
    record {
      joined = sym (split n (mask_most - m));
      low = mod-lt n (pow_pos (mask_most - m));
      mask32 = mod-one n;
      mask0 = λ h. mod-eq_of_lt h;
    }

-- ---- a passed-on copy

module _ (flags : ℕ) (p : List ℕ) where
  size : length (passed_on flags p) ≡ length p
  unfolding passed_on
  size = simp length-set

  rest : (k : ℕ) → (k ≡ flags_at → ⊥) → (k ≡ ttl_at → ⊥) → octet (passed_on flags p) k ≡ octet p k
  unfolding passed_on
  rest k a b = get_or-set_other (set p flags_at flags) ttl_at k _ 0 b ∙ get_or-set_other p flags_at k flags 0 a

  hna-kept : hna (passed_on flags p) ≡ hna p
  unfolding passed_on
  hna-kept = drop-set-lt header_size (set p flags_at flags) ttl_at _ (omega arith) ∙ drop-set-lt header_size p flags_at flags (omega arith)

  flag : flags_at < length p → octet (passed_on flags p) flags_at ≡ flags
  unfolding passed_on
  flag h = get_or-set_other (set p flags_at flags) ttl_at flags_at _ 0 (λ e. omega arith) ∙ get_or-set_same p flags_at flags 0 h

-- past the end there is nothing to store, and 0 less one is 0
ttl_falls : (flags : ℕ) (p : List ℕ) → octet (passed_on flags p) ttl_at ≡ octet p ttl_at - 1
unfolding passed_on
ttl_falls flags (a ∷ b ∷ c ∷ q) = refl
ttl_falls flags [] = refl
ttl_falls flags (a ∷ []) = refl
ttl_falls flags (a ∷ b ∷ []) = refl

pub copy : (flags : ℕ) (p : List ℕ) → Copy flags p
unfolding packet_fault
copy flags p =
    record {
      size = size flags p;
      flag = flag flags p;
      ttl = ttl_falls flags p;
      rest = rest flags p;
      check = λ v. rw (size flags p, rest flags p version_at (λ e. omega arith) (λ e. omega arith), hna-kept flags p);
    }

-- ---- the flags octet

-- a bit as a number
abbrev digit : Bool → ℕ
digit b = cond b 1 0

digit_test : (b : Bool) → eqb (digit b) 1 ≡ b
digit_test true = refl
digit_test false = refl

digit_most : (b : Bool) → digit b ≤ 1
digit_most true = omega arith
digit_most false = omega arith

-- an octet is its two named bits and the rest
module _ (u d : Bool) (r : ℕ) where
  abbrev joined : ℕ
  joined = digit u * 128 + digit d * 64 + r % 64

  u_part : is_u joined ≡ u
  unfolding is_u
  u_part =
      let e : joined / 128 % 2 ≡ digit u = omega (arith, digit_most u, digit_most d) in
      ap (λ (n : ℕ). eqb n 1) e ∙ digit_test u

  d_part : is_d joined ≡ d
  unfolding is_d
  d_part =
      let e : joined / 64 % 2 ≡ digit d = omega (arith, digit_most u, digit_most d) in
      ap (λ (n : ℕ). eqb n 1) e ∙ digit_test d

  rest_part : unnamed joined ≡ unnamed r
  unfolding unnamed
  rest_part = omega arith

  is_octet_lem : joined < 256
  is_octet_lem = omega (arith, digit_most u, digit_most d)

here_joined : (direct bidirectional : Bool) (flags : ℕ) → flags_here direct bidirectional flags ≡ joined (not bidirectional) direct flags
unfolding flags_here unnamed
here_joined true true flags = refl
here_joined true false flags = refl
here_joined false true flags = refl
here_joined false false flags = refl

elsewhere-joined : (flags : ℕ) → flags_elsewhere flags ≡ joined false false flags
unfolding flags_elsewhere unnamed
elsewhere-joined flags = omega arith

pub flags-octet : (direct bidirectional : Bool) (flags : ℕ) → Flags direct bidirectional flags
flags-octet direct bidirectional flags =
    let h = here_joined direct bidirectional flags in
    let e = elsewhere-joined flags in
    let u : Bool = not bidirectional in
    record {
      here_u = ap is_u h ∙ u_part u direct flags;
      here_d = ap is_d h ∙ d_part u direct flags;
      here_rest = ap unnamed h ∙ rest_part u direct flags;
      here_octet = rw h (is_octet_lem u direct flags);
      elsewhere-u = ap is_u e ∙ u_part false false flags;
      elsewhere-d = ap is_d e ∙ d_part false false flags;
      elsewhere-rest = ap unnamed e ∙ rest_part false false flags;
    }
