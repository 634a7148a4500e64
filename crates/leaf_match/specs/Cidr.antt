-- Address prefixes (RFC 4632, section 3.1; RFC 4291, section 2.3).
use Rattle.std.specs.Prelude.{◌≡◌, ℕ, ◌-◌, ◌/◌, ◌^◌, ◌<◌, ◌≤◌, List, ◌++◌, length, slice_index, codes, decimal, Contains}
use Rattle.std.specs.Net.Addr.{ipv4_bits, ipv6_bits}
use Rattle.std.specs.Net.Grammar.{IsIpv4Text, IsIpv6Text}
use Rattle.std.specs.declared.net.ipv4_addr.Ipv4Addr.{Ipv4Addr}
use Rattle.std.specs.declared.net.ipv6_addr.Ipv6Addr.{Ipv6Addr}
use Rattle.leaf_match.specs.declared.address.Family.{Family}
use Rattle.leaf_match.specs.declared.address.Family.TheVariants.{V4, V6}

-- The bits of an address: 32 for IPv4, 128 for IPv6.
-- Shown by: text_tests test_leaf_match.rt: a_prefix_shows_its_parts.
abbrev pub width_of : Family → ℕ
width_of V4 = 32
width_of V6 = 128

-- the byte of `.`
abbrev pub dot : ℕ
dot = 46

-- The text is an address with these bits, by std's grammar. IPv4: four decimal numbers below 256 without leading zeros (RFC 4632, section
-- 3.1). IPv6: groups of one to four hexadecimal digits with at most one `::` for zeros (RFC 4291, section 2.2, forms 1 and 2). A text of
-- form 3, which ends in dotted decimals, is no address here.
-- Shown by: text_tests test_leaf_match.rt: a_prefix_shows_its_parts.
abbrev pub IsAddressText : Family → List ℕ → ℕ → Type 0
IsAddressText V4 text bits =
    (address : Ipv4Addr) × IsIpv4Text text address × (bits ≡ ipv4_bits address)
IsAddressText V6 text bits =
    (address : Ipv6Addr) × IsIpv6Text text address × ¬ (Contains text dot)
    × (bits ≡ ipv6_bits address)

-- The first bits of an address, as many as the length, as a number.
-- Shown by: text_tests test_leaf_match.rt: a_prefix_shows_its_parts.
abbrev pub leading_bits : Family → ℕ → ℕ → ℕ
leading_bits family length bits = bits / 2 ^ (width_of family - length)

-- A family, a length and the first bits. Contracts see a `Cidr` by it.
-- Shown by: text_tests test_leaf_match.rt: a_prefix_shows_its_parts.
pub record Prefix : Type 0 where
  pub family : Family
  pub first_bits : ℕ
  pub length : ℕ

-- The text is an address, `/`, and a length of at most 32 or 128 without leading zeros; the prefix has the address's family, that length
-- and the address's first bits. `10.0.0.0/33` is no prefix.
-- Shown by: text_tests test_leaf_match.rt: a_prefix_shows_its_parts.
abbrev pub IsPrefixText : List ℕ → Prefix → Type 0
IsPrefixText text prefix =
    (address : List ℕ) × (bits : ℕ) × (text ≡ address ++ (codes "/" ++ decimal prefix.length))
    × (prefix.length ≤ width_of prefix.family) × IsAddressText prefix.family address bits
    × (prefix.first_bits ≡ leading_bits prefix.family prefix.length bits)

-- The text is an address of the prefix's family with these first bits. `10.0.0.0/0` holds of `255.255.255.255`, and `10.0.0.0/8` neither of
-- `010.0.0.1` nor of `::`.
-- Shown by: text_tests test_leaf_match.rt: a_prefix_shows_its_parts.
abbrev pub Holds : Prefix → List ℕ → Type 0
Holds prefix text =
    (bits : ℕ) × IsAddressText prefix.family text bits
    × (leading_bits prefix.family prefix.length bits ≡ prefix.first_bits)

-- a decimal digit is first, and it is `0` only if nothing follows; no public clause names this
abbrev pub BeginsPlainly : List ℕ → Type 0
BeginsPlainly digits =
    (0 < length digits) × (48 ≤ slice_index digits 0) × (slice_index digits 0 ≤ 57)
    × (slice_index digits 0 ≡ 48 → length digits ≡ 1)
