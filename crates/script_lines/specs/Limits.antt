-- The limits of what a line lends to a call.
use Rattle.std.specs.Prelude.{ℕ}

-- the largest number of 64 bits
abbrev pub most64 : ℕ
most64 = 18446744073709551615

-- the most cells that are lent
abbrev pub cells_most : ℕ
cells_most = 66560

-- the most octets of a packet or of HNA entries, of an output, and of a burst's buffer; the most rows of the list call and of a burst
abbrev pub packet_most : ℕ
packet_most = 2000

abbrev pub output_most : ℕ
output_most = 16384

abbrev pub buffer_most : ℕ
buffer_most = 16384

abbrev pub list_rows_most : ℕ
list_rows_most = 16

abbrev pub burst_rows_most : ℕ
burst_rows_most = 40
