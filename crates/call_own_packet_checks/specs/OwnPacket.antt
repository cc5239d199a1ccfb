-- An own packet's arguments by name, its refusals and its message, on the table that the cells hold.
use Rattle.std.specs.Prelude.{ℕ, List}
use Rattle.std.proofs.Math.Option.{Option}
use Rattle.wire.specs.declared.Fault.{Fault}
use Rattle.wire.specs.declared.Header.{Header}
use Rattle.rules.specs.Settings.{Config, interface_at}
use Rattle.rules.specs.Calls.{OwnArgs}
use Rattle.rules.specs.Rules.{own_fault, own_packet}
use Rattle.table_layout.specs.Cells.{decode}

abbrev pub args : (interface time ttl gateway port : ℕ) → (hna output : List ℕ) → OwnArgs
args i t ttl g p e o = record { interface = i; time = t; ttl = ttl; gateway = g; port = p; hna = e; output = o }

-- what the rules refuse of an own packet on the table that the cells hold
abbrev pub fault_in : List ℕ → OwnArgs → Option Fault
fault_in c a = let s = decode c in own_fault s.config s.time a (own_packet s.config s.sends a)

-- the message that interface i sends under a number: the table's version, a flags octet of 0, its own address as originator
abbrev pub header_from : Config → (i number ttl gateway port : ℕ) → Header
header_from κ i n ttl g p =
    record {
      version = κ.settings.version;
      flags = 0;
      ttl = ttl;
      gateway = g;
      sequence = n;
      port = p;
      originator = (interface_at κ i).own;
    }
