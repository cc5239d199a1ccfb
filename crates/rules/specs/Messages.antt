-- A message on its way to a record: an OGM, and how it came. (RULES 6.4)
use Rattle.std.specs.Prelude.{ℕ, List}
use Rattle.wire.specs.Entries.{entries_of}
use Rattle.rules.specs.declared.Ogm.{Ogm}

pub record Message : Type 0 where
  -- the link that it came by
  pub link : ℕ
  pub sequence : ℕ
  pub ttl : ℕ
  pub time : ℕ
  -- its HNA entries, in packet order
  pub entries : List ℕ

-- the code carries a message as an `Ogm`, its fields, beside its HNA octets
abbrev pub message_of : Ogm → (hna : List ℕ) → Message
message_of m e = record { link = m.link; sequence = m.sequence; ttl = m.ttl; time = m.time; entries = entries_of e }

abbrev pub ogm_of : Message → Ogm
ogm_of m = record { link = m.link; sequence = m.sequence; ttl = m.ttl; time = m.time }
