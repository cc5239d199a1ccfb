-- Interface rows: an interface, and its last sent number once it has sent. The rules keep interfaces and last sent numbers apart.
use Rattle.std.specs.Prelude.{List, [], ◌∷◌, Bool, cond, ◌||◌, ℕ, ◌+◌, leb, eqb, get_or}
use Rattle.std.proofs.Math.Option.{Option, none, some}
use Rattle.lists.specs.Lists.{maybe}
use Rattle.lists.specs.Keyed.{lookup}
use Rattle.rules.specs.declared.Interface.{Interface}
use Rattle.rules.specs.Rules.{Sends}
use Rattle.table_layout.specs.Layout.{own_at, broadcast_at, first_at, sent_at, last_at}

abbrev pub InterfaceRow : Type 0
InterfaceRow = Interface × Option ℕ

-- each interface with its last sent number; the first has the number i
abbrev pub rows_with : Sends → (i : ℕ) → List Interface → List InterfaceRow
rows_with ns i [] = []
rows_with ns i (x ∷ xs) = (x, lookup i ns) ∷ rows_with ns (i + 1) xs

-- the last sent numbers of interface rows, under the numbers of those that have sent
abbrev pub sends_of : (i : ℕ) → List InterfaceRow → Sends
sends_of i [] = []
sends_of i (r ∷ rs) = maybe r.1 (sends_of (i + 1) rs) (λ n. (i, n) ∷ sends_of (i + 1) rs)

-- ---- in cells

unfoldable pub encode_interface : InterfaceRow → List ℕ
encode_interface r = r.0.own ∷ r.0.broadcast ∷ r.0.first ∷ maybe r.1 0 (λ n. 1) ∷ maybe r.1 0 (λ n. n) ∷ []

unfoldable pub decode_interface : List ℕ → InterfaceRow
decode_interface row = (
  record { own = get_or row own_at 0; broadcast = get_or row broadcast_at 0; first = get_or row first_at 0 },
  cond (eqb (get_or row sent_at 0) 1) (some (get_or row last_at 0)) none,
)

-- it has sent or not, and the last number of one that has not sent is an unused cell
abbrev pub sent_tests : List ℕ → List Bool
sent_tests row = leb (get_or row sent_at 0) 1 ∷ (eqb (get_or row sent_at 0) 1 || eqb (get_or row last_at 0) 0) ∷ []
