-- The marks that the code carries are a word of `Window`: a number, whatever the struct is made of.
use Rattle.std.specs.Prelude.{ℕ}
use Rattle.window.specs.declared.Marks.{Marks}

-- how many marks there is room for, so the largest window
abbrev pub word_bits : ℕ
word_bits = 64

-- the word that marks are. It stays shut outside this crate and where cells are read and written, so that nothing else knows the struct
unfoldable pub word_of : Marks → ℕ
word_of m = m.word
