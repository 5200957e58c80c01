-- Parts of a text, and texts compared. A text is a list of bytes.
-- Assumes nothing.
use Rattle.std.specs.Prelude.{ℕ, ◌+◌, Bool, List, length, take, drop}
use Rattle.cells.specs.Equal.{same_bytes}
use Rattle.cells.specs.Found.{index_of}

-- its first bytes are those of the word
unfoldable pub begins : List ℕ → List ℕ → Bool
begins text word = same_bytes (take (length word) text) word

abbrev pub blank : ℕ
blank = 0x20

-- the bytes before the first blank; where there is none, all
unfoldable pub word_of : List ℕ → List ℕ
word_of text = take (index_of blank text) text

-- the bytes behind the first blank; where there is none, none
unfoldable pub behind_word : List ℕ → List ℕ
behind_word text = drop (index_of blank text + 1) text
