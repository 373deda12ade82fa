-- Page sizes, metadata and entry headers: document 01, "Words, pages, area". Definitions alone. Assumes nothing.
use Rattle.std.specs.Prelude.{Bool, cond, not, ℕ, ◌+◌, ◌-◌, ◌*◌, ◌/◌, ◌%◌, eqb, Option, Some, None}
use Rattle.rules.specs.declared.PageSize.{PageSize}
use Rattle.rules.specs.declared.PageSize.TheVariants.{Small, Medium, Large}

-- ---- page sizes
-- P
abbrev pub words_of : PageSize → ℕ
words_of Small = 64
words_of Medium = 256
words_of Large = 1024

abbrev pub size_of : ℕ → Option PageSize
size_of P =
    cond (eqb P 64) (Some Small) (cond (eqb P 256) (Some Medium) (cond (eqb P 1024) (Some Large) None))

-- D
abbrev pub open_words : ℕ → ℕ
open_words P = P - 3

-- the words of the longest entry
abbrev pub longest : ℕ
longest = 33

abbrev pub quota : ℕ → ℕ
quota P = open_words P - longest

-- the last place of a page at which a seal can stand
abbrev pub last_seal : ℕ → ℕ
last_seal P = P - 1

-- ---- metadata: word 0, word 1 for index i of n, and the index that a word 1 names
abbrev pub meta0 : ℕ
meta0 = 0x10100408

unfoldable pub meta1 : ℕ → ℕ → ℕ
meta1 n i = 0xFFFF0000 + 256 * i + n

unfoldable pub index_of : ℕ → ℕ
index_of w = w / 256 % 256

-- ---- headers
unfoldable pub header : ℕ → ℕ → ℕ
header h l = 65536 * h + l

abbrev pub handle_of : ℕ → ℕ
handle_of w = w / 65536

abbrev pub length_of : ℕ → ℕ
length_of w = w % 65536

-- the first of the special handles, which no entry has
abbrev pub special : ℕ
special = 0x7F00

-- of the handles below those, all but an invalidated entry's
abbrev pub is_live : ℕ → Bool
is_live h = not (eqb h 0)

abbrev pub seal : ℕ
seal = 0x7FFFFFFF
