-- What a text of decimal words says. Lines are parted by newline; what stands before '#' in a line has tokens, parted by white
-- space; a token is a decimal number below 2 ^ 64. Bytes are numbers.
use Rattle.std.specs.Prelude.{ℕ, ◌+◌, ◌-◌, ◌*◌, ◌%◌, ◌^◌, Bool, true, false, cond, not, ◌||◌, List, [], ◌∷◌, ◌++◌, map, length, ◌==◌, nat_lt}
use Rattle.lists.specs.Lists.{all_of, filter, within}
use Rattle.decimal.specs.declared.Wrong.{Wrong}
use Rattle.decimal.specs.declared.Wrong.TheVariants.{NoNumber, TooLarge, TooMany, Other}

-- ---- bytes

abbrev pub is_newline : ℕ → Bool
is_newline b = b == 10

abbrev pub is_hash : ℕ → Bool
is_hash b = b == 35

-- blank, tab, vertical tab, form feed, carriage return
abbrev pub is_blank : ℕ → Bool
is_blank b = b == 32 || b == 9 || within 11 13 b

abbrev pub is_digit : ℕ → Bool
is_digit b = within 48 57 b

abbrev pub no_digit : ℕ → Bool
no_digit b = not (is_digit b)

-- ---- parts

-- the parts of a text: the first, and those after it
pub record Parts : Type 0 where
  pub first : List ℕ
  pub others : List (List ℕ)

abbrev pub every : Parts → List (List ℕ)
every ps = ps.first ∷ ps.others

-- the text parted at each byte for which p holds
unfoldable pub parts : (ℕ → Bool) → List ℕ → Parts
parts p [] = record { first = []; others = [] }
parts p (b ∷ t) =
    let rest = parts p t in
    cond
    (p b)
    (record { first = []; others = every rest })
    (record { first = b ∷ rest.first; others = rest.others })

abbrev pub lines : List ℕ → Parts
lines t = parts is_newline t

-- what stands before the first byte for which p holds
abbrev pub text_before : (ℕ → Bool) → List ℕ → List ℕ
text_before p t = (parts p t).first

-- what white space parts in a line, before '#'
abbrev pub pieces : List ℕ → Parts
pieces line = parts is_blank (text_before is_hash line)

abbrev pub is_token : List ℕ → Bool
is_token [] = false
is_token (b ∷ t) = true

-- ---- words

-- what is wrong with a text
abbrev pub no_number : Wrong
no_number = NoNumber

abbrev pub too_large : Wrong
too_large = TooLarge

abbrev pub too_many : Wrong
too_many = TooMany

-- what is wrong, by its number: 1 to 3 of a text, others of the program that reads it
unfoldable pub wrong_of : ℕ → Wrong
wrong_of n = cond (n == 1) NoNumber (cond (n == 2) TooLarge (cond (n == 3) TooMany (Other n)))

-- is this wrong with a text, and no number of the program that reads it?
abbrev pub of_text : Wrong → Bool
of_text NoNumber = true
of_text TooLarge = true
of_text TooMany = true
of_text (Other n) = false

-- the number that v and digits after it make
unfoldable pub number : ℕ → List ℕ → ℕ
number v [] = v
number v (d ∷ ds) = number (v * 10 + (d - 48)) ds

-- a token's number, or what is wrong with it
pub data Word : Type 0 where
  word : ℕ → Word
  wrong : Wrong → Word

-- the word that v and a token after it make: the digits that it begins with pass 64 bits, or another byte follows them, or it is a number
unfoldable pub word_after : ℕ → List ℕ → Word
word_after v t =
    let n = number v (text_before no_digit t) in
    cond (nat_lt n (2 ^ 64)) (cond (all_of is_digit t) (word n) (wrong no_number)) (wrong too_large)

-- the words of a line's pieces
unfoldable pub line_words : List (List ℕ) → List Word
line_words ps = map (word_after 0) (filter is_token ps)

-- a word and its line
pub data LineWord : Type 0 where
  placed : ℕ → Word → LineWord

abbrev pub placed_at : ℕ → List Word → List LineWord
placed_at n ws = map (placed n) ws

-- line numbers have 64 bits
abbrev pub next_line : ℕ → ℕ
next_line n = (n + 1) % 2 ^ 64

-- the words of lines that are numbered from n on
unfoldable pub in_lines : ℕ → List (List ℕ) → List LineWord
in_lines n [] = []
in_lines n (l ∷ ls) = placed_at n (line_words (every (pieces l))) ++ in_lines (next_line n) ls

-- the words that a text says, or what is wrong with it first, and in which line
pub data Said : Type 0 where
  words : List ℕ → Said
  fault : Wrong → ℕ → Said

-- words put after those there are, while there is room
unfoldable pub kept_words : ℕ → List ℕ → List LineWord → Said
kept_words room ws [] = words ws
kept_words room ws (placed n (word v) ∷ rest) =
    cond (nat_lt (length ws) room) (kept_words room (ws ++ (v ∷ [])) rest) (fault too_many n)
kept_words room ws (placed n (wrong what) ∷ rest) = fault what n

-- what a text says where there is room for so many words
unfoldable pub says : ℕ → List ℕ → Said
says room text = kept_words room [] (in_lines 1 (every (lines text)))
