-- A reading of a text that comes part by part: what it has heard, and what it will have heard when more text follows.
use Rattle.std.specs.Prelude.{◌≡◌, ℕ, Bool, true, false, cond, List, [], ◌∷◌, ◌++◌, length, take, Result, Ok, Err, IsErr, IfErr, ◌==◌}
use Rattle.decimal.specs.Text.{Parts, every, lines, pieces, Word, word, wrong_of, of_text, word_after, line_words, LineWord, placed_at, next_line, in_lines, Said, words, fault, kept_words}
use Rattle.decimal.specs.declared.Scan.{Scan}
use Rattle.decimal.specs.declared.Stands.{Stands}
use Rattle.decimal.specs.declared.Stands.TheVariants.{Between, Number, Comment}
use Rattle.decimal.specs.declared.Fault.{Fault}
use Rattle.decimal.specs.declared.Wrong.{Wrong}

abbrev pub is_comment : Stands → Bool
is_comment Comment = true
is_comment _ = false

abbrev pub in_comment : Scan → Bool
in_comment s = is_comment s.stands

abbrev pub number_begun : Stands → ℕ
number_begun (Number v) = v
number_begun _ = 0

-- the number begun, 0 where none is
abbrev pub value_begun : Scan → ℕ
value_begun s = number_begun s.stands

-- what words in memory and the number of what is wrong say, 0 being nothing
unfoldable pub told : ℕ → ℕ → List ℕ → Said
told wrong line ws = cond (wrong == 0) (words ws) (fault (wrong_of wrong) line)

-- what a reading that has ended has heard, ws the words in memory: so many of them, or what is wrong
abbrev pub heard : Result ℕ Fault → List ℕ → Said
heard (Ok count) ws = words (take count ws)
heard (Err f) ws = fault f.wrong f.line

-- what a reading that goes on will have heard when these words follow
abbrev pub will_hear : Scan → List ℕ → List LineWord → Said
will_hear s ws rest = kept_words (length ws) (take s.count ws) rest

-- what it will have heard when these words follow: one that has ended hears no more
abbrev pub follows : Result Scan Fault → List ℕ → List LineWord → Said
follows (Ok s) ws rest = will_hear s ws rest
follows (Err f) ws rest = fault f.wrong f.line

-- the words of a line from a place on that stands so
unfoldable pub line_from : Stands → Parts → List Word
line_from Between ps = line_words (every ps)
line_from (Number v) ps = word_after v ps.first ∷ line_words ps.others
line_from Comment ps = []

-- the words of the line that it stands in, from there on
abbrev pub line_ahead : Scan → Parts → List Word
line_ahead s ps = line_from s.stands ps

unfoldable pub words_ahead : Scan → List ℕ → List LineWord
words_ahead s t =
    placed_at s.line (line_ahead s (pieces (lines t).first)) ++ in_lines (next_line s.line) (lines t).others

-- what it will have heard at the end when this text follows
unfoldable pub ahead : Scan → List ℕ → List ℕ → Said
ahead s ws t = will_hear s ws (words_ahead s t)

-- the same of one that may have ended
abbrev pub onward : Result Scan Fault → List ℕ → List ℕ → Said
onward (Ok s) ws t = ahead s ws t
onward (Err f) ws t = fault f.wrong f.line

-- the number begun, as a word
abbrev pub begun_in : Stands → List Word
begun_in (Number v) = word v ∷ []
begun_in _ = []

abbrev pub begun : Scan → List Word
begun s = begun_in s.stands

-- a reading goes on or has its words, or its fault is one of the three that a text can have
abbrev pub FaultOfText : {T : Type 0} → Result T Fault → Type 0
FaultOfText r = IfErr r (λ f. of_text f.wrong ≡ true)

-- a reading has taken bytes: whatever follows, it will have heard the same
abbrev pub Takes : Scan → List ℕ → List ℕ → Result Scan Fault → List ℕ → Type 0
Takes s ws bytes r ws' = (t : List ℕ) → onward r ws' t ≡ ahead s ws (bytes ++ t)

-- what holds of a reading, if it goes on
abbrev pub IfGoesOn : Result Scan Fault → (Scan → Type 0) → Type 0
IfGoesOn (Ok s) P = P s
IfGoesOn (Err f) P = Unit {0}

-- a reading has kept the number begun, and if there was room stands so, in this line
pub record Ended (s : Scan) (ws : List ℕ) (stands : Stands) (line : ℕ) (r : Result Scan Fault) (ws' : List ℕ) : Type 0 where
  pub goes_on : (rest : List LineWord) → follows r ws' rest ≡ will_hear s ws (placed_at s.line (begun s) ++ rest)
  pub stands_so : IfGoesOn r (λ q. q.stands ≡ stands)
  pub line_so : IfGoesOn r (λ q. q.line ≡ line)

-- a reading was ended by this
pub record Stopped (s : Scan) (wrong : Wrong) (r : Result Scan Fault) : Type 0 where
  pub ended : IsErr r
  pub hears : (ws : List ℕ) (rest : List LineWord) → follows r ws rest ≡ fault wrong s.line
