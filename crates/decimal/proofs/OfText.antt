-- What a text says has one of the three faults of a text, or none, and no number of the program's own; so has what is ahead of a reading, and so
-- have the answers.
use Rattle.std.proofs.Common.{◌≡◌, ℕ, ◌^◌, Bool, true, List, [], ◌∷◌, ◌++◌, length, refl, ap, ◌∙◌, Result, Ok, Err, IsErrAnd}
use Rattle.std.specs.Prelude.{nat_lt}
use Rattle.lists.specs.Lists.{all_of, filter, All}
use Rattle.lists.proofs.All.{all_join, all_mapped}
use Rattle.lists.proofs.Tests.{by_test}
use Rattle.decimal.specs.Text.{Parts, every, lines, pieces, no_digit, is_digit, is_token, text_before, number, of_text, Word, word, wrong, word_after, line_words, LineWord, placed, placed_at, next_line, in_lines, Said, words, fault, kept_words, says}
use Rattle.decimal.specs.Reading.{heard, will_hear, follows, line_from, line_ahead, words_ahead, ahead, onward, begun_in, begun, Takes, Ended, Stopped, FaultOfText}
use Rattle.decimal.specs.declared.Wrong.{Wrong}
use Rattle.decimal.specs.declared.Scan.{Scan}
use Rattle.decimal.specs.declared.Stands.{Stands}
use Rattle.decimal.specs.declared.Stands.TheVariants.{Between, Number, Comment}
use Rattle.decimal.specs.declared.Fault.{Fault}

-- what is said is no fault, or one of a text
abbrev pub said_of_text : Said → Bool
said_of_text (words ws) = true
said_of_text (fault what line) = of_text what

-- a word is a number, or wrong as a text can be
abbrev pub word_of_text : Word → Bool
word_of_text (word v) = true
word_of_text (wrong what) = of_text what

abbrev pub WordOfText : Word → Type 0
WordOfText w = word_of_text w ≡ true

abbrev pub LineWordOfText : LineWord → Type 0
LineWordOfText (placed n w) = WordOfText w

pub word_after_of_text : (v : ℕ) (t : List ℕ) → WordOfText (word_after v t)
unfolding word_after
word_after_of_text v t =
    let n = number v (text_before no_digit t) in
    by_test (nat_lt n (2 ^ 64))
    (λ e. by_test (all_of is_digit t) (λ f. rw e (rw f)) (λ f. rw e (rw f)))
    (λ e. rw e)

pub line_words_of_text : (ts : List (List ℕ)) → All WordOfText (line_words ts)
unfolding line_words filter
line_words_of_text [] = tt
line_words_of_text (t ∷ ts) = by_test (is_token t) (λ e. rw e (word_after_of_text 0 t, line_words_of_text ts)) (λ e. rw e (line_words_of_text ts))

pub placed_at_of_text : (n : ℕ) (ws : List Word) → All WordOfText ws → All LineWordOfText (placed_at n ws)
placed_at_of_text n = all_mapped WordOfText LineWordOfText (placed n) (λ w q. q)

pub in_lines_of_text : (n : ℕ) (ls : List (List ℕ)) → All LineWordOfText (in_lines n ls)
unfolding in_lines
in_lines_of_text n [] = tt
in_lines_of_text n (l ∷ ls) =
    all_join LineWordOfText (placed_at n (line_words (every (pieces l)))) (in_lines (next_line n) ls) (placed_at_of_text n _ (line_words_of_text (every (pieces l)))) (in_lines_of_text (next_line n) ls)

pub kept_words_of_text : (room : ℕ) (ws : List ℕ) (ls : List LineWord) → All LineWordOfText ls → said_of_text (kept_words room ws ls) ≡ true
unfolding kept_words
kept_words_of_text room ws [] h = refl
kept_words_of_text room ws (placed n (word v) ∷ rest) h =
    by_test (nat_lt (length ws) room) (λ e. rw e (kept_words_of_text room (ws ++ (v ∷ [])) rest h.1)) (λ e. rw e)
kept_words_of_text room ws (placed n (wrong what) ∷ rest) h = h.0

-- what a line says from a place on
pub line_from_of_text : (st : Stands) (ps : Parts) → All WordOfText (line_from st ps)
unfolding line_from
line_from_of_text Between ps = line_words_of_text (every ps)
line_from_of_text (Number v) ps = (word_after_of_text v ps.first, line_words_of_text ps.others)
line_from_of_text Comment ps = tt

-- a number begun is no fault
pub begun_in_of_text : (st : Stands) → All WordOfText (begun_in st)
begun_in_of_text Between = tt
begun_in_of_text (Number v) = (refl, tt)
begun_in_of_text Comment = tt

pub begun_of_text : (s : Scan) → All WordOfText (begun s)
begun_of_text s = begun_in_of_text s.stands

-- what a text says
pub says_of_text : (room : ℕ) (text : List ℕ) → said_of_text (says room text) ≡ true
unfolding says
says_of_text room text = kept_words_of_text room [] (in_lines 1 (every (lines text))) (in_lines_of_text 1 (every (lines text)))

-- the words ahead of a reading
pub words_ahead_of_text : (s : Scan) (t : List ℕ) → All LineWordOfText (words_ahead s t)
unfolding words_ahead
words_ahead_of_text s t =
    let ps = pieces (lines t).first in
    all_join LineWordOfText (placed_at s.line (line_ahead s ps)) (in_lines (next_line s.line) (lines t).others)
    (placed_at_of_text s.line (line_ahead s ps) (line_from_of_text s.stands ps))
    (in_lines_of_text (next_line s.line) (lines t).others)

-- what it will have heard when words of a text follow
pub will_hear_of_text : (s : Scan) (ws : List ℕ) (rest : List LineWord) → All LineWordOfText rest → said_of_text (will_hear s ws rest) ≡ true
will_hear_of_text s ws rest h = kept_words_of_text _ _ rest h

pub follows_of_text : (r : Result Scan Fault) (ws : List ℕ) (rest : List LineWord) → FaultOfText r → All LineWordOfText rest → said_of_text (follows r ws rest) ≡ true
follows_of_text (Ok s) ws rest e h = will_hear_of_text s ws rest h
follows_of_text (Err f) ws rest e h = e

-- what is ahead of a reading
pub ahead_of_text : (s : Scan) (ws t : List ℕ) → said_of_text (ahead s ws t) ≡ true
unfolding ahead
ahead_of_text s ws t = will_hear_of_text s ws (words_ahead s t) (words_ahead_of_text s t)

pub onward_of_text : (r : Result Scan Fault) (ws t : List ℕ) → FaultOfText r → said_of_text (onward r ws t) ≡ true
onward_of_text (Ok s) ws t e = ahead_of_text s ws t
onward_of_text (Err f) ws t e = e

-- the answers, by what they have heard
pub heard_of_text : (r : Result ℕ Fault) (ws : List ℕ) (said : Said) → heard r ws ≡ said → said_of_text said ≡ true → FaultOfText r
heard_of_text (Ok n) ws said h e = tt
heard_of_text (Err f) ws said h e = ap said_of_text h ∙ e

-- by what a reading has taken, or kept
pub takes_of_text : (s : Scan) (ws bytes : List ℕ) (r : Result Scan Fault) (ws' : List ℕ) → Takes s ws bytes r ws' → FaultOfText r
takes_of_text s ws bytes (Ok q) ws' h = tt
takes_of_text s ws bytes (Err f) ws' h = ap said_of_text (h []) ∙ ahead_of_text s ws (bytes ++ [])

-- a reading that a byte has ended hands its fault on
pub handed_on : (s : Scan) (ws : List ℕ) (b : ℕ) (f : Fault) → ((t : List ℕ) → fault f.wrong f.line ≡ ahead s ws (b ∷ t)) → (r : Result Scan Fault) → IsErrAnd r (λ e. e ≡ f) → FaultOfText r
handed_on s ws b f h (Ok q) e = tt
handed_on s ws b f h (Err g) e = rw e (takes_of_text s ws (b ∷ []) (Err f) [] h)

pub ended_of_text : (s : Scan) (ws : List ℕ) (stands : Stands) (line : ℕ) (r : Result Scan Fault) (ws' : List ℕ) → Ended s ws stands line r ws' → FaultOfText r
ended_of_text s ws stands line (Ok q) ws' h = tt
ended_of_text s ws stands line (Err f) ws' h =
    ap said_of_text (h.goes_on []) ∙ will_hear_of_text s ws _ (all_join LineWordOfText (placed_at s.line (begun s)) [] (placed_at_of_text s.line (begun s) (begun_of_text s)) tt)

-- where what is wrong is wrong with a text
pub stopped_of_text : (s : Scan) (what : Wrong) (r : Result Scan Fault) → Stopped s what r → of_text what ≡ true → FaultOfText r
stopped_of_text s what (Ok q) h e = tt
stopped_of_text s what (Err f) h e = ap said_of_text (h.hears [] []) ∙ e

-- and so has what it has heard
pub heard_is_of_text : (r : Result ℕ Fault) (ws : List ℕ) → FaultOfText r → said_of_text (heard r ws) ≡ true
heard_is_of_text (Ok n) ws e = refl
heard_is_of_text (Err f) ws e = e
