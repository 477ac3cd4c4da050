-- One step of a reading: the words ahead, before and after a byte.
use Rattle.std.proofs.Common.{◌≡◌, ℕ, ◌+◌, ◌-◌, ◌*◌, ◌^◌, ◌<◌, ◌≤◌, Bool, true, false, cond, not, leb, List, [], ◌∷◌, ◌++◌, length, get_or, take, drop, set, sym, refl, ap, ◌∙◌, append-nil, add-one, arith, length-set, length-take-le, take_all, drop-cons, take-suc-set, le-ltb, lt-ltb, Result, Ok, Err, IsErr, IsErrAnd, ne_eqb, leb-true}
use lib.Seq.{drop-length}
use borrow.Author.Tests.{lt-leb}
use Rattle.lists.specs.Lists.{all_of, filter}
use Rattle.lists.proofs.Tests.{by_test, false_true, and_left, and_right}
use Rattle.decimal.specs.Text.{is_newline, is_hash, is_blank, is_digit, no_digit, Parts, every, parts, lines, text_before, pieces, too_large, too_many, no_number, number, Word, word, wrong, word_after, line_words, LineWord, placed, fault, placed_at, next_line, in_lines, kept_words, says}
use Rattle.decimal.specs.Reading.{is_comment, in_comment, number_begun, value_begun, heard, will_hear, follows, line_from, line_ahead, words_ahead, ahead, onward, begun_in, begun, Takes, Ended, Stopped}
use Rattle.decimal.specs.declared.Scan.{Scan}
use Rattle.decimal.specs.declared.Stands.{Stands}
use Rattle.decimal.specs.declared.Stands.TheVariants.{Between, Number, Comment}
use Rattle.decimal.specs.declared.Fault.{Fault}
use Rattle.decimal.specs.declared.Wrong.{Wrong}

-- ---- where a reading goes on, and where not

abbrev pub at : ℕ → Stands → ℕ → Scan
at count stands line = record { count = count; stands = stands; line = line }

halted : (s : Scan) (what : Wrong) (r : Result Scan Fault) (ws t : List ℕ) → Stopped s what r → onward r ws t ≡ fault what s.line
halted s what (Ok q) ws t e = false_true e.ended
halted s what (Err f) ws t e = e.hears ws []

-- ---- the number begun is kept

pub full : (s : Scan) (r : Result Scan Fault) (ws : List ℕ) (stands : Stands) (line v : ℕ) → s.stands ≡ Number v → length ws ≤ s.count → Stopped s too_many r → Ended s ws stands line r ws
unfolding kept_words
full s (Ok q) ws stands line v n over x = false_true x.ended
full s (Err f) ws stands line v n over x =
    record {
      goes_on = λ rest. x.hears ws rest ∙ sym (rw n (rw (take_all s.count ws over) (rw (le-ltb (length ws) (length ws) (omega arith)))));
      stands_so = tt;
      line_so = tt;
    }

pub keeps : (s : Scan) (ws : List ℕ) (stands : Stands) (line v : ℕ) → s.stands ≡ Number v → s.count < length ws → Ended s ws stands line (Ok (at (s.count + 1) stands line)) (set ws s.count v)
unfolding kept_words
keeps s ws stands line v n room =
    let l : length (take s.count ws) ≡ s.count = length-take-le s.count ws (omega arith) in
    record {
      goes_on = λ rest. rw (length-set, add-one, take-suc-set ws s.count v room, n) (rw l (rw (lt-ltb s.count (length ws) room)));
      stands_so = refl;
      line_so = refl;
    }

pub none_begun : (s : Scan) (ws : List ℕ) (stands : Stands) (line : ℕ) → begun s ≡ [] → Ended s ws stands line (Ok (at s.count stands line)) ws
none_begun s ws stands line n =
    record { goes_on = λ rest. rw n; stands_so = refl; line_so = refl }

-- ---- parts

parted : (p : ℕ → Bool) (b : ℕ) (t : List ℕ) → p b ≡ true → parts p (b ∷ t) ≡ record { first = []; others = every (parts p t) }
unfolding parts
parted p b t e = ap (λ (x : Bool). cond x (record { first = []; others = every (parts p t) }) (record { first = b ∷ (parts p t).first; others = (parts p t).others })) e

joined : (p : ℕ → Bool) (b : ℕ) (t : List ℕ) → p b ≡ false → parts p (b ∷ t) ≡ record { first = b ∷ (parts p t).first; others = (parts p t).others }
unfolding parts
joined p b t e = ap (λ (x : Bool). cond x (record { first = []; others = every (parts p t) }) (record { first = b ∷ (parts p t).first; others = (parts p t).others })) e

pieces_none : (b : ℕ) (l : List ℕ) → is_hash b ≡ true → pieces (b ∷ l) ≡ record { first = []; others = [] }
unfolding parts
pieces_none b l x = ap (λ (ps : Parts). parts is_blank ps.first) (parted is_hash b l x)

pieces_blank : (b : ℕ) (l : List ℕ) → is_hash b ≡ false → is_blank b ≡ true → pieces (b ∷ l) ≡ record { first = []; others = every (pieces l) }
pieces_blank b l x k = ap (λ (ps : Parts). parts is_blank ps.first) (joined is_hash b l x) ∙ parted is_blank b (text_before is_hash l) k

pieces_on : (b : ℕ) (l : List ℕ) → is_hash b ≡ false → is_blank b ≡ false → pieces (b ∷ l) ≡ record { first = b ∷ (pieces l).first; others = (pieces l).others }
pieces_on b l x k = ap (λ (ps : Parts). parts is_blank ps.first) (joined is_hash b l x) ∙ joined is_blank b (text_before is_hash l) k

-- ---- bytes that end a number

number_end : (v : ℕ) → v < 2 ^ 64 → word_after v [] ≡ word v
unfolding word_after parts number all_of
number_end v h = rw (lt-ltb v (2 ^ 64) h)

-- a line at a blank, or at its end
line_ends : (st : Stands) (others : List (List ℕ)) → number_begun st < 2 ^ 64 → is_comment st ≡ false → line_from st (record { first = []; others = others }) ≡ begun_in st ++ line_words others
unfolding line_from line_words filter
line_ends Between others h c = refl
line_ends (Number v) others h c = rw (number_end v h)
line_ends Comment others h c = false_true (sym c)

line_over : (st : Stands) → number_begun st < 2 ^ 64 → line_from st (record { first = []; others = [] }) ≡ begun_in st
unfolding line_from line_words filter
line_over Between h = refl
line_over (Number v) h = rw (number_end v h)
line_over Comment h = refl

-- the words ahead of a reading that stands between numbers
between : (q : Scan) (ps : Parts) → q.stands ≡ Between → line_ahead q ps ≡ line_words (every ps)
unfolding line_from
between q ps e = rw e

in_comment_is : (q : Scan) (ps : Parts) → q.stands ≡ Comment → line_ahead q ps ≡ []
unfolding line_from
in_comment_is q ps e = rw e

-- a byte at which the number begun ends
by_end : (s : Scan) (ws : List ℕ) (b : ℕ) (stands : Stands) (line : ℕ) (r : Result Scan Fault) (ws' : List ℕ) → Ended s ws stands line r ws' → ((t : List ℕ) (q : Scan) → q.stands ≡ stands → q.line ≡ line → placed_at s.line (begun s) ++ words_ahead q t ≡ words_ahead s (b ∷ t)) → Takes s ws (b ∷ []) r ws'
unfolding ahead
by_end s ws b stands line (Ok q) ws' e h t = e.goes_on (words_ahead q t) ∙ ap (will_hear s ws) (h t q e.stands_so e.line_so)
by_end s ws b stands line (Err f) ws' e h t =
    e.goes_on (words_ahead (at 0 stands line) t) ∙ ap (will_hear s ws) (h t (at 0 stands line) refl refl)

pub newline_takes : (s : Scan) (ws : List ℕ) (b : ℕ) (r : Result Scan Fault) (ws' : List ℕ) → value_begun s < 2 ^ 64 → is_newline b ≡ true → Ended s ws Between (next_line s.line) r ws' → Takes s ws (b ∷ []) r ws'
unfolding words_ahead parts in_lines
newline_takes s ws b r ws' h n e =
    by_end s ws b Between (next_line s.line) r ws' e
    (λ t q st ln. rw n (rw (line_over s.stands h) (rw (between q (pieces (lines t).first) st, ln))))

pub hash_takes : (s : Scan) (ws : List ℕ) (b : ℕ) (r : Result Scan Fault) (ws' : List ℕ) → value_begun s < 2 ^ 64 → is_newline b ≡ false → is_hash b ≡ true → Ended s ws Comment s.line r ws' → Takes s ws (b ∷ []) r ws'
unfolding words_ahead
hash_takes s ws b r ws' h n x e =
    by_end s ws b Comment s.line r ws' e
    (λ t q st ln. rw (joined is_newline b t n) (rw (pieces_none b (lines t).first x) (rw (line_over s.stands h) (rw (in_comment_is q (pieces (lines t).first) st, ln)))))

blank_on : (st : Stands) (n : ℕ) (ws : List Word) (rest : List LineWord) → placed_at n (begun_in st) ++ (placed_at n ws ++ rest) ≡ placed_at n (begun_in st ++ ws) ++ rest
blank_on Between n ws rest = refl
blank_on (Number v) n ws rest = refl
blank_on Comment n ws rest = refl

pub blank_takes : (s : Scan) (ws : List ℕ) (b : ℕ) (r : Result Scan Fault) (ws' : List ℕ) → value_begun s < 2 ^ 64 → in_comment s ≡ false → is_newline b ≡ false → is_hash b ≡ false → is_blank b ≡ true → Ended s ws Between s.line r ws' → Takes s ws (b ∷ []) r ws'
unfolding words_ahead
blank_takes s ws b r ws' h c n x k e =
    by_end s ws b Between s.line r ws' e
    (λ t q st ln.
    rw (joined is_newline b t n) (rw (pieces_blank b (lines t).first x k) (rw (line_ends s.stands (every (pieces (lines t).first)) h c) (rw (between q (pieces (lines t).first) st, ln) (blank_on s.stands s.line (line_words (every (pieces (lines t).first))) (in_lines (next_line s.line) (lines t).others))))))

none_in_comment : (st : Stands) (ps qs : Parts) → is_comment st ≡ true → line_from st ps ≡ line_from st qs
unfolding line_from
none_in_comment Between ps qs c = false_true c
none_in_comment (Number v) ps qs c = false_true c
none_in_comment Comment ps qs c = refl

pub comment_takes : (s : Scan) (ws : List ℕ) (b : ℕ) → in_comment s ≡ true → is_newline b ≡ false → Takes s ws (b ∷ []) (Ok s) ws
unfolding ahead words_ahead
comment_takes s ws b c n t =
    rw (joined is_newline b t n) (rw (none_in_comment s.stands (pieces (lines t).first) (pieces (b ∷ (lines t).first)) c))

-- ---- bytes of a number

number_grows : (v : ℕ) (ds : List ℕ) → v ≤ number v ds
unfolding number
number_grows v [] = omega arith
number_grows v (d ∷ ds) = omega (arith, number_grows (v * 10 + (d - 48)) ds)

digit_on : (v b : ℕ) (f : List ℕ) → is_digit b ≡ true → word_after v (b ∷ f) ≡ word_after (v * 10 + (b - 48)) f
unfolding word_after number all_of
digit_on v b f d =
    let j : text_before no_digit (b ∷ f) ≡ b ∷ text_before no_digit f = ap (λ (ps : Parts). ps.first) (joined no_digit b f (ap not d)) in
    rw (j, d)

no_digit_is : (v b : ℕ) (f : List ℕ) → v < 2 ^ 64 → is_digit b ≡ false → word_after v (b ∷ f) ≡ wrong no_number
unfolding word_after number all_of
no_digit_is v b f h d =
    let j : text_before no_digit (b ∷ f) ≡ [] = ap (λ (ps : Parts). ps.first) (parted no_digit b f (ap not d)) in
    rw (j, d) (rw (lt-ltb v (2 ^ 64) h))

too_large_is : (v : ℕ) (f : List ℕ) → 2 ^ 64 ≤ v → word_after v f ≡ wrong too_large
unfolding word_after
too_large_is v f h = rw (le-ltb (number v (text_before no_digit f)) (2 ^ 64) (omega (arith, number_grows v (text_before no_digit f))))

token_from : (st : Stands) (b : ℕ) (f : List ℕ) (others : List (List ℕ)) → is_comment st ≡ false → line_from st (record { first = b ∷ f; others = others }) ≡ word_after (number_begun st) (b ∷ f) ∷ line_words others
unfolding line_from line_words filter
token_from Between b f others c = refl
token_from (Number v) b f others c = refl
token_from Comment b f others c = false_true (sym c)

-- the words ahead where the next byte is one of a token
token_ahead : (s : Scan) (b : ℕ) (t : List ℕ) → in_comment s ≡ false → is_newline b ≡ false → is_hash b ≡ false → is_blank b ≡ false → words_ahead s (b ∷ t) ≡ placed s.line (word_after (value_begun s) (b ∷ (pieces (lines t).first).first)) ∷ (placed_at s.line (line_words (pieces (lines t).first).others) ++ in_lines (next_line s.line) (lines t).others)
unfolding words_ahead
token_ahead s b t c n x k =
    rw (joined is_newline b t n) (rw (pieces_on b (lines t).first x k) (rw (token_from s.stands b (pieces (lines t).first).first (pieces (lines t).first).others c)))

wrong_takes : (s : Scan) (ws : List ℕ) (b : ℕ) (what : Wrong) (r : Result Scan Fault) → in_comment s ≡ false → is_newline b ≡ false → is_hash b ≡ false → is_blank b ≡ false → ((f : List ℕ) → word_after (value_begun s) (b ∷ f) ≡ wrong what) → Stopped s what r → Takes s ws (b ∷ []) r ws
unfolding ahead kept_words
wrong_takes s ws b what r c n x k h e t =
    halted s what r ws t e ∙ sym (rw (token_ahead s b t c n x k) (rw (h (pieces (lines t).first).first)))

pub other_takes : (s : Scan) (ws : List ℕ) (b : ℕ) (r : Result Scan Fault) → value_begun s < 2 ^ 64 → in_comment s ≡ false → is_newline b ≡ false → is_hash b ≡ false → is_blank b ≡ false → is_digit b ≡ false → Stopped s no_number r → Takes s ws (b ∷ []) r ws
other_takes s ws b r h c n x k d e =
    wrong_takes s ws b no_number r c n x k (λ f. no_digit_is (value_begun s) b f h d) e

-- ---- digits

pub digit_bounds : (b : ℕ) → is_digit b ≡ true → (48 ≤ b) × (b ≤ 57)
digit_bounds b d = (leb-true 48 b (and_left (leb 48 b) (leb b 57) d), leb-true b 57 (and_right (leb 48 b) (leb b 57) d))

no_newline : (b : ℕ) → is_digit b ≡ true → is_newline b ≡ false
no_newline b d = ne_eqb b 10 (λ e. let h = digit_bounds b d in omega arith)

no_hash : (b : ℕ) → is_digit b ≡ true → is_hash b ≡ false
no_hash b d = ne_eqb b 35 (λ e. let h = digit_bounds b d in omega arith)

no_blank : (b : ℕ) → is_digit b ≡ true → is_blank b ≡ false
no_blank b d =
    let h = digit_bounds b d in
    rw (ne_eqb b 32 (λ e. omega arith), ne_eqb b 9 (λ e. omega arith), lt-leb b 13 (omega arith)) (by_test (leb 11 b) (λ e. rw e) (λ e. rw e))

pub large_takes : (s : Scan) (ws : List ℕ) (b : ℕ) (r : Result Scan Fault) → in_comment s ≡ false → is_digit b ≡ true → 2 ^ 64 ≤ value_begun s * 10 + (b - 48) → Stopped s too_large r → Takes s ws (b ∷ []) r ws
large_takes s ws b r c d h e =
    wrong_takes s ws b too_large r c (no_newline b d) (no_hash b d) (no_blank b d) (λ f. digit_on (value_begun s) b f d ∙ too_large_is (value_begun s * 10 + (b - 48)) f h) e

-- the reading with one more digit
abbrev pub grown : Scan → ℕ → Scan
grown s v = record { count = s.count; stands = Number v; line = s.line }

digit_ahead : (s : Scan) (b : ℕ) (t : List ℕ) → in_comment s ≡ false → is_digit b ≡ true → words_ahead (grown s (value_begun s * 10 + (b - 48))) t ≡ words_ahead s (b ∷ t)
unfolding words_ahead line_from
digit_ahead s b t c d =
    sym (token_ahead s b t c (no_newline b d) (no_hash b d) (no_blank b d) ∙ rw (digit_on (value_begun s) b (pieces (lines t).first).first d))

pub digit_takes : (s : Scan) (ws : List ℕ) (b v : ℕ) → in_comment s ≡ false → is_digit b ≡ true → v ≡ value_begun s * 10 + (b - 48) → Takes s ws (b ∷ []) (Ok (grown s v)) ws
unfolding ahead
digit_takes s ws b v c d e t = rw e (rw (digit_ahead s b t c d))

-- ---- the whole

pub from_start : (ws t : List ℕ) → ahead (at 0 Between 1) ws t ≡ says (length ws) t
unfolding ahead says words_ahead in_lines line_from
from_start ws t = refl

pub at_end : (s : Scan) (ws : List ℕ) (r : Result Scan Fault) (ws' : List ℕ) → value_begun s < 2 ^ 64 → Ended s ws Between s.line r ws' → follows r ws' [] ≡ ahead s ws []
unfolding ahead words_ahead parts in_lines
at_end s ws r ws' h e =
    e.goes_on [] ∙ ap (will_hear s ws) (ap (λ (l : List Word). placed_at s.line l ++ []) (sym (line_over s.stands h)))

pub kept_at_end : (s : Scan) (ws : List ℕ) (q : Scan) (ws' : List ℕ) → value_begun s < 2 ^ 64 → Ended s ws Between s.line (Ok q) ws' → heard (Ok q.count) ws' ≡ ahead s ws []
unfolding kept_words
kept_at_end s ws q ws' h e = at_end s ws (Ok q) ws' h e

-- ---- bytes after bytes

-- the bytes from place i on are still to be taken
abbrev pub Come : Scan → List ℕ → List ℕ → ℕ → Scan → List ℕ → Type 0
Come s ws bytes i r ws' = (length ws' ≡ length ws) × ((t : List ℕ) → ahead r ws' (drop i bytes ++ t) ≡ ahead s ws (bytes ++ t))

come_one : (s : Scan) (ws bytes : List ℕ) (i : ℕ) (r : Scan) (ws' : List ℕ) (q : Result Scan Fault) (ws'' t : List ℕ) → i < length bytes → Come s ws bytes i r ws' → Takes r ws' (get_or bytes i 0 ∷ []) q ws'' → onward q ws'' (drop (i + 1) bytes ++ t) ≡ ahead s ws (bytes ++ t)
come_one s ws bytes i r ws' q ws'' t h e x =
    x (drop (i + 1) bytes ++ t) ∙ sym (ap (λ (u : List ℕ). ahead r ws' (u ++ t)) (drop-cons bytes i 0 h ∙ ap (λ (n : ℕ). get_or bytes i 0 ∷ drop n bytes) (sym (add-one i)))) ∙ e.1 t

pub come_more : (s : Scan) (ws bytes : List ℕ) (i : ℕ) (r : Scan) (ws' : List ℕ) (q : Scan) (ws'' : List ℕ) → i < length bytes → Come s ws bytes i r ws' → length ws'' ≡ length ws' → Takes r ws' (get_or bytes i 0 ∷ []) (Ok q) ws'' → Come s ws bytes (i + 1) q ws''
come_more s ws bytes i r ws' q ws'' h e l x = (l ∙ e.0, λ t. come_one s ws bytes i r ws' (Ok q) ws'' t h e x)

pub come_halted : (s : Scan) (ws bytes : List ℕ) (i : ℕ) (r : Scan) (ws' : List ℕ) (f : Fault) (ws'' : List ℕ) → i < length bytes → Come s ws bytes i r ws' → Takes r ws' (get_or bytes i 0 ∷ []) (Err f) ws'' → Takes s ws bytes (Err f) ws''
come_halted s ws bytes i r ws' f ws'' h e x t = come_one s ws bytes i r ws' (Err f) ws'' t h e x

pub come_all : (s : Scan) (ws bytes : List ℕ) (i : ℕ) (r : Scan) (ws' : List ℕ) → length bytes ≡ i → Come s ws bytes i r ws' → Takes s ws bytes (Ok r) ws'
come_all s ws bytes i r ws' n e t =
    let d : drop i bytes ≡ [] = rw (← n) (drop-length bytes) in
    sym (ap (λ (u : List ℕ). ahead r ws' (u ++ t)) d) ∙ e.1 t

pub read_whole : (q : Scan) (ws text : List ℕ) (s : Result Scan Fault) (ws' : List ℕ) → ((ws t : List ℕ) → ahead q ws t ≡ says (length ws) t) → Takes q ws text s ws' → onward s ws' [] ≡ says (length ws) text
read_whole q ws text s ws' b x = x [] ∙ b ws (text ++ []) ∙ ap (says (length ws)) (append-nil text)

pub heard_wrong : (r : Result ℕ Fault) (f : Fault) (ws : List ℕ) → IsErr r → IsErrAnd r (λ e. e ≡ f) → heard r ws ≡ fault f.wrong f.line
heard_wrong (Ok n) f ws e h = false_true e
heard_wrong (Err g) f ws e h = rw h

pub comment_is : (st : Stands) → st ≡ Comment → is_comment st ≡ true
comment_is st e = rw e

pub comment_is_not : (st : Stands) → (st ≡ Comment → ⊥) → is_comment st ≡ false
comment_is_not Between n = refl
comment_is_not (Number v) n = refl
comment_is_not Comment n = absurd (n refl)
