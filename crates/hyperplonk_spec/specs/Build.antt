-- The building call: questions 12 to 15 and 17, and what is returned and written.
use Rattle.std.specs.Prelude.{Bool, cond, ◌&&◌, List, [], ◌∷◌, ◌++◌, map, ℕ, ◌+◌, ◌*◌, length, get_or, take, replicate, eqb, leb}
use Rattle.field.specs.Field.{𝔾, el}
use Rattle.lists.specs.Lists.{all_of, total, write_prefix, Question, question, question_of, first_no}
use Rattle.backend.specs.Circuit.{Circuit, circuit_of, rows_of, num_instance, num_witness, num_challenges, num_copied, num_lookups, num_groups}
use Rattle.backend.specs.Questions.{circuit_questions, small}
use Rattle.preprocessor.specs.Compose.{num_z, composed_words, composed_nodes}
use Rattle.prover.specs.Log.{Log}
use Rattle.prover.specs.Columns.{all_covered, written_polys}
use Rattle.prover.specs.Denominators.{zero_denominator}
unfoldable pub use Rattle.prover.specs.Words.{words_of}
use Rattle.hyperplonk_spec.specs.declared.Built.{Built}

-- the log that the words are; "challenges (the user's, then β, γ)"
unfoldable pub log_of : List ℕ → List ℕ → List ℕ → List ℕ → Log 𝔾
log_of ws instances witness challenges =
    record {
      circuit = circuit_of ws;
      el = el;
      instances = instances;
      witness = witness;
      user = map el (take (num_challenges (circuit_of ws)) challenges);
      β = el (get_or challenges (num_challenges (circuit_of ws)) 0);
      γ = el (get_or challenges (num_challenges (circuit_of ws) + 1) 0);
    }

-- the column words needed: instance, permutation, two compressed for each lookup, m and h for each group, z
unfoldable pub column_words : Circuit → ℕ
column_words c = (num_instance c + num_copied c + num_lookups c * 2 + num_groups c * 2 + num_z c) * rows_of c

-- "Have instance, witness and challenge words the exact length?"
unfoldable pub q12 : Circuit → List ℕ → List ℕ → List ℕ → Bool
q12 c instances witness challenges =
    eqb (length instances) (total c.instances) && eqb (length witness) (num_witness c * rows_of c)
    && eqb (length challenges) (num_challenges c + 2)

-- "Are they all below p?"
unfoldable pub q13 : List ℕ → List ℕ → List ℕ → Bool
q13 instances witness challenges = all_of small instances && all_of small witness && all_of small challenges

-- "Have both output buffers at least the words needed?"
unfoldable pub q14 : Circuit → List ℕ → List ℕ → Bool
q14 c columns nodes = leb (column_words c) (length columns) && leb (composed_nodes c * 4) (length nodes)

-- the six lent slices
pub record Lent : Type 0 where
  pub circuit : List ℕ
  pub instances : List ℕ
  pub witness : List ℕ
  pub challenges : List ℕ
  pub columns : List ℕ
  pub nodes : List ℕ

abbrev pub lent_build : List ℕ → List ℕ → List ℕ → List ℕ → List ℕ → List ℕ → Lent
lent_build circuit instances witness challenges columns nodes =
    record {
      circuit = circuit;
      instances = instances;
      witness = witness;
      challenges = challenges;
      columns = columns;
      nodes = nodes;
    }

-- questions 1 to 14
unfoldable pub build_questions : List (Question Lent)
build_questions =
    map (question_of (λ (l : Lent). l.circuit)) circuit_questions
    ++ (question 12 (λ (l : Lent). q12 (circuit_of l.circuit) l.instances l.witness l.challenges)
    ∷ question 13 (λ (l : Lent). q13 l.instances l.witness l.challenges)
    ∷ question 14 (λ (l : Lent). q14 (circuit_of l.circuit) l.columns l.nodes)
    ∷ [])

-- the number that they give, 0 when all are yes
unfoldable pub check_build : Lent → ℕ
check_build l = first_no build_questions l

-- what the call returns, and what both buffers hold then
pub record Output : Type 0 where
  pub answer : Built
  pub columns : List ℕ
  pub nodes : List ℕ

-- "a refusal returns three zeros after its number"
abbrev pub refused : ℕ → Built
refused n = record { number = n; column_words = 0; nodes = 0; z_columns = 0 }

abbrev pub success : Circuit → Built
success c = record { number = 0; column_words = column_words c; nodes = composed_nodes c; z_columns = num_z c }

-- "Words past those written stay untouched. Refusals write nothing, except 15: the column words needed become 0." Item 2 of document 02,
-- of 17: it "zeroes the column words as 15 does", "and only 15 and 17 change a buffer"
abbrev pub refusal : ℕ → List ℕ → List ℕ → Output
refusal n columns nodes = record { answer = refused n; columns = columns; nodes = nodes }

unfoldable pub zeroed : ℕ → Circuit → List ℕ → List ℕ → Output
zeroed n c columns nodes =
    record { answer = refused n; columns = write_prefix (replicate (column_words c) 0) columns; nodes = nodes }

unfoldable pub made : Log 𝔾 → List ℕ → List ℕ → Output
made g columns nodes =
    record {
      answer = success g.circuit;
      columns = write_prefix (words_of (rows_of g.circuit) (written_polys 𝔾 g)) columns;
      nodes = write_prefix (composed_words g.circuit) nodes;
    }

-- question 15 and after: "Number 17, asked after 15, is given exactly if a denominator of document 01 is zero"
unfoldable pub build_log : Log 𝔾 → List ℕ → List ℕ → Output
build_log g columns nodes =
    let no-15 = zeroed 15 g.circuit columns nodes in
    let no-17 = zeroed 17 g.circuit columns nodes in
    cond (all_covered 𝔾 g) (cond (zero_denominator 𝔾 g) no-17 (made g columns nodes)) no-15

-- the building call
unfoldable pub build_of : Lent → Output
build_of l =
    let number = check_build l in
    let built = build_log (log_of l.circuit l.instances l.witness l.challenges) l.columns l.nodes in
    cond (eqb number 0) built (refusal number l.columns l.nodes)
