-- What entering one term more leaves in the buffers.
use Rattle.std.specs.Prelude.{List, ℕ, ◌+◌, ◌*◌, set}
use Rattle.std.proofs.Math.Seq.{paste}
use Rattle.terms.specs.Buffers.{BUCKET, COUNT, FIRSTS, HEADS, VALUES, CHAINS, first_in, count_in, bucket_in}

-- one term more: its numbers, then it is the last of its chain and it is counted
abbrev pub put_term : List ℕ → ℕ → ℕ → ℕ → ℕ → List ℕ
put_term terms i h v e = set (set (set terms (HEADS + i * 4) h) (VALUES + i * 4) v) (FIRSTS + (i + 1) * 4) e

abbrev pub put_chain : List ℕ → ℕ → ℕ → List ℕ
put_chain terms i b = set (set (set terms (CHAINS + i * 4) (bucket_in terms b)) (BUCKET + b) (i + 1)) COUNT (i + 1)

unfoldable pub enter_term : List ℕ → ℕ → ℕ → ℕ → ℕ → List ℕ
enter_term terms h v n b = put_chain (put_term terms (count_in terms) h v (first_in terms (count_in terms) + n)) (count_in terms) b

unfoldable pub enter_runs : List ℕ → List ℕ → List ℕ → ℕ → List ℕ
enter_runs terms runs list n = paste runs (first_in terms (count_in terms)) list n
