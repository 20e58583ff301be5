-- How long a listing of ours is at most.
use Rattle.std.specs.Prelude.{◌≡◌, Bool, true, false, List, [], ◌∷◌, ◌++◌, ℕ, zero, suc, ◌+◌, ◌*◌, ◌/◌, ◌≤◌, ◌<◌, eqb, length}
use Rattle.std.proofs.Common.{ap, arith, length-append}
use Rattle.std.proofs.Math.Decide.{dec_lt}
use Rattle.spec.specs.Bytes.{In, here, there, pick, each, sum, Two, text, decimal, ok}
use Rattle.spec.specs.Image.{Tables}
use Rattle.spec.specs.Pool.{Pool, Node, node_at, LIT, VARIANTS, run_count, expanded_length}
use Rattle.spec.specs.Graph.{skipped_in}
use Rattle.spec.specs.Run.{Outcome, limits_for, run_of}
use Rattle.spec.specs.Listing.{subterms, reported, first_line, listing_of, lines_of}
use Rattle.spec.specs.declared.Caller.{Caller}
use Rattle.laws.specs.Lists.{in-get}
use Rattle.laws.specs.Valid.{Valid}
use Rattle.laws.specs.BestMembers.{IsPair}
use Rattle.skips.specs.Few.{pair-few}
use Rattle.lgg.specs.Limits.{limit-most}
use Rattle.lgg.specs.Skipped.{skipped-fits}
use Rattle.decimals.specs.DecimalLaws.{decimal-length-one, decimal-length-more}
use Rattle.first_line.specs.FieldLaws.{report-short}
use Rattle.own_lines.specs.Printed.{run_text, head_text, line_text}
use Rattle.own_lines.specs.Loading.{pool_text}
use Rattle.own_lines.specs.Renumbering.{nodes_of, no-more-terms, no-more-runs}
use Rattle.own_lines.specs.Text.{own-text}
use Rattle.own_lines.specs.Tidy.{Narrow}
use Rattle.own_lines.specs.Numbers.{Reports, run-reports}
use Rattle.own_lines.specs.OwnLines.{Printable, own-built, lines-print, lines-counts, own-printable}
use Rattle.own_lines.specs.Split.{listing-split}

-- ---- numbers
tens : ℕ → ℕ
tens zero = 1
tens (suc k) = 10 * tens k

few-digits : (k n : ℕ) → n < tens (suc k) → length (decimal n) ≤ suc k
unfolding tens
few-digits zero n h = omega (arith, decimal-length-one n (omega arith))
few-digits (suc k) n h = go (dec_lt n 10) (few-digits k (n / 10))
  where
    go : Dec (n < 10) → (n / 10 < tens (suc k) → length (decimal (n / 10)) ≤ suc k) → length (decimal n) ≤ suc (suc k)
    go (yes q) ih = omega (arith, decimal-length-one n q)
    go (no q) ih = omega (arith, decimal-length-more n (omega arith), ih (omega arith))

two_digits : (n : ℕ) → n ≤ 63 → length (decimal n) ≤ 2
unfolding tens
two_digits n h = few-digits 1 n (omega arith)

five-digits : (n : ℕ) → n ≤ 16384 → length (decimal n) ≤ 5
unfolding tens
five-digits n h = few-digits 4 n (omega arith)

ten-digits : (n : ℕ) → n ≤ 4294967295 → length (decimal n) ≤ 10
unfolding tens
ten-digits n h = few-digits 9 n (omega arith)

-- ---- lines
record Slim (n : Node) : Type 0 where
  op : n.op ≤ 63
  value : n.value ≤ 4294967295
  children : (r : Two) → In r n.runs → r.0 ≤ 16384
  counts : (r : Two) → In r n.runs → r.1 ≤ 4294967295

run_short : (r : Two) → r.0 ≤ 16384 → r.1 ≤ 4294967295 → length (run_text r) ≤ 17
unfolding run_text
run_short r h k = omega (arith, five-digits r.0 h, ten-digits r.1 k, length-append (decimal r.0) (58 ∷ decimal r.1))

runs-short : (l : List Two) → ((r : Two) → In r l → r.0 ≤ 16384) → ((r : Two) → In r l → r.1 ≤ 4294967295) → length (each run_text l) ≤ 17 * length l
unfolding each
runs-short [] h k = omega arith
runs-short (r ∷ l) h k = omega (arith, run_short r (h r here) (k r here), length-append (run_text r) (each run_text l), runs-short l (λ s i. h s (there i)) (λ s i. k s (there i)))

head-short : (n : Node) → n.op ≤ 63 → n.value ≤ 4294967295 → length (head_text n) ≤ 18
unfolding head_text text
head-short n h k = go (eqb n.head LIT) (eqb n.head VARIANTS)
  where
    go : (b c : Bool) → length (pick b (text " lit " ++ (decimal n.op ++ (32 ∷ decimal n.value))) (pick c (text " variants") (text " op " ++ decimal n.op))) ≤ 18
    go true c = omega (arith, two_digits n.op h, ten-digits n.value k, length-append (decimal n.op) (32 ∷ decimal n.value))
    go false true = omega arith
    go false false = omega (arith, two_digits n.op h)

line-short : (k : ℕ) (n : Node) (r : List ℕ) → k ≤ 16384 → Slim n → length (line_text k n r) ≤ 24 + 17 * length n.runs + length r
line-short k n r h S =
    omega (arith, five-digits k h, head-short n S.op S.value, runs-short n.runs S.children S.counts, length-append (decimal k) (head_text n ++ (each run_text n.runs ++ (10 ∷ r))), length-append (head_text n) (each run_text n.runs ++ (10 ∷ r)), length-append (each run_text n.runs) (10 ∷ r))

text-short : (k : ℕ) (q : Pool) → k + length q ≤ 16384 → ((n : Node) → In n q → Slim n) → length (pool_text k q) ≤ 24 * length q + 17 * run_count q
unfolding pool_text run_count
text-short k [] h S = omega arith
text-short k (n ∷ q) h S = omega (arith, line-short k n (pool_text (suc k) q) (omega arith) (S n here), text-short (suc k) q (omega arith) (λ m i. S m (there i)))

one-count : (r : Two) (l : List Two) → In r l → r.1 ≤ expanded_length l
unfolding sum
one-count r l (here {l = m}) = omega arith
one-count r l (there {l = m} i) = omega (arith, one-count r m i)

-- The lines of a term that is printable: 24 bytes a line, and 17 a run.
lines-short : (p : Pool) (a : ℕ) → Printable p a → length (lines_of p a) ≤ 1507328
lines-short p a K = omega (arith, ap length (own-text p a (own-built p a K)), text-short 0 q (omega (arith, fewer)) slim, fewer, no-more-runs p K.valid (subterms p a) (own-built p a K), K.few_runs)
  where
    q : Pool
    q = nodes_of p (subterms p a)

    fewer : length q ≤ 16384
    fewer = omega (arith, no-more-terms p K.valid (subterms p a) (own-built p a K), K.few)

    slim : (n : Node) → In n q → Slim n
    slim n i =
        let (k, h, e) = in-get _ n q i in
        let P = lines-print p a K k h in
        rw (← e) (record { op = P.operations; value = P.value; children = λ r j. let z = P.valid.below.earlier r j in omega (arith, fewer); counts = λ r j. omega (arith, one-count r (node_at q k).runs j, lines-counts p a K k h) })

-- ---- the listing
first_short : (k : ℕ) (o : Outcome) → Reports o → k ≤ 2151940096 → length (first_line k o) ≤ 183
unfolding first_line reported text
first_short k o R h = report-short o.complete (reported k o) (omega arith, omega (arith, R.nodes), (omega arith, omega (arith, R.rounds), (omega arith, omega (arith, R.size), (omega arith, omega (arith, R.mass), (omega arith, omega arith, (omega arith, omega (arith, R.checks), tt))))))

module _ (who : Caller) (t : Tables) (v : Valid t) (narrow : Narrow t) (p : Two) (h : IsPair t p) (budget : ℕ) (o : Outcome) (ran : run_of (limits_for who) t p budget ≡ ok o) where
  -- The whole listing: at most 183 bytes of the first line and 1,507,328 of the others.
  pub listing-short : length (listing_of (skipped_in (limits_for who) t p budget) o) ≤ 1600000
  listing-short =
      let k = skipped_in (limits_for who) t p budget in
      let s : k ≤ 2151940096 = omega (arith, skipped-fits (limits_for who) t p v h 525376 (λ x i. pair-few t v x.0 x.1 i.0 i.1) budget, limit-most who) in
      omega (arith, ap length (listing-split k o), length-append (first_line k o) (lines_of o.pool o.root), first_short k o (run-reports (limits_for who) (limit-most who) t v p h budget o ran) s, lines-short o.pool o.root (own-printable who t v narrow p h budget o ran))
