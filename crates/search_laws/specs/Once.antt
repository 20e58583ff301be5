-- A queue in which each node stands at most once is no longer than there are nodes.
use Rattle.std.specs.Prelude.{◌≡◌, refl, ◌≢◌, List, [], ◌∷◌, ◌++◌, ℕ, suc, ◌+◌, ◌≤◌, ◌<◌, eqb, length}
use Rattle.std.proofs.Common.{sym, ◌∙◌, mul-zero, arith, eq-eqb, ne_eqb}
use Rattle.spec.specs.Bytes.{pick, sum_to}
use Rattle.spec.specs.Meaning.{occurs, In, here, there}
use Rattle.flow.specs.Sums.{sum-add, sum-const, sum-change, sum_lt}

abbrev pub one : ℕ → ℕ → ℕ
one x v = pick (eqb x v) 1 0

pub one_same : (x : ℕ) → one x x ≡ 1
one_same x = rw (eq-eqb x x refl) refl

pub one-other : (x v : ℕ) → x ≢ v → one x v ≡ 0
one-other x v ne = rw (ne_eqb x v ne) refl

pub occurs-last : (v u : ℕ) (q : List ℕ) → occurs v (q ++ (u ∷ [])) ≡ occurs v q + one u v
unfolding occurs
occurs-last v u [] = omega arith
occurs-last v u (x ∷ q) = omega (arith, occurs-last v u q)

pub occurs-first : (v u : ℕ) (q : List ℕ) → occurs v (u ∷ q) ≡ one u v + occurs v q
unfolding occurs
occurs-first v u q = refl

-- over N nodes each entry counts once
one-sum : (N x : ℕ) → x < N → sum_to N (λ v. one x v) ≡ 1
one-sum N x h =
    let q = sum-change N (λ v. one x v) (λ v. 0) x h (λ i hi ne. one-other x i (λ e. ne (sym e))) in
    omega (arith, one_same x, sum-const N 0)

pub occurs-sum : (N : ℕ) (q : List ℕ) → ((v : ℕ) → In v q → v < N) → sum_to N (λ v. occurs v q) ≡ length q
unfolding occurs
occurs-sum N [] h = sum-const N 0 ∙ mul-zero N
occurs-sum N (x ∷ q) h = sum-add N (λ v. one x v) (λ v. occurs v q) ∙ both (occurs-sum N q (λ v i. h v (there i)))
  where
    both : sum_to N (λ v. occurs v q) ≡ length q → sum_to N (λ v. one x v) + sum_to N (λ v. occurs v q) ≡ suc (length q)
    both e = omega (arith, one-sum N x (h x here))

-- a node that does not stand in the queue finds a place free
pub queue-room : (N : ℕ) (q : List ℕ) (w : ℕ) → ((v : ℕ) → In v q → v < N) → ((v : ℕ) → occurs v q ≤ 1) → w < N → occurs w q ≡ 0 → length q < N
queue-room N q w h o hw e = omega (arith, occurs-sum N q h, sum_lt N {f = λ v. occurs v q} {g = λ v. 1} w hw (λ v hv. o v) (omega arith), sum-const N 1)
