-- "Checks: one a pair in building, one a pair in starting terms, one at each round's start and one a pair in it": what each part spends, and that more checks do not change what it gives.
use Rattle.std.specs.Prelude.{◌≡◌, refl, List, [], ◌∷◌, ℕ, zero, suc, ◌+◌, ◌<◌, length}
use Rattle.std.proofs.Common.{ap, arith}
use Rattle.std.proofs.Math.Nat.{suc_inj}
use Rattle.spec.specs.Bytes.{Res, ok, refused, ◌>>=◌, Checked, passed, cut_short}
use Rattle.spec.specs.Pool.{Pool, Interned}
use Rattle.spec.specs.System.{System, Making, look_up, Turn, choice_term, Terms, prepend, turns_terms, starting_terms, State, round_terms}
use Rattle.laws.specs.Results.{Later, refused-ok, ok-inj, passed-inj, cut-passed}

-- what takes n checks, with a budget of b: cut short below n, and b - n left from there on
pub data Spent {A : Type 0} (n b : ℕ) : Res (Checked A) → Type 0 where
  cut : b < n → Spent n b (ok cut_short)
  paid : {a : A} {c : ℕ} → b ≡ n + c → Spent n b (ok (passed a c))
  ended : {k : ℕ} → Spent n b (refused k)

-- so many are left
pub spent-left : {A : Type 0} (n b : ℕ) (x : Res (Checked A)) → Spent n b x → (a : A) (c : ℕ) → x ≡ ok (passed a c) → b ≡ n + c
spent-left n b x (cut h) a c z = absurd (cut-passed (ok-inj z))
spent-left n b x (paid h) a c z = omega (arith, (passed-inj (ok-inj z)).1)
spent-left n b x ended a c z = absurd (refused-ok z)

spent-prepend : (a n b : ℕ) (r : Res (Checked Terms)) → Spent n b r → Spent (suc n) (suc b) (r >>= λ x. ok (prepend a x))
spent-prepend a n b r (cut h) = cut (omega arith)
spent-prepend a n b r (paid {c = c} e) = paid {c = c} (omega arith)
spent-prepend a n b r ended = ended

later-prepend : (a e : ℕ) (r s : Res (Checked Terms)) → Later e r s → Later e (r >>= λ x. ok (prepend a x)) (s >>= λ x. ok (prepend a x))
later-prepend a e (ok (passed x c)) s h = ap (λ (z : Res (Checked Terms)). z >>= λ x. ok (prepend a x)) h
later-prepend a e (ok cut_short) s h = tt
later-prepend a e (refused n) s h = ap (λ (z : Res (Checked Terms)). z >>= λ x. ok (prepend a x)) h

-- ---- starting terms
pub starting-spends : {N : Type 0} (M : Making N) (cs : List N) (b : ℕ) (p : Pool) → Spent (length cs) b (starting_terms M cs b p)
unfolding starting_terms
starting-spends M [] b p = paid {c = b} (omega arith)
starting-spends M (c ∷ cs) zero p = cut (omega arith)
starting-spends M (c ∷ cs) (suc b) p = go (M.starting_term p c) (λ q. starting-spends M cs b q)
  where
    go : (r : Res Interned) → ((q : Pool) → Spent (length cs) b (starting_terms M cs b q)) → Spent (suc (length cs)) (suc b) (r >>= λ a. starting_terms M cs b a.pool >>= λ r. ok (prepend a.term r))
    go (ok a) ih = spent-prepend a.term (length cs) b (starting_terms M cs b a.pool) (ih a.pool)
    go (refused n) ih = ended

pub starting-later : {N : Type 0} (M : Making N) (cs : List N) (b c e : ℕ) (p : Pool) → c ≡ b + e → Later e (starting_terms M cs b p) (starting_terms M cs c p)
unfolding starting_terms
starting-later M [] b c e p k = ap (λ (z : ℕ). ok (passed (record { pool = p; terms = [] }) z)) k
starting-later M (x ∷ cs) zero c e p k = tt
starting-later M (x ∷ cs) (suc b) zero e p k = absurd (omega arith)
starting-later M (x ∷ cs) (suc b) (suc c) e p k = go (M.starting_term p x) (λ q. starting-later M cs b c e q (omega arith))
  where
    go : (r : Res Interned) → ((q : Pool) → Later e (starting_terms M cs b q) (starting_terms M cs c q)) → Later e (r >>= λ a. starting_terms M cs b a.pool >>= λ r. ok (prepend a.term r)) (r >>= λ a. starting_terms M cs c a.pool >>= λ r. ok (prepend a.term r))
    go (ok a) ih = later-prepend a.term e (starting_terms M cs b a.pool) (starting_terms M cs c a.pool) (ih a.pool)
    go (refused n) ih = refl

-- ---- the turns of a round
turns-spend : {N : Type 0} (M : Making N) (of : N → ℕ) (ps : List N) (ws : List (Turn N)) (b : ℕ) (p : Pool) → length ws ≡ length ps → Spent (length ps) b (turns_terms M of ps ws b p)
unfolding turns_terms
turns-spend M of [] ws b p l = paid {c = b} (omega arith)
turns-spend M of (x ∷ ps) [] b p l = absurd (omega arith)
turns-spend M of (x ∷ ps) (w ∷ ws) zero p l = cut (omega arith)
turns-spend M of (x ∷ ps) (w ∷ ws) (suc b) p l = go (choice_term M of p (of x) w.choice) (λ q. turns-spend M of ps ws b q (suc_inj l))
  where
    go : (r : Res Interned) → ((q : Pool) → Spent (length ps) b (turns_terms M of ps ws b q)) → Spent (suc (length ps)) (suc b) (r >>= λ a. turns_terms M of ps ws b a.pool >>= λ r. ok (prepend a.term r))
    go (ok a) ih = spent-prepend a.term (length ps) b (turns_terms M of ps ws b a.pool) (ih a.pool)
    go (refused n) ih = ended

turns-later : {N : Type 0} (M : Making N) (of : N → ℕ) (ps : List N) (ws : List (Turn N)) (b c e : ℕ) (p : Pool) → c ≡ b + e → Later e (turns_terms M of ps ws b p) (turns_terms M of ps ws c p)
unfolding turns_terms
turns-later M of [] ws b c e p k = ap (λ (z : ℕ). ok (passed (record { pool = p; terms = [] }) z)) k
turns-later M of (x ∷ ps) [] b c e p k = ap (λ (z : ℕ). ok (passed (record { pool = p; terms = [] }) z)) k
turns-later M of (x ∷ ps) (w ∷ ws) zero c e p k = tt
turns-later M of (x ∷ ps) (w ∷ ws) (suc b) zero e p k = absurd (omega arith)
turns-later M of (x ∷ ps) (w ∷ ws) (suc b) (suc c) e p k = go (choice_term M of p (of x) w.choice) (λ q. turns-later M of ps ws b c e q (omega arith))
  where
    go : (r : Res Interned) → ((q : Pool) → Later e (turns_terms M of ps ws b q) (turns_terms M of ps ws c q)) → Later e (r >>= λ a. turns_terms M of ps ws b a.pool >>= λ r. ok (prepend a.term r)) (r >>= λ a. turns_terms M of ps ws c a.pool >>= λ r. ok (prepend a.term r))
    go (ok a) ih = later-prepend a.term e (turns_terms M of ps ws b a.pool) (turns_terms M of ps ws c a.pool) (ih a.pool)
    go (refused n) ih = refl

-- ---- a round
pub round-spends : {N : Type 0} (S : System N) (M : Making N) (ps : List N) (s : State) (ws : List (Turn N)) (b : ℕ) → length ws ≡ length ps → Spent (suc (length ps)) b (round_terms S M ps s ws b)
unfolding round_terms
round-spends S M ps s ws zero l = cut (omega arith)
round-spends S M ps s ws (suc b) l = go (turns_terms M (look_up S.same 0 ps s.terms) ps ws b s.pool) (turns-spend M (look_up S.same 0 ps s.terms) ps ws b s.pool l)
  where
    go : (r : Res (Checked Terms)) → Spent (length ps) b r → Spent (suc (length ps)) (suc b) r
    go r (cut h) = cut (omega arith)
    go r (paid {c = c} e) = paid {c = c} (omega arith)
    go r ended = ended

-- the state with another budget
abbrev pub with_budget : State → ℕ → State
with_budget s b = record { pool = s.pool; qualities = s.qualities; terms = s.terms; rounds = s.rounds; budget = b; spent = s.spent }

pub round-later : {N : Type 0} (S : System N) (M : Making N) (ps : List N) (s : State) (ws : List (Turn N)) (b c e d : ℕ) → c ≡ b + e → Later e (round_terms S M ps s ws b) (round_terms S M ps (with_budget s d) ws c)
unfolding round_terms
round-later S M ps s ws zero c e d k = tt
round-later S M ps s ws (suc b) zero e d k = absurd (omega arith)
round-later S M ps s ws (suc b) (suc c) e d k = turns-later M (look_up S.same 0 ps s.terms) ps ws b c e s.pool (omega arith)
