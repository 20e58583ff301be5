-- The turns of a round and the starting terms as a loop runs them: the terms so far, and what the rest from node k on comes to.
use Rattle.std.specs.Prelude.{◌≡◌, refl, Bool, true, false, length, get_or, take, drop}
use Rattle.std.proofs.Common.{sym, ◌∙◌, not-suc-le-zero, add-one, arith, drop_of_length-le, drop-cons}
use Rattle.std.proofs.Math.Path.{ap, ap₂}
use mathlib.Core.List.{List, [], ◌∷◌, ◌++◌, map, append-nil, append_assoc}
use Prim.Native.Nat.{ℕ, zero, suc, ◌+◌, ◌≤◌, ◌<◌}
use Rattle.spec.specs.Bytes.{any, either, Two, Res, ok, refused, ◌>>=◌, Checked, passed, cut_short}
use Rattle.spec.specs.Pool.{Pool, Interned}
use Rattle.spec.specs.System.{System, Making, look_up, Turn, changes, turn_of, turns_of, choice_term, Terms, prepend, turns_terms, starting_terms}
use Rattle.laws.specs.Lists.{length-map, map-map, get-map}

-- ---- lists
pub turns-length : {N : Type 0} (S : System N) (ps : List N) (qs : List Two) → length (turns_of S ps qs) ≡ length ps
unfolding turns_of
turns-length S ps qs = length-map (turn_of S (look_up S.same (0, 0) ps qs)) ps

pub turn-at : {N : Type 0} (S : System N) (ps : List N) (qs : List Two) (k : ℕ) (d : Turn N) → k < length ps → get_or (turns_of S ps qs) k d ≡ turn_of S (look_up S.same (0, 0) ps qs) (get_or ps k S.other)
unfolding turns_of
turn-at {N = N} S ps qs k d h = get-map (turn_of S (look_up S.same (0, 0) ps qs)) ps k S.other d h

-- node k's entry in the list of the round's qualities
pub turn-quality : {N : Type 0} (S : System N) (ps : List N) (qs : List Two) (k : ℕ) → k < length ps → get_or (map (λ w. w.quality) (turns_of S ps qs)) k (0, 0) ≡ (turn_of S (look_up S.same (0, 0) ps qs) (get_or ps k S.other)).quality
unfolding turns_of
turn-quality {N = N} S ps qs k h =
    ap (λ (l : List Two). get_or l k (0, 0)) (map-map (turn_of S (look_up S.same (0, 0) ps qs)) (λ w. w.quality) ps)
    ∙ get-map (λ p. (turn_of S (look_up S.same (0, 0) ps qs) p).quality) ps k S.other (0, 0) h

-- whether one of the first k turns changes its node
abbrev pub changed_by : {N : Type 0} → System N → List N → List Two → ℕ → Bool
changed_by S ps qs k = any changes (take k (turns_of S ps qs))

any-take : {A : Type 0} (f : A → Bool) (l : List A) (k : ℕ) (d : A) → k < length l → any f (take (suc k) l) ≡ either (any f (take k l)) (f (get_or l k d))
unfolding any
any-take f [] k d h = absurd (not-suc-le-zero h)
any-take f (x ∷ l) zero d h = go (f x)
  where
    go : (b : Bool) → elim b [ true ↦ true | false ↦ false ] ≡ b
    go true = refl
    go false = refl
any-take f (x ∷ l) (suc k) d h = go (f x) (any-take f l k d (omega arith))
  where
    go : (b : Bool) → any f (take (suc k) l) ≡ either (any f (take k l)) (f (get_or l k d)) → elim b [ true ↦ true | false ↦ any f (take (suc k) l) ] ≡ either (elim b [ true ↦ true | false ↦ any f (take k l) ]) (f (get_or l k d))
    go true e = refl
    go false e = e

pub changed-begin : {N : Type 0} (S : System N) (ps : List N) (qs : List Two) → changed_by S ps qs 0 ≡ false
unfolding any
changed-begin S ps qs = refl

pub changed-turn : {N : Type 0} (S : System N) (ps : List N) (qs : List Two) (k : ℕ) → k < length ps → changed_by S ps qs (k + 1) ≡ either (changed_by S ps qs k) (changes (turn_of S (look_up S.same (0, 0) ps qs) (get_or ps k S.other)))
changed-turn {N = N} S ps qs k h =
    let d = turn_of S (look_up S.same (0, 0) ps qs) S.other in
    rw (add-one k) (any-take changes (turns_of S ps qs) k d (omega (arith, turns-length S ps qs))
    ∙ ap (λ (w : Turn N). either (changed_by S ps qs k) (changes w)) (turn-at S ps qs k d h))

pub changed-end : {N : Type 0} (S : System N) (ps : List N) (qs : List Two) (k : ℕ) → length ps ≤ k → changed_by S ps qs k ≡ any changes (turns_of S ps qs)
changed-end {N = N} S ps qs k h = ap (any changes) (all-taken (turns_of S ps qs) k (omega (arith, turns-length S ps qs)))
  where
    all-taken : (l : List (Turn N)) (k : ℕ) → length l ≤ k → take k l ≡ l
    all-taken [] zero h = refl
    all-taken [] (suc k) h = refl
    all-taken (x ∷ l) zero h = absurd (not-suc-le-zero h)
    all-taken (x ∷ l) (suc k) h = ap (λ (z : List (Turn N)). x ∷ z) (all-taken l k (omega arith))

-- ---- the terms so far put before the terms of the rest
abbrev pub prefixed : List ℕ → Res (Checked Terms) → Res (Checked Terms)
prefixed l (ok (passed r b)) = ok (passed (record { pool = r.pool; terms = l ++ r.terms }) b)
prefixed l (ok cut_short) = ok cut_short
prefixed l (refused n) = refused n

pub prefixed-nil : (r : Res (Checked Terms)) → prefixed [] r ≡ r
prefixed-nil (ok (passed r b)) = refl
prefixed-nil (ok cut_short) = refl
prefixed-nil (refused n) = refl

pub prefixed-append : (l m : List ℕ) (r : Res (Checked Terms)) → prefixed (l ++ m) r ≡ prefixed l (prefixed m r)
prefixed-append l m (ok (passed r b)) = ap (λ (z : List ℕ). ok (passed (record { pool = r.pool; terms = z }) b)) (append_assoc l m r.terms)
prefixed-append l m (ok cut_short) = refl
prefixed-append l m (refused n) = refl

pub prefixed-one : (a : ℕ) (r : Res (Checked Terms)) → (r >>= λ c. ok (prepend a c)) ≡ prefixed (a ∷ []) r
prefixed-one a (ok (passed r b)) = refl
prefixed-one a (ok cut_short) = refl
prefixed-one a (refused n) = refl

-- a term is made, then those of the rest
made-rest : (made : Res Interned) (rest : Pool → Res (Checked Terms)) → (made >>= λ a. rest a.pool >>= λ c. ok (prepend a.term c)) ≡ (made >>= λ a. prefixed (a.term ∷ []) (rest a.pool))
made-rest (ok a) rest = prefixed-one a.term (rest a.pool)
made-rest (refused n) rest = refl

-- one turn of a loop: what the whole comes to, from the step
step-made : (whole : Res (Checked Terms)) (done : List ℕ) (made : Res Interned) (rest : Pool → Res (Checked Terms)) (a : Interned) → whole ≡ prefixed done (made >>= λ a. prefixed (a.term ∷ []) (rest a.pool)) → made ≡ ok a
    → whole ≡ prefixed (done ++ (a.term ∷ [])) (rest a.pool)
step-made whole done made rest a w e = w ∙ ap (λ (z : Res Interned). prefixed done (z >>= λ a. prefixed (a.term ∷ []) (rest a.pool))) e ∙ sym (prefixed-append done (a.term ∷ []) (rest a.pool))

step-refused : (whole : Res (Checked Terms)) (done : List ℕ) (made : Res Interned) (rest : Pool → Res (Checked Terms)) (n : ℕ) → whole ≡ prefixed done (made >>= λ a. prefixed (a.term ∷ []) (rest a.pool)) → made ≡ refused n
    → whole ≡ refused n
step-refused whole done made rest n w e = w ∙ ap (λ (z : Res Interned). prefixed done (z >>= λ a. prefixed (a.term ∷ []) (rest a.pool))) e

-- nothing is left
end-made : (done : List ℕ) (pool : Pool) (b : ℕ) → prefixed done (ok (passed (record { pool = pool; terms = [] }) b)) ≡ ok (passed (record { pool = pool; terms = done }) b)
end-made done pool b = ap (λ (z : List ℕ). ok (passed (record { pool = pool; terms = z }) b)) (append-nil done)

-- ---- the turns of a round, from node k on
abbrev pub turns_from : {N : Type 0} → Making N → (N → ℕ) → List N → List (Turn N) → ℕ → ℕ → Pool → Res (Checked Terms)
turns_from M of ps ws k b pool = turns_terms M of (drop k ps) (drop k ws) b pool

module _ {N : Type 0} (M : Making N) (of : N → ℕ) (ps : List N) (other : N) (ws : List (Turn N)) (d : Turn N) (len : length ws ≡ length ps) where
  pub turns-from-cut : (k : ℕ) (pool : Pool) → k < length ps → turns_from M of ps ws k zero pool ≡ ok cut_short
  unfolding turns_terms
  turns-from-cut k pool h = ap₂ (λ (x : List N) (y : List (Turn N)). turns_terms M of x y zero pool) (drop-cons ps k other h) (drop-cons ws k d (omega arith))

  pub turns-from-next : (k b : ℕ) (pool : Pool) → k < length ps
      → turns_from M of ps ws k (suc b) pool ≡ (choice_term M of pool (of (get_or ps k other)) (get_or ws k d).choice >>= λ a. prefixed (a.term ∷ []) (turns_from M of ps ws (suc k) b a.pool))
  unfolding turns_terms
  turns-from-next k b pool h =
      ap₂ (λ (x : List N) (y : List (Turn N)). turns_terms M of x y (suc b) pool) (drop-cons ps k other h) (drop-cons ws k d (omega arith))
      ∙ made-rest (choice_term M of pool (of (get_or ps k other)) (get_or ws k d).choice) (λ p. turns_from M of ps ws (suc k) b p)

  pub turns-from-end : (k b : ℕ) (pool : Pool) → length ps ≤ k → turns_from M of ps ws k b pool ≡ ok (passed (record { pool = pool; terms = [] }) b)
  unfolding turns_terms
  turns-from-end k b pool h = ap (λ (x : List N). turns_terms M of x (drop k ws) b pool) (drop_of_length-le ps {i = k} h)

-- ---- the loop over a round's turns: nodes ps with the qualities qs of the round before, terms `of`; `whole` is what the round comes to
module _ {N : Type 0} (S : System N) (M : Making N) (of : N → ℕ) (ps : List N) (qs : List Two) where
  -- the round's result, when the first k turns have given the terms `done` and the pool, and b checks are left
  abbrev pub RoundAt : Res (Checked Terms) → ℕ → List ℕ → ℕ → Pool → Type 0
  RoundAt whole k done b pool = whole ≡ prefixed done (turns_from M of ps (turns_of S ps qs) k b pool)

  -- what node k's turn enters
  abbrev pub turn_term : ℕ → Pool → Res Interned
  turn_term k pool = choice_term M of pool (of (get_or ps k S.other)) (turn_of S (look_up S.same (0, 0) ps qs) (get_or ps k S.other)).choice

  pub round-begin : (b : ℕ) (pool : Pool) → RoundAt (turns_terms M of ps (turns_of S ps qs) b pool) 0 [] b pool
  round-begin b pool = sym (prefixed-nil (turns_terms M of ps (turns_of S ps qs) b pool))

  module _ (whole : Res (Checked Terms)) (k : ℕ) (done : List ℕ) where
    pub round-cut : (b : ℕ) (pool : Pool) → k < length ps → b ≡ 0 → RoundAt whole k done b pool → whole ≡ ok cut_short
    round-cut b pool h e w = (rw e at w) ∙ ap (prefixed done) (turns-from-cut M of ps S.other (turns_of S ps qs) w₀ (turns-length S ps qs) k pool h)
      where
        w₀ : Turn N
        w₀ = turn_of S (look_up S.same (0, 0) ps qs) S.other

    next : (b : ℕ) (pool : Pool) → k < length ps → RoundAt whole k done (suc b) pool → whole ≡ prefixed done (turn_term k pool >>= λ a. prefixed (a.term ∷ []) (turns_from M of ps (turns_of S ps qs) (suc k) b a.pool))
    next b pool h w =
        w ∙ ap (prefixed done) (turns-from-next M of ps S.other (turns_of S ps qs) w₀ (turns-length S ps qs) k b pool h
        ∙ ap (λ (z : Turn N). choice_term M of pool (of (get_or ps k S.other)) z.choice >>= λ a. prefixed (a.term ∷ []) (turns_from M of ps (turns_of S ps qs) (suc k) b a.pool)) (turn-at S ps qs k w₀ h))
      where
        w₀ : Turn N
        w₀ = turn_of S (look_up S.same (0, 0) ps qs) S.other

    pub round-turn : (b c : ℕ) (pool : Pool) (a : Interned) → k < length ps → b ≡ c + 1 → RoundAt whole k done b pool → turn_term k pool ≡ ok a → RoundAt whole (k + 1) (done ++ (a.term ∷ [])) c a.pool
    round-turn b c pool a h e w m = rw (add-one k) (step-made whole done (turn_term k pool) (λ p. turns_from M of ps (turns_of S ps qs) (suc k) c p) a (next c pool h (rw (e, add-one c) at w)) m)

    pub round-refused : (b c : ℕ) (pool : Pool) (n : ℕ) → k < length ps → b ≡ c + 1 → RoundAt whole k done b pool → turn_term k pool ≡ refused n → whole ≡ refused n
    round-refused b c pool n h e w m = step-refused whole done (turn_term k pool) (λ p. turns_from M of ps (turns_of S ps qs) (suc k) c p) n (next c pool h (rw (e, add-one c) at w)) m

    pub round-end : (b : ℕ) (pool : Pool) → length ps ≤ k → RoundAt whole k done b pool → whole ≡ ok (passed (record { pool = pool; terms = done }) b)
    round-end b pool h w = w ∙ ap (prefixed done) (turns-from-end M of ps S.other (turns_of S ps qs) (turn_of S (look_up S.same (0, 0) ps qs) S.other) (turns-length S ps qs) k b pool h) ∙ end-made done pool b

-- ---- the starting terms, from node k on
abbrev pub starting_from : {N : Type 0} → Making N → List N → ℕ → ℕ → Pool → Res (Checked Terms)
starting_from M ps k b pool = starting_terms M (drop k ps) b pool

module _ {N : Type 0} (M : Making N) (ps : List N) (other : N) where
  pub starting-from-cut : (k : ℕ) (pool : Pool) → k < length ps → starting_from M ps k zero pool ≡ ok cut_short
  unfolding starting_terms
  starting-from-cut k pool h = ap (λ (x : List N). starting_terms M x zero pool) (drop-cons ps k other h)

  pub starting-from-next : (k b : ℕ) (pool : Pool) → k < length ps
      → starting_from M ps k (suc b) pool ≡ (M.starting_term pool (get_or ps k other) >>= λ a. prefixed (a.term ∷ []) (starting_from M ps (suc k) b a.pool))
  unfolding starting_terms
  starting-from-next k b pool h =
      ap (λ (x : List N). starting_terms M x (suc b) pool) (drop-cons ps k other h)
      ∙ made-rest (M.starting_term pool (get_or ps k other)) (λ p. starting_from M ps (suc k) b p)

  pub starting-from-end : (k b : ℕ) (pool : Pool) → length ps ≤ k → starting_from M ps k b pool ≡ ok (passed (record { pool = pool; terms = [] }) b)
  unfolding starting_terms
  starting-from-end k b pool h = ap (λ (x : List N). starting_terms M x b pool) (drop_of_length-le ps {i = k} h)

  -- what the starting terms come to, when the first k nodes have given the terms `done` and the pool, and b checks are left
  abbrev pub StartingAt : Res (Checked Terms) → ℕ → List ℕ → ℕ → Pool → Type 0
  StartingAt whole k done b pool = whole ≡ prefixed done (starting_from M ps k b pool)

  pub starting-begin : (b : ℕ) (pool : Pool) → StartingAt (starting_terms M ps b pool) 0 [] b pool
  starting-begin b pool = sym (prefixed-nil (starting_terms M ps b pool))

  module _ (whole : Res (Checked Terms)) (k : ℕ) (done : List ℕ) where
    pub starting-cut : (b : ℕ) (pool : Pool) → k < length ps → b ≡ 0 → StartingAt whole k done b pool → whole ≡ ok cut_short
    starting-cut b pool h e w = (rw e at w) ∙ ap (prefixed done) (starting-from-cut k pool h)

    pub starting-turn : (b c : ℕ) (pool : Pool) (a : Interned) → k < length ps → b ≡ c + 1 → StartingAt whole k done b pool → M.starting_term pool (get_or ps k other) ≡ ok a → StartingAt whole (k + 1) (done ++ (a.term ∷ [])) c a.pool
    starting-turn b c pool a h e w m =
        rw (add-one k) (step-made whole done (M.starting_term pool (get_or ps k other)) (λ p. starting_from M ps (suc k) c p) a ((rw (e, add-one c) at w) ∙ ap (prefixed done) (starting-from-next k c pool h)) m)

    pub starting-refused : (b c : ℕ) (pool : Pool) (n : ℕ) → k < length ps → b ≡ c + 1 → StartingAt whole k done b pool → M.starting_term pool (get_or ps k other) ≡ refused n → whole ≡ refused n
    starting-refused b c pool n h e w m =
        step-refused whole done (M.starting_term pool (get_or ps k other)) (λ p. starting_from M ps (suc k) c p) n ((rw (e, add-one c) at w) ∙ ap (prefixed done) (starting-from-next k c pool h)) m

    pub starting-end : (b : ℕ) (pool : Pool) → length ps ≤ k → StartingAt whole k done b pool → whole ≡ ok (passed (record { pool = pool; terms = done }) b)
    starting-end b pool h w = w ∙ ap (prefixed done) (starting-from-end k b pool h) ∙ end-made done pool b
