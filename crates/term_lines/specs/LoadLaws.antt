-- A line entered: the ways out. Lines one after the other.
use Rattle.std.proofs.Math.Path.{◌≡◌, refl, sym, ap}
use Rattle.std.proofs.Common.{◌∙◌, drop_of_length-le, drop-cons}
use Rattle.std.proofs.Math.Bool.{Bool, true, false}
use Rattle.std.specs.Prelude.{Result, Ok, Err, List, [], ◌∷◌, ◌++◌, leb, eqb, replicate, Some, None}
use Prim.Native.Nat.{ℕ, zero, suc, ◌+◌, ◌-◌, ◌^◌, ◌≤◌, ◌<◌}
use native.Mathlib.Omega.{arith}
use Rattle.std.proofs.Math.Dec.{ltb}
use borrow.Author.Tests.{ltb-true, lt-ltb, le-ltb, eq-eqb, ne_eqb, eqb-true}
use Rattle.std.proofs.Math.ListN.{length, drop, length-append}
use Rattle.spec.specs.Bytes.{Limits, pick, both, place, sum, Res, ok, refused, rule, ◌>>=◌}
use Rattle.spec.specs.Pool.{Pool, Node, same_node, run_count, RUNS, Interned, interned, intern}
use Rattle.pools.specs.Pool.{NodeValid}
use Rattle.formula.specs.Lexer.{is_nil}
use Rattle.formula.specs.Lines.{Cut, cut_line, add_lines, read_lines}
use Rattle.terms.specs.Buffers.{LEAST, part, node_of, pool_of, count_in}
use Rattle.terms.specs.Chains.{Holds, Rooms}
use Rattle.terms.specs.PoolLaws.{pool-length, rooms_same}
use Rattle.terms.specs.Emptying.{pool-none, emptied, emptied-holds, emptied-length, emptied-pool}
use Rattle.interning.specs.Interning.{entered_of, Interning}
use Rattle.interning.specs.Growing.{Grows}
use Rattle.interning.specs.GrowLaws.{grows_none, grows_then, grows-intern}
use Rattle.term_lines.specs.Reading.{CutsLine}
use Rattle.term_lines.specs.ValidLaws.{bound, ruled, same, line-sound, runs-light}
use Rattle.term_lines.specs.Loading.{add_line, AddsLine, lines_taken, AddsLines, Loads}
use Rattle.term_lines.specs.declared.Fault.{Fault}
use Rattle.term_lines.specs.declared.Fault.TheVariants as F

-- ---- what interning answers
module _ (lim : Limits) (p : Pool) (n : Node) where
  -- a refusal is 13
  intern-thirteen : (m : ℕ) → intern lim p n ≡ refused m → intern lim p n ≡ refused 13
  unfolding intern
  intern-thirteen m e = go (ltb (place (same_node n) p) (length p)) (both (ltb (length p) lim.terms) (leb (run_count p + length n.runs) lim.runs)) e
    where
      R : Bool → Bool → Res Interned
      R a b = pick a (ok (interned p (place (same_node n) p))) (pick b (ok (interned (p ++ (n ∷ [])) (length p))) (refused 13))

      go : (a b : Bool) → R a b ≡ refused m → R a b ≡ refused 13
      go true b q = absurd (let z : ◌≡◌ {A = ℕ} 0 1 = cc in omega arith)
      go false true q = absurd (let z : ◌≡◌ {A = ℕ} 0 1 = cc in omega arith)
      go false false q = refl

  -- another number than the next one: the pool is as it was
  intern-old : (x : Interned) → intern lim p n ≡ ok x → (x.term ≡ length p → ⊥) → x.pool ≡ p
  unfolding intern
  intern-old x e d = go (ltb (place (same_node n) p) (length p)) (both (ltb (length p) lim.terms) (leb (run_count p + length n.runs) lim.runs)) e
    where
      go : (a b : Bool) → pick a (ok (interned p (place (same_node n) p))) (pick b (ok (interned (p ++ (n ∷ [])) (length p))) (refused 13)) ≡ ok x → x.pool ≡ p
      go true b q = let z : interned p (place (same_node n) p) ≡ x = cc in ap (λ (y : Interned). y.pool) (sym z)
      go false true q = let z : interned (p ++ (n ∷ [])) (length p) ≡ x = cc in absurd (d (ap (λ (y : Interned). y.term) (sym z)))
      go false false q = absurd (let z : ◌≡◌ {A = ℕ} 0 1 = cc in omega arith)

  -- the next number: the pool has one entry more
  intern-next : (x : Interned) → intern lim p n ≡ ok x → x.term ≡ length p → length x.pool ≡ length p + 1
  unfolding intern
  intern-next x e d = go (ltb (place (same_node n) p) (length p)) refl (both (ltb (length p) lim.terms) (leb (run_count p + length n.runs) lim.runs)) e
    where
      go : (a : Bool) → ltb (place (same_node n) p) (length p) ≡ a → (b : Bool) → pick a (ok (interned p (place (same_node n) p))) (pick b (ok (interned (p ++ (n ∷ [])) (length p))) (refused 13)) ≡ ok x → length x.pool ≡ length p + 1
      go true k b q = let z : interned p (place (same_node n) p) ≡ x = cc in let l = ltb-true (place (same_node n) p) (length p) k in absurd (let w : place (same_node n) p ≡ length p = ap (λ (y : Interned). y.term) z ∙ d in omega arith)
      go false k true q = let z : interned (p ++ (n ∷ [])) (length p) ≡ x = cc in ap (λ (y : Interned). length y.pool) (sym z) ∙ length-append p (n ∷ [])
      go false k false q = absurd (let z : ◌≡◌ {A = ℕ} 0 1 = cc in omega arith)

-- an answer tells what interning gave
full-told : (r : Res Interned) → None ≡ entered_of r → (m : ℕ) × (r ≡ refused m)
full-told (ok x) e = absurd (let z : ◌≡◌ {A = ℕ} 0 1 = cc in omega arith)
full-told (refused m) e = (m, refl)

term_told : (t : ℕ) (r : Res Interned) → Some t ≡ entered_of r → (x : Interned) × (r ≡ ok x) × (x.term ≡ t)
term_told t (ok x) e = (x, refl, cc)
term_told t (refused m) e = absurd (let z : ◌≡◌ {A = ℕ} 0 1 = cc in omega arith)

-- a line that was entered is one more
add-next : (lim : Limits) (p : Pool) (s : List ℕ) (x : Pool × List ℕ) → add_line lim p s ≡ ok x → length x.0 ≡ length p + 1
unfolding add_line
add-next lim p s x e =
    let (n, _, f) = bound x (cut_line (length p) s) _ e in
    let (i, q, g) = bound x (intern lim p n.0) _ f in
    let (t, h) = ruled x 17 (eqb i.term (length p)) _ g in
    rw (← same x (i.pool, n.1) h) (intern-next lim p n.0 i q (eqb-true i.term (length p) t))

-- ---- one line: the ways out
module _ (lim : Limits) (s : List ℕ) (at k : ℕ) (terms runs list : List ℕ) (H : Holds terms runs) (m : k ≡ count_in terms) where
  abbrev p : Pool
  p = pool_of terms runs

  number : k ≡ length p
  number = m ∙ sym (pool-length terms runs)

  pub add-broken : CutsLine (cut_line k (drop at s)) s at list (Err F.Broken) → AddsLine lim s at terms runs terms runs (Err F.Broken)
  unfolding add_line
  add-broken C =
      let a : refused 17 ≡ add_line lim p (drop at s) = rw (← number, ← C.answer) refl in
      record { answer = a; behind = tt; grows = rw (← a) (grows_none terms runs H) }

  pub add-full : CutsLine (cut_line k (drop at s)) s at list (Err F.Full) → AddsLine lim s at terms runs terms runs (Err F.Full)
  unfolding add_line
  add-full C =
      let a : refused 13 ≡ add_line lim p (drop at s) = rw (← number, ← C.answer) refl in
      record { answer = a; behind = tt; grows = rw (← a) (grows_none terms runs H) }

  module _ {h v n e : ℕ} (C : CutsLine (cut_line k (drop at s)) s at list (Ok (h, v, n, e))) where
    abbrev node : Node
    node = node_of h v (part list 0 n)

    pub node-valid : NodeValid (count_in terms) (node_of h v (part list 0 n))
    node-valid = rw m at (line-sound k (drop at s) _ (sym C.answer)).0

    pub node-light : sum (part list 0 n) < 2 ^ 64
    node-light = let (a, b) = line-sound k (drop at s) _ (sym C.answer) in runs-light k (part list 0 n) a.below b

    module _ {terms' runs' : List ℕ} (long : RUNS ≤ length list) where
      pub add-no-room : Interning lim terms runs list n h v terms' runs' None → AddsLine lim s at terms runs terms' runs' (Err F.Full)
      unfolding add_line
      add-no-room I =
          let (o, q) = full-told (intern lim p node) I.answer in
          let z : intern lim p node ≡ refused 13 = intern-thirteen lim p node o q in
          let a : refused 13 ≡ add_line lim p (drop at s) = rw (← number, ← C.answer, z) refl in
          record { answer = a; behind = tt; grows = rw (← a) (rw z at (grows-intern lim (omega (arith, C.behind.2)) I)) }

      module _ {t : ℕ} (I : Interning lim terms runs list n h v terms' runs' (Some t)) where
        pub add-again : (t ≡ k → ⊥) → AddsLine lim s at terms runs terms' runs' (Err F.Broken)
        unfolding add_line
        add-again d =
            let (x, q, w) = term_told t (intern lim p node) I.answer in
            let a : refused 17 ≡ add_line lim p (drop at s) = rw (← number, ← C.answer, q, ne_eqb x.term k (λ z. d (sym w ∙ z))) refl in
            let o : x.pool ≡ p = intern-old lim p node x q (λ z. d (sym w ∙ z ∙ sym number)) in
            record { answer = a; behind = tt; grows = rw (← a) (rw (q, o) at (grows-intern lim (omega (arith, C.behind.2)) I)) }

        pub add-new : t ≡ k → AddsLine lim s at terms runs terms' runs' (Ok e)
        unfolding add_line
        add-new d =
            let (x, q, w) = term_told t (intern lim p node) I.answer in
            let y : pool_of terms' runs' ≡ x.pool = rw q at I.pool in
            let a : ok (pool_of terms' runs', drop e s) ≡ add_line lim p (drop at s) = rw (← number, ← C.answer, q, eq-eqb x.term k (w ∙ d), y) refl in
            record { answer = a; behind = (C.behind.0, C.behind.1); grows = rw (← a, y) (rw q at (grows-intern lim (omega (arith, C.behind.2)) I)) }

-- ---- lines one after the other
bind-last : {A D : Type 0} (r : Res Unit) (g : A → Res D) (x : A) → (r >>= λ _. g x) ≡ (r >>= λ _. ok x) >>= g
bind-last (ok t) g x = refl
bind-last (refused n) g x = refl

abbrev entered : Interned → List ℕ → Cut Pool
entered x r = ok (x.pool, r)

lines_step : (lim : Limits) (f : ℕ) (p : Pool) (s : List ℕ) → is_nil s ≡ false → add_lines lim (suc f) p s ≡ add_line lim p s >>= (λ x. add_lines lim f x.0 x.1)
unfolding add_lines add_line
lines_step lim f p s e = rw (e, add_lines) (cut (cut_line (length p) s))
  where
    next : Pool × List ℕ → Res Pool
    next x = add_lines lim f x.0 x.1

    enter : (r : List ℕ) (m : Res Interned) → (m >>= λ x. rule 17 (eqb x.term (length p)) >>= λ _. next (x.pool, r)) ≡ (m >>= λ x. rule 17 (eqb x.term (length p)) >>= λ _. entered x r) >>= next
    enter r (ok x) = bind-last (rule 17 (eqb x.term (length p))) next (x.pool, r)
    enter r (refused m) = refl

    cut : (m : Cut Node) → (m >>= λ n. intern lim p n.0 >>= λ x. rule 17 (eqb x.term (length p)) >>= λ _. next (x.pool, n.1)) ≡ (m >>= λ n. intern lim p n.0 >>= λ x. rule 17 (eqb x.term (length p)) >>= λ _. entered x n.1) >>= next
    cut (ok n) = enter n.1 (intern lim p n.0)
    cut (refused m) = refl

taken_step : (lim : Limits) (f : ℕ) (p : Pool) (s : List ℕ) (r : Cut Pool) → is_nil s ≡ false → r ≡ add_line lim p s → lines_taken lim (suc f) p s ≡ elim r [ ok x ↦ lines_taken lim f x.0 x.1 | refused n ↦ p ]
unfolding lines_taken
taken_step lim f p s r e q = rw (e, ← q, lines_taken) refl

lines_none : (lim : Limits) (f : ℕ) (p : Pool) → add_lines lim f p [] ≡ ok p
unfolding add_lines
lines_none lim zero p = refl
lines_none lim (suc f) p = refl

taken_none : (lim : Limits) (f : ℕ) (p : Pool) → lines_taken lim f p [] ≡ p
unfolding lines_taken
taken_none lim zero p = refl
taken_none lim (suc f) p = refl

-- ---- the loop
pub record Loading (lim : Limits) (s list₀ terms₀ runs₀ list terms runs : List ℕ) (at : ℕ) : Type 0 where
  pub same_list : length list ≡ length list₀
  pub same_terms : length terms ≡ length terms₀
  pub same_runs : length runs ≡ length runs₀
  pub inside : at ≤ length s
  pub passed : count_in terms ≤ at
  pub rest : add_lines lim (length s - count_in terms) (pool_of terms runs) (drop at s) ≡ add_lines lim (length s) [] s
  pub taken : lines_taken lim (length s - count_in terms) (pool_of terms runs) (drop at s) ≡ lines_taken lim (length s) [] s
  pub grows : Grows terms₀ runs₀ terms runs (pool_of terms runs)

pub loading-start : (lim : Limits) (s list terms runs : List ℕ) → Holds terms runs → count_in terms ≡ 0 → Loading lim s list terms runs list terms runs 0
loading-start lim s list terms runs H z =
    let p : pool_of terms runs ≡ [] = pool-none terms runs z in
    let f : length s - count_in terms ≡ length s = omega arith in
    record {
      same_list = refl;
      same_terms = refl;
      same_runs = refl;
      inside = omega arith;
      passed = omega arith;
      rest = rw (f, p) refl;
      taken = rw (f, p) refl;
      grows = grows_none terms runs H;
    }

module _ (lim : Limits) (s list₀ terms₀ runs₀ list terms runs : List ℕ) (at : ℕ) (S : Loading lim s list₀ terms₀ runs₀ list terms runs at) where
  module _ (h : at < length s) where
    more-text : is_nil (drop at s) ≡ false
    more-text = rw (drop-cons s at 0 h) refl

    fuel : ℕ
    fuel = length s - (count_in terms + 1)

    stepped : add_line lim (pool_of terms runs) (drop at s) >>= (λ x. add_lines lim fuel x.0 x.1) ≡ add_lines lim (length s) [] s
    unfolding fuel
    stepped =
        let e : length s - count_in terms ≡ suc (length s - (count_in terms + 1)) = omega (arith, S.passed) in
        rw (e, lines_step lim (length s - (count_in terms + 1)) (pool_of terms runs) (drop at s) more-text) at S.rest

    kept : (r : Cut Pool) → r ≡ add_line lim (pool_of terms runs) (drop at s) → (elim r [ ok x ↦ lines_taken lim fuel x.0 x.1 | refused n ↦ pool_of terms runs ]) ≡ lines_taken lim (length s) [] s
    unfolding fuel
    kept r q =
        let e : length s - count_in terms ≡ suc (length s - (count_in terms + 1)) = omega (arith, S.passed) in
        sym (taken_step lim (length s - (count_in terms + 1)) (pool_of terms runs) (drop at s) r more-text q) ∙ (rw e at S.taken)

    module _ {terms' runs' : List ℕ} where
      pub loading-turn : {list' : List ℕ} {e : ℕ} → AddsLine lim s at terms runs terms' runs' (Ok e) → length list' ≡ length list → length terms' ≡ length terms → length runs' ≡ length runs → Loading lim s list₀ terms₀ runs₀ list' terms' runs' e
      unfolding fuel
      loading-turn {e = e} X a b c =
          let n : count_in terms' ≡ count_in terms + 1 = sym (pool-length terms' runs') ∙ add-next lim (pool_of terms runs) (drop at s) (pool_of terms' runs', drop e s) (sym X.answer) ∙ ap (λ (z : ℕ). z + 1) (pool-length terms runs) in
          let f : length s - count_in terms' ≡ length s - (count_in terms + 1) = omega arith in
          record {
            same_list = a ∙ S.same_list;
            same_terms = b ∙ S.same_terms;
            same_runs = c ∙ S.same_runs;
            inside = X.behind.1;
            passed = omega (arith, S.passed, X.behind.0);
            rest = rw f (rw (← X.answer) at stepped);
            taken = rw f (kept (ok (pool_of terms' runs', drop e s)) X.answer);
            grows = grows_then S.grows (rw (← X.answer) at X.grows);
          }

      pub loading-broken : AddsLine lim s at terms runs terms' runs' (Err F.Broken) → AddsLines lim s terms₀ runs₀ terms' runs' (Err F.Broken)
      unfolding read_lines
      loading-broken X = record {
        answer = rw (← (rw (← X.answer) at stepped)) refl;
        grows = rw (← kept (refused 17) X.answer) (grows_then S.grows (rw (← X.answer) at X.grows));
      }

      pub loading-full : AddsLine lim s at terms runs terms' runs' (Err F.Full) → AddsLines lim s terms₀ runs₀ terms' runs' (Err F.Full)
      unfolding read_lines
      loading-full X = record {
        answer = rw (← (rw (← X.answer) at stepped)) refl;
        grows = rw (← kept (refused 13) X.answer) (grows_then S.grows (rw (← X.answer) at X.grows));
      }

  module _ (h : length s ≤ at) where
    whole : ok (pool_of terms runs) ≡ add_lines lim (length s) [] s
    whole = sym (lines_none lim (length s - count_in terms) (pool_of terms runs)) ∙ (rw (drop_of_length-le s h) at S.rest)

    all-taken : pool_of terms runs ≡ lines_taken lim (length s) [] s
    all-taken = sym (taken_none lim (length s - count_in terms) (pool_of terms runs)) ∙ (rw (drop_of_length-le s h) at S.taken)

    pub loading-none : count_in terms ≡ 0 → AddsLines lim s terms₀ runs₀ terms runs (Err F.Broken)
    unfolding read_lines
    loading-none z = record {
      answer = rw (← whole, le-ltb 0 (length (pool_of terms runs)) (omega (arith, pool-length terms runs))) refl;
      grows = rw (← all-taken) S.grows;
    }

    pub loading-end : (count_in terms ≡ 0 → ⊥) → AddsLines lim s terms₀ runs₀ terms runs (Ok tt)
    unfolding read_lines
    loading-end d = record {
      answer = rw (← whole, lt-ltb 0 (length (pool_of terms runs)) (omega (arith, pool-length terms runs))) refl;
      grows = rw (← all-taken) S.grows;
    }

-- ---- from buffers with any content
pub emptied-ready : {lim : Limits} {terms runs terms₁ : List ℕ} → Rooms lim terms runs → terms₁ ≡ emptied terms → Holds terms₁ runs × Rooms lim terms₁ runs × (count_in terms₁ ≡ 0)
emptied-ready {terms = terms} {runs = runs} R e =
    let h : LEAST ≤ length terms = omega (arith, R.long) in
    rw e (emptied-holds terms runs h, rooms_same (emptied-length terms runs h) refl R, sym (pool-length (emptied terms) runs) ∙ ap length (emptied-pool terms runs))

pub loads : {lim : Limits} {s list terms runs terms₁ list' terms' runs' : List ℕ} {r : Result Unit Fault} (n : ℕ) → terms₁ ≡ emptied terms → AddsLines lim s terms₁ runs terms' runs' r → list' ≡ replicate n 0 → n ≡ length list → Loads lim s list terms runs list' terms' runs' r
loads n e X c k = record { answer = X.answer; grows = rw e at X.grows; clear = rw k at c }
