-- A run: the ways out. Runs one after the other, staged in a buffer.
use Rattle.std.specs.Prelude.{Some, None, Ok, Err, ◌≡◌, true, List, [], ◌∷◌, ◌++◌, map, ltb, eqb, get_or, set, drop}
use Rattle.std.proofs.Math.Path.{refl}
use Rattle.std.proofs.Common.{sym, ap, ap₂, ◌∙◌, append-nil, append_assoc, add-one, length-drop, drop-drop, get_or-set_same, get_or-set_other}
use Rattle.std.proofs.Math.Bool.{false}
use Prim.Native.Nat.{ℕ, suc, ◌+◌, ◌*◌, ◌-◌, ◌/◌, ◌%◌, ◌≤◌, ◌<◌}
use native.Mathlib.Omega.{arith}
use borrow.Author.Tests.{lt-ltb, le-ltb, eq-eqb, ne_eqb}
use Rattle.std.proofs.Math.ListN.{length, length-set}
use Rattle.spec.specs.Bytes.{pick, both, sum, Two, text, Res, ok, refused, rule, ◌>>=◌}
use Rattle.spec.specs.Pool.{RUNS, expanded_length}
use Rattle.laws.specs.Lists.{map_snoc}
use Rattle.formula.specs.Lexer.{starts_with}
use Rattle.formula.specs.Lines.{Cut, cut_word, cut_number, cut_runs, runs_at, CHILDREN}
use Rattle.terms.specs.Buffers.{part, unpack}
use Rattle.terms.specs.PartLaws.{part-cong, part-snoc}
use Rattle.text_cut.specs.Cutting.{CutsWord, CutsNumber}
use Rattle.text_cut.specs.CutLaws.{word_fits}
use Rattle.term_lines.specs.Reading.{cut_child, cut_count, CutsChild, CutsCount, CutsRuns}
use Rattle.term_lines.specs.declared.Fault.TheVariants as F

-- ---- a child: the ways out
module _ (k last : ℕ) (s : List ℕ) (at : ℕ) where
  pub child-no-space : CutsWord (text " ") s at None → CutsChild k last s at None
  unfolding cut_child
  child-no-space W = record { answer = rw (← W.answer) refl; behind = tt }

  module _ {a : ℕ} (W : CutsWord (text " ") s at (Some a)) where
    pub child-no-number : CutsNumber 16383 s a None → CutsChild k last s at None
    unfolding cut_child
    child-no-number C = record { answer = rw (← W.answer, ← C.answer) refl; behind = tt }

    module _ {c e : ℕ} (C : CutsNumber 16383 s a (Some (c, e))) where
      pub child-later : k ≤ c → CutsChild k last s at None
      unfolding cut_child
      child-later h = record { answer = rw (← W.answer, ← C.answer, le-ltb c k h) refl; behind = tt }

      module _ (h : c < k) where
        pub child-again : c ≡ last → CutsChild k last s at None
        unfolding cut_child
        child-again d = record { answer = rw (← W.answer, ← C.answer, lt-ltb c k h, eq-eqb c last d) refl; behind = tt }

        pub child-there : (c ≡ last → ⊥) → CutsChild k last s at (Some (c, e))
        unfolding cut_child text
        child-there d = record { answer = rw (← W.answer, ← C.answer, lt-ltb c k h, ne_eqb c last d) refl; behind = (omega (arith, W.behind.0, C.behind.0), C.behind.1, C.behind.2) }

-- ---- a count: the ways out
module _ (left : ℕ) (s : List ℕ) (at : ℕ) where
  pub count-no-colon : CutsWord (text ":") s at None → CutsCount left s at None
  unfolding cut_count
  count-no-colon W = record { answer = rw (← W.answer) refl; behind = tt }

  module _ {a : ℕ} (W : CutsWord (text ":") s at (Some a)) where
    pub count-no-number : CutsNumber left s a None → CutsCount left s at None
    unfolding cut_count
    count-no-number C = record { answer = rw (← W.answer, ← C.answer) refl; behind = tt }

    module _ {n e : ℕ} (C : CutsNumber left s a (Some (n, e))) where
      pub count_none : n ≡ 0 → CutsCount left s at None
      unfolding cut_count
      count_none h = record { answer = rw (← W.answer, ← C.answer, le-ltb 0 n (omega arith)) refl; behind = tt }

      pub count-there : 0 < n → CutsCount left s at (Some (n, e))
      unfolding cut_count text
      count-there h = record { answer = rw (← W.answer, ← C.answer, lt-ltb 0 n h) refl; behind = (omega (arith, W.behind.0, C.behind.0), C.behind.1, C.behind.2) }

-- ---- results one after the other: three steps and what follows
module _ {Z : Type 0} (g : ℕ × List ℕ → Res Z) where
  last_step : (r : Res Unit) (c : ℕ × List ℕ) → (r >>= λ _. g c) ≡ (r >>= λ _. ok c) >>= g
  last_step (ok t) c = refl
  last_step (refused n) c = refl

  two_steps : (m : Cut ℕ) (R : ℕ × List ℕ → Res Unit) → (m >>= λ c. R c >>= λ _. g c) ≡ (m >>= λ c. R c >>= λ _. ok c) >>= g
  two_steps (ok c) R = last_step (R c) c
  two_steps (refused n) R = refl

  three-steps : (m : Res (List ℕ)) (C : List ℕ → Cut ℕ) (R : ℕ × List ℕ → Res Unit) → (m >>= λ a. C a >>= λ c. R c >>= λ _. g c) ≡ (m >>= λ a. C a >>= λ c. R c >>= λ _. ok c) >>= g
  three-steps (ok a) C R = two_steps (C a) R
  three-steps (refused n) C R = refl

bind-cong : {A B : Type 0} (m : Res A) (f g : A → Res B) → ((x : A) → f x ≡ g x) → m >>= f ≡ m >>= g
bind-cong (ok x) f g h = h x
bind-cong (refused n) f g h = refl

-- a list before what is read
abbrev pub prepend : List Two → Cut (List Two) → Cut (List Two)
prepend l (ok x) = ok (l ++ x.0, x.1)
prepend l (refused n) = refused n

prepend-nil : (r : Cut (List Two)) → prepend [] r ≡ r
prepend-nil (ok x) = refl
prepend-nil (refused n) = refl

prepend-one : (l : List Two) (x : Two) (r : Cut (List Two)) → prepend l (r >>= λ m. ok (x ∷ m.0, m.1)) ≡ prepend (l ++ (x ∷ [])) r
prepend-one l x (ok m) = rw (append_assoc l (x ∷ []) m.0) refl
prepend-one l x (refused n) = refl

-- ---- one run of the definition
module _ (f k last left free : ℕ) (s : List ℕ) where
  pub feed : starts_with (10 ∷ []) s ≡ true → cut_runs (suc f) k last left free s ≡ ok ([], drop 1 s)
  unfolding cut_runs
  feed e = rw (e, cut_runs) refl

  abbrev pub after : ℕ × List ℕ → ℕ × List ℕ → Cut (List Two)
  after c n = rule 13 (ltb 0 free) >>= λ _. cut_runs f k c.0 (left - n.0) (free - 1) n.1 >>= λ l. ok ((c.0, n.0) ∷ l.0, l.1)

  pub step : starts_with (10 ∷ []) s ≡ false → cut_runs (suc f) k last left free s ≡ cut_child k last s >>= (λ c. cut_count left c.1 >>= (λ n. after c n))
  unfolding cut_runs cut_child cut_count
  step e =
      rw (e, cut_runs)
      (three-steps (λ c. cut_word (text ":") c.1 >>= λ b. cut_number left b >>= λ n. rule 17 (ltb 0 n.0) >>= λ _. after c n) (cut_word (text " ") s) (cut_number 16383) (λ c. rule 17 (both (ltb c.0 k) (pick (eqb c.0 last) false true)))
      ∙ bind-cong (cut_child k last s) _ (λ c. cut_count left c.1 >>= (λ n. after c n)) (λ c. three-steps (after c) (cut_word (text ":") c.1) (cut_number left) (λ n. rule 17 (ltb 0 n.0))))

-- ---- the runs at the front of the buffer
abbrev pub staged : List ℕ → ℕ → List Two
staged list n = map unpack (part list 0 n)

staged-more : (list : List ℕ) (n c m x : ℕ) → n < length list → c ≤ 16383 → x ≡ m * 16384 + c → staged (set list n x) (n + 1) ≡ staged list n ++ ((c, m) ∷ [])
staged-more list n c m x h k e =
    let z : 0 + n ≡ n = omega arith in
    let a : part (set list n x) 0 n ≡ part list 0 n = part-cong (set list n x) list 0 0 n (λ i l. get_or-set_other list n (0 + i) x 0 (λ q. omega arith)) in
    let b : part (set list n x) 0 (suc n) ≡ part list 0 n ++ (x ∷ []) = part-snoc (set list n x) 0 n ∙ ap₂ (λ (p : List ℕ) (y : ℕ). p ++ (y ∷ [])) a (ap (λ (i : ℕ). get_or (set list n x) i 0) z ∙ get_or-set_same list n x 0 h) in
    let u : unpack x ≡ (c, m) = ap₂ (λ (p q : ℕ). (p, q)) (let q : x % 16384 ≡ c = omega arith in q) (let q : x / 16384 ≡ m = omega arith in q) in
    rw (add-one n) (ap (map unpack) b ∙ map_snoc unpack (part list 0 n) x ∙ ap (λ (y : Two). staged list n ++ (y ∷ [])) u)

counts-more : (l : List Two) (y : Two) → expanded_length (l ++ (y ∷ [])) ≡ expanded_length l + y.1
unfolding sum
counts-more [] y = omega arith
counts-more (x ∷ l) y = omega (arith, counts-more l y)

pub record Staging (s : List ℕ) (at₀ k : ℕ) (list₀ list : List ℕ) (at n last left : ℕ) : Type 0 where
  pub same : length list ≡ length list₀
  pub inside : at ≤ length s
  pub passed : at₀ + n ≤ at
  pub few : n ≤ RUNS
  pub counts : left + expanded_length (map unpack (part list 0 n)) ≡ CHILDREN
  pub rest : prepend (map unpack (part list 0 n)) (cut_runs (suc (length s - at₀) - n) k last left (RUNS - n) (drop at s)) ≡ runs_at k (drop at₀ s)

pub staging-start : (s : List ℕ) (at k : ℕ) (list : List ℕ) → at ≤ length s → Staging s at k list list at 0 k CHILDREN
unfolding part sum
staging-start s at k list h = record {
  same = refl;
  inside = h;
  passed = omega arith;
  few = omega arith;
  counts = omega arith;
  rest = prepend-nil (cut_runs (suc (length s - at) - 0) k k CHILDREN (RUNS - 0) (drop at s)) ∙ (let e : suc (length s - at) - 0 ≡ suc (length (drop at s)) = omega (arith, length-drop at s) in rw e refl);
}

module _ (s : List ℕ) (at₀ k : ℕ) (list₀ list : List ℕ) (at n last left : ℕ) (S : Staging s at₀ k list₀ list at n last left) where
  fuel : ℕ
  fuel = length s - at₀ - n

  begun : prepend (staged list n) (cut_runs (suc fuel) k last left (RUNS - n) (drop at s)) ≡ runs_at k (drop at₀ s)
  unfolding fuel
  begun = let e : suc (length s - at₀) - n ≡ suc (length s - at₀ - n) = omega (arith, S.inside, S.passed) in rw e at S.rest

  pub staging-end : (t : ℕ) → true ≡ starts_with (10 ∷ []) (drop at s) → t ≡ CHILDREN - left → CutsRuns k s at₀ list (Ok (n, t, at + 1))
  staging-end t e q =
      let l : at + 1 ≤ length s = word_fits (10 ∷ []) s at e S.inside in
      record {
        answer = rw (feed fuel k last left (RUNS - n) (drop at s) (sym e), append-nil (staged list n), drop-drop 1 at s) at begun;
        behind = (omega (arith, S.passed), l, S.few, omega (arith, S.counts));
      }

  module _ (no : starts_with (10 ∷ []) (drop at s) ≡ false) where
    stepped : prepend (staged list n) (cut_child k last (drop at s) >>= (λ c. cut_count left c.1 >>= (λ m. after fuel k last left (RUNS - n) (drop at s) c m))) ≡ runs_at k (drop at₀ s)
    stepped = rw (step fuel k last left (RUNS - n) (drop at s) no) at begun

    pub staging-no-child : CutsChild k last s at None → CutsRuns k s at₀ list (Err F.Broken)
    staging-no-child C = record { answer = rw (← C.answer) at stepped; behind = tt }

    module _ {c a : ℕ} (C : CutsChild k last s at (Some (c, a))) where
      pub staging-no-count : CutsCount left s a None → CutsRuns k s at₀ list (Err F.Broken)
      staging-no-count M = record { answer = rw (← C.answer, ← M.answer) at stepped; behind = tt }

      module _ {m e : ℕ} (M : CutsCount left s a (Some (m, e))) where
        pub staging-full : n ≡ RUNS → CutsRuns k s at₀ list (Err F.Full)
        staging-full h = record { answer = rw (← C.answer, ← M.answer, le-ltb 0 (RUNS - n) (omega arith)) at stepped; behind = tt }

        pub staging-turn : {list' : List ℕ} {x : ℕ} → n < RUNS → RUNS ≤ length list₀ → x ≡ m * 16384 + c → list' ≡ set list n x → Staging s at₀ k list₀ list' e (n + 1) c (left - m)
        unfolding fuel
        staging-turn {x = x} h r q w =
            let z : staged (set list n x) (n + 1) ≡ staged list n ++ ((c, m) ∷ []) = staged-more list n c m x (omega (arith, S.same)) C.behind.2 q in
            let g : suc (length s - at₀) - (n + 1) ≡ length s - at₀ - n = omega (arith, S.inside, S.passed) in
            let f : RUNS - (n + 1) ≡ RUNS - n - 1 = omega arith in
            rw w (record {
              same = length-set list n x ∙ S.same;
              inside = M.behind.1;
              passed = omega (arith, S.passed, C.behind.0, M.behind.0);
              few = omega arith;
              counts = rw z (omega (arith, counts-more (staged list n) (c, m), S.counts, M.behind.2));
              rest = rw (z, g, f) (sym (prepend-one (staged list n) (c, m) (cut_runs fuel k c (left - m) (RUNS - n - 1) (drop e s))) ∙ (rw (← C.answer, ← M.answer, lt-ltb 0 (RUNS - n) (omega arith)) at stepped));
            })
