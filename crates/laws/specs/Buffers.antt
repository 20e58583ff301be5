-- Lists made number by number, and a buffer that is written from its front.
use Rattle.std.specs.Prelude.{◌≡◌, refl, List, ◌++◌, map, ℕ, zero, suc, ◌+◌, ◌≤◌, ◌<◌, length, get_or, take, drop, set}
use Rattle.std.proofs.Common.{sym, ap, ◌∙◌, not-suc-le-zero, le_of_suc-le-suc, arith, add-one, length-set, length-take-le, take-suc, drop-cons}
use Rattle.std.proofs.Math.ListN.{get_or-append}
use Rattle.std.proofs.Math.Seq.{take-length, append_snoc}
use Rattle.std.proofs.lemmas.List.{set_at}
use Rattle.spec.specs.Bytes.{up_from}

-- ---- numbers in a row
pub up-length : (n a : ℕ) → length (up_from a n) ≡ n
unfolding up_from
up-length zero a = refl
up-length (suc n) a = ap suc (up-length n (suc a))

pub up_at : (f : ℕ → ℕ) (n a k d : ℕ) → k < n → get_or (map f (up_from a n)) k d ≡ f (a + k)
unfolding up_from
up_at f zero a k d h = absurd (not-suc-le-zero h)
up_at f (suc n) a zero d h = ap f (omega arith)
up_at f (suc n) a (suc k) d h = up_at f n (suc a) k d (le_of_suc-le-suc h) ∙ ap f (omega arith)

-- ---- a buffer
-- a buffer that begins with l; what stands behind is as it was
abbrev pub over : List ℕ → List ℕ → List ℕ
over l list = l ++ drop (length l) list

pub over-at : (l list : List ℕ) (k : ℕ) → k < length l → get_or (over l list) k 0 ≡ get_or l k 0
over-at l list k h = get_or-append l (drop (length l) list) 0 k h

-- The first k numbers of l stand in a buffer; what stands behind is as it was.
pub record Filled (l list₀ : List ℕ) (k : ℕ) (list : List ℕ) : Type 0 where
  pub done : k ≤ length l
  pub same : length list ≡ length list₀
  pub numbers : list ≡ take k l ++ drop k list₀

-- a store takes the first k numbers to the first k + 1
store-next : (l d : List ℕ) (k : ℕ) → k < length l → k < length d → set (take k l ++ drop k d) k (get_or l k 0) ≡ take (suc k) l ++ drop (suc k) d
store-next l d k a b =
    ap (λ (r : List ℕ). set (take k l ++ r) k (get_or l k 0)) (drop-cons d k 0 b)
    ∙ set_at (take k l) (get_or d k 0) (drop (suc k) d) (get_or l k 0) k (length-take-le k l (omega arith))
    ∙ sym (append_snoc (take k l) (get_or l k 0) (drop (suc k) d))
    ∙ ap (λ (r : List ℕ). r ++ drop (suc k) d) (sym (take-suc l k 0 a))

module _ (l list₀ : List ℕ) where
  pub filled_none : Filled l list₀ 0 list₀
  filled_none = record { done = omega arith; same = refl; numbers = refl }

  module _ (k : ℕ) (list : List ℕ) (F : Filled l list₀ k list) where
    pub filled_more : (x : ℕ) → k < length l → k < length list → x ≡ get_or l k 0 → Filled l list₀ (k + 1) (set list k x)
    filled_more x h b e = record {
      done = omega arith;
      same = length-set list k x ∙ F.same;
      numbers = rw (add-one k) ((λ i. set (F.numbers i) k (e i)) ∙ store-next l list₀ k h (omega (arith, F.same)));
    }

    pub filled-all : length l ≤ k → list ≡ over l list₀
    filled-all h =
        let e : k ≡ length l = omega (arith, F.done) in
        F.numbers ∙ (λ i. take (e i) l ++ drop (e i) list₀) ∙ ap (λ (z : List ℕ). z ++ drop (length l) list₀) (take-length l)
