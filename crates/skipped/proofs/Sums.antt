-- The sums over operations and over children.
use mathlib.Core.Path.{◌≡◌, refl, ap, ◌∙◌}
use mathlib.Core.Bool.{true}
use mathlib.Core.List.{List, ◌∷◌, map}
use Prim.Native.Nat.{ℕ, suc, ◌+◌, ◌*◌, ◌≤◌, ◌<◌}
use native.Mathlib.Omega.{arith}
use native.Mathlib.Numerals.{add-one}
use borrow.Author.Tests.{eq-eqb, ne_eqb}
use lib.Dec.{ltb}
use lib.ListN.{length, drop, get_or, drop_of_length-le}
use lib.Seq.{drop-cons}
use Rattle.spec.specs.Bytes.{Two, sum}
use Rattle.spec.specs.Image.{Tables}
use Rattle.spec.specs.Monomial.{skipped_under, COUNT}
use Rattle.spec.specs.Action.{ac_ops, skipped_at}
use Rattle.laws.specs.Firsts.{passing, first_from, First, found, passing-stop, passing-end, first-within}
use Rattle.skips.specs.Large.{count_sum, large}
use Rattle.ac_ops.specs.AcOps.{ac_op}
use Rattle.ac_monomials.specs.Transports.{operations-all}

-- ---- the operations: those before o give y, and o is the next one that acts; there are n
pub record Upto (t : Tables) (l r n y o : ℕ) : Type 0 where
  pub rest : y + sum (map (skipped_under t l r) (passing (ac_op t l r) o n)) ≡ sum (map (skipped_under t l r) (ac_ops t l r))
  pub acts : o < n → ac_op t l r o ≡ true
  pub high : o ≤ n
  pub few : y ≤ o * 1050625

module _ (t : Tables) (l r n o : ℕ) where
  pub upto-start : n ≡ length t.operations → o ≡ first_from (ac_op t l r) 0 n → Upto t l r n 0 o
  upto-start e z =
      let d : First (ac_op t l r) 0 n o = found (ac_op t l r) 0 n o z in
      let a : ac_ops t l r ≡ passing (ac_op t l r) o n = operations-all t l r ∙ rw (← e) d.same in
      record {
        rest = rw a (omega arith);
        acts = d.hits;
        high = rw z (first-within (ac_op t l r) 0 n (omega arith));
        few = omega arith;
      }

  module _ (y : ℕ) (u : Upto t l r n y o) where
    module _ (h : o < n) (p : ℕ) (z : p ≡ first_from (ac_op t l r) (o + 1) n) where
      pub upto-rises : o < p
      upto-rises = omega (arith, (found (ac_op t l r) (o + 1) n p z).low)

      pub upto-more : (x : ℕ) → x ≡ skipped_under t l r o → x ≤ 1050625 → Upto t l r n (y + x) p
      unfolding sum
      upto-more x q b =
          let d : First (ac_op t l r) (o + 1) n p = found (ac_op t l r) (o + 1) n p z in
          let a : passing (ac_op t l r) o n ≡ o ∷ passing (ac_op t l r) p n = passing-stop (ac_op t l r) o n h (u.acts h) ∙ ap (λ (m : List ℕ). o ∷ m) (rw add-one at d.same) in
          let w : sum (map (skipped_under t l r) (passing (ac_op t l r) o n)) ≡ x + sum (map (skipped_under t l r) (passing (ac_op t l r) p n)) = rw (a, q) refl in
          record {
            rest = omega (arith, u.rest, w);
            acts = d.hits;
            high = rw z (first-within (ac_op t l r) (o + 1) n (omega arith));
            few = omega (arith, u.few, d.low);
          }

    pub upto-end : n ≤ o → (l ≡ r → ⊥) → y ≡ skipped_at t (l, r)
    unfolding skipped_at sum
    upto-end h k =
        let w : sum (map (skipped_under t l r) (passing (ac_op t l r) o n)) ≡ 0 = rw (passing-end (ac_op t l r) o n h) refl in
        rw (skipped_at, ne_eqb l r k) (omega (arith, u.rest, w))

pub self-none : (t : Tables) (l r : ℕ) → l ≡ r → 0 ≡ skipped_at t (l, r)
unfolding skipped_at
self-none t l r e = rw (skipped_at, eq-eqb l r e) refl

-- ---- the children: the counts of the first k give y
abbrev pub Counted : Tables → ℕ → ℕ → Type 0
Counted t y k = y + sum (map (λ c. c.1) (drop k t.children)) ≡ count_sum t

module _ (t : Tables) where
  pub counted_start : Counted t 0 0
  unfolding count_sum
  counted_start = omega arith

  module _ (y k : ℕ) (u : Counted t y k) where
    pub counted-more : (x : ℕ) → k < length t.children → x ≡ (get_or t.children k (0, 0)).1 → Counted t (y + x) (k + 1)
    unfolding sum
    counted-more x h e =
        let w : sum (map (λ (c : Two). c.1) (drop k t.children)) ≡ x + sum (map (λ (c : Two). c.1) (drop (suc k) t.children)) = rw (drop-cons t.children k (0, 0) h, e) refl in
        rw add-one (omega (arith, u, w))

    pub counted-end : length t.children ≤ k → ltb COUNT y ≡ large t
    unfolding sum
    counted-end h =
        let w : sum (map (λ (c : Two). c.1) (drop k t.children)) ≡ 0 = rw (drop_of_length-le t.children {i = k} h) refl in
        let e : y ≡ count_sum t = omega (arith, u, w) in
        ap (λ (z : ℕ). ltb COUNT z) e
