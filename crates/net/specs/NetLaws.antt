-- What the definitions of Net say in each case of the code.
use Rattle.std.specs.Prelude.{◌≡◌, ℕ, suc, ◌+◌, ◌-◌, ◌<◌, ◌≤◌, true, false, List, ◌≢◌, slice_set}
use Rattle.std.proofs.Math.Path.{refl}
use Rattle.std.proofs.Common.{sym, eq-eqb, ne_eqb}
use Rattle.std.proofs.Math.Nat.{sub-zero}
use native.Mathlib.Omega.{arith}
use Rattle.wide.specs.declared.Wide.{Wide}
use Rattle.net.specs.Net.{STATE, state_of, labelled, offered, joined, improved, relaxed, unseen_to}

module _ (m : List ℕ) (u v : ℕ) (d : Wide) where
  pub improved-queued : state_of (labelled m u v d) v ≡ 2 → labelled m u v d ≡ improved m u v d
  unfolding improved
  improved-queued q = rw (eq-eqb (state_of (labelled m u v d) v) 2 q) refl

  pub improved-joins : (state_of (labelled m u v d) v ≢ 2) → joined (labelled m u v d) v ≡ improved m u v d
  unfolding improved
  improved-joins q = rw (ne_eqb (state_of (labelled m u v d) v) 2 q) refl

  pub relaxed-yes : true ≡ offered m v d → improved m u v d ≡ relaxed m u v d
  unfolding relaxed
  relaxed-yes e = rw (sym e) refl

  pub relaxed-not : false ≡ offered m v d → m ≡ relaxed m u v d
  unfolding relaxed
  relaxed-not e = rw (sym e) refl

-- one turn of the loop, and its end: i of n nodes are unseen
module _ (n i : ℕ) (m : List ℕ) where
  pub unsee-start : unseen_to (n - 0) 0 m ≡ unseen_to n 0 m
  unsee-start = rw (sub-zero n) refl

  pub unsee-turn : i < n → unseen_to (n - i) i m ≡ unseen_to (n - (i + 1)) (i + 1) (slice_set m (STATE + i) 0)
  unfolding unseen_to
  unsee-turn h = let e : n - i ≡ suc (n - (i + 1)) = omega arith in rw e refl

  pub unsee-end : n ≤ i → unseen_to (n - i) i m ≡ m
  unfolding unseen_to
  unsee-end h = let e : n - i ≡ 0 = omega arith in rw e refl
