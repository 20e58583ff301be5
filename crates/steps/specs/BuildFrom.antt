-- Building as a loop runs it: the turn of node i, with so many checks left.
use Rattle.std.specs.Prelude.{◌≡◌, List, length, get_or}
use Rattle.std.proofs.Math.Path.{refl}
use Prim.Native.Nat.{ℕ, zero, suc, ◌≤◌, ◌<◌}
use borrow.Author.Tests.{lt-ltb, le-ltb}
use Rattle.spec.specs.Bytes.{ok, ◌>>=◌, passed, cut_short}
use Rattle.spec.specs.System.{System, enter_all, build_from}

module _ {N : Type 0} (S : System N) (lim : ℕ) (ps : List N) where
  -- its check has expired
  pub build-stop : (b i : ℕ) → b ≡ 0 → i < length ps → build_from S lim b ps i ≡ ok cut_short
  unfolding build_from
  build-stop b i e h = rw (e, build_from, lt-ltb i (length ps) h) refl

  -- what it joins is entered
  pub build-turn : (b c i : ℕ) → b ≡ suc c → i < length ps → build_from S lim b ps i ≡ (enter_all S.same lim ps (S.joins (get_or ps i S.other)) >>= λ qs. build_from S lim c qs (suc i))
  unfolding build_from
  build-turn b c i e h = rw (e, build_from, lt-ltb i (length ps) h) refl

  -- every node has had its turn
  pub build-done : (b i : ℕ) → length ps ≤ i → build_from S lim b ps i ≡ ok (passed ps b)
  unfolding build_from
  build-done zero i h = rw (build_from, le-ltb i (length ps) h) refl
  build-done (suc b) i h = rw (build_from, le-ltb i (length ps) h) refl
