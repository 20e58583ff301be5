-- A function with one value changed, and the pigeonhole principle.
use Rattle.std.specs.Prelude.{Bool, true, false, cond, ◌≢◌, ◌≡◌, refl, ℕ, zero, suc, ◌≤◌, ◌<◌, T, eqb}
use Rattle.std.proofs.Common.{inl, inr, sym, ap, ◌∙◌, zero-le, eq-or-lt_of_le, arith, eqb→eq}
use Rattle.std.proofs.Math.Nat.{suc_inj}
use Rattle.std.proofs.Math.Dec.{eqb_refl}

-- a function with one value changed
unfoldable pub upd : (ℕ → ℕ) → ℕ → ℕ → ℕ → ℕ
upd f k v i = cond (eqb i k) v (f i)

pub upd_same : (f : ℕ → ℕ) (k v : ℕ) → upd f k v k ≡ v
unfolding upd
upd_same f k v = go (eqb k k) (eqb_refl k)
  where
    go : (b : Bool) → T b → cond b v (f k) ≡ v
    go true t = refl
    go false t = absurd t

pub upd_other : (f : ℕ → ℕ) (k v i : ℕ) → i ≢ k → upd f k v i ≡ f i
unfolding upd
upd_other f k v i ne = go (eqb i k) (eqb→eq i k)
  where
    go : (b : Bool) → (T b → i ≡ k) → cond b v (f i) ≡ f i
    go true h = absurd (ne (h tt))
    go false h = refl

-- if every number below M is a value of f below N, then M is at most N
pub pigeon : (N M : ℕ) (f : ℕ → ℕ) → ((k : ℕ) → k < M → (w : ℕ) × (w < N) × (f w ≡ k)) → M ≤ N
pigeon zero zero f h = zero-le
pigeon zero (suc M) f h = let (w, l, e) = h 0 (omega arith) in omega arith
pigeon (suc N) zero f h = zero-le
pigeon (suc N) (suc M) f h =
    let ih = pigeon N M (λ w. upd (λ y. y) M (f N) (f w)) (λ k l. hit k l (h k (omega arith)) (h M (omega arith))) in omega arith
  where
    hit : (k : ℕ) → k < M → (w : ℕ) × (w < suc N) × (f w ≡ k) → (w : ℕ) × (w < suc N) × (f w ≡ M) → (w : ℕ) × (w < N) × (upd (λ y. y) M (f N) (f w) ≡ k)
    hit k l (w, lw, e) (z, lz, q) = elim (eq-or-lt_of_le lw) [
      | inl s ↦
          let n : f N ≡ k = ap f (sym (suc_inj s)) ∙ e in
          elim (eq-or-lt_of_le lz) [
            | inl r ↦ absurd (clash l n (ap f (sym (suc_inj r)) ∙ q))
            | inr r ↦ (z, omega arith, ap (upd (λ y. y) M (f N)) q ∙ upd_same (λ y. y) M (f N) ∙ n)
          ]
      | inr s ↦ (w, omega arith, upd_other (λ y. y) M (f N) (f w) (omega arith) ∙ e)
    ]
      where
        clash : {a b c : ℕ} → b < c → a ≡ b → a ≡ c → ⊥
        clash p q r = omega arith
