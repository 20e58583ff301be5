-- The key of a node, run by run.
use Rattle.std.specs.Prelude.{◌≡◌, refl, List, ℕ, ◌+◌, ◌*◌, ◌-◌, ◌%◌, ◌≤◌, ◌<◌, get_or}
use Rattle.std.proofs.Common.{sym, ap, ◌∙◌, arith}
use Rattle.terms.specs.Buffers.{part}
use Rattle.terms.specs.Chains.{mix_of, mix_all, fold, key_of}
use Rattle.terms.specs.PartLaws.{part-cons}

-- a turn of the key
pub key_more : (x : ℕ) (l : List ℕ) (i n : ℕ) → i < n → mix_all x (part l i (n - i)) ≡ mix_all (mix_of x (get_or l i 0)) (part l (i + 1) (n - (i + 1)))
unfolding mix_all
key_more x l i n h = rw (part-cons l i n h) refl

pub key-all : (x : ℕ) (l : List ℕ) (i n : ℕ) → n ≤ i → mix_all x (part l i (n - i)) ≡ x
unfolding mix_all part
key-all x l i n h = let e : n - i ≡ 0 = omega arith in rw e refl

-- the key's loop: its start, a turn, its end
pub key-start : {h v a b : ℕ} (l : List ℕ) (n : ℕ) → a ≡ h → b ≡ v → fold (mix_all ((a * 4096 + b) % 4294967296) (part l 0 (n - 0))) ≡ key_of h v (part l 0 n)
unfolding key_of
key-start l n e f = let z : n - 0 ≡ n = omega arith in rw (e, f, z) refl

pub key-turn : {y k : ℕ} (x : ℕ) (l : List ℕ) (i n : ℕ) → i < n → y ≡ mix_of x (get_or l i 0) → fold (mix_all x (part l i (n - i))) ≡ k → fold (mix_all y (part l (i + 1) (n - (i + 1)))) ≡ k
key-turn x l i n h e q = rw e (sym (ap (λ (z : ℕ). fold z) (key_more x l i n h)) ∙ q)

pub key-end : {k r : ℕ} (x : ℕ) (l : List ℕ) (i n : ℕ) → n ≤ i → r ≡ fold x → fold (mix_all x (part l i (n - i))) ≡ k → r ≡ k
key-end x l i n h e q = e ∙ sym (ap (λ (z : ℕ). fold z) (key-all x l i n h)) ∙ q
