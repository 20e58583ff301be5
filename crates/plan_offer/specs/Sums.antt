-- What a plan moves, cell by cell: units times size, and units times mass, each in two words.
use Rattle.std.specs.Prelude.{◌≡◌, Bool, true, false, List, [], ◌∷◌, map, ℕ, ◌+◌, ◌-◌, ◌*◌, ◌^◌, ◌≤◌, ◌<◌, eqb, length, get_or, drop}
use Rattle.std.proofs.Math.Path.{refl}
use Rattle.std.proofs.Common.{ap, ◌∙◌, mul-le-mul, arith, add-one, eqb-true, drop_of_length-le}
use Rattle.std.proofs.Math.Seq.{drop-cons}
use Rattle.spec.specs.Bytes.{Two, pick}
use Rattle.spec.specs.Transport.{Cell, cost, forbidden, plan_size, plan_mass}
use Rattle.spec.specs.Meaning.{In, here, there}
use Rattle.spec.specs.Round.{cells_over}
use Rattle.wide.specs.declared.Wide.{Wide}
use Rattle.wide.specs.Wrap.{Natural, add_words, add-natural}
use Rattle.plan_offer.specs.declared.Totals.{Totals}

-- x units of what costs y each, added to t
abbrev pub add_units : Wide → ℕ → ℕ → Wide
add_units t x y = add_words t (record { lo = x * y; hi = 0 })

-- x units of a cell whose pair has the quality v
abbrev pub totals_after : Totals → ℕ → Two → Totals
totals_after t x v = pick (eqb x 0) t (record { size = add_units t.size x v.0; mass = add_units t.mass x v.1 })

-- a mass is never above its size
pub mass-below : (q : Two → Two) (x : List ℕ) (ps : List Two) → ((p : Two) → In p ps → (q p).1 ≤ (q p).0) → plan_mass x (cells_over (map q ps)) ≤ plan_size x (cells_over (map q ps))
unfolding plan_mass plan_size
mass-below q [] ps low = omega arith
mass-below q (n ∷ x) [] low = omega arith
mass-below q (n ∷ x) (p ∷ ps) low = omega (arith, mass-below q x ps (λ c i. low c (there i)), mul-le-mul {n₁ = n} {m₁ = (q p).1} {n₂ = n} {m₂ = (q p).0} (omega arith) (low p here))

pub product-fits : (a b : ℕ) → a < 2 ^ 32 → b < 2 ^ 32 → a * b < 2 ^ 64
product-fits a b h k = omega (arith, mul-le-mul {n₁ = a} {m₁ = b} {n₂ = 2 ^ 32 - 1} {m₂ = 2 ^ 32 - 1} (omega arith) (omega arith))

add-product : (t : Wide) (sum i x y : ℕ) → Natural t sum → sum ≤ i * 2 ^ 64 → i < 4225 → x < 2 ^ 32 → y < 2 ^ 32 → Natural (add_units t x y) (sum + x * y) × (sum + x * y ≤ (i + 1) * 2 ^ 64)
add-product t sum i x y N s h u w =
    let l : x * y < 2 ^ 64 = product-fits x y u w in
    (add-natural N (record { low = l; high = omega arith; is = omega arith }) (omega arith), omega arith)

-- The first i cells are added in t: what is left makes the whole.
pub record Summed (cells : List Cell) (x : List ℕ) (i : ℕ) (t : Totals) : Type 0 where
  pub size : ℕ
  pub mass : ℕ
  pub size_is : Natural t.size size
  pub mass_is : Natural t.mass mass
  pub size_few : size ≤ i * 2 ^ 64
  pub mass_few : mass ≤ i * 2 ^ 64
  pub size_left : size + plan_size (drop i x) (drop i cells) ≡ plan_size x cells
  pub mass_left : mass + plan_mass (drop i x) (drop i cells) ≡ plan_mass x cells

module _ (cells : List Cell) (x : List ℕ) where
  pub summed-none : Summed cells x 0 (record { size = record { lo = 0; hi = 0 }; mass = record { lo = 0; hi = 0 } })
  summed-none = record {
    size = 0;
    mass = 0;
    size_is = record { low = omega arith; high = omega arith; is = refl };
    mass_is = record { low = omega arith; high = omega arith; is = refl };
    size_few = omega arith;
    mass_few = omega arith;
    size_left = omega arith;
    mass_left = omega arith;
  }

  module _ (i : ℕ) (t : Totals) (S : Summed cells x i t) where
    module _ (same : length cells ≡ length x) (few : length x ≤ 4225) (h : i < length x) (a b : ℕ) (e : get_or cells i forbidden ≡ cost a b) where
      size-next : plan_size (drop i x) (drop i cells) ≡ get_or x i 0 * a + plan_size (drop (i + 1) x) (drop (i + 1) cells)
      unfolding plan_size
      size-next = rw (add-one, drop-cons x i 0 h, drop-cons cells i forbidden (omega arith), e) refl

      mass-next : plan_mass (drop i x) (drop i cells) ≡ get_or x i 0 * b + plan_mass (drop (i + 1) x) (drop (i + 1) cells)
      unfolding plan_mass
      mass-next = rw (add-one, drop-cons x i 0 h, drop-cons cells i forbidden (omega arith), e) refl

      pub summed-more : (u : ℕ) → u ≡ get_or x i 0 → u < 2 ^ 32 → a < 2 ^ 32 → b < 2 ^ 32 → Summed cells x (i + 1) (totals_after t u (a, b))
      summed-more u f hu ha hb = step (eqb u 0) refl
        where
          p : u * a ≡ get_or x i 0 * a
          p = ap (λ (n : ℕ). n * a) f

          r : u * b ≡ get_or x i 0 * b
          r = ap (λ (n : ℕ). n * b) f

          step : (z : Bool) → eqb u 0 ≡ z → Summed cells x (i + 1) (pick z t (record { size = add_units t.size u a; mass = add_units t.mass u b }))
          step true g =
              let o : u ≡ 0 = eqb-true u 0 g in
              let p0 : u * a ≡ 0 = ap (λ (n : ℕ). n * a) o ∙ omega arith in
              let r0 : u * b ≡ 0 = ap (λ (n : ℕ). n * b) o ∙ omega arith in
              record {
                size = S.size;
                mass = S.mass;
                size_is = S.size_is;
                mass_is = S.mass_is;
                size_few = omega (arith, S.size_few);
                mass_few = omega (arith, S.mass_few);
                size_left = omega (arith, S.size_left, size-next, p, p0);
                mass_left = omega (arith, S.mass_left, mass-next, r, r0);
              }
          step false g =
              let (n, s) = add-product t.size S.size i u a S.size_is S.size_few (omega arith) hu ha in
              let (m, v) = add-product t.mass S.mass i u b S.mass_is S.mass_few (omega arith) hu hb in
              record {
                size = S.size + u * a;
                mass = S.mass + u * b;
                size_is = n;
                mass_is = m;
                size_few = s;
                mass_few = v;
                size_left = omega (arith, S.size_left, size-next, p);
                mass_left = omega (arith, S.mass_left, mass-next, r);
              }

    pub summed-all : length x ≤ i → Natural t.size (plan_size x cells) × Natural t.mass (plan_mass x cells)
    unfolding plan_size plan_mass
    summed-all h =
        let d : plan_size (drop i x) (drop i cells) ≡ 0 = rw (drop_of_length-le x h) refl in
        let g : plan_mass (drop i x) (drop i cells) ≡ 0 = rw (drop_of_length-le x h) refl in
        let e : S.size ≡ plan_size x cells = omega (arith, S.size_left) in
        let f : S.mass ≡ plan_mass x cells = omega (arith, S.mass_left) in
        (rw (← e) S.size_is, rw (← f) S.mass_is)
