-- The loop over augmentations: what holds at its head, and the definition's answer at its end.
use mathlib.Core.Path.{◌≡◌, refl, sym, ap, ◌∙◌}
use mathlib.Core.Bool.{true, false}
use mathlib.Core.List.{List}
use mathlib.Core.Option.{Option, none, some}
use Prim.Native.Nat.{ℕ, zero, suc, ◌+◌, ◌-◌, ◌^◌, ◌≤◌, ◌<◌}
use native.Mathlib.Omega.{arith}
use Rattle.spec.specs.Bytes.{sum}
use Rattle.spec.specs.Transport.{weight, augment, push}
use Rattle.flow.specs.Sums.{list_sum-is}
use Rattle.flow.specs.Augmentation.{Partial}
use Rattle.flow.specs.Magnitude.{total-lt}
use Rattle.flow.specs.Solver.{total_of, placed, path_of, least_left, one-path, empty, start, start-placed, augment-zero, augment-done, augment-stuck, augment-more}
use Rattle.search_laws.specs.Holds.{FlowHolds}
use Rattle.augment.specs.Sending.{Midway, Sent, stuck, along, Start, Answered, no_plan, plan}

module _ {r c : ℕ} {supply demand g f₀ : List ℕ} (S : Start r c supply demand g f₀) where
  abbrev answer : Option (List ℕ)
  answer = augment (sum S.p.supply) S.p (weight S.p) (sum S.p.supply) (empty S.p (weight S.p))

  pub record Sending (rest : ℕ) (f : List ℕ) : Type 0 where
    pub x : List ℕ
    pub fuel : ℕ
    pub partly : Partial S.p (weight S.p) x
    pub flow : FlowHolds S.p x f
    pub units : rest + placed S.p (weight S.p) x ≡ total_of S.p (weight S.p)
    pub enough : rest ≤ fuel
    pub same : augment fuel S.p (weight S.p) rest x ≡ answer

  pub begin-sending : (total : ℕ) → total ≡ sum supply → Sending total f₀
  begin-sending total e =
      let q : total ≡ sum S.p.supply = e ∙ ap sum (sym S.supply_is) in
      record {
        x = empty S.p (weight S.p);
        fuel = sum S.p.supply;
        partly = start S.p (weight S.p);
        flow = S.flow;
        units = omega (arith, q, start-placed S.p (weight S.p), list_sum-is S.p.supply);
        enough = omega (arith, q);
        same = ap (λ (z : ℕ). augment (sum S.p.supply) S.p (weight S.p) z (empty S.p (weight S.p))) q;
      }

  abbrev pub midway-of : (rest : ℕ) (f : List ℕ) → Sending rest f → Midway r c supply demand g f
  midway-of rest f A = record { p = S.p; x = A.x; supply_is = S.supply_is; demand_is = S.demand_is; rows = S.rows; cols = S.cols; small = S.small; partly = A.partly; costs = S.costs; flow = A.flow }

  pub rest_lt : (rest : ℕ) (f : List ℕ) → Sending rest f → rest < 2 ^ 39
  rest_lt rest f A = omega (arith, A.units, list_sum-is S.p.supply, total-lt S.p S.small)

  -- nothing was sent: there is no plan
  pub send-none : (rest n : ℕ) (f f' : List ℕ) (A : Sending rest f) → 0 < rest → n ≡ 0 → Sent (midway-of rest f A) rest n f' → Answered S false f'
  send-none rest n f f' A h e (stuck z q) = no_plan (sym A.same ∙ none-at A.fuel A.enough) refl
    where
      none-at : (k : ℕ) → rest ≤ k → augment k S.p (weight S.p) rest A.x ≡ none
      none-at zero l = absurd (omega arith)
      none-at (suc k) l = augment-stuck S.p (weight S.p) k rest A.x h q
  send-none rest n f f' A h e (along k q w F) =
      let (I, g', d, d') = one-path S.p (weight S.p) rest A.x k h A.partly q in absurd (omega arith)

  -- some units were sent
  pub send-fits : (rest n : ℕ) (f f' : List ℕ) (A : Sending rest f) → 0 < rest → Sent (midway-of rest f A) rest n f' → n ≤ rest
  send-fits rest n f f' A h (stuck z q) = omega arith
  send-fits rest n f f' A h (along k q w F) = let (I, g', d, d') = one-path S.p (weight S.p) rest A.x k h A.partly q in omega arith

  pub send-some : (rest n : ℕ) (f f' : List ℕ) (A : Sending rest f) → 0 < rest → (n ≡ 0 → ⊥) → Sent (midway-of rest f A) rest n f' → Sending (rest - n) f'
  send-some rest n f f' A h e (stuck z q) = absurd (e z)
  send-some rest n f f' A h e (along k q w F) = go A.fuel A.enough A.same
    where
      go : (m : ℕ) → rest ≤ m → augment m S.p (weight S.p) rest A.x ≡ answer → Sending (rest - n) f'
      go zero l s = absurd (omega arith)
      go (suc m) l s =
          let (I, g', d, d') = one-path S.p (weight S.p) rest A.x k h A.partly q in
          let t = augment-more S.p (weight S.p) m rest A.x h q in
          rw w (record {
            x = push S.p (least_left S.p (weight S.p) rest A.x) (path_of S.p (weight S.p) A.x) A.x;
            fuel = m;
            partly = I;
            flow = rw w at F;
            units = omega (arith, A.units);
            enough = omega arith;
            same = sym t ∙ s;
          })

  -- all units are sent
  pub send-end : (rest : ℕ) (f : List ℕ) → Sending rest f → (0 < rest → ⊥) → Answered S true f
  send-end rest f A h = plan A.x (sym A.same ∙ all A.fuel) refl A.partly A.flow
    where
      all : (k : ℕ) → augment k S.p (weight S.p) rest A.x ≡ some A.x
      all zero = augment-zero S.p (weight S.p) rest A.x (omega (arith, h))
      all (suc k) = augment-done S.p (weight S.p) k rest A.x (omega (arith, h))
