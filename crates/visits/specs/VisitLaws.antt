-- A visit, from what `take_turn` says; and what its answer says.
use Rattle.std.specs.Prelude.{◌≡◌, refl, Bool, false, List, ℕ, ◌+◌, ◌*◌, ◌^◌, ◌<◌, length, get_or, set, Option, Some, None}
use Rattle.std.proofs.Common.{sym, ap, ◌∙◌, arith}
use Rattle.std.proofs.lemmas.List.{set-get_or}
use Rattle.spec.specs.Bytes.{Limits, Two, Res, ok, refused}
use Rattle.spec.specs.Image.{Tables}
use Rattle.spec.specs.Pool.{Interned, interned}
use Rattle.spec.specs.System as system
use Rattle.spec.specs.Pairs as Q
use Rattle.spec.specs.Round.{Turn, changes, choice_term}
use Rattle.laws.specs.Valid.{Valid}
use Rattle.laws.specs.BestMembers.{IsPair}
use Rattle.lgg.specs.Within.{joins-within}
use Rattle.lgg.specs.Stands.{Fits, pair_keeps}
use Rattle.lgg.specs.TurnPlaces.{choice-joins}
use Rattle.steps.specs.Standing.{choice-grows}
use Rattle.arrays.specs.Arrays.{given, number_in, quality_in, term_in, TermsBelow}
use Rattle.arrays.specs.ArrayLaws.{place-lt}
use Rattle.terms.specs.Buffers.{pool_of, count_in}
use Rattle.terms.specs.PoolLaws.{pool-length}
use Rattle.terms.specs.Chains.{Holds}
use Rattle.interning.specs.Interning.{pool_after}
use Rattle.turn_end.specs.Taking.{taken_of, Takes}
use Rattle.turns.specs.Leaving.{Leaves}
use Rattle.turn_end.specs.declared.Turned.{Turned}
use Rattle.settling.specs.Quiet.{unturned}
use Rattle.visits.specs.Visiting.{turn_in, term_made, step_of, numbers_after, Idle, Visits}

taken-full : (w : Turn) (m : Res Interned) → None ≡ taken_of w m → (n : ℕ) × (m ≡ refused n)
taken-full w (ok a) e = absurd (let z : ◌≡◌ {A = ℕ} 0 1 = cc in omega arith)
taken-full w (refused n) e = (n, refl)

taken-to : (w : Turn) (m : Res Interned) (x : Turned) → Some x ≡ taken_of w m → (a : Interned) × (m ≡ ok a) × (x ≡ record { size = w.quality.0; mass = w.quality.1; term = a.term; changed = changes w })
taken-to w (ok a) x e = (a, refl, cc)
taken-to w (refused n) x e = absurd (let z : ◌≡◌ {A = ℕ} 0 1 = cc in omega arith)

module _ (lim : Limits) (t : Tables) (w : ℕ) (graph pairs : List ℕ) (p : Two) (terms runs terms' runs' : List ℕ) where
  pub take-full : (k : ℕ) (work flow work' flow' : List ℕ) → Takes lim t (quality_in w graph pairs) (term_in w graph pairs) p terms runs terms' runs' None → Leaves lim t (quality_in w graph pairs) (term_in w graph pairs) p terms runs work flow work' flow'
      → Visits lim t w graph p k pairs work flow terms runs pairs work' flow' terms' runs' None
  take-full k work flow work' flow' X Y =
      let u = turn_in t w graph pairs p in
      let (n, e) = taken-full u (term_made lim t w graph pairs (pool_of terms runs) p) X.answer in
      record { answer = sym (ap (step_of u) e); numbers = sym (ap (λ (m : Res Interned). numbers_after u m k pairs) e); grows = X.grows; work_is = Y.work_is; flow_is = Y.flow_is }

  module _ (x : Turned) (X : Takes lim t (quality_in w graph pairs) (term_in w graph pairs) p terms runs terms' runs' (Some x)) where
    made : (a : Interned) × (term_made lim t w graph pairs (pool_of terms runs) p ≡ ok a) × (x ≡ record { size = (turn_in t w graph pairs p).quality.0; mass = (turn_in t w graph pairs p).quality.1; term = a.term; changed = changes (turn_in t w graph pairs p) })
    made = taken-to (turn_in t w graph pairs p) (term_made lim t w graph pairs (pool_of terms runs) p) x X.answer

    -- a term's number is small
    pub take-small : Valid t → w ≡ length t.classes → p.0 < w → p.1 < w → TermsBelow w graph pairs (count_in terms) → Holds terms runs → x.term < 2 ^ 32
    take-small v many hl hr held h =
        let (a, e, f) = made in
        let within : (y : Two) → IsPair t y → term_in w graph pairs y < length (pool_of terms runs) =
        λ y i. omega (arith, held (y.0 * w + y.1) (place-lt w y.0 y.1 (omega (arith, i.0)) (omega (arith, i.1))), pool-length terms runs) in
        let q : IsPair t p = (omega arith, omega arith) in
        let G = choice-grows (Q.pairs t) (Q.making lim t) Fits (pair_keeps lim t) (term_in w graph pairs) (pool_of terms runs) (term_in w graph pairs p) (turn_in t w graph pairs p).choice a h.valid (within p q)
        (λ b z y i. within y (joins-within t v p q y (choice-joins t (quality_in w graph pairs) p b z y i))) e in
        omega (arith, ap (λ (z : Turned). z.term) f, G.within, ap length (X.pool ∙ ap (pool_after (pool_of terms runs)) e), pool-length terms' runs', X.holds.few)

    pub take-moves : (k term : ℕ) (pairs' work flow work' flow' : List ℕ) → term ≡ x.term → pairs' ≡ given pairs (6 * k + 3) x.size x.mass term → Leaves lim t (quality_in w graph pairs) (term_in w graph pairs) p terms runs work flow work' flow'
        → Visits lim t w graph p k pairs work flow terms runs pairs' work' flow' terms' runs' (Some x.changed)
    take-moves k term pairs' work flow work' flow' et ep Y =
        let u = turn_in t w graph pairs p in
        let (a, e, f) = made in
        let n : given pairs (6 * k + 3) x.size x.mass term ≡ given pairs (6 * k + 3) u.quality.0 u.quality.1 a.term =
        ap (λ (y : ℕ). given pairs (6 * k + 3) x.size x.mass y) et ∙ ap (λ (z : Turned). given pairs (6 * k + 3) z.size z.mass z.term) f in
        record {
          answer = ap (λ (z : Turned). Some z.changed) f ∙ sym (ap (step_of u) e);
          numbers = ep ∙ n ∙ sym (ap (λ (m : Res Interned). numbers_after u m k pairs) e);
          grows = X.grows;
          work_is = Y.work_is;
          flow_is = Y.flow_is;
        }

-- ---- by what a visit answered
-- the turn u of pair k, whose term is m: its new numbers, and whether it changes
pub record Moved (u : Turn) (m : Res Interned) (k : ℕ) (pairs pairs' terms' runs' : List ℕ) (c : Bool) : Type 0 where
  pub made : Interned
  pub is : m ≡ ok made
  pub numbers : pairs' ≡ given pairs (6 * k + 3) u.quality.0 u.quality.1 made.term
  pub pool : pool_of terms' runs' ≡ made.pool
  pub holds : Holds terms' runs'
  pub changed : c ≡ changes u

module _ {lim : Limits} {t : Tables} {w : ℕ} {graph : List ℕ} {p : Two} {k : ℕ} {pairs work flow terms runs pairs' work' flow' terms' runs' : List ℕ} (r : Option Bool) (X : Visits lim t w graph p k pairs work flow terms runs pairs' work' flow' terms' runs' r) where
  abbrev Made : Res Interned
  Made = term_made lim t w graph pairs (pool_of terms runs) p

  pub visits-full : r ≡ None → (n : ℕ) × (Made ≡ refused n)
  visits-full e = go Made (sym e ∙ X.answer)
    where
      go : (m : Res Interned) → None ≡ step_of (turn_in t w graph pairs p) m → (n : ℕ) × (m ≡ refused n)
      go (ok a) q = absurd (let z : ◌≡◌ {A = ℕ} 0 1 = cc in omega arith)
      go (refused n) q = (n, refl)

  pub visits-to : (c : Bool) → r ≡ Some c → Moved (turn_in t w graph pairs p) Made k pairs pairs' terms' runs' c
  visits-to c e = go Made refl (sym e ∙ X.answer) X.numbers X.grows.pool
    where
      go : (m : Res Interned) → Made ≡ m → Some c ≡ step_of (turn_in t w graph pairs p) m → pairs' ≡ numbers_after (turn_in t w graph pairs p) m k pairs → pool_of terms' runs' ≡ pool_after (pool_of terms runs) m → Moved (turn_in t w graph pairs p) Made k pairs pairs' terms' runs' c
      go (ok a) i q n o = record { made = a; is = i; numbers = n; pool = o; holds = X.grows.holds; changed = cc }
      go (refused n) i q m o = absurd (let z : ◌≡◌ {A = ℕ} 0 1 = cc in omega arith)

-- ---- a pair that keeps what it has: as if it had its turn
-- to give what is there changes nothing
given-same : (pairs : List ℕ) (i : ℕ) → given pairs i (get_or pairs i 0) (get_or pairs (i + 1) 0) (get_or pairs (i + 2) 0) ≡ pairs
unfolding given
given-same pairs i =
    ap (λ (l : List ℕ). set (set l (i + 1) (get_or pairs (i + 1) 0)) (i + 2) (get_or pairs (i + 2) 0)) (set-get_or pairs i 0)
    ∙ ap (λ (l : List ℕ). set l (i + 2) (get_or pairs (i + 2) 0)) (set-get_or pairs (i + 1) 0)
    ∙ set-get_or pairs (i + 2) 0

idle-given : (pairs : List ℕ) (k : ℕ) → Idle pairs k → pairs ≡ given pairs (6 * k + 3) (get_or pairs (6 * k) 0) (get_or pairs (6 * k + 1) 0) (get_or pairs (6 * k + 2) 0)
idle-given pairs k (a, b, c) =
    let x : 6 * k + 3 + 1 ≡ 6 * k + 4 = omega arith in
    let y : 6 * k + 3 + 2 ≡ 6 * k + 5 = omega arith in
    let b' : get_or pairs (6 * k + 3 + 1) 0 ≡ get_or pairs (6 * k + 1) 0 = ap (λ (i : ℕ). get_or pairs i 0) x ∙ b in
    let c' : get_or pairs (6 * k + 3 + 2) 0 ≡ get_or pairs (6 * k + 2) 0 = ap (λ (i : ℕ). get_or pairs i 0) y ∙ c in
    sym (given-same pairs (6 * k + 3)) ∙ (λ i. given pairs (6 * k + 3) (a i) (b' i) (c' i))

pub idle-moved : (lim : Limits) (t : Tables) (w : ℕ) (graph pairs : List ℕ) (p : Two) (k : ℕ) (terms runs : List ℕ) → number_in w graph p ≡ k → turn_in t w graph pairs p ≡ unturned (quality_in w graph pairs p) → Holds terms runs → Idle pairs k
    → Moved (turn_in t w graph pairs p) (term_made lim t w graph pairs (pool_of terms runs) p) k pairs pairs terms runs false
unfolding system.choice_term
idle-moved lim t w graph pairs p k terms runs n e h idle = record {
  made = interned (pool_of terms runs) (term_in w graph pairs p);
  is = ap (λ (u : Turn). choice_term lim t (term_in w graph pairs) (pool_of terms runs) (term_in w graph pairs p) u.choice) e;
  numbers = idle-given pairs k idle
      ∙ ap (λ (i : ℕ). given pairs (6 * k + 3) (get_or pairs (6 * i) 0) (get_or pairs (6 * i + 1) 0) (get_or pairs (6 * i + 2) 0)) (sym n)
      ∙ ap (λ (u : Turn). given pairs (6 * k + 3) u.quality.0 u.quality.1 (term_in w graph pairs p)) (sym e);
  pool = refl;
  holds = h;
  changed = ap changes (sym e);
}
