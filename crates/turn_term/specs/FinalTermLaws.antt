-- A turn's choice made into its term: the runs in the list are the choice's, and they are what the pool takes.
use Rattle.std.specs.Prelude.{◌≡◌, Bool, get_or, take, drop, Option, Some}
use Rattle.std.proofs.Math.Path.{refl}
use Rattle.std.proofs.Common.{sym, ap, ◌∙◌, length-append, take-append-drop}
use Rattle.std.proofs.Math.Logic.{inl, inr}
use Rattle.std.proofs.Math.Bool.{true, false}
use mathlib.Core.List.{List, [], ◌∷◌, ◌++◌, map}
use Prim.Native.Nat.{ℕ, suc, ◌+◌, ◌*◌, ◌/◌, ◌%◌, ◌^◌, ◌≤◌, ◌<◌}
use native.Mathlib.Omega.{arith}
use borrow.Author.Tests.{eqb-false}
use Rattle.std.proofs.Math.Dec.{eqb}
use Rattle.std.proofs.Math.ListN.{length}
use Rattle.spec.specs.Bytes.{Two, Limits, sum}
use Rattle.spec.specs.Image.{Tables, kind_of, is_commutative}
use Rattle.spec.specs.Meaning.{In, here, there}
use Rattle.spec.specs.Action.{joins}
use Rattle.spec.specs.Monomial.{COUNT}
use Rattle.spec.specs.System as system
use Rattle.spec.specs.Round.{Act, Choice, stay, act, turn_of, action_term, plan_runs}
use Rattle.laws.specs.Buffers.{over}
use Rattle.laws.specs.Valid.{Valid}
use Rattle.laws.specs.Lists.{in-nil, in-cons}
use Rattle.pools.specs.Pool.{RunsBelow}
use Rattle.lgg.specs.TurnPlaces.{choice-joins}
use Rattle.lgg.specs.Within.{joins-within}
use Rattle.terms.specs.Buffers.{part, unpack, count_in}
use Rattle.terms.specs.Chains.{Holds}
use Rattle.action_term.specs.Results.{action_list, ActionResult}
use Rattle.terms.specs.PartLaws.{part-front}
use Rattle.interning.specs.GrowLaws.{grows_none}
use Rattle.arrays.specs.Arrays.{Known, TermsBelow, quality_in, term_in}
use Rattle.arrays.specs.ArrayLaws.{place-lt, known-low}
use Rattle.action_runs.specs.Runs.{packed, runs_over}
use Rattle.turn_term.specs.FinalTerm.{Ended}

-- ---- a run as one number, and back
unpacked : (r : Two) → r.0 < 16384 → unpack (packed r) ≡ r
unpacked r h =
    let a : (r.1 * 16384 + r.0) % 16384 ≡ r.0 = omega arith in
    let b : (r.1 * 16384 + r.0) / 16384 ≡ r.1 = omega arith in
    λ i. (a i, b i)

module _ (of : Two → ℕ) where
  runs-back : (ps : List Two) (x : List ℕ) → ((p : Two) → In p ps → of p < 16384) → map unpack (runs_over of ps x) ≡ plan_runs of ps x
  unfolding plan_runs
  runs-back [] x small = refl
  runs-back (p ∷ ps) [] small = refl
  runs-back (p ∷ ps) (n ∷ x) small = step (eqb n 0) (runs-back ps x (λ c i. small c (there i)))
    where
      step : (b : Bool) → map unpack (runs_over of ps x) ≡ plan_runs of ps x
          → map unpack (map packed (elim b [ true ↦ plan_runs of ps x | false ↦ (of p, n) ∷ plan_runs of ps x ])) ≡ elim b [ true ↦ plan_runs of ps x | false ↦ (of p, n) ∷ plan_runs of ps x ]
      step true ih = ih
      step false ih = λ i. unpacked (of p, n) (small p here) i ∷ ih i

  runs-sum : (ps : List Two) (x : List ℕ) → ((p : Two) → In p ps → of p < 16384) → ((k : ℕ) → get_or x k 0 ≤ COUNT) → sum (runs_over of ps x) ≤ length ps * 70368744177664
  unfolding plan_runs sum
  runs-sum [] x small h = omega arith
  runs-sum (p ∷ ps) [] small h = omega arith
  runs-sum (p ∷ ps) (n ∷ x) small h = step (eqb n 0) (runs-sum ps x (λ c i. small c (there i)) (λ k. h (suc k)))
    where
      step : (b : Bool) → sum (runs_over of ps x) ≤ length ps * 70368744177664
          → sum (map packed (elim b [ true ↦ plan_runs of ps x | false ↦ (of p, n) ∷ plan_runs of ps x ])) ≤ suc (length ps) * 70368744177664
      step true ih = omega (arith, ih)
      step false ih = omega (arith, ih, h 0, small p here)

module _ (of : Two → ℕ) (N : ℕ) where
  abbrev Good : Two → Type 0
  Good r = (r.0 < N) × (1 ≤ r.1)

  runs-good : (ps : List Two) (x : List ℕ) → ((p : Two) → In p ps → of p < N) → (r : Two) → In r (plan_runs of ps x) → Good r
  unfolding plan_runs
  runs-good [] x below r i = absurd (in-nil i)
  runs-good (p ∷ ps) [] below r i = absurd (in-nil i)
  runs-good (p ∷ ps) (n ∷ x) below r i = step (eqb n 0) refl (runs-good ps x (λ c j. below c (there j)) r) i
    where
      step : (b : Bool) → eqb n 0 ≡ b → (In r (plan_runs of ps x) → Good r) → In r (elim b [ true ↦ plan_runs of ps x | false ↦ (of p, n) ∷ plan_runs of ps x ]) → Good r
      step true e ih i = ih i
      step false e ih i = let z : n ≡ 0 → ⊥ = eqb-false n 0 e in elim (in-cons i) [ inl f ↦ rw f (below p here, omega arith) | inr j ↦ ih j ]

  runs-below : (ps : List Two) (x : List ℕ) → ((p : Two) → In p ps → of p < N) → RunsBelow N (plan_runs of ps x)
  runs-below ps x below = record { earlier = λ r i. (runs-good ps x below r i).0; counted = λ r i. (runs-good ps x below r i).1 }

-- ---- the arrays of a run, at the pairs that a pair of classes joins
module _ (t : Tables) (v : Valid t) (w : ℕ) (e : w ≡ length t.classes) (graph pairs : List ℕ) (l r : ℕ) (hl : l < w) (hr : r < w) where
  joined-within : (c : Two) → In c (joins t (l, r)) → (c.0 < w) × (c.1 < w)
  joined-within c i = let (x, y) = joins-within t v (l, r) (omega (arith, e), omega (arith, e)) c i in (omega (arith, x, e), omega (arith, y, e))

  -- the terms that a choice takes are the pool's
  pub choice-below : (N : ℕ) → TermsBelow w graph pairs N → (q : Two → Two) (a : Act) → (turn_of t q (l, r)).choice ≡ act a → (c : Two) → In c a.places → term_in w graph pairs c < N
  choice-below N h q a f c i = let (x, y) = joined-within c (choice-joins t q (l, r) a f c i) in h (c.0 * w + c.1) (place-lt w c.0 c.1 x y)

  -- a mass is never above its size
  pub joined-low : Known w graph pairs → (c : Two) → In c (joins t (l, r)) → (quality_in w graph pairs c).1 ≤ (quality_in w graph pairs c).0
  joined-low K c i = let (x, y) = joined-within c i in known-low w graph pairs K c.0 c.1 x y

-- ---- the list
pub over-front : (list r : List ℕ) (m : ℕ) → take m list ≡ r → m ≡ length r → list ≡ over r list
over-front list r m e h = sym (take-append-drop m list) ∙ (λ i. e i ++ drop (h i) list)

module _ (lim : Limits) (t : Tables) (of : Two → ℕ) (terms runs : List ℕ) (hold : Holds terms runs) (old : ℕ) (c : Choice) (list : List ℕ) where
  pub ended-stay : c ≡ stay → (r : ℕ) → r ≡ old → Ended lim t of terms runs old c list terms runs list (Some r)
  unfolding system.choice_term
  ended-stay e r f = rw (e, f) (record { answer = refl; pool = refl; holds = hold; grows = grows_none terms runs hold; list_is = refl })

  module _ (a : Act) (e : c ≡ act a) (below : (p : Two) → In p a.places → of p < count_in terms)
      (list₁ : List ℕ) (l : list₁ ≡ over (runs_over of a.places a.counts) list) (n : ℕ) (k : n ≡ length (runs_over of a.places a.counts)) where
    small : (p : Two) → In p a.places → of p < 16384
    small p i = omega (arith, below p i, hold.few)

    abbrev listing : List ℕ
    listing = runs_over of a.places a.counts

    listed : part list₁ 0 n ≡ listing
    listed = rw l (part-front listing (drop (length listing) list) n k)

    unlisted : map unpack (part list₁ 0 n) ≡ plan_runs of a.places a.counts
    unlisted = ap (map unpack) listed ∙ runs-back of a.places a.counts small

    act-fits : n ≤ length list₁
    act-fits = rw l (omega (arith, k, length-append listing (drop (length listing) list)))

    act-below : RunsBelow (count_in terms) (map unpack (part list₁ 0 n))
    act-below = rw unlisted (runs-below of (count_in terms) a.places a.counts below)

    act-light : ((i : ℕ) → get_or a.counts i 0 ≤ COUNT) → length a.places ≤ 4225 → sum (part list₁ 0 n) < 2 ^ 64
    act-light h f = rw listed (omega (arith, runs-sum of a.places a.counts small h))

    -- what `intern_action_result` asks of the list
    pub act-given : ((i : ℕ) → get_or a.counts i 0 ≤ COUNT) → length a.places ≤ 4225 → (n ≤ length list₁) × RunsBelow (count_in terms) (map unpack (part list₁ 0 n)) × (sum (part list₁ 0 n) < 2 ^ 64)
    act-given h f = (act-fits, act-below, act-light h f)

    pub ended-act : (terms' runs' list' : List ℕ) (r : Option ℕ) → ActionResult lim terms runs list₁ n a.op (is_commutative (kind_of t a.op)) terms' runs' list' r → Ended lim t of terms runs old c list terms' runs' list' r
    unfolding system.choice_term action_term
    ended-act terms' runs' list' r A =
        rw e
        (record {
          answer = rw unlisted at A.answer;
          pool = rw unlisted at A.pool;
          holds = A.holds;
          grows = rw unlisted at A.grows;
          list_is = A.list_is ∙ (λ i. action_list (is_commutative (kind_of t a.op)) terms runs (l i) (k i));
        })
