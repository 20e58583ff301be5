-- An image is accepted exactly where it keeps the rules 2 to 10 of the table of refusals, and refused with the number of the first rule that it breaks: "Each is returned in its case only."
use Rattle.std.specs.Prelude.{◌≡◌, refl, ◌↔◌, Bool, true, false, List, [], ◌∷◌, ℕ, zero, suc, ◌+◌, ◌-◌, ◌≤◌, ◌<◌, leb, eqb, length, get_or}
use Rattle.std.proofs.Common.{sym, ap, ◌∙◌, suc-le-suc, zero-le, not-suc-le-zero, le_of_suc-le-suc, arith}
use Rattle.std.proofs.Math.Decide.{dec_lt}
use Rattle.spec.specs.Bytes.{both, all, be4, Res, ok, refused, rule, ◌>>=◌}
use Rattle.spec.specs.Image.{Tables, HEADER, tables_of, tables_rules, image_of, image_end, counts_right, operation_right, spans_right, children_right, best_right, literals_apart}
use Rattle.laws.specs.Tests.{clash, is_false}
use Rattle.laws.specs.AcceptedRules.{length-rule, equal-rule, counts-rule, operations-rule, spans-rule, children-rule, best-rule}
use Rattle.laws.specs.AcceptedLiterals.{apart-rule}
use Rattle.laws.specs.Valid.{Valid, Keeps, two, three, four, five, six, seven, eight, nine, ten}

-- the tests of the rules 2 to 10, in this order
abbrev pub tests : List ℕ → List Bool
tests s =
    both (leb HEADER (length s)) (eqb (be4 s 0 + 4) (length s))
    ∷ eqb (get_or s 4 0) 1
    ∷ counts_right s
    ∷ eqb (image_end s) (length s)
    ∷ all (operation_right (length (tables_of s).classes)) (tables_of s).operations
    ∷ spans_right (tables_of s)
    ∷ children_right (tables_of s)
    ∷ all (best_right (tables_of s)) (tables_of s).classes
    ∷ literals_apart (tables_of s) (tables_of s).classes
    ∷ []

-- a, or the number of the first test that fails, the first test having number n
unfoldable pub walk : {A : Type 0} → A → ℕ → List Bool → Res A
walk a n [] = ok a
walk a n (b ∷ l) = elim b [ true ↦ walk a (suc n) l | false ↦ refused n ]

in-order : {A : Type 0} (a : A) (b2 b3 b4 b5 b6 b7 b8 b9 b10 : Bool)
    → (do
      _ ← rule 2 b2
      _ ← rule 3 b3
      _ ← rule 4 b4
      _ ← rule 5 b5
      _ ← rule 6 b6
      _ ← rule 7 b7
      _ ← rule 8 b8
      _ ← rule 9 b9
      _ ← rule 10 b10
      ok a)
    ≡ walk a 2 (b2 ∷ b3 ∷ b4 ∷ b5 ∷ b6 ∷ b7 ∷ b8 ∷ b9 ∷ b10 ∷ [])
unfolding walk
in-order a false b3 b4 b5 b6 b7 b8 b9 b10 = refl
in-order a true false b4 b5 b6 b7 b8 b9 b10 = refl
in-order a true true false b5 b6 b7 b8 b9 b10 = refl
in-order a true true true false b6 b7 b8 b9 b10 = refl
in-order a true true true true false b7 b8 b9 b10 = refl
in-order a true true true true true false b8 b9 b10 = refl
in-order a true true true true true true false b9 b10 = refl
in-order a true true true true true true true false b10 = refl
in-order a true true true true true true true true false = refl
in-order a true true true true true true true true true = refl

pub image-walk : (s : List ℕ) → image_of s ≡ walk (tables_of s) 2 (tests s)
unfolding image_of tables_rules
image-walk s =
    in-order (tables_of s)
    (both (leb HEADER (length s)) (eqb (be4 s 0 + 4) (length s)))
    (eqb (get_or s 4 0) 1)
    (counts_right s)
    (eqb (image_end s) (length s))
    (all (operation_right (length (tables_of s).classes)) (tables_of s).operations)
    (spans_right (tables_of s))
    (children_right (tables_of s))
    (all (best_right (tables_of s)) (tables_of s).classes)
    (literals_apart (tables_of s) (tables_of s).classes)

-- ---- the first test that fails
not-ok : {A : Type 0} {a : A} {n : ℕ} → refused n ≡ ok a → ⊥
not-ok e = let z : ◌≡◌ {A = ℕ} 0 1 = cc in omega arith

ok_same : {A : Type 0} {a b : A} → ◌≡◌ {A = Res A} (ok a) (ok b) → a ≡ b
ok_same e = cc

refused-same : {A : Type 0} {n k : ℕ} → ◌≡◌ {A = Res A} (refused n) (refused k) → n ≡ k
refused-same e = cc

abbrev AllPass : List Bool → Type 0
AllPass l = (i : ℕ) → i < length l → get_or l i true ≡ true

walk-ok : {A : Type 0} (a b : A) (n : ℕ) (l : List Bool) → walk a n l ≡ ok b ↔ (b ≡ a) × AllPass l
unfolding walk
walk-ok a b n [] = (λ e. (sym (ok_same e), λ i h. absurd (not-suc-le-zero h)), λ h. ap ok (sym h.0))
walk-ok a b n (true ∷ l) = (
  λ e. let (q, r) = (walk-ok a b (suc n) l).0 e in (q, λ i. passes r i),
  λ h. (walk-ok a b (suc n) l).1 (h.0, λ i b. h.1 (suc i) (suc-le-suc b)),
)
  where
    passes : AllPass l → (i : ℕ) → i < suc (length l) → get_or (true ∷ l) i true ≡ true
    passes r zero h = refl
    passes r (suc i) h = r i (le_of_suc-le-suc h)
walk-ok a b n (false ∷ l) = (λ e. absurd (not-ok e), λ h. absurd (clash (sym (h.1 0 (suc-le-suc zero-le)))))

-- test k, counted from n, fails, and those before it pass
pub record FirstFails (n k : ℕ) (l : List Bool) : Type 0 where
  pub from : n ≤ k
  pub within : k < n + length l
  pub before : (i : ℕ) → n + i < k → get_or l i true ≡ true
  pub fails : (i : ℕ) → n + i ≡ k → get_or l i true ≡ false

walk_refused : {A : Type 0} (a : A) (n k : ℕ) (l : List Bool) → walk a n l ≡ refused k ↔ FirstFails n k l
unfolding walk
walk_refused a n k [] = (λ e. absurd (not-ok (sym e)), λ h. absurd (omega (arith, h.from, h.within)))
walk_refused a n k (true ∷ l) = (
  λ e.
      let f = (walk_refused a (suc n) k l).0 e in
      record {
        from = omega (arith, f.from);
        within = omega (arith, f.within);
        before = λ i. before f i;
        fails = λ i. fails f i;
      },
  λ h. (walk_refused a (suc n) k l).1
      (record {
        from = later h (dec_lt n k);
        within = omega (arith, h.within);
        before = λ i b. h.before (suc i) (omega arith);
        fails = λ i b. h.fails (suc i) (omega arith);
      }),
)
  where
    before : FirstFails (suc n) k l → (i : ℕ) → n + i < k → get_or (true ∷ l) i true ≡ true
    before f zero h = refl
    before f (suc i) h = f.before i (omega arith)

    fails : FirstFails (suc n) k l → (i : ℕ) → n + i ≡ k → get_or (true ∷ l) i true ≡ false
    fails f zero h = absurd (omega (arith, f.from))
    fails f (suc i) h = f.fails i (omega arith)

    later : FirstFails n k (true ∷ l) → Dec (n < k) → suc n ≤ k
    later h (yes b) = b
    later h (no b) = absurd (clash (h.fails 0 (omega (arith, h.from))))
walk_refused a n k (false ∷ l) = (
  λ e.
      let q = refused-same e in
      record {
        from = omega arith;
        within = omega arith;
        before = λ i b. absurd (omega arith);
        fails = λ i. now q i;
      },
  λ h. ap refused (same h (dec_lt n k)),
)
  where
    now : n ≡ k → (i : ℕ) → n + i ≡ k → get_or (false ∷ l) i true ≡ false
    now q zero h = refl
    now q (suc i) h = absurd (omega arith)

    same : FirstFails n k (false ∷ l) → Dec (n < k) → n ≡ k
    same h (yes b) = absurd (clash (sym (h.before 0 (omega arith))))
    same h (no b) = omega (arith, h.from)

-- ---- rule 2 + i is kept exactly where test i passes
pub keeps-said : (s : List ℕ) (i : ℕ) → i < 9 → get_or (tests s) i true ≡ true → Keeps s (2 + i)
keeps-said s zero h e = let (a, b) = (length-rule s).0 e in two refl a b
keeps-said s (suc zero) h e = three refl ((equal-rule (get_or s 4 0) 1).0 e)
keeps-said s (suc (suc zero)) h e = four refl ((counts-rule s).0 e)
keeps-said s (suc (suc (suc zero))) h e = five refl ((equal-rule (image_end s) (length s)).0 e)
keeps-said s (suc (suc (suc (suc zero)))) h e = six refl ((operations-rule (tables_of s)).0 e)
keeps-said s (suc (suc (suc (suc (suc zero))))) h e = seven refl ((spans-rule (tables_of s)).0 e)
keeps-said s (suc (suc (suc (suc (suc (suc zero)))))) h e = eight refl ((children-rule (tables_of s)).0 e)
keeps-said s (suc (suc (suc (suc (suc (suc (suc zero))))))) h e = nine refl ((best-rule (tables_of s)).0 e)
keeps-said s (suc (suc (suc (suc (suc (suc (suc (suc zero)))))))) h e = ten refl ((apart-rule (tables_of s)).0 e)
keeps-said s (suc (suc (suc (suc (suc (suc (suc (suc (suc i))))))))) h e = absurd (omega arith)

at-rule : (s : List ℕ) (k i : ℕ) {n : ℕ} → n ≡ 2 + i → n ≡ 2 + k → get_or (tests s) k true ≡ true → get_or (tests s) i true ≡ true
at-rule s k i e q r = let z : i ≡ k = omega arith in rw z r

pub keeps-test : (s : List ℕ) (i : ℕ) {n : ℕ} → n ≡ 2 + i → Keeps s n → get_or (tests s) i true ≡ true
keeps-test s i e (two q a b) = at-rule s 0 i e q ((length-rule s).1 (a, b))
keeps-test s i e (three q a) = at-rule s 1 i e q ((equal-rule (get_or s 4 0) 1).1 a)
keeps-test s i e (four q a) = at-rule s 2 i e q ((counts-rule s).1 a)
keeps-test s i e (five q a) = at-rule s 3 i e q ((equal-rule (image_end s) (length s)).1 a)
keeps-test s i e (six q a) = at-rule s 4 i e q ((operations-rule (tables_of s)).1 a)
keeps-test s i e (seven q a) = at-rule s 5 i e q ((spans-rule (tables_of s)).1 a)
keeps-test s i e (eight q a) = at-rule s 6 i e q ((children-rule (tables_of s)).1 a)
keeps-test s i e (nine q a) = at-rule s 7 i e q ((best-rule (tables_of s)).1 a)
keeps-test s i e (ten q a) = at-rule s 8 i e q ((apart-rule (tables_of s)).1 a)

-- ---- the two theorems
pub accepted : (s : List ℕ) (t : Tables) → image_of s ≡ ok t ↔ (t ≡ tables_of s) × ((n : ℕ) → 2 ≤ n → n ≤ 10 → Keeps s n)
accepted s t = (
  λ e.
      let (q, r) = (walk-ok (tables_of s) t 2 (tests s)).0 (sym (image-walk s) ∙ e) in
      (q, λ n a b. let z : 2 + (n - 2) ≡ n = omega arith in rw z at (keeps-said s (n - 2) (omega arith) (r (n - 2) (omega arith)))),
  λ h.
      image-walk s
      ∙ (walk-ok (tables_of s) t 2 (tests s)).1 (h.0, λ i b. keeps-test s i refl (h.1 (2 + i) (omega arith) (omega arith))),
)

pub refused-in-its-case : (s : List ℕ) (n : ℕ)
    → image_of s ≡ refused n ↔ (2 ≤ n) × (n ≤ 10) × ((k : ℕ) → 2 ≤ k → k < n → Keeps s k) × (Keeps s n → ⊥)
refused-in-its-case s n = (
  λ e.
      let f = (walk_refused (tables_of s) 2 n (tests s)).0 (sym (image-walk s) ∙ e) in
      let w : n ≤ 10 = omega (arith, f.within) in (
        f.from,
        w,
        λ k a b. let z : 2 + (k - 2) ≡ k = omega arith in rw z at (keeps-said s (k - 2) (omega arith) (f.before (k - 2) (omega arith))),
        λ q.
            let z : 2 + (n - 2) ≡ n = omega (arith, f.from) in
            clash (sym (keeps-test s (n - 2) (sym z) q) ∙ f.fails (n - 2) z),
      ),
  λ h.
      image-walk s
      ∙ (walk_refused (tables_of s) 2 n (tests s)).1
      (record {
        from = h.0;
        within = omega (arith, h.1);
        before = λ i b. keeps-test s i refl (h.2 (2 + i) (omega arith) b);
        fails = λ i e. is_false (get_or (tests s) i true) (λ p. h.3 (rw e at (keeps-said s i (omega (arith, h.1)) p)));
      }),
)

-- ---- what an accepted image guarantees
pub accepted-tables : (s : List ℕ) (t : Tables) → image_of s ≡ ok t → t ≡ tables_of s
accepted-tables s t e = ((accepted s t).0 e).0

pub valid : (s : List ℕ) (t : Tables) → image_of s ≡ ok t → Valid t
valid s t e =
    let (q, r) = (walk-ok (tables_of s) t 2 (tests s)).0 (sym (image-walk s) ∙ e) in
    rw q
    (record {
      counts = (counts-rule s).0 (r 2 (omega arith));
      operations = (operations-rule (tables_of s)).0 (r 4 (omega arith));
      spans = (spans-rule (tables_of s)).0 (r 5 (omega arith));
      children = (children-rule (tables_of s)).0 (r 6 (omega arith));
      best = (best-rule (tables_of s)).0 (r 7 (omega arith));
      literals = (apart-rule (tables_of s)).0 (r 8 (omega arith));
    })

-- counts and length agree, and the length field is right
pub accepted-length : (s : List ℕ) (t : Tables) → image_of s ≡ ok t → (HEADER ≤ length s) × (be4 s 0 + 4 ≡ length s) × (image_end s ≡ length s)
accepted-length s t e =
    let (q, r) = (walk-ok (tables_of s) t 2 (tests s)).0 (sym (image-walk s) ∙ e) in
    let (a, b) = (length-rule s).0 (r 0 (omega arith)) in (a, b, (equal-rule (image_end s) (length s)).0 (r 3 (omega arith)))
