-- What a verdict says of the image: `verdict_of` read from the answer's side.
use Rattle.std.specs.Prelude.{◌≡◌, refl, List, ℕ, ◌≤◌, ◌<◌}
use Rattle.std.proofs.Common.{sym, subst, ◌∙◌, arith, ne_eqb}
use Rattle.std.proofs.Math.Decide.{ℕ_discrete}
use Rattle.spec.specs.Bytes.{Res, ok, refused}
use Rattle.spec.specs.Image.{Tables, image_of, lowest_doubled, tables_of}
use Rattle.laws.specs.Accepted.{accepted-length, accepted-tables, refused-in-its-case}
use Rattle.image.specs.Loaded.{Loaded, loaded}
use Rattle.judge.specs.Verdict.{header_of, result_of, verdict_as, verdict_of}
use Rattle.judge.specs.declared.Verdict.{Verdict}
use Rattle.judge.specs.declared.Verdict.TheVariants.{Accepted, Refused, Doubled}

-- what comes with it: the layout of an accepted image; a number from 2 to 9; with 10 the lowest class that holds a literal that also stands in another
abbrev pub Carries : List ℕ → Verdict → Type 0
Carries s (Accepted im) = Loaded s im
Carries s (Refused n) = (2 ≤ n) × (n < 10)
Carries s (Doubled c) = c ≡ lowest_doubled (tables_of s)

-- the table's number for its case, and what comes with it
pub record Judged (s : List ℕ) (v : Verdict) : Type 0 where
  pub result : result_of s v ≡ image_of s
  pub carries : Carries s v

of-verdict : (s : List ℕ) → Judged s (verdict_of s)
of-verdict s = go (image_of s) refl
  where
    refusal : (n : ℕ) → Dec (n ≡ 10) → image_of s ≡ refused n → Judged s (verdict_as (header_of s) s (refused n))
    refusal n (yes q) e = rw q (record { result = sym (rw q at e); carries = refl })
    refusal n (no q) e = let z = (refused-in-its-case s n).0 e in rw (ne_eqb n 10 q) (record { result = sym e; carries = (z.0, omega (arith, z.1, q)) })

    go : (r : Res Tables) → image_of s ≡ r → Judged s (verdict_as (header_of s) s r)
    go (ok t) e = record { result = sym (rw (accepted-tables s t e) at e); carries = loaded s (omega (arith, (accepted-length s t e).2)) }
    go (refused n) e = refusal n (ℕ_discrete n 10) e

-- .. of the answer v, whose case is known to be w
pub judged : (s : List ℕ) {v w : Verdict} → v ≡ verdict_of s → v ≡ w → Judged s w
judged s q e = subst (λ (z : Verdict). Judged s z) (sym q ∙ e) (of-verdict s)
