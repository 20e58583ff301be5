-- The number counted by the facts of both classes is the definition's.
use mathlib.Core.Path.{◌≡◌, sym, ◌∙◌}
use Prim.Native.Nat.{ℕ, ◌<◌}
use lib.ListN.{length}
use Rattle.spec.specs.Image.{Tables, identity_of}
use Rattle.spec.specs.Monomial.{monomials_of, skipped_under}
use Rattle.laws.specs.Valid.{Valid}
use Rattle.skips.specs.Facts.{Facts, FactsOf, skipped_by}
use Rattle.skips.specs.Members.{Low}
use Rattle.skips.specs.ByFacts.{skipped-under}

-- e, m and n are what was read
pub under-is : (t : Tables) (l r o e m n x : ℕ) (f g : Facts) → Valid t → l < length t.classes → r < length t.classes → e ≡ identity_of t o
    → m ≡ length (monomials_of t l o) → n ≡ length (monomials_of t r o) → FactsOf e (monomials_of t l o) f → FactsOf e (monomials_of t r o) g
    → Low (monomials_of t l o) → Low (monomials_of t r o) → x ≡ skipped_by e f g m n → x ≡ skipped_under t l r o
under-is t l r o e m n x f g v hl hr q a b F G c d h =
    let z : x ≡ skipped_by (identity_of t o) f g (length (monomials_of t l o)) (length (monomials_of t r o)) = rw (q, a, b) at h in
    z ∙ sym (skipped-under t v l r o hl hr c d f g (rw q at F) (rw q at G))
