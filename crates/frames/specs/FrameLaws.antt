-- What the test of a frame says, and a refusal's line piece by piece.
use Rattle.std.specs.Prelude.{◌≡◌, refl, true, false, List, [], ◌∷◌, ◌++◌, ℕ, ◌+◌, ◌≤◌, ◌<◌, leb, eqb, length}
use Rattle.std.proofs.Common.{sym, arith, le-leb, leb-true, eqb-true}
use Rattle.std.proofs.Math.ListN.{length-append}
use Rattle.std.proofs.lemmas.Bool.{lt-leb}
use Rattle.spec.specs.Bytes.{be2, be4, text, decimal}
use Rattle.spec.specs.Listing.{line}
use Rattle.spec.specs.Merge.{INPUT}
use Rattle.laws.specs.Tests.{both_true}
use Rattle.decimals.specs.Writing.{Wrote}
use Rattle.decimals.specs.WriteLaws.{wrote_then, wrote-length, wrote_as}
use Rattle.decimals.specs.DecimalLaws.{decimal-short}
use Rattle.spec.specs.declared.Caller.TheVariants.{Desk}
use Rattle.query.specs.declared.Query.{Query}
use Rattle.frames.specs.Frame.{framed, query_of, refusal_bytes}

-- ---- the test
pub record Framed (s : List ℕ) : Type 0 where
  pub short : length s ≤ 65536
  pub some : 4 ≤ length s
  pub ends : be4 s 0 + 4 + 8 ≡ length s

pub framed-says : (s : List ℕ) → framed s ≡ true → Framed s
framed-says s e =
    let (a, r) = (both_true (leb (length s) INPUT) _).0 e in
    let (b, c) = (both_true (leb 4 (length s)) _).0 r in
    record { short = leb-true (length s) INPUT a; some = leb-true 4 (length s) b; ends = eqb-true (be4 s 0 + 4 + 8) (length s) c }

pub too_long : (s : List ℕ) → 65536 < length s → false ≡ framed s
too_long s h = rw (lt-leb (length s) INPUT h) refl

pub too_short : (s : List ℕ) → length s ≤ 65536 → length s < 4 → false ≡ framed s
too_short s g h = rw (le-leb (length s) INPUT g, lt-leb 4 (length s) h) refl

pub by_length : (s : List ℕ) (n : ℕ) → length s ≤ 65536 → 4 ≤ length s → n ≡ be4 s 0 + 4 + 8 → eqb n (length s) ≡ framed s
by_length s n g h e = rw (le-leb (length s) INPUT g, le-leb 4 (length s) h, e) refl

-- ---- the query
pub query-from : (s : List ℕ) (n l r b : ℕ) → n ≡ be4 s 0 + 4 → l ≡ be2 s n → r ≡ be2 s (n + 2) → b ≡ be4 s (n + 4) → ◌≡◌ {A = Query} (record { left = l; right = r; budget = b; caller = Desk }) (query_of s)
query-from s n l r b e x y z = rw (x, y, z, e) refl

-- ---- a refusal's line
line-is : (k : ℕ) → refusal_bytes k ≡ (text "refused " ++ decimal k) ++ (10 ∷ [])
unfolding line text
line-is k = refl

pub room-label : (k n : ℕ) → k < 256 → 29 ≤ n → 0 + length (text "refused " ++ decimal k) ≤ n
unfolding text
room-label k n h g = omega (arith, length-append (text "refused ") (decimal k), decimal-short k (omega arith))

module _ (k : ℕ) (out out' : List ℕ) (a : ℕ) (h : k < 256) (g : 29 ≤ length out) (A : Wrote (text "refused " ++ decimal k) out 0 out' a) where
  pub room-end : a + 1 ≤ length out'
  unfolding text
  room-end = omega (arith, A.after, wrote-length (room-label k (length out) h g) A, length-append (text "refused ") (decimal k), decimal-short k (omega arith))

  pub wrote-line : {out'' : List ℕ} {r : ℕ} → Wrote (10 ∷ []) out' a out'' r → Wrote (refusal_bytes k) out 0 out'' r
  wrote-line B = wrote_as (sym (line-is k)) (wrote_then (room-label k (length out) h g) A B)
