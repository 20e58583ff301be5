-- The bytes read from the buffers are the listing's.
use Rattle.std.specs.Prelude.{◌≡◌, Bool, true, false, eqb, drop}
use Rattle.std.proofs.Math.Path.{refl, ap, ap₂}
use Rattle.std.proofs.Common.{sym, ◌∙◌, drop-cons}
use mathlib.Core.List.{List, [], ◌∷◌, ◌++◌, map, append_assoc, append-nil}
use Prim.Native.Nat.{ℕ, zero, suc, ◌+◌, ◌*◌, ◌-◌, ◌/◌, ◌%◌, ◌<◌}
use native.Mathlib.Omega.{arith}
use Rattle.std.proofs.Math.ListN.{length, get_or}
use Rattle.std.proofs.Math.Seq.{drop-length}
use Rattle.spec.specs.Bytes.{pick, each, place, text, decimal}
use Rattle.spec.specs.Pool.{Node, node_at, LIT, VARIANTS}
use Rattle.spec.specs.Listing.{line, run_field, head_fields, term_line, subterms}
use Rattle.spec.specs.Meaning.{In, here, there}
use Rattle.laws.specs.Lists.{in_map}
use Rattle.terms.specs.Buffers.{unpack, head_in, value_in, part_in, node_of, node_in, pool_of, count_in}
use Rattle.terms.specs.Chains.{Holds}
use Rattle.terms.specs.PoolLaws.{pool-length, pool-at}
use Rattle.numbering.specs.Numbering.{Numbered, Listed}
use Rattle.numbering.specs.WalkLaws.{Closed, subterms-closed}
use Rattle.numbering.specs.NumberLaws.{at_in, number_of, place_at, few-listed}
use Rattle.numbering.specs.VisitLaws.{run-in}
use Rattle.widths.specs.Lines.{run_in, runs_in, head_bytes, term_in, line_in, lines_in, Ready}

abbrev spaced : List ℕ → List ℕ
spaced f = 32 ∷ f

-- "fields stand one space apart, and each line ends with a line feed"
line-is : (f : List ℕ) (l : List (List ℕ)) → line (f ∷ l) ≡ f ++ (each spaced l ++ (10 ∷ []))
unfolding line each
line-is f [] = refl
line-is f (g ∷ l) = ap (λ (z : List ℕ). f ++ (32 ∷ z)) (line-is g l ∙ sym (append_assoc g (each spaced l) (10 ∷ [])))

each_append : (l m : List (List ℕ)) → each spaced (l ++ m) ≡ each spaced l ++ each spaced m
unfolding each
each_append [] m = refl
each_append (x ∷ l) m = ap (λ (z : List ℕ). (32 ∷ x) ++ z) (each_append l m) ∙ sym (append_assoc (32 ∷ x) (each spaced l) (each spaced m))

head-is : (h v : ℕ) (l : List ℕ) → each spaced (head_fields (node_of h v l)) ≡ head_bytes h v
unfolding head_fields head_bytes each text
head-is h v l = go (eqb (h / 64) LIT) (eqb (h / 64) VARIANTS)
  where
    go : (a b : Bool) → each spaced (pick a (text "lit" ∷ decimal (h % 64) ∷ decimal v ∷ []) (pick b (text "variants" ∷ []) (text "op" ∷ decimal (h % 64) ∷ [])))
        ≡ pick a ((text " lit " ++ decimal (h % 64)) ++ (text " " ++ decimal v)) (pick b (text " variants") (text " op " ++ decimal (h % 64)))
    go true b = ap (λ (z : List ℕ). text " lit " ++ (decimal (h % 64) ++ (32 ∷ z))) (append-nil (decimal v))
    go false true = refl
    go false false = ap (λ (z : List ℕ). text " op " ++ z) (append-nil (decimal (h % 64)))

module _ (m : ℕ) (w l : List ℕ) (N : Numbered m w l) where
  runs-are : (rs : List ℕ) → ((r : ℕ) → In r rs → In (r % 16384) l) → each spaced (map (run_field l) (map unpack rs)) ≡ each (run_in w) rs
  unfolding each run_field text
  runs-are [] h = refl
  runs-are (r ∷ rs) h =
      let e : place (eqb (r % 16384)) l ≡ get_or w (2 * (r % 16384)) 0 - 1 = omega (arith, number_of m w l N (r % 16384) (h r here)) in
      ap₂ (λ (z : ℕ) (t : List ℕ). ((text " " ++ decimal z) ++ (text ":" ++ decimal (r / 16384))) ++ t) e (runs-are rs (λ s i. h s (there i)))

module _ (terms runs w : List ℕ) (root n : ℕ) (H : Holds terms runs) (b : root < count_in terms) (L : Listed terms runs w root n) where
  closed : Closed (pool_of terms runs) (subterms (pool_of terms runs) root)
  closed = subterms-closed (pool_of terms runs) H.valid root (rw (pool-length terms runs) b)

  module _ (k : ℕ) (h : k < length (subterms (pool_of terms runs) root)) where
    t-is : term_in w k ≡ get_or (subterms (pool_of terms runs) root) k 0
    t-is = L.numbered.order k h

    t-in : In (term_in w k) (subterms (pool_of terms runs) root)
    t-in = rw t-is (at_in (subterms (pool_of terms runs) root) k h)

    t-below : term_in w k < count_in terms
    t-below = L.numbered.below (term_in w k) t-in

    node-is : node_at (pool_of terms runs) (term_in w k) ≡ node_in terms runs (term_in w k)
    node-is = pool-at terms runs (term_in w k) t-below

    child-in : (r : ℕ) → In r (part_in terms runs (term_in w k)) → In (r % 16384) (subterms (pool_of terms runs) root)
    child-in r i = closed (term_in w k) t-in (unpack r) (rw node-is (in_map unpack i))

    line_at : term_line (pool_of terms runs) (subterms (pool_of terms runs) root) (get_or (subterms (pool_of terms runs) root) k 0) ≡ line_in terms runs w k
    unfolding term_line line_in runs_in
    line_at =
        let o = subterms (pool_of terms runs) root in
        let t = term_in w k in
        let d : decimal (place (eqb t) o) ≡ decimal k = ap (λ (z : ℕ). decimal z) (ap (λ (z : ℕ). place (eqb z) o) t-is ∙ place_at (count_in terms) w o L.numbered k h) in
        let hs : each spaced (head_fields (node_in terms runs t)) ≡ head_bytes (head_in terms t) (value_in terms t) = head-is (head_in terms t) (value_in terms t) (part_in terms runs t) in
        let rs : each spaced (map (run_field o) (map unpack (part_in terms runs t))) ≡ each (run_in w) (part_in terms runs t) = runs-are (count_in terms) w o L.numbered (part_in terms runs t) child-in in
        ap (λ (z : ℕ). term_line (pool_of terms runs) o z) (sym t-is)
        ∙ ap (λ (x : Node). line (decimal (place (eqb t) o) ∷ head_fields x ++ map (run_field o) x.runs)) node-is
        ∙ line-is (decimal (place (eqb t) o)) (head_fields (node_in terms runs t) ++ map (run_field o) (map unpack (part_in terms runs t)))
        ∙ ap (λ (z : List ℕ). decimal (place (eqb t) o) ++ (z ++ (10 ∷ []))) (each_append (head_fields (node_in terms runs t)) (map (run_field o) (map unpack (part_in terms runs t))))
        ∙ rw (d, hs, rs) (ap (λ (z : List ℕ). decimal k ++ z) (append_assoc (head_bytes (head_in terms t) (value_in terms t)) (each (run_in w) (part_in terms runs t)) (10 ∷ [])))

  lines_from : (j k : ℕ) → k + j ≡ length (subterms (pool_of terms runs) root) → lines_in terms runs w k j ≡ each (term_line (pool_of terms runs) (subterms (pool_of terms runs) root)) (drop k (subterms (pool_of terms runs) root))
  unfolding lines_in each
  lines_from zero k e = let z : k ≡ length (subterms (pool_of terms runs) root) = omega arith in rw (z, drop-length (subterms (pool_of terms runs) root)) refl
  lines_from (suc j) k e =
      let o = subterms (pool_of terms runs) root in
      rw (drop-cons o k 0 (omega arith)) (ap₂ (λ (x y : List ℕ). x ++ y) (sym (line_at k (omega arith))) (lines_from j (suc k) (omega arith)))

  -- the lines behind the first line
  pub lines_are : each (term_line (pool_of terms runs) (subterms (pool_of terms runs) root)) (subterms (pool_of terms runs) root) ≡ lines_in terms runs w 0 n
  lines_are = sym (ap (λ (z : ℕ). lines_in terms runs w 0 z) L.count ∙ lines_from (length (subterms (pool_of terms runs) root)) 0 (omega arith))

  pub ready : Ready terms runs w n
  ready = record {
    room = omega (arith, L.count, few-listed (count_in terms) w (subterms (pool_of terms runs) root) L.numbered, L.numbered.room);
    few = omega (arith, L.count, few-listed (count_in terms) w (subterms (pool_of terms runs) root) L.numbered, L.numbered.few);
    term = λ k h. t-below k (omega (arith, L.count));
    named = λ k h i a c.
        let q : k < length (subterms (pool_of terms runs) root) = omega (arith, L.count) in
        omega (arith, number_of (count_in terms) w (subterms (pool_of terms runs) root) L.numbered (get_or runs i 0 % 16384) (closed (term_in w k) (t-in k q) (unpack (get_or runs i 0)) (run-in terms runs H (term_in w k) (t-below k q) i a c)));
  }
