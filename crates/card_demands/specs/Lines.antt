-- The lines of a term: the same for the same term in any pool; and they tell the term.
use Rattle.std.specs.Prelude.{◌≡◌, refl, true, List, ℕ, ◌<◌, length, drop}
use Rattle.std.proofs.Common.{sym, ap, ◌∙◌}
use Rattle.std.proofs.Math.Seq.{drop-append_seam}
use Rattle.spec.specs.Pool.{Pool}
use Rattle.spec.specs.Run.{Outcome}
use Rattle.spec.specs.Listing.{reported, first_line, lines_of, listing_of}
use Rattle.spec.specs.Meaning.{tree_at}
use Rattle.pools.specs.Pool.{PoolValid}
use Rattle.pools.proofs.OrderListing.{listing-anywhere}
use Rattle.demands.specs.ListingTells.{root-tree}

-- an outcome that reports nothing, over a pool's term
abbrev bare : Pool → ℕ → Outcome
bare p a = record { complete = true; nodes = 0; rounds = 0; quality = (0, 0); pool = p; root = a; checks = 0 }

behind-first : (p : Pool) (a : ℕ) → drop (length (first_line 0 (bare p a))) (listing_of 0 (bare p a)) ≡ lines_of p a
unfolding listing_of
behind-first p a = drop-append_seam (first_line 0 (bare p a)) (lines_of p a)

same_first : (p q : Pool) (a b : ℕ) → first_line 0 (bare p a) ≡ first_line 0 (bare q b)
unfolding first_line reported
same_first p q a b = refl

module _ (p q : Pool) (v : PoolValid p) (w : PoolValid q) (a b : ℕ) (h : a < length p) (k : b < length q) where
  -- one term, one list of lines
  pub lines-anywhere : tree_at p a ≡ tree_at q b → lines_of p a ≡ lines_of q b
  lines-anywhere e =
      let l = listing-anywhere 0 (bare p a) (bare q b) v w (same_first p q a b) (record { left = h; right = k; tree = e }) in
      sym (behind-first p a) ∙ ap (λ (z : List ℕ). drop (length z) (listing_of 0 (bare p a))) (same_first p q a b) ∙ ap (drop (length (first_line 0 (bare q b)))) l ∙ behind-first q b

  -- and the lines tell the term
  pub lines-tell : lines_of p a ≡ lines_of q b → tree_at p a ≡ tree_at q b
  lines-tell e = root-tree p q v w a b h k e
