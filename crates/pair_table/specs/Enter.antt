-- What the search, the writing and the outcome come to. Assumes nothing.
use Rattle.std.specs.Prelude.{◌≡◌, refl, Bool, true, false, List, ℕ, ◌≤◌, ◌<◌, min, length, get_or, take, set}
use Rattle.std.proofs.Common.{sym, ap, ◌∙◌, arith, length-take, lt-ltb, le-ltb}
use Rattle.std.proofs.Math.Nat.{min-eq_left, min-eq_right}
use Rattle.std.proofs.Math.Decide.{dec_lt}
use Rattle.std.proofs.lemmas.List.{length-map}
use Rattle.std.proofs.Math.ListN.{get_or-map}
use Rattle.spec.specs.Bytes.{pick, any, Two, same_two}
use Rattle.spec.specs.Pairs.{same-eq}
use Rattle.spec.specs.Graph.{PAIRS}
use Rattle.pair_search.specs.declared.Pair.{Pair}
use Rattle.pair_search.specs.Records.{none, two_of, record_of, held, find_of}
use Rattle.pair_table.specs.declared.Entered.TheVariants.{At, New, Full}
use Rattle.pair_table.specs.Table.{has_room, enter_of, table_after, put_in, outcome_of}
use Rattle.pair_table.specs.Lists.{get_d_take, set_same, set_past, place-some, place_none, place-passes}

-- ---- the outcome, by the ends that the code computes
pub outcome-at : (at count len m : ℕ) → m ≡ min count len → at < m → At at ≡ outcome_of at count len
outcome-at at count len m e h = rw (lt-ltb at (min count len) (omega (arith, e, h))) refl

pub outcome-new : (at count len m n : ℕ) → m ≡ min count len → m ≤ at → n ≡ min PAIRS len → count < n → New count ≡ outcome_of at count len
outcome-new at count len m n e h f g = rw (le-ltb at (min count len) (omega (arith, e, h)), lt-ltb count (min PAIRS len) (omega (arith, f, g))) refl

pub outcome-full : (at count len m n : ℕ) → m ≡ min count len → m ≤ at → n ≡ min PAIRS len → n ≤ count → Full ≡ outcome_of at count len
outcome-full at count len m n e h f g = rw (le-ltb at (min count len) (omega (arith, e, h)), le-ltb count (min PAIRS len) (omega (arith, f, g))) refl

-- ---- the parts of `enter`
module _ (s : List Pair) (count : ℕ) (p : Two) where
  pub length-held : length (held s count) ≡ min count (length s)
  length-held = length-map (take count s) two_of ∙ length-take count s

  -- found: before the end of what is held, and it is the pair
  found_before : any (same_two p) (held s count) ≡ true → find_of s count p < min count (length s)
  found_before h = omega (arith, place-some (same_two p) (held s count) h, length-held)

  found-is : any (same_two p) (held s count) ≡ true → p ≡ two_of (get_or s (find_of s count p) none)
  found-is h =
      same-eq p _ (place-passes (same_two p) (0, 0) (held s count) h) ∙ get_or-map two_of (take count s) (find_of s count p) none
      ∙ ap two_of (get_d_take count s (find_of s count p) none (omega (arith, place-some (same_two p) (held s count) h, length-map (take count s) two_of)))

  found-set : any (same_two p) (held s count) ≡ true → set s (find_of s count p) (record_of p) ≡ s
  found-set h = ap (λ (q : Two). set s (find_of s count p) (record_of q)) (found-is h) ∙ set_same s (find_of s count p) none

  -- not found: at the end of it
  missed-at : any (same_two p) (held s count) ≡ false → find_of s count p ≡ min count (length s)
  missed-at h = place_none (same_two p) (held s count) h ∙ length-held

  -- the outcome by the place that was found
  pub outcome-is : outcome_of (find_of s count p) count (length s) ≡ enter_of s count p
  outcome-is = go (any (same_two p) (held s count)) refl
    where
      go : (t : Bool) → any (same_two p) (held s count) ≡ t → outcome_of (find_of s count p) count (length s) ≡ pick t (At (find_of s count p)) (pick (has_room count (length s)) (New count) Full)
      go true e = rw (lt-ltb (find_of s count p) (min count (length s)) (found_before e)) refl
      go false e = rw (le-ltb (find_of s count p) (min count (length s)) (omega (arith, missed-at e))) refl

  -- the table by the place that was found
  pub put_is : put_in s (find_of s count p) (record_of p) ≡ table_after s count p
  put_is = go (any (same_two p) (held s count)) refl
    where
      unchanged : (t : Bool) (r : List Pair) → r ≡ s → pick t r s ≡ s
      unchanged true r e = e
      unchanged false r e = refl

      -- past the end nothing is set, and before it the place is `count`
      missed : (t : Bool) → has_room count (length s) ≡ t → find_of s count p ≡ min count (length s) → Dec (count < length s) → put_in s (find_of s count p) (record_of p) ≡ pick t (set s count (record_of p)) s
      missed t e k (yes l) = rw (k ∙ min-eq_left {n = count} {m = length s} (omega (arith, l)), e) refl
      missed t e k (no l) = unchanged (has_room (find_of s count p) (length s)) (set s (find_of s count p) (record_of p)) (set_past s (find_of s count p) (record_of p) (omega (arith, k ∙ min-eq_right {n = length s} {m = count} (omega arith))))
          ∙ sym (unchanged t (set s count (record_of p)) (set_past s count (record_of p) (omega arith)))

      go : (t : Bool) → any (same_two p) (held s count) ≡ t → put_in s (find_of s count p) (record_of p) ≡ pick t s (pick (has_room count (length s)) (set s count (record_of p)) s)
      go true e = unchanged (has_room (find_of s count p) (length s)) _ (found-set e)
      go false e = missed (has_room count (length s)) refl (missed-at e) (dec_lt count (length s))
