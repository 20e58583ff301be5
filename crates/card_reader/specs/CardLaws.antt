-- The three ways out of reading a card.
use Rattle.std.specs.Prelude.{Ok, Err, ◌≡◌, refl, List, ℕ, ◌-◌, length, take, Option, Some, None}
use Rattle.std.proofs.Common.{sym, ap, ap₂, ◌∙◌, take_at}
use Rattle.spec.specs.Bytes.{Limits, ok, refused}
use Rattle.spec.specs.Pool.{Pool, interned}
use Rattle.terms.specs.Buffers.{pool_of, count_in}
use Rattle.terms.specs.Chains.{Holds}
use Rattle.terms.specs.PoolLaws.{pool-length}
use Rattle.interning.specs.Interning.{pool_after}
use Rattle.interning.specs.Growing.{Buffers}
use Rattle.term_undo.specs.Undoing.{undo_over, TakenBack, Clean}
use Rattle.term_undo.specs.BackLaws.{grows_back, grows_clean}
use Rattle.formula.specs.Lexer.{read_text, read_card}
use Rattle.card_terms.specs.Words.{whole, full, result_of, enter_text}
use Rattle.card_terms.specs.Results.{result-text}
use Rattle.card_terms.specs.Reading.{Ends}
use Rattle.card_reader.specs.CardReading.{buffers_after, CardRead}
use Rattle.card_reader.specs.declared.Unread.TheVariants as U

module _ (lim : Limits) (t s terms runs : List ℕ) (H : Holds terms runs) where
  abbrev p : Pool
  p = pool_of terms runs

  -- "Refusal 17 is for a text that is not a formula"
  pub read_none : read_text t s ≡ refused 17 → CardRead lim t s terms runs terms runs (Err U.NoFormula)
  unfolding read_card enter_text
  read_none e = record {
    answer = rw e refl;
    pool = rw e refl;
    holds = H;
    numbers = rw e refl;
    same = λ Z. rw e refl;
    clean = λ Z. Z;
  }

  module _ (terms' runs' : List ℕ) (lt : length terms' ≡ length terms) (lr : length runs' ≡ length runs) (r : Option ℕ) (X : Ends terms runs terms' runs' (enter_text lim t (pool_of terms runs) s) r) where
    pub read-term : (a : ℕ) → r ≡ Some a → CardRead lim t s terms runs terms' runs' (Ok a)
    read-term a e =
        let q : whole (interned (pool_of terms' runs') a) ≡ enter_text lim t p s = rw e at X.reached in
        let c : read_card lim t p s ≡ ok (interned (pool_of terms' runs') a) = sym (result-text lim t p s) ∙ ap result_of (sym q) in record {
          answer = rw c refl;
          pool = rw c refl;
          holds = X.grows.holds;
          numbers = X.grows.numbers ∙ ap (buffers_after p (terms, runs)) q;
          same = λ Z. rw c tt;
          clean = grows_clean H X.grows lt lr;
        }

    module _ (e : r ≡ None) (n : ℕ) (ne : n ≡ count_in terms) (terms'' runs'' : List ℕ) (B : TakenBack n terms' runs' terms'' runs'') where
      reached : full (pool_of terms' runs') ≡ enter_text lim t p s
      reached = rw e at X.reached

      refusal : read_card lim t p s ≡ refused 13
      refusal = sym (result-text lim t p s) ∙ ap result_of (sym reached)

      back : Clean terms runs → ◌≡◌ {A = Buffers} (terms'', runs'') (terms, runs)
      back Z = B.numbers ∙ ap (λ (k : ℕ). undo_over (count_in terms' - k) (terms', runs')) ne ∙ grows_back H X.grows lt lr Z

      pub read-full : CardRead lim t s terms runs terms'' runs'' (Err U.Full)
      read-full =
          let q = pool_of terms' runs' in
          let k : count_in terms' - n ≡ length (pool_of terms' runs') - length p = rw (pool-length terms runs, pool-length terms' runs', ne) refl in record {
            answer = rw refusal refl;
            pool = B.pool ∙ ap (take n) X.grows.grown.is ∙ take_at p X.grows.grown.later n (pool-length terms runs ∙ sym ne) ∙ sym (ap (pool_after p) refusal);
            holds = B.holds;
            numbers = B.numbers ∙ ap₂ undo_over k X.grows.numbers ∙ ap (buffers_after p (terms, runs)) reached;
            same = λ Z. rw refusal (back Z);
            clean = λ Z. rw (ap (λ (b : Buffers). b.0) (back Z), ap (λ (b : Buffers). b.1) (back Z)) Z;
          }
