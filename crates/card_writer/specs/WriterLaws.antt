-- The three ways of writing a card.
use Rattle.std.specs.Prelude.{Option, Some, None, Ok, Err, ◌≡◌, refl, Bool, true, false, not, List, ◌++◌, ℕ, ◌+◌, ◌≤◌}
use Rattle.std.proofs.Math.Path.{ap}
use native.Mathlib.Omega.{arith}
use Rattle.std.proofs.Math.ListN.{length, drop, length-append}
use borrow.Author.Tests.{le-leb, lt-leb}
use Rattle.spec.specs.Bytes.{all, ok}
use Rattle.spec.specs.Merge.{output_after}
use Rattle.laws.specs.AcceptedTurns.{failed, passed}
use Rattle.formula.specs.Card.{proper_mark, write}
use Rattle.formula.specs.Lexer.{card_tree, write_card}
use Rattle.decimals.specs.Writing.{Wrote}
use Rattle.decimals.specs.WriteLaws.{wrote-front}
use Rattle.terms.specs.Buffers.{pool_of, count_in}
use Rattle.card_forms.specs.Forms.{card_text}
use Rattle.card_judge.specs.Bound.{cleared}
use Rattle.card_widths.specs.Rooms.{room_after}
use Rattle.card_widths.specs.RoomLaws.{left-says, over-says}
use Rattle.card_writer.specs.declared.Unwritten.TheVariants as U
use Rattle.card_writer.specs.Writes.{Writes}

module _ (t terms runs : List ℕ) (root : ℕ) (marks out marks' : List ℕ) (m : marks' ≡ cleared (count_in terms) marks) {r : Bool} (e : r ≡ all (proper_mark t) (write t 0 (card_tree (pool_of terms runs) root))) where
  -- 18
  pub writes-unsigned : not r ≡ true → Writes t terms runs root marks out marks' out (Err U.Unsigned)
  unfolding write_card output_after
  writes-unsigned q = let z = failed e q in record { answer = rw z refl; output = rw z refl; inside = tt; marked = m }

  module _ (q : not r ≡ false) {room : Option ℕ} (f : room ≡ room_after (length out) (length (card_text t (pool_of terms runs) 0 root))) where
    -- then 14
    pub writes-full : room ≡ None → Writes t terms runs root marks out marks' out (Err U.Full)
    unfolding write_card output_after
    writes-full k =
        let z = passed e q in
        let y = lt-leb (length (card_text t (pool_of terms runs) 0 root)) (length out) (over-says f k) in
        record { answer = rw (z, y) refl; output = rw (z, y) refl; inside = tt; marked = m }

    module _ {b : ℕ} (k : room ≡ Some b) where
      pub room-is : 0 + length (card_text t (pool_of terms runs) 0 root) ≤ length out
      room-is = let l : length (card_text t (pool_of terms runs) 0 root) ≤ length out = (left-says f k).0 in omega arith

      pub writes_bytes : {out' : List ℕ} {n : ℕ} → Wrote (card_text t (pool_of terms runs) 0 root) out 0 out' n → Writes t terms runs root marks out marks' out' (Ok n)
      unfolding write_card output_after
      writes_bytes {out' = out'} {n = n} A =
          let s = card_text t (pool_of terms runs) 0 root in
          let z = passed e q in
          let y = le-leb (length s) (length out) (left-says f k).0 in
          let l : 0 + length s ≡ length s = omega arith in
          let o : out' ≡ s ++ drop (length s) out = rw l at A.bytes in
          record {
            answer = rw (z, y) (ap ok (wrote-front A));
            output = rw (z, y) o;
            inside = omega (arith, A.after, ap length o, length-append s (drop (length s) out));
            marked = m;
          }
