-- From the contracts of `card_of_lines` and `lines_of_card` to those of the C interface, case by case, and back.
use Rattle.std.specs.Prelude.{◌≡◌, refl, ◌≢◌, Bool, true, false, List, [], ◌∷◌, ℕ, zero, suc, ◌+◌, ◌-◌, ◌≤◌, ltb, leb, eqb, length}
use Rattle.std.proofs.Common.{arith, eq-eqb, ne_eqb, le-leb}
use Rattle.std.proofs.Math.Decide.{ℕ_discrete}
use Rattle.spec.specs.Bytes.{pick, both, all, place, Limits, text, decimal, Res, ok, refused, rule, ◌>>=◌}
use Rattle.spec.specs.Pool.{Pool, Node, Interned, intern, same_node, run_count, expanded_length}
use Rattle.spec.specs.Run.{document_limits}
use Rattle.spec.specs.Listing.{lines_of}
use Rattle.formula.specs.Card.{proper_mark, write, spell}
use Rattle.formula.specs.Lexer.{lead, starts_with, is_nil, card_tree, write_card, read_card}
use Rattle.formula.specs.Lines.{cut_word, cut_number, cut_runs, runs_at, cut_node, cut_line, add_lines, read_lines, card_of_lines, lines_of_card}
use Rattle.formula_laws.specs.Refusals.{read-13}
use Rattle.card_contract.specs.Calls.{fit_of, card_call, read_call, Answers, Cards, Reads}
use Rattle.card_contract.specs.declared.Answer.{Answer}
use Rattle.card_contract.specs.declared.Answer.TheVariants.{Text, Refused}
use Rattle.returned.specs.declared.Returned.{Returned}
use Rattle.returned.specs.Cards.{card_numbers, card_lengths, ReturnsText, ReturnsCard, ReturnsRead}

-- ---- a refusal's number is 1 to 18
abbrev Known : {A : Type 0} → Res A → Type 0
Known (ok a) = Unit
Known (refused k) = (1 ≤ k) × (k ≤ 18)

known-bind : {A B : Type 0} (m : Res A) (f : A → Res B) → Known m → ((a : A) → Known (f a)) → Known (m >>= f)
known-bind (ok a) f h g = g a
known-bind (refused n) f h g = h

known_past : {A : Type 0} (n : ℕ) (b : Bool) (f : Unit → Res A) → 1 ≤ n → n ≤ 18 → Known (f tt) → Known (rule n b >>= f)
known_past n true f h k g = g
known_past n false f h k g = (h, k)

known-pick : {A : Type 0} (b : Bool) (x y : Res A) → Known x → Known y → Known (pick b x y)
known-pick true x y h k = h
known-pick false x y h k = k

known-if : {A : Type 0} (b : Bool) (x y : Res A) → Known x → Known y → Known {A = A} (elim b [ true ↦ x | false ↦ y ])
known-if true x y h k = h
known-if false x y h k = k

known-17 : (1 ≤ 17) × (17 ≤ 18)
known-17 = (omega arith, omega arith)

known-word : (w s : List ℕ) → Known (cut_word w s)
unfolding cut_word
known-word w s = known-pick (starts_with w s) _ _ tt known-17

known-number : (most : ℕ) (s : List ℕ) → Known (cut_number most s)
unfolding cut_number
known-number most s = known-pick (both (leb (lead 0 s) most) (starts_with (decimal (lead 0 s)) s)) _ _ tt known-17

known-runs : (f k last left free : ℕ) (s : List ℕ) → Known (cut_runs f k last left free s)
unfolding cut_runs
known-runs zero k last left free s = known-17
known-runs (suc f) k last left free s =
    known-if (starts_with (10 ∷ []) s) _ _ tt
    (known-bind (cut_word (text " ") s) _ (known-word (text " ") s) λ a. known-bind (cut_number 16383 a) _ (known-number 16383 a) λ c. known_past 17 (both (ltb c.0 k) (pick (eqb c.0 last) false true)) _ (omega arith) (omega arith) (known-bind (cut_word (text ":") c.1) _ (known-word (text ":") c.1) λ b. known-bind (cut_number left b) _ (known-number left b) λ n. known_past 17 (ltb 0 n.0) _ (omega arith) (omega arith) (known_past 13 (ltb 0 free) _ (omega arith) (omega arith) (known-bind (cut_runs f k c.0 (left - n.0) (free - 1) n.1) _ (known-runs f k c.0 (left - n.0) (free - 1) n.1) λ l. tt))))

known-runs-at : (k : ℕ) (s : List ℕ) → Known (runs_at k s)
known-runs-at k s = known-runs _ k k _ _ s

known-node : (k : ℕ) (s : List ℕ) → Known (cut_node k s)
unfolding cut_node
known-node k s =
    known-if (starts_with (text " lit ") s) _ _
    (known-bind (cut_word (text " lit ") s) _ (known-word (text " lit ") s) λ a. known-bind (cut_number 63 a) _ (known-number 63 a) λ o. known-bind (cut_word (text " ") o.1) _ (known-word (text " ") o.1) λ b. known-bind (cut_number 4294967295 b) _ (known-number 4294967295 b) λ v. known-bind (cut_word (10 ∷ []) v.1) _ (known-word (10 ∷ []) v.1) λ e. tt)
    (known-if (starts_with (text " op ") s) _ _
    (known-bind (cut_word (text " op ") s) _ (known-word (text " op ") s) λ a. known-bind (cut_number 63 a) _ (known-number 63 a) λ o. known-bind (runs_at k o.1) _ (known-runs-at k o.1) λ l. tt)
    (known-bind (cut_word (text " variants") s) _ (known-word (text " variants") s) λ a. known-bind (runs_at k a) _ (known-runs-at k a) λ l. known_past 17 (eqb (expanded_length l.0) 2) _ (omega arith) (omega arith) tt))

known-line : (k : ℕ) (s : List ℕ) → Known (cut_line k s)
unfolding cut_line
known-line k s = known-bind (cut_word (decimal k) s) _ (known-word (decimal k) s) λ a. known-node k a

known-intern : (lim : Limits) (p : Pool) (n : Node) → Known (intern lim p n)
unfolding intern
known-intern lim p n = known-pick (ltb (place (same_node n) p) (length p)) _ _ tt (known-pick (both (ltb (length p) lim.terms) (leb (run_count p + length n.runs) lim.runs)) _ _ tt (omega arith, omega arith))

known-lines : (lim : Limits) (f : ℕ) (p : Pool) (s : List ℕ) → Known (add_lines lim f p s)
unfolding add_lines
known-lines lim zero p s = known-pick (is_nil s) _ _ tt known-17
known-lines lim (suc f) p s =
    known-if (is_nil s) _ _ tt
    (known-bind (cut_line (length p) s) _ (known-line (length p) s) λ n. known-bind (intern lim p n.0) _ (known-intern lim p n.0) λ x. known_past 17 (eqb x.term (length p)) _ (omega arith) (omega arith) (known-lines lim f x.pool n.1))

known_read : (lim : Limits) (s : List ℕ) → Known (read_lines lim s)
unfolding read_lines
known_read lim s = known-bind (add_lines lim (length s) [] s) _ (known-lines lim (length s) [] s) λ p. known_past 17 (ltb 0 (length p)) _ (omega arith) (omega arith) tt

known-write : (t : List ℕ) (p : Pool) (a n : ℕ) → Known (write_card t p a n)
unfolding write_card
known-write t p a n = known_past 18 (all (proper_mark t) (write t 0 (card_tree p a))) _ (omega arith) (omega arith) (known_past 14 (leb (length (spell t (write t 0 (card_tree p a)))) n) _ (omega arith) (omega arith) tt)

pub known-card : (fit : Bool) (t s : List ℕ) (room : ℕ) → Known (card_call fit t s room)
unfolding card_call card_of_lines
known-card fit t s room = known_past 1 fit _ (omega arith) (omega arith) (known-bind (read_lines document_limits s) _ (known_read document_limits s) λ p. known-write t p (length p - 1) room)

known-text : (t s : List ℕ) → Known (read_card document_limits t [] s)
known-text t s = go (read_card document_limits t [] s) refl
  where
    go : (m : Res Interned) → read_card document_limits t [] s ≡ m → Known m
    go (ok x) e = tt
    go (refused k) e = elim (ℕ_discrete k 17) [ yes q ↦ (omega arith, omega arith) | no q ↦ let z = (read-13 document_limits t [] s k q e).0 in (omega arith, omega arith) ]

pub known-lines-of : (fit : Bool) (t s : List ℕ) (room : ℕ) → Known (read_call fit t s room)
unfolding read_call lines_of_card
known-lines-of fit t s room = known_past 1 fit _ (omega arith) (omega arith) (known-bind (read_card document_limits t [] s) _ (known-text t s) λ x. known_past 14 (leb (length (lines_of x.pool x.term)) room) _ (omega arith) (omega arith) tt)

-- ---- each case's numbers say what the case says
returns_of : (m : Res (List ℕ)) → Known m → (out out' : List ℕ) (a : Answer) → Answers m out out' a → ReturnsText m out out' (card_numbers a)
returns_of m h out out' (Text n) A = record {
  result = A.answer;
  output = A.output;
  room = A.inside;
  table = omega arith;
  no_text = λ e. absurd (e refl);
  no-class = refl;
}
returns_of m h out out' (Refused k) A =
    let (a, b) : (1 ≤ k) × (k ≤ 18) = rw (← A.answer) at h in
    record {
      result = rw (ne_eqb k 0 (λ e. absurd (omega arith))) A.answer;
      output = A.output;
      room = omega arith;
      table = b;
      no_text = λ e. refl;
      no-class = refl;
    }

pub returns-card : (table lines : List ℕ) (fit : Bool) (out out' : List ℕ) (a : Answer) (r : Returned) → r ≡ card_numbers a → Cards table lines fit out out' a → ReturnsCard table lines fit out out' r
returns-card table lines fit out out' a r e A = rw e (returns_of (card_call fit table lines (length out)) (known-card fit table lines (length out)) out out' a A)

pub returns-read : (table text : List ℕ) (fit : Bool) (out out' : List ℕ) (a : Answer) (r : Returned) → r ≡ card_numbers a → Reads table text fit out out' a → ReturnsRead table text fit out out' r
returns-read table text fit out out' a r e A = rw e (returns_of (read_call fit table text (length out)) (known-lines-of fit table text (length out)) out out' a A)

-- ---- and back, so every theorem of crate `card_demands` holds of such calls: 0 is the text, another number the refusal
module _ (m : Res (List ℕ)) (out out' : List ℕ) (r : Returned) (R : ReturnsText m out out' r) where
  pub text-0 : r.number ≡ 0 → Answers m out out' (Text r.bytes)
  text-0 e = record { answer = rw (eq-eqb r.number 0 e) at R.result; output = R.output; inside = R.room }

  pub text-other : r.number ≢ 0 → Answers m out out' (Refused r.number)
  text-other a = record { answer = rw (ne_eqb r.number 0 a) at R.result; output = R.output; inside = tt }

-- buffers of these lengths are never refused: of the frames as many as there are bytes to read, or 65,536 for lines
pub card-lengths-fit : (least frames : ℕ) → least ≤ frames → fit_of least frames card_lengths.marks card_lengths.terms card_lengths.runs ≡ true
card-lengths-fit least frames h = rw (le-leb least frames h) refl
