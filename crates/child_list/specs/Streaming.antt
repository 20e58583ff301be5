-- (02, Paper 6) "The image desk streams a member's children": theorems about calls of `add_child`, one after another.
use Rattle.std.specs.Prelude.{◌≡◌, refl, Bool, true, false, List, [], ◌∷◌, ◌++◌, ℕ, suc, ◌+◌, ◌*◌, ◌≤◌, ◌<◌, ◌^◌, ltb, leb, eqb, length, drop, get_or, Result, Ok, Err}
use Rattle.std.proofs.Common.{sym, ap, ◌∙◌, arith, lt-ltb, le-ltb, ltb-true, ltb-false, eqb-true, ne_eqb, leb-true, length-append, length-drop}
use Rattle.spec.specs.Bytes.{Two, pick, all, sum}
use Rattle.spec.specs.Monomial.{Monomial, insert_add, add_all, monomial, total, narrow}
use Rattle.spec.specs.Meaning.{count_in}
use Rattle.laws.specs.Tests.{clash}
use Rattle.laws.specs.Monomials.{Rising, end, more, monomial-rises, monomial-more, monomial-counts}
use Rattle.monomial_terms.specs.Terms.{terms, held, position}
use Rattle.monomial_terms.specs.TermLaws.{two-each, grow}
use Rattle.class_place.specs.Standing.{places}
use Rattle.child_list.specs.Adding.{count_with, added_of, laid, list_after, terms_after, read_after, Adds}
use Rattle.child_list.specs.AddLaws.{laid-terms}
use Rattle.child_list.specs.declared.Unadded.{Unadded}
use Rattle.child_list.specs.declared.Unadded.TheVariants.{Full, Overflow}

-- Calls one after another in one buffer, from an empty list on: the children that were added, how many terms the list holds, and the buffer.
pub data Streamed : List Two → ℕ → List ℕ → Type 0 where
  begun : {s : List ℕ} → Streamed [] 0 s
  read : {l : List Two} {n c k : ℕ} {s s' : List ℕ} {r : Result ℕ Unadded} → Streamed l n s → Adds n c k s s' r → Streamed (read_after r c k l) (terms_after r n) s'

-- "after each child, the list held is the monomial of the children read so far", whatever the buffer held, and after refusals too
pub after-each : {l : List Two} {n : ℕ} {s : List ℕ} → Streamed l n s → held n s ≡ monomial l
unfolding add_all
after-each begun = refl
after-each (read {l} d a) = a.monomial-of l (after-each d)

-- ---- the answer, by the children read so far
rising_none : (b c : ℕ) (m : Monomial) → c < b → Rising b m → count_in c m ≡ 0
unfolding count_in
rising_none b c [] h end = refl
rising_none b c (t ∷ m) h (more g r) =
    let n : t.0 ≡ c → ⊥ = λ e. absurd (omega arith) in
    rw (ne_eqb t.0 c n) (omega (arith, rising_none (suc t.0) c m (omega arith) r))

-- in a rising list the count at a class's place is the class's count
pub count-with : (c k b : ℕ) (m : Monomial) → Rising b m → count_with c k m ≡ count_in c m + k
unfolding insert_add position count_in
count-with c k b [] end = omega arith
count-with c k b (t ∷ m) (more g r) = step (ltb t.0 c) refl (eqb t.0 c) refl (count-with c k (suc t.0) m r)
  where
    at : (x : Monomial) (i : ℕ) → insert_add c k (t ∷ m) ≡ x → position c (t ∷ m) ≡ i → count_with c k (t ∷ m) ≡ (get_or x i (0, 0)).1
    at x i q p = ap (λ (y : Monomial). (get_or y (position c (t ∷ m)) (0, 0)).1) q ∙ ap (λ (j : ℕ). (get_or x j (0, 0)).1) p

    own : (q : Bool) → eqb t.0 c ≡ q → count_in c (t ∷ m) ≡ pick q t.1 0 + count_in c m
    own q f = rw f refl

    step : (p : Bool) → ltb t.0 c ≡ p → (q : Bool) → eqb t.0 c ≡ q → count_with c k m ≡ count_in c m + k → count_with c k (t ∷ m) ≡ count_in c (t ∷ m) + k
    step true e q f ih =
        let n : t.0 ≡ c → ⊥ = λ x. absurd (omega (arith, ltb-true t.0 c e)) in
        omega (arith, ih, own false (ne_eqb t.0 c n), at (t ∷ insert_add c k m) (suc (position c m)) (rw (e, insert_add) refl) (rw e refl))
    step false e true f ih =
        let z : count_in c m ≡ 0 = rising_none (suc t.0) c m (omega (arith, eqb-true t.0 c f)) r in
        omega (arith, z, own true f, at ((c, t.1 + k) ∷ m) 0 (rw (e, insert_add, f) refl) (rw e refl))
    step false e false f ih =
        let z : count_in c m ≡ 0 = rising_none (suc t.0) c m (omega (arith, ltb-false t.0 c e)) r in
        omega (arith, z, own false f, at ((c, k) ∷ t ∷ m) 0 (rw (e, insert_add, f) refl) (rw e refl))

-- Full exactly where the classes read so far, with the child's, have no places; Overflow where the counts of its class, with the child's, pass 64 bits.
pub answer-by : (l : List Two) (n c k : ℕ) (s : List ℕ) → held n s ≡ monomial l → n ≤ places s
    → added_of n c k s ≡ pick (ltb (places s) (length (monomial (l ++ ((c, k) ∷ []))))) (Err Full) (pick (ltb (count_in c l + k) (2 ^ 64)) (Ok (length (monomial (l ++ ((c, k) ∷ []))))) (Err Overflow))
unfolding added_of
answer-by l n c k s e h =
    let m : insert_add c k (held n s) ≡ monomial (l ++ ((c, k) ∷ [])) = ap (insert_add c k) e ∙ sym (monomial-more l (c, k)) in
    let z : count_with c k (held n s) ≡ count_in c l + k = ap (count_with c k) e ∙ count-with c k 0 (monomial l) (monomial-rises l) ∙ ap (λ (x : ℕ). x + k) (monomial-counts c l) in
    rw (le-ltb (places s) n h, z, m) refl

-- ---- the places stay
places-laid : (m : Monomial) (s : List ℕ) → length m ≤ places s → places (laid m s) ≡ places s
places-laid m s h = ap length (laid-terms m s h) ∙ (length-append m (drop (length m) (terms s)) ∙ rw (length-drop (length m) (terms s)) (omega arith))

-- how many terms an answer holds, in a list whose n terms have places
held-within : (n c k : ℕ) (s : List ℕ) → n ≤ places s → terms_after (added_of n c k s) n ≤ places (list_after (added_of n c k s) n c k s)
unfolding added_of
held-within n c k s h = step (ltb (places s) n) (ltb (places s) (length M)) refl (ltb (count_with c k (held n s)) (2 ^ 64))
  where
    M : Monomial
    M = insert_add c k (held n s)

    answer : Bool → Bool → Bool → Result ℕ Unadded
    answer a b d = pick a (Err Full) (pick b (Err Full) (pick d (Ok (length M)) (Err Overflow)))

    step : (a b : Bool) → ltb (places s) (length M) ≡ b → (d : Bool) → terms_after (answer a b d) n ≤ places (list_after (answer a b d) n c k s)
    step true b e d = h
    step false true e d = h
    step false false e true = let f : length M ≤ places s = ltb-false (places s) (length M) e in rw (places-laid M s f) f
    step false false e false = h

pub listed : {l : List Two} {n : ℕ} {s : List ℕ} → Streamed l n s → n ≤ places s
listed begun = omega arith
listed (read {l} {n} {c} {k} {s} d a) = rw (a.answer, a.list) (held-within n c k s (listed d))

-- ---- no child of a member is refused
few-all : (m : Monomial) (l : List Two) → length (add_all m l) ≤ length m + length l
unfolding add_all
few-all m [] = omega arith
few-all m (t ∷ l) = omega (arith, few-all (insert_add t.0 t.1 m) l, grow t.0 t.1 m)

count-within : (c : ℕ) (l : List Two) → count_in c l ≤ total l
unfolding count_in total sum
count-within c [] = omega arith
count-within c (t ∷ l) = step (eqb t.0 c) (count-within c l)
  where
    step : (b : Bool) → count_in c l ≤ total l → pick b t.1 0 + count_in c l ≤ t.1 + total l
    step true h = omega arith
    step false h = omega arith

-- Where each child may have a place of its own and the counts' sum has 64 bits, every child is added.
pub always-added : {l : List Two} {n : ℕ} {s : List ℕ} → Streamed l n s → (c k : ℕ) → length l < places s → total l + k < 2 ^ 64 → added_of n c k s ≡ Ok (length (monomial (l ++ ((c, k) ∷ []))))
always-added {l} {n} {s} d c k h g =
    let f : length (monomial (l ++ ((c, k) ∷ []))) ≤ places s = omega (arith, few-all [] (l ++ ((c, k) ∷ [])), length-append l ((c, k) ∷ [])) in
    let z : count_in c l + k < 2 ^ 64 = omega (arith, count-within c l) in
    answer-by l n c k s (after-each d) (listed d) ∙ rw (le-ltb (places s) (length (monomial (l ++ ((c, k) ∷ [])))) f, lt-ltb (count_in c l + k) (2 ^ 64) z) refl

narrow-total : (l : List Two) → narrow l ≡ true → total l ≤ length l * 4294967295
unfolding all total sum
narrow-total [] e = omega arith
narrow-total (t ∷ l) e = step (leb t.1 4294967295) refl e (narrow-total l)
  where
    step : (b : Bool) → leb t.1 4294967295 ≡ b → elim b [ true ↦ narrow l | false ↦ false ] ≡ true → (narrow l ≡ true → total l ≤ length l * 4294967295) → t.1 + total l ≤ suc (length l) * 4294967295
    step true q f ih = omega (arith, leb-true t.1 4294967295 q, ih f)
    step false q f ih = absurd (clash (sym f))

-- "child count (2, at most 64)", "count (4, at least 1)": a member's children, each count at most 4,294,967,295, in a buffer of 128 numbers or more
pub member-added : {l : List Two} {n : ℕ} {s : List ℕ} → Streamed l n s → (c k : ℕ) → 128 ≤ length s → length l < 64 → narrow l ≡ true → k ≤ 4294967295
    → added_of n c k s ≡ Ok (length (monomial (l ++ ((c, k) ∷ []))))
member-added {l} {n} {s} d c k w h t u = always-added d c k (omega (arith, two-each s)) (omega (arith, narrow-total l t))
